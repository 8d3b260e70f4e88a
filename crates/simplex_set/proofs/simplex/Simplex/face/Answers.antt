use Rattle.std.proofs.{Common.{◌≡◌, ◌∙◌, ◌++◌, ◌+◌, ap, ap₂, take, drop}, lemmas.List.take_rest}
use Rattle.simplex_set.proofs.AddingFaces.{face_made}
use Rattle.simplex_set.proofs.simplex.Simplex.face.Goals as goal

pub returns : goal.returns
returns c =
    let same : c.as_slice-all.result.now ≡ c.args.self.now = c.as_slice-all.ensures ∙ c.self.view_is in
    c.in_ok-extend_from_slice.ensures.ok
    ∙ ap₂ (λ u v. u ++ v) (c.in_ok-vertices.ensures.ok ∙ ap (take c.args.at) same) (take_rest c.as_slice-all.result.now (c.args.at + 1) ∙ ap (drop (c.args.at + 1)) same)
    ∙ face_made c.args.at c.args.self.now c.requires
