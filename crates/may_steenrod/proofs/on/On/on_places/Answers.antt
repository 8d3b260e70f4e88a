use Rattle.std.proofs.Common.{ℕ, List, ◌∙◌, ap, map}
use Rattle.interval_cut_law.specs.Names.{vertex_at}
use Rattle.may_steenrod.specs.Cochains.{cochain_in}
use Rattle.may_steenrod.proofs.on.On.on_places.Goals as goal

pub returns : goal.returns
returns g c =
    let on = c.args.self.now in
    c.at.ensures
    ∙ ap (cochain_in on.index.now on.cochain.now.degree on.cochain.now.row) (c.deref.ensures.value ∙ c.in_ok-write_vertices.ensures ∙ ap (λ (s : List ℕ). map (λ i. vertex_at s i) c.args.places.now) c.simplex.ensures)
