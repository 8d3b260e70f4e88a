use Rattle.std.proofs.Common.{◌≡◌, ◌+◌, ◌-◌, ◌∙◌, List, ℕ, [], ◌∷◌, ◌++◌, arith, ap}
use Rattle.interval_cut_law.specs.Names.{cut_face}
use Rattle.interval_cut.proofs.WalkLemmas.{has_faces, is_at, on_at, on_walk}
use Rattle.interval_cut.proofs.cuts.Cuts.face.Goals as goal

pub face-requires-clause-table : goal.face-requires-clause-table
face-requires-clause-table c =
    let a = c.self.inside in
    let s = is_at a.values.items a.top a.stage a.inner.items c.args.self.now c.self.view_is c.requires.at in
    let room = c.self.invariant.starts in
    (a.top + 1, has_faces a.values.items a.inner.items a.faces.places.items a.faces.starts.items a.top a.most (a.top + 1) c.self.invariant.cut (on_at a.stage _ s c.self.invariant.table) (omega (arith, a.faces.starts.ok.0)) (omega arith))

pub returns : goal.returns
returns c =
    let a = c.self.inside in
    let s = is_at a.values.items a.top a.stage a.inner.items c.args.self.now c.self.view_is c.requires.at in
    let least = c.requires.least in
    let k : c.args.k - 1 + 1 ≡ c.args.k = omega arith in
    on_walk a.values.items a.top a.stage a.inner.items c.args.self.now (λ (u p : List ℕ). c.face.result.now ≡ cut_face c.args.k u 0 p) c.self.view_is s
    (c.face.ensures.value a.values.items (a.inner.items ++ (a.top ∷ [])) (on_at a.stage _ s c.self.invariant.table) ∙ ap (λ j. cut_face j a.values.items 0 (a.inner.items ++ (a.top ∷ []))) k)
