use Rattle.std.{proofs.Common.{List, length, ◌<◌, ◌^◌, ap, subst, sym, ◌∙◌, Vec}, specs.declared.alloc.Global.Global}
use Rattle.cohomology.{specs.Names.{Coboundary, CohomologyData, coboundaries_in}, proofs.LoopLemmas.{found_in, none_in}}
use Rattle.cohomology.proofs.data.Cohomology.coboundaries_in.Goals as goal

pub returns-in-Some-clause-value : goal.returns-in-Some-clause-value
returns-in-Some-clause-value g c =
    let at = c.in-Some.ensures.lookup in
    c.as_slice.ensures.value
    ∙ found_in (λ (v : Vec (Coboundary g.row.P) Global). v.items) c.self.inside.bounds.items c.deref.result.now c.args.self.now.bounds c.args.n c.in-Some.found.now c.deref.ensures.value (ap (λ (d : CohomologyData g.row.P). d.bounds) c.self.view_is) at.3.0 at.1

pub returns-in-Some-clause-few : goal.returns-in-Some-clause-few
returns-in-Some-clause-few g c =
    let value = returns-in-Some-clause-value g c in
    subst (λ (xs : List (Coboundary g.row.P)). length xs < 2 ^ 32) (sym value)
    (subst (λ (d : CohomologyData g.row.P). length (coboundaries_in d c.args.n) < 2 ^ 32) c.self.view_is (c.self.invariant.each c.args.n))

pub returns-in-None-clause-value : goal.returns-in-None-clause-value
returns-in-None-clause-value g c =
    let at = c.in-None.ensures.lookup in
    none_in (λ (v : Vec (Coboundary g.row.P) Global). v.items) c.self.inside.bounds.items c.deref.result.now c.args.self.now.bounds c.args.n c.deref.ensures.value (ap (λ (d : CohomologyData g.row.P). d.bounds) c.self.view_is) at.3
