use Rattle.std.proofs.Common.{List, length, ◌<◌, ◌^◌, subst, sym, ◌∙◌}
use Rattle.complex_index.specs.declared.indexed.Cochain.{Cochain}
use Rattle.cohomology.{specs.Names.{DegreeClasses, classes_in}, proofs.LoopLemmas.{found_in, none_in}}
use Rattle.cohomology.proofs.classes.Classes.classes_in.Goals as goal

pub returns-in-Some-clause-value : goal.returns-in-Some-clause-value
returns-in-Some-clause-value g c =
    let at = c.in-Some.ensures.lookup in
    c.as_slice.ensures.value
    ∙ found_in (λ (d : DegreeClasses g.row.P). d.classes.items) c.self.inside.degrees.items c.deref.result.now c.args.self.now c.args.n c.in-Some.found.now c.deref.ensures.value c.self.view_is at.3.0 at.1

pub returns-in-Some-clause-few : goal.returns-in-Some-clause-few
returns-in-Some-clause-few g c =
    let value = returns-in-Some-clause-value g c in
    subst (λ (xs : List (Cochain g.row.P)). length xs < 2 ^ 32) (sym value)
    (subst (λ (ds : List (DegreeClasses g.row.P)). length (classes_in ds c.args.n) < 2 ^ 32) c.self.view_is (c.self.invariant.classes c.args.n))

pub returns-in-None-clause-value : goal.returns-in-None-clause-value
returns-in-None-clause-value g c =
    let at = c.in-None.ensures.lookup in
    none_in (λ (d : DegreeClasses g.row.P). d.classes.items) c.self.inside.degrees.items c.deref.result.now c.args.self.now c.args.n c.deref.ensures.value c.self.view_is at.3
