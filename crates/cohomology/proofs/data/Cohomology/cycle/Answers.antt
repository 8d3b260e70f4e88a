use Rattle.std.proofs.{Common.{◌-◌, List, [], sym, subst}, lemmas.Result.IfOk-weaker}
use Rattle.cohomology.{specs.Names.{DegreeClasses, AreClassesOfPair, IsRelativeCycle, classes_in}, proofs.BasisLemmas.cycle_absolute}
use Rattle.cohomology.proofs.data.Cohomology.cycle.Goals as goal

pub returns-clause-pair : goal.returns-clause-pair
returns-clause-pair g c =
    IfOk-weaker c.cycle.result _ _
    (λ y h full sub whole.
    subst (λ (ds : List (DegreeClasses g.row.P)). IsRelativeCycle g.row.P full sub c.args.n (classes_in ds c.args.n) (c.args.i - 1) y) c.light.ensures
    (h full sub (subst (λ (ds : List (DegreeClasses g.row.P)). AreClassesOfPair g.row.P full sub ds) (sym c.light.ensures) whole.classes)))
    c.cycle.ensures

pub returns-clause-complex : goal.returns-clause-complex
returns-clause-complex g c =
    IfOk-weaker c.cycle.result _ _ (λ y h levels whole. cycle_absolute g.row.P levels c.args.n (classes_in c.args.self.now.light c.args.n) (c.args.i - 1) y (h levels [] whole.pair)) (returns-clause-pair g c)
