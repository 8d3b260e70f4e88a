use Rattle.std.proofs.{Common.{◌-◌, []}, lemmas.Result.IfOk-weaker}
use Rattle.cohomology.{specs.Names.classes_in, proofs.BasisLemmas.cycle_absolute}
use Rattle.cohomology.proofs.basis.ClassesBasis.cycle.Goals as goal

pub returns : goal.returns
returns g c = IfOk-weaker c.cycle.result _ _ (λ y h levels are. cycle_absolute g.row.P levels c.args.n (classes_in c.args.self.now c.args.n) (c.args.i - 1) y (h levels [] are.pair)) c.cycle.ensures
