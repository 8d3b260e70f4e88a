use Rattle.std.proofs.Common.{length, ap, ◌∙◌}
use Rattle.interval_cut.proofs.EvaluationLemmas.{took}
use Rattle.cut_tests.proofs.cuts.cuts_of.Goals as goal

pub cuts-preserved : goal.cuts-preserved
cuts-preserved c = ap length (took c.cuts.cuts c.advance.new.self c.advance.ensures.walk (c.advance.ensures.moved.0 c.cuts-test.true)).1 ∙ c.cuts.invariant
