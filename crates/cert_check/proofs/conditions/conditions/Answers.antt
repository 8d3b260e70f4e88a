use Rattle.std.proofs.Common.{arith}
use Rattle.cert_check.proofs.{FreeLemmas.certified, ReadyLemmas.holds_next}
use Rattle.cert_check.proofs.conditions.conditions.Goals as goal

pub loop-condition-preserved : goal.loop-condition-preserved
loop-condition-preserved g c = record {
  passed = holds_next c.args.report.now g.row.P c.loop-condition.condition c.in-Ok.field-0 c.requires.prime_is c.loop-condition.invariant.passed c.in-Ok.ensures.walk;
  stored = c.in-Ok.ensures.stored;
}

pub returns : goal.returns
returns g c = certified c.args.report.now (λ k b. c.loop-condition.invariant.passed k (let t = c.loop-condition-test.false in omega (arith, t, b)))
