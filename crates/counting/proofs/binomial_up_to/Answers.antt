use Rattle.std.proofs.Common.{◌≤◌, ◌*◌, ◌^◌, ◌∙◌, sym, arith}
use Rattle.std.proofs.Math.Nat.{min-eq_left, mul-le-mul_right}
use Rattle.counting.proofs.BinomialSteps.{below, step}
use Rattle.counting.proofs.binomial_up_to.Goals as goal

pub overflow_mul-next : goal.overflow_mul-next
overflow_mul-next c =
    let a : c.from.result * c.from-in-loop-i.result ≤ 2 ^ 64 * c.from-in-loop-i.result = mul-le-mul_right c.from-in-loop-i.result (omega arith) in
    omega arith

pub returns-then-next-from : goal.returns-then-next-from
returns-then-next-from c =
    let next = step c.from-rest.result c.loop-i.i c.from.result c.from-in-loop-i.result c.from-in-loop-i-2.result (c.from.ensures ∙ c.loop-i.invariant.0) (omega arith) (omega arith) in
    let last = below c.args.n c.args.k c.from-rest.result c.loop-i.i (omega arith) c.requires (omega arith) in
    sym (min-eq_left (omega arith))

pub loop-i-preserved : goal.loop-i-preserved
loop-i-preserved c = (step c.from-rest.result c.loop-i.i c.from.result c.from-in-loop-i.result c.from-in-loop-i-2.result (c.from.ensures ∙ c.loop-i.invariant.0) (omega arith) (omega arith), omega arith)
