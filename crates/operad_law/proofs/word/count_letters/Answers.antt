use Rattle.std.proofs.Common.{◌≡◌, ◌-◌, ◌+◌, ◌%◌, ◌==◌, suc, arith}
use Rattle.signed_sum.specs.Names.{letter_count}
use Rattle.operad_law.proofs.WordSteps.{count-one, count-step}
use Rattle.operad_law.proofs.word.count_letters.Goals as goal

pub loop-place-preserved : goal.loop-place-preserved
loop-place-preserved c =
    let one = count-one c.args.wanted (c.loop-place.rest % 2 == 1) in
    let shorter : c.args.len - c.loop-place._place ≡ suc (c.args.len - (c.loop-place._place + 1)) = omega arith in
    record {
      small = omega arith;
      counted = count-step (letter_count c.args.wanted) (c.args.len - (c.loop-place._place + 1)) (c.args.len - c.loop-place._place) c.loop-place.rest c.loop-place.count c.counted-count.result _ shorter c.counted-count.ensures c.loop-place.invariant.counted;
    }
