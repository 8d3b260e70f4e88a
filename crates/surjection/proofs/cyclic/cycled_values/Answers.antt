use Rattle.std.proofs.Common.{arith}
use Rattle.surjection.proofs.WalkLemmas.{value_below}
use Rattle.surjection.proofs.cyclic.cycled_values.Goals as goal

pub cycled-requires : goal.cycled-requires
cycled-requires c = let b = value_below c.args.values.now c.loop-value.value-index c.requires.surjection c.loop-value-test.true in omega (arith, b)
