use Rattle.std.proofs.Common.{arith}
use Rattle.surjection.proofs.WalkLemmas.{value_within}
use Rattle.surjection.proofs.symmetric.permuted_values.Goals as goal

pub at-requires-clause-some : goal.at-requires-clause-some
at-requires-clause-some c = (value_within c.args.values.now c.loop-value.value-index c.requires.surjection c.loop-value-test.true).0

pub at-requires-clause-within : goal.at-requires-clause-within
at-requires-clause-within c = let b = value_within c.args.values.now c.loop-value.value-index c.requires.surjection c.loop-value-test.true in omega (arith, b.1, c.requires.same)
