use Rattle.std.proofs.Common.{◌≡◌, length}
use Rattle.cut_tests.proofs.cuts.live_cuts.Given as goal

abbrev pub invariant-loop : goal.invariant-loop
invariant-loop l = l.last ≡ length l.cuts.walk.values
