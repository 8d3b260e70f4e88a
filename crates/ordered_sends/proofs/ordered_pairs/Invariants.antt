use Rattle.std.proofs.Common.{◌≡◌, take}
use Rattle.ordered_sends.specs.Sends.{entries_of}
use Rattle.ordered_sends.proofs.ordered_pairs.Given as goal

abbrev pub invariant-loop-sent : goal.invariant-loop-sent
invariant-loop-sent l = l.images.entries ≡ entries_of (take l.sent-index l.sends)
