use Rattle.std.proofs.Common.{◌≡◌, take}
use Rattle.column_check.proofs.MapLemmas.{turned}
use Rattle.column_check.proofs.induced.map_of.Given as goal

abbrev pub invariant-loop-sent : goal.invariant-loop-sent
invariant-loop-sent l = l.pairs.items ≡ turned (take l.sent-index l.sends)
