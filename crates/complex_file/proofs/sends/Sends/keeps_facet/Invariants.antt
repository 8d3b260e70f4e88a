-- The images ascend as far as the loop has come.
use Rattle.std.proofs.Common.{◌≡◌, drop}
use Rattle.complex_file.proofs.MapLemmas.{ascends_from}
use Rattle.complex_file.proofs.sends.Sends.keeps_facet.Given as goal

abbrev pub invariant-loop-v : goal.invariant-loop-v
invariant-loop-v l = ascends_from l.self 0 l.v-items ≡ ascends_from l.self l.last (drop l.v-index l.v-items)
