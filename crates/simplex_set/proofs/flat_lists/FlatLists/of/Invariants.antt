use Rattle.std.proofs.Common.{◌≡◌, ◌*◌, Bor, List, ℕ, map, take, length}
use Rattle.simplex_set.specs.Pieces.{pieces}
use Rattle.simplex_set.proofs.flat_lists.FlatLists.of.Given as goal

abbrev pub invariant-loop-simplex : goal.invariant-loop-simplex
invariant-loop-simplex l = (length l.numbers.items ≡ l.simplex-index * l.size) × (pieces l.size l.simplex-index l.numbers.items ≡ take l.simplex-index (map (λ (s : Bor (List ℕ)). s.now) l.all))
