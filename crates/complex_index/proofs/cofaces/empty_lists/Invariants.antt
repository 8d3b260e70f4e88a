use Rattle.std.proofs.Common.{◌≡◌, ℕ, [], length}
use Rattle.complex_index.specs.Names.{list_at}
use Rattle.complex_index.proofs.cofaces.empty_lists.Given as goal

abbrev pub invariant-loop : goal.invariant-loop
invariant-loop l = record { len : length l.all.items ≡ l.counter; empty : (x : ℕ) → list_at l.all.items x ≡ [] }
