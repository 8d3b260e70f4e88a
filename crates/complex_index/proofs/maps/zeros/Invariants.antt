use Rattle.std.proofs.Common.{◌≡◌, ℕ, get_or, length}
use Rattle.complex_index.proofs.maps.zeros.Given as goal

abbrev pub invariant-loop : goal.invariant-loop
invariant-loop l = record { len : length l.all.items ≡ l.counter; zero : (k : ℕ) → get_or l.all.items k 0 ≡ 0 }
