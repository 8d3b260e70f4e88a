use Rattle.std.proofs.Common.{◌≡◌, ◌++◌, ℕ, length, drop}
use Rattle.complex_index.specs.Names.{above_at, list_at}
use Rattle.complex_index.proofs.cofaces.cofaces_of.Given as goal

abbrev pub invariant-loop-y : goal.invariant-loop-y
invariant-loop-y l = record { len : length l.all.items ≡ l.count; above : (x : ℕ) → list_at l.all.items x ++ above_at x l.y (drop l.y l.faces) ≡ above_at x 0 l.faces }
