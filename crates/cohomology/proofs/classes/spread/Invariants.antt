use Rattle.std.proofs.Common.{◌≡◌, ℕ, ◌<◌, get_or, length}
use Rattle.sparse_rows.specs.Rows.{value_in}
use Rattle.cohomology.proofs.classes.spread.Given as goal

abbrev pub invariant-loop-i : goal.invariant-loop-i
invariant-loop-i g l = record {
  whole : length l.values.items ≡ l.i;
  each : (i : ℕ) → i < l.i → (get_or l.values.items i 0 ≡ value_in l.row i);
}
