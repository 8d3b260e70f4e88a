use Rattle.std.proofs.Common.{◌≡◌, ℕ, ◌<◌, ◌≤◌, take}
use Rattle.sparse_rows.specs.Rows.{value_in}
use Rattle.row_reduce.proofs.walking.first_place.Given as goal

abbrev pub invariant-loop-entry : goal.invariant-loop-entry
invariant-loop-entry g l = record {
  inside : l.first ≤ l.width;
  before : (y : ℕ) → y < l.first → value_in (take l.entry-index l.row) y ≡ 0;
}
