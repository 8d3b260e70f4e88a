use Rattle.std.proofs.Common.{ℕ, ◌-◌, length, List}
use Rattle.sparse_rows.specs.Rows.{IsBelow}
use Rattle.row_reduce.specs.Names.{AreNumbered, Expanding}
use Rattle.row_reduce.proofs.expanding.move_all.Given as goal

abbrev pub invariant-loop-done : goal.invariant-loop-done
invariant-loop-done g l = record {
  below : (count : ℕ) → AreNumbered count l.images → IsBelow count l.initial.out.items → IsBelow count l.out.items;
  expanding : (place : ℕ) (history : List (ℕ × ℕ)) → Expanding g.row.P l.images place history l.initial.weights l.initial.out.items (length l.images)
      → Expanding g.row.P l.images place history l.weights l.out.items (length l.images - l.done);
}
