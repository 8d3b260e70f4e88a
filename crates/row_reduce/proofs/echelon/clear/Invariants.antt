use Rattle.std.proofs.Common.{ℕ, take}
use Rattle.row_reduce.{proofs.Below.{Congruent, IsRow, value_in}, specs.Names.{cleared, combination_of, row_of}}
use Rattle.row_reduce.proofs.echelon.clear.Given as goal

abbrev pub invariant-loop-reduced : goal.invariant-loop-reduced
invariant-loop-reduced g l = record {
  is_row : IsRow g.row.P l.initial.row → IsRow g.row.P l.row;
  row : (y : ℕ) → Congruent g.row.P (value_in l.row y) (cleared row_of (take l.reduced-index l.done) (value_in l.given) (value_in l.initial.row) y);
  combination : (x : ℕ) → Congruent g.row.P (value_in l.combination x) (cleared combination_of (take l.reduced-index l.done) (value_in l.given) (value_in l.initial.combination) x);
}
