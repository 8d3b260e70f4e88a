use Rattle.std.proofs.Common.{ℕ, ◌-◌, Bool, reverse, length, List}
use Rattle.row_reduce.specs.Names.{IsSolvedStored, AreEchelon}
use Rattle.row_reduce.proofs.echelon.reduce_down.Given as goal

abbrev pub invariant-loop-count : goal.invariant-loop-count
invariant-loop-count g l =
    (width : ℕ) (rows : List (List (ℕ × ℕ))) (skip : List Bool) (solutions : List (List (ℕ × ℕ))) (given : IsSolvedStored g.row.P width rows skip solutions l.pivots l.images) →
    AreEchelon g.row.P width rows skip given.solved.kernel l.pivots (length l.pivots - l.count) (reverse l.done.items)
