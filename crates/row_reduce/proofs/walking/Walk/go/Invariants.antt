use Rattle.std.proofs.Common.{◌≡◌, ◌-◌, length}
use Rattle.row_reduce.specs.Names.{IsClear, IsReached}
use Rattle.row_reduce.proofs.walking.Walk.go.Given as goal

abbrev pub invariant-loop-done : goal.invariant-loop-done
invariant-loop-done g l = record {
  skip : l.self.skip ≡ l.initial.self.skip;
  clear : IsClear g.row.P l.sum;
  reached : IsReached g.row.P (length l.initial.sum) l.rows (length l.rows - l.done) l.self;
}
