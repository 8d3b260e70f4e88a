use Rattle.std.{proofs.Common.{◌≡◌, ◌≤◌, ℕ, List, [], length}, specs.declared.option.Option.Option}
use Rattle.report_text_law.specs.declared.{line.Line.Line, state.State.State}
use Rattle.report_reader.specs.Names.{ReadsItem, left, reading}
use Rattle.report_reader.proofs.list.listed.Given as goal

abbrev pub invariant-loop-found : goal.invariant-loop-found
invariant-loop-found g l = record {
  reads : (within behind : List (_) → Line → Option State) → ((x : _) (xs : List _) (n : ℕ) (r : _) (y : _) → n ≡ length xs → goal.F-post g l.item x n r y → ReadsItem within behind xs x.now y.now r)
      → reading (within []) l.fn.reader ≡ reading (within l.found) l.reader;
  less : left l.reader ≤ left l.fn.reader;
}

abbrev pub decreases-loop-found : goal.decreases-loop-found
decreases-loop-found g l = left l.reader
