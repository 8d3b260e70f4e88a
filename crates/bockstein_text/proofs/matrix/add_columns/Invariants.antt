use Rattle.std.proofs.Common.{◌≡◌, ◌++◌, take}
use Rattle.bockstein.specs.Matrices.{values_of}
use Rattle.bockstein_text.specs.Names.{columns_text}
use Rattle.bockstein_text.proofs.matrix.add_columns.Given as goal

abbrev pub invariant-loop-j : goal.invariant-loop-j
invariant-loop-j g l = l.text ≡ l.initial.text ++ columns_text 1 (values_of {p = g.row.P} (take l.j l.columns))
