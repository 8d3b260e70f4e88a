use Rattle.std.specs.List.{filter}
use Rattle.signed_sum.specs.Names.{numbers_from}
use Rattle.bockstein_text.specs.Names.{Adds, IsListed, is_live, matrix_text}
use Rattle.bockstein_text.proofs.matrix.add_matrices.Given as goal

abbrev pub invariant-loop-q : goal.invariant-loop-q
invariant-loop-q g l =
    Adds matrix_text (IsListed {p = g.row.P} g.B.Basis.keeps l.index (g.B.Basis.classes l.basis)) (filter (is_live {p = g.row.P} (g.B.Basis.classes l.basis)) (numbers_from 0 l.q)) l.initial.text l.text
