use Rattle.std.proofs.Common.{◌≡◌, rules}
use Rattle.class_matrices.proofs.SumLemmas.{column-none}
use Rattle.class_matrices.proofs.sums.with_column.Goals as goal

pub returns-then-is_zero : goal.returns-then-is_zero
returns-then-is_zero g c = λ l h. (let none : c.args.by ≡ 0 = search rules in column-none g.row.P c.args.by c.args.column.now.values.items c.args.sum.items none l h)
