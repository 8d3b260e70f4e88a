use Rattle.std.proofs.Common.{arith}
use Rattle.bockstein_text.proofs.Added.{column_added}
use Rattle.bockstein_text.proofs.matrix.add_columns.Goals as goal

pub loop-j-preserved : goal.loop-j-preserved
loop-j-preserved g c =
    column_added {p = g.row.P} c.args.text.now c.loop-j.text c.add_column.new.text c.args.columns.now c.loop-j.j c.index-columns-j.result (omega arith) c.index-columns-j.is c.loop-j.invariant c.in_ok-add_column.ensures
