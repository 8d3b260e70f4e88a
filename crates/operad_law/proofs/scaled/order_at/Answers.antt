use Rattle.operad_law.proofs.Merging.{order_at_end}
use Rattle.std.proofs.Common.{arith}
use Rattle.operad_law.proofs.scaled.order_at.Goals as goal

pub returns-then-j-other : goal.returns-then-j-other
returns-then-j-other g c = order_at_end g.B.Ord.cmp c.args.first.now c.args.other.now c.args.i c.args.j (omega arith) c.if-j-other.true
