use Rattle.std.proofs.Common.{◌∙◌, false}
use Rattle.fp_field.proofs.ServedLemmas.{served_field}
use Rattle.class_matrices.proofs.{ListLemmas.copies-more, SumLemmas.bit-mod}
use Rattle.class_matrices.proofs.sums.zeros.Goals as goal

pub loop-preserved : goal.loop-preserved
loop-preserved g c = copies-more c.loop.counter 0 c.new.result c.loop.values.items c.push.new.self.items c.loop.invariant (c.new.ensures ∙ bit-mod g.row.P (served_field g.row.P c.requires).large false) c.in_ok-push.ensures.items
