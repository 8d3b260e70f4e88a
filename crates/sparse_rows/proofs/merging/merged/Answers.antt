use Rattle.std.proofs.Common.{◌+◌, ◌%◌, arith, ap, ◌∙◌}
use Rattle.fp_field.proofs.ServedLemmas.{served_large}
use Rattle.sparse_rows.proofs.MergeLemmas.{merge_step, merge_end}
use Rattle.sparse_rows.proofs.merging.merged.Goals as goal

pub loop-i-preserved : goal.loop-i-preserved
loop-i-preserved g c =
    merge_step g.row.P c.args.by c.args.left.now c.args.right.now c.loop-i.out.items c.put.new.out.items c.loop-i.i c.loop-i.j c.next_position-position.result
    c.advance-next.result.0 c.advance-next.result.1 c.advance-after.result.0 c.advance-after.result.1 c.add.result c.loop-i.invariant c.advance-next.ensures c.advance-after.ensures
    c.in_ok-put.ensures.row c.in_ok-put.ensures.below (c.add.ensures ∙ ap (λ v. (c.advance-next.result.1 + v) % g.row.P) c.mul.ensures) c.in_ok-put.ensures.sum

pub returns-clause-sum : goal.returns-clause-sum
returns-clause-sum g c =
    merge_end g.row.P c.args.by c.args.left.now c.args.right.now c.loop-i.out.items c.loop-i.i c.loop-i.j (omega (arith, served_large g.row.P c.requires.prime)) c.loop-i.invariant c.if-i-left.false c.if-j-right.false
