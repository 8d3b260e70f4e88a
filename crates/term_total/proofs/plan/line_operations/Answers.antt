use Rattle.std.proofs.Common.{subst, sym, IsTrue}
use Rattle.report_law.specs.Names.{is_defined}
use Rattle.term_total.proofs.ReadyLemmas.{pair-at}
use Rattle.term_total.proofs.plan.line_operations.Goals as goal

pub operation_on-requires-in-loop-pair-clause-defined : goal.operation_on-requires-in-loop-pair-clause-defined
operation_on-requires-in-loop-pair-clause-defined c =
    let l = c.args.line.now in
    subst (λ op. IsTrue (is_defined c.args.p l.a op)) (sym c.cartan_op-in-loop-pair.ensures)
    (pair-at c.args.p l.a l.b l.n c.loop-pair.pair-index c.as_slice-pair-items.result.now c.in_ok-pairs.pairs.items c.loop-pair-test.true c.as_slice-pair-items.ensures.value c.in_ok-pairs.ensures).0

pub operation_on-requires-in-loop-pair-2-clause-defined : goal.operation_on-requires-in-loop-pair-2-clause-defined
operation_on-requires-in-loop-pair-2-clause-defined c =
    let l = c.args.line.now in
    subst (λ op. IsTrue (is_defined c.args.p l.b op)) (sym c.cartan_op-in-loop-pair-2.ensures)
    (pair-at c.args.p l.a l.b l.n c.loop-pair.pair-index c.as_slice-pair-items.result.now c.in_ok-pairs.pairs.items c.loop-pair-test.true c.as_slice-pair-items.ensures.value c.in_ok-pairs.ensures).1
