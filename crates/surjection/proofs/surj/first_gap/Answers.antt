use Rattle.std.proofs.Common.{sym, ◌∙◌}
use Rattle.surjection.proofs.RefusalLemmas.{gap-found, gap-later, gap-next}
use Rattle.surjection.proofs.surj.first_gap.Goals as goal

pub returns-then-not-stands_in : goal.returns-then-not-stands_in
returns-then-not-stands_in c =
    sym (gap-later c.args.values.now (sym c.stands_in.ensures ∙ c.if-stands_in.false)
    ∙ sym c.loop-value.invariant
    ∙ gap-found c.args.values.now c.loop-value.value c.args.most c.loop-value-test.true (sym c.stands_in-in-loop-value.ensures ∙ c.if-not-stands_in.true))

pub loop-value-preserved : goal.loop-value-preserved
loop-value-preserved c =
    sym (gap-next c.args.values.now c.loop-value.value c.args.most c.loop-value-test.true (sym c.stands_in-in-loop-value.ensures ∙ c.if-not-stands_in.false)) ∙ c.loop-value.invariant
