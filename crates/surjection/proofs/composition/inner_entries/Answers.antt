use Rattle.std.proofs.Common.{arith}
use Rattle.composition_law.specs.Surjections.{lifted}
use Rattle.surjection.{specs.Names.Inner, proofs.SpliceLemmas.marks-step, proofs.WalkLemmas.value_below}
use Rattle.surjection.proofs.composition.inner_entries.Goals as goal

pub overflow_add-value : goal.overflow_add-value
overflow_add-value c = let h = value_below c.args.values.now c.loop-i.i c.requires.inner (omega arith) in let s = c.requires.small in omega (arith, h, s)

pub loop-i-preserved : goal.loop-i-preserved
loop-i-preserved c =
    rw c.in_ok-push.ensures.ok
    (marks-step (lifted c.args.k) Inner _ c.args.values.now c.loop-i.i c.loop-i.entries.items _ (omega arith) c.mark_at.ensures c.loop-i.invariant)
