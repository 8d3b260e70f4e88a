use Rattle.std.{proofs.Common.{◌≡◌, ◌+◌, ◌-◌, ◌∙◌, ap, arith, cond, get_or}, specs.Prelude.nat_lt}
use Rattle.surjection_law.{specs.Surjections.arity, proofs.SurjectionTerms.arity-positive}
use Rattle.composition_law.specs.Surjections.{grown}
use Rattle.surjection.{specs.declared.composition.Mark.TheVariants.Outer, proofs.SpliceLemmas.marks-step, proofs.WalkLemmas.value_below}
use Rattle.surjection.proofs.composition.outer_entries.Goals as goal

pub overflow_sub-by : goal.overflow_sub-by
overflow_sub-by c = omega (arith, c.greatest-by.ensures, arity-positive c.args.inner.now c.requires.inner)

pub grown_value-value-requires : goal.grown_value-value-requires
grown_value-value-requires c =
    let h = value_below c.args.values.now c.loop-i.i c.requires.outer (omega arith) in
    let n = c.requires.inner.narrow in
    omega (arith, h, n, c.greatest-by.ensures)

pub loop-i-preserved : goal.loop-i-preserved
loop-i-preserved c =
    let e : c.grown_value-value.result ≡ grown c.args.k (arity c.args.inner.now) (get_or c.args.values.now c.loop-i.i 0) =
    c.grown_value-value.ensures ∙ ap (λ s. cond (nat_lt c.args.k (get_or c.args.values.now c.loop-i.i 0)) (get_or c.args.values.now c.loop-i.i 0 + (s - 1)) (get_or c.args.values.now c.loop-i.i 0)) c.greatest-by.ensures in
    rw (c.in_ok-push.ensures.ok, e)
    (marks-step (grown c.args.k (arity c.args.inner.now)) Outer _ c.args.values.now c.loop-i.i c.loop-i.entries.items _ (omega arith) c.mark_at.ensures c.loop-i.invariant)
