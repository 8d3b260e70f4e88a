use Rattle.std.proofs.Common.{ℕ, List, ap, arith, ℤ}
use Rattle.linear_law.specs.Names.{sum_over}
use Rattle.interval_cut.specs.Names.{counted_live}
use Rattle.may_elements.specs.Counted.{cut_off}
use Rattle.term_total.proofs.ChargeLemmas.{all-summed, none-summed, one-summed}
use Rattle.term_total.proofs.counts.live_cuts_in.Goals as goal

pub loop-k-init : goal.loop-k-init
loop-k-init c = none-summed (sum_over (λ (t : List ℕ × ℤ). counted_live c.args.q t.0) c.args.sum.now)

pub loop-k-preserved : goal.loop-k-preserved
loop-k-preserved c =
    let f : List ℕ × ℤ → ℕ = λ t. counted_live c.args.q t.0 in
    one-summed f c.args.sum.now c.loop-k.k (c.term.result.0.now, c.term.result.1) (sum_over f c.args.sum.now) c.loop-k.count c.in_ok-more.more c.min-count.result
    (omega (arith, c.loop-k-test.true, c.len-k-end.ensures)) c.term.ensures (ap cut_off c.in_ok-more.ensures) (omega (arith, c.saturating_add.ensures, c.min-count.ensures)) c.loop-k.invariant

pub returns : goal.returns
returns c =
    let f : List ℕ × ℤ → ℕ = λ t. counted_live c.args.q t.0 in
    all-summed f c.args.sum.now c.loop-k.k (sum_over f c.args.sum.now) c.loop-k.count (omega (arith, c.loop-k-test.false, c.len-k-end.ensures)) c.loop-k.invariant
