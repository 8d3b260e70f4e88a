use Rattle.std.proofs.{Common.{arith, get_or, refl}, lemmas.List.get_or_default}
use Rattle.term_total.{specs.Names.sum_of, proofs.ChargeLemmas.{all-summed, none-summed, one-summed}}
use Rattle.term_total.proofs.charges.capped_sum.Goals as goal

pub loop-n-init : goal.loop-n-init
loop-n-init c = none-summed (sum_of c.args.numbers.now)

pub loop-n-preserved : goal.loop-n-preserved
loop-n-preserved c =
    let xs = c.args.numbers.now in
    let i = c.loop-n.n-index in
    let n = get_or xs i 0 in
    let here = c.loop-n-test.true in
    one-summed (λ m. m) xs i n (sum_of xs) c.loop-n.sum n c.min-sum.result here (get_or_default xs i 0 n here) refl (omega (arith, c.saturating_add.ensures, c.min-sum.ensures)) c.loop-n.invariant

pub returns : goal.returns
returns c = all-summed (λ m. m) c.args.numbers.now c.loop-n.n-index (sum_of c.args.numbers.now) c.loop-n.sum (omega (arith, c.loop-n-test.false)) c.loop-n.invariant
