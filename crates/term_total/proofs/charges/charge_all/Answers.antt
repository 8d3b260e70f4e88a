use Rattle.std.proofs.{Common.{◌∷◌, [], arith, get_or}, lemmas.List.get_or_default}
use Rattle.term_total.proofs.ChargeLemmas.{item-charged, item-refused, items-charged, self-left}
use Rattle.term_total.proofs.charges.charge_all.Goals as goal

pub loop-n-init : goal.loop-n-init
loop-n-init c = self-left c.args.numbers.now c.args.terms.now

pub loop-n-preserved : goal.loop-n-preserved
loop-n-preserved c =
    let xs = c.args.numbers.now in
    let i = c.loop-n.n-index in
    let here = c.loop-n-test.true in
    item-charged (λ n. n ∷ []) xs i c.args.terms.now c.loop-n.terms xs c.loop-n.invariant c.charge.new.terms (get_or xs i 0) here (get_or_default xs i 0 (get_or xs i 0) here) c.in_ok-charge.field-0 c.in_ok-charge.ensures

pub returns-in_err-charge : goal.returns-in_err-charge
returns-in_err-charge c =
    let xs = c.args.numbers.now in
    let i = c.loop-n.n-index in
    let here = c.loop-n-test.true in
    item-refused (λ n. n ∷ []) xs i c.args.terms.now c.loop-n.terms xs c.loop-n.invariant c.charge.new.terms (get_or xs i 0) here (get_or_default xs i 0 (get_or xs i 0) here) c.charge.new.terms c.from_residual.result
    c.in_err-charge.field-0.0 c.in_err-charge.ensures c.from_residual.ensures

pub returns : goal.returns
returns c = items-charged (λ n. n ∷ []) c.args.numbers.now c.loop-n.n-index c.args.terms.now c.loop-n.terms c.args.numbers.now c.loop-n.invariant tt (omega (arith, c.loop-n-test.false))
