use Rattle.std.proofs.Common.{◌≡◌, ◌-◌, ◌*◌, ◌/◌, ◌∙◌, Ok, ap, arith, min}
use Rattle.may_elements.specs.Counted.{charged}
use Rattle.term_total.{specs.Names.{IsCount, repeated, sum_of}, proofs.ChargeLemmas.{AreMost, fits-refused, rows-all, rows-cut, rows-fit, rows-pass, whole-least, whole-zero}, proofs.charges.charge_rows.Goals.{then-sum-eq0, else-sum-eq0}}
use Rattle.term_total.proofs.charges.charge_rows.Goals as goal

pub returns-in_err-charge-clause-charged : goal.returns-in_err-charge-clause-charged
returns-in_err-charge-clause-charged c = λ ns e.
    let old = c.args.terms.now in
    let sum = c.capped_sum-sum.result in
    let whole = c.if-sum-eq0.whole in
    let count : IsCount old = record { within = c.left-left.ensures.within; low = c.left-left.ensures.low } in
    let fits : AreMost c.args.times sum (old.limit - old.used) whole = elim c.if-sum-eq0.branch [
      | then-sum-eq0 w ↦ whole-zero c.args.times whole sum (old.limit - old.used) (omega (arith, w.if-sum-eq0.true)) w.whole-is
      | else-sum-eq0 w ↦ whole-least c.args.times whole sum (old.limit - old.used) (omega (arith, w.if-sum-eq0.false)) (w.whole-is ∙ w.min-whole.ensures ∙ ap (λ n. min c.args.times (n / sum)) c.left-left.ensures.value)
    ] in
    fits-refused old c.charge.new.terms c.charge.new.terms (whole * sum) (repeated c.args.times ns) c.from_residual.result c.in_err-charge.field-0.0 count fits.fit c.in_err-charge.ensures c.from_residual.ensures

pub returns-then-whole-times-clause-charged : goal.returns-then-whole-times-clause-charged
returns-then-whole-times-clause-charged c = λ ns e.
    let old = c.args.terms.now in
    let sum = c.capped_sum-sum.result in
    let whole = c.if-sum-eq0.whole in
    let count : IsCount old = record { within = c.left-left.ensures.within; low = c.left-left.ensures.low } in
    let fits : AreMost c.args.times sum (old.limit - old.used) whole = elim c.if-sum-eq0.branch [
      | then-sum-eq0 w ↦ whole-zero c.args.times whole sum (old.limit - old.used) (omega (arith, w.if-sum-eq0.true)) w.whole-is
      | else-sum-eq0 w ↦ whole-least c.args.times whole sum (old.limit - old.used) (omega (arith, w.if-sum-eq0.false)) (w.whole-is ∙ w.min-whole.ensures ∙ ap (λ n. min c.args.times (n / sum)) c.left-left.ensures.value)
    ] in
    let mid = rows-fit old c.charge.new.terms c.args.row.now whole sum c.in_ok-charge.field-0 count c.capped_sum-sum.ensures fits.fit c.in_ok-charge.ensures in
    rows-cut old c.charge_all.new.terms c.args.times c.args.row.now ns c.charge_all.result count e
    (rows-pass old c.charge.new.terms c.charge_all.new.terms c.args.row.now c.args.times whole sum c.charge_all.result c.capped_sum-sum.ensures c.if-whole-times.true (fits.most c.if-whole-times.true) mid.0 mid.1 c.charge_all.ensures)

pub returns-clause-charged : goal.returns-clause-charged
returns-clause-charged c = λ ns e.
    let old = c.args.terms.now in
    let sum = c.capped_sum-sum.result in
    let whole = c.if-sum-eq0.whole in
    let count : IsCount old = record { within = c.left-left.ensures.within; low = c.left-left.ensures.low } in
    let fits : AreMost c.args.times sum (old.limit - old.used) whole = elim c.if-sum-eq0.branch [
      | then-sum-eq0 w ↦ whole-zero c.args.times whole sum (old.limit - old.used) (omega (arith, w.if-sum-eq0.true)) w.whole-is
      | else-sum-eq0 w ↦ whole-least c.args.times whole sum (old.limit - old.used) (omega (arith, w.if-sum-eq0.false)) (w.whole-is ∙ w.min-whole.ensures ∙ ap (λ n. min c.args.times (n / sum)) c.left-left.ensures.value)
    ] in
    let few = fits.few in
    let same : whole ≡ c.args.times = omega (arith, c.if-whole-times.false, few) in
    let mid = rows-fit old c.charge.new.terms c.args.row.now whole sum c.in_ok-charge.field-0 count c.capped_sum-sum.ensures fits.fit c.in_ok-charge.ensures in
    rows-cut old c.charge.new.terms c.args.times c.args.row.now ns (Ok tt) count e
    (rows-all old c.charge.new.terms c.args.row.now c.args.times tt (mid.0 ∙ ap (λ k. charged old (sum_of (repeated k c.args.row.now))) same) mid.1)

pub returns-in_err-charge-clause-count : goal.returns-in_err-charge-clause-count
returns-in_err-charge-clause-count c = record { within = c.left-left.ensures.within; low = c.left-left.ensures.low }

pub returns-then-whole-times-clause-count : goal.returns-then-whole-times-clause-count
returns-then-whole-times-clause-count c = record { within = c.left-left.ensures.within; low = c.left-left.ensures.low }

pub returns-clause-count : goal.returns-clause-count
returns-clause-count c = record { within = c.left-left.ensures.within; low = c.left-left.ensures.low }
