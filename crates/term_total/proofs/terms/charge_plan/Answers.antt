use Rattle.std.proofs.Common.{◌∙◌, arith, lit<, map, subst, sym, flat_map}
use Rattle.linear_law.proofs.Names.{each_get_or}
use Rattle.term_total.{specs.Names.{AreReady, IsThere, addend_number, row_numbers}, proofs.ChargeLemmas.{all-left, item-charged, item-refused, items-charged}}
use Rattle.term_total.proofs.terms.charge_plan.Goals as goal

pub loop-row-init : goal.loop-row-init
loop-row-init g c = all-left c.args.terms.now (flat_map (row_numbers g.row.P) c.args.rows.now)

pub numbers-requires : goal.numbers-requires
numbers-requires g c =
    let Ready = AreReady g.row.P (IsThere c.args.table.now) in
    (lit< tt, (lit< tt, (c.requires.prime, subst Ready (sym c.row-item.is) (each_get_or Ready c.args.rows.now c.loop-row.row-index c.row-item.result c.loop-row-test.true c.requires.ready))))

pub loop-row-preserved : goal.loop-row-preserved
loop-row-preserved g c =
    let f = row_numbers g.row.P in
    item-charged f c.args.rows.now c.loop-row.row-index c.args.terms.now c.loop-row.terms (flat_map f c.args.rows.now) c.loop-row.invariant c.charge_rows.new.terms c.row-item.result c.loop-row-test.true c.row-item.is
    c.in_ok-charge_rows.field-0 (c.in_ok-charge_rows.ensures.charged (map (addend_number g.row.P) c.row-item.result.addends) (c.deref.ensures.value ∙ c.in-Ok.ensures))

pub returns-in_err-charge_rows : goal.returns-in_err-charge_rows
returns-in_err-charge_rows g c =
    let f = row_numbers g.row.P in
    item-refused f c.args.rows.now c.loop-row.row-index c.args.terms.now c.loop-row.terms (flat_map f c.args.rows.now) c.loop-row.invariant c.charge_rows.new.terms c.row-item.result c.loop-row-test.true c.row-item.is
    c.charge_rows.new.terms c.from_residual.result c.in_err-charge_rows.field-0.0 (c.in_err-charge_rows.ensures.charged (map (addend_number g.row.P) c.row-item.result.addends) (c.deref.ensures.value ∙ c.in-Ok.ensures)) c.from_residual.ensures

pub returns : goal.returns
returns g c =
    let f = row_numbers g.row.P in
    items-charged f c.args.rows.now c.loop-row.row-index c.args.terms.now c.loop-row.terms (flat_map f c.args.rows.now) c.loop-row.invariant tt (omega (arith, c.loop-row-test.false))
