use Rattle.std.proofs.{Common.{◌≡◌, ◌∙◌, ◌≤◌, ℕ, List, ap, arith, length, min, rules, sym}, lemmas.List.drop_all}
use Rattle.fp_field.proofs.ServedLemmas.{served_field}
use Rattle.op_matrix.specs.Columns.{values_of}
use Rattle.steenrod_law.specs.Names.{coefficient_products}
use Rattle.class_matrices.{specs.Names.sum_onto, proofs.ListLemmas.{mapped-back, mapped-front}, proofs.SumLemmas.{row-more, sum-no-more}}
use Rattle.class_matrices.proofs.sums.with_products.Goals as goal

pub loop-by-preserved : goal.loop-by-preserved
loop-by-preserved g c = λ fits.
    let p : ℕ = g.row.P in
    let total = sum_onto p c.args.sum.items (values_of {p = p} c.args.columns.now) (coefficient_products c.args.first.now c.args.second.now) in
    let n : ℕ = length c.args.second.now in
    let least : c.min.result ≡ min n (length c.loop-by.rest.now) = search rules in
    row-more p (served_field p c.requires).large total c.loop-by.sum.items c.in_ok-sum.sum.items (values_of {p = p} c.loop-by.rest.now) (values_of {p = p} c.split_at.result.0.now) (values_of {p = p} c.split_at.result.1.now)
    c.args.first.now c.args.second.now c.loop-by.by-index c.by-item.result c.loop-by-test.true c.by-item.is
    (mapped-front (λ d. d.values.items) c.loop-by.rest.now c.split_at.result.0.now n c.min.result least c.split_at.ensures.front)
    (mapped-back (λ d. d.values.items) c.loop-by.rest.now c.split_at.result.1.now n c.min.result least c.split_at.ensures.back)
    c.in_ok-sum.ensures (c.loop-by.invariant fits)

pub returns : goal.returns
returns g c = λ fits.
    let p : ℕ = g.row.P in
    let h = c.loop-by.invariant fits in
    let past : length c.args.first.now ≤ c.loop-by.by-index = omega arith in
    sym (sum-no-more p c.loop-by.sum.items (values_of {p = p} c.loop-by.rest.now))
    ∙ ap (λ (xs : List ℕ). sum_onto p c.loop-by.sum.items (values_of {p = p} c.loop-by.rest.now) (coefficient_products xs c.args.second.now)) (sym (drop_all c.loop-by.by-index c.args.first.now past)) ∙ h.same
