use Rattle.std.{proofs.Common.{[], ◌≡◌, ◌∙◌, ◌*◌, ◌%◌, ◌<◌, ℕ, List, ap, arith, length, map, rules, subst, sym, take}, proofs.lemmas.List.length-map, proofs.lemmas.Slice.Zip.{zip_end, zip_turn}, specs.Iterator.Adapters.{zip_first, zip_second}, specs.Slice.Iter.iter_rest}
use Rattle.fp_field.proofs.ServedLemmas.{served_field}
use Rattle.linear_law.proofs.Names.{length_push}
use Rattle.op_matrix.specs.Columns.{values_of}
use Rattle.class_matrices.{specs.Names.sum_onto, proofs.ListLemmas.{mapped-at, shorter}, proofs.SumLemmas.{column-more, columns-none, sum-all}}
use Rattle.class_matrices.proofs.sums.with_columns.Goals as goal

pub returns-then-is_zero : goal.returns-then-is_zero
returns-then-is_zero g c = λ fits. (let none : c.args.by ≡ 0 = search rules in columns-none g.row.P (served_field g.row.P c.requires).large c.args.by c.args.sum.items (values_of {p = g.row.P} c.args.columns.now) c.args.coefficients.now none fits)

pub loop-column-preserved : goal.loop-column-preserved
loop-column-preserved g c = λ fits.
    let p : ℕ = g.row.P in
    let xs = c.args.columns.now in
    let cs : List ℕ = c.args.coefficients.now in
    let by : ℕ = c.args.by in
    let k : ℕ = length c.loop-column.yielded in
    let first : iter_rest (zip_first c.into_iter-column-iterator.result) ≡ c.args.columns.now = search rules in
    let second : iter_rest (zip_second c.into_iter-column-iterator.result) ≡ c.args.coefficients.now = search rules in
    let t = zip_turn c.args.columns.now c.args.coefficients.now c.loop-column.yielded c.into_iter-column-iterator.result c.loop-column.column-iterator c.next.new.self c.next.result first second c.loop-column.yielded_by (c.in-Some.column, c.in-Some.coefficient) c.in-Some.is c.next.ensures.steps in
    let count = length-map xs (λ c. c.values.items) in
    let here : k < length (values_of {p = p} xs) = (let l = t.0 in omega (arith, l, count)) in
    let column = ap (λ c. c.values.items) (t.2 c.in-Some.column.now) ∙ sym (mapped-at (λ c. c.values.items) xs k c.in-Some.column.now [] t.0) in
    subst (λ (m : ℕ). c.in_ok-sum.sum.items ≡ sum_onto p c.args.sum.items (take m (values_of {p = p} xs)) (take m (map (λ d. by * d) cs))) (sym (length_push c.loop-column.yielded (c.in-Some.column, c.in-Some.coefficient)))
    (column-more p (served_field p c.requires).large by c.args.sum.items c.loop-column.sum.items c.in_ok-sum.sum.items c.in-Some.column.now.values.items (values_of {p = p} xs) cs k c.mul.result here t.1 column
    (c.mul.ensures ∙ ap (λ (x : ℕ). (by * x) % p) (t.3 0)) fits (c.loop-column.invariant fits) c.in_ok-sum.ensures)

pub returns : goal.returns
returns g c = λ fits.
    let p : ℕ = g.row.P in
    let xs = c.args.columns.now in
    let cs : List ℕ = c.args.coefficients.now in
    let k : ℕ = length c.loop-column.yielded in
    let first : iter_rest (zip_first c.into_iter-column-iterator.result) ≡ c.args.columns.now = search rules in
    let second : iter_rest (zip_second c.into_iter-column-iterator.result) ≡ c.args.coefficients.now = search rules in
    let t = zip_end c.args.columns.now c.args.coefficients.now c.loop-column.yielded c.into_iter-column-iterator.result c.loop-column.column-iterator c.next.new.self c.next.result first second c.loop-column.yielded_by c.in-None.is c.next.ensures.steps in
    let all = map (λ d. c.args.by * d) cs in
    let a = length-map xs (λ c. c.values.items) in
    let b = length-map cs (λ d. c.args.by * d) in
    c.loop-column.invariant fits ∙ sum-all p c.args.sum.items (values_of {p = p} xs) all k (shorter (length (values_of {p = p} xs)) (length all) k (omega (arith, t, a, b)))
