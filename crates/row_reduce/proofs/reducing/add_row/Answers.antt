use Rattle.std.proofs.Common.{◌≡◌, ℕ, ◌+◌, ◌*◌, ◌%◌, ◌<◌, length, get_or, arith, subst, sym, ap, ◌∙◌}
use Rattle.linear_law.proofs.Names.{each_get_or}
use Rattle.row_reduce.proofs.SumLemmas.{add_entry, read_at}
use Rattle.row_reduce.proofs.reducing.add_row.Goals as goal

pub loop-entry-preserved : goal.loop-entry-preserved
loop-entry-preserved g c =
    let i = c.loop-entry.entry-index in
    let row = c.args.row.now in
    let e : ℕ × ℕ = c.entry-item.result in
    let fits : e.0 < length c.args.sum.now = subst (λ (f : ℕ × ℕ). f.0 < length c.args.sum.now) (sym c.entry-item.is) (each_get_or (λ (f : ℕ × ℕ). f.0 < length c.args.sum.now) row i e c.loop-entry-test.true c.requires.fits) in
    let inside : e.0 < length c.loop-entry.sum = omega (arith, fits, c.loop-entry.auto.sum) in
    let v_is : c.plus_product.result ≡ (get_or c.loop-entry.sum e.0 0 + c.args.by * e.1) % g.row.P =
    c.plus_product.ensures ∙ ap (λ n. (n + c.args.by * e.1) % g.row.P) (read_at c.loop-entry.sum e.0 c.index-sum-at.result c.index-sum-at.is inside) in
    add_entry g.row.P c.args.by c.args.sum.now c.loop-entry.sum row i c.plus_product.result e c.entry-item.is c.loop-entry-test.true inside v_is c.loop-entry.invariant
