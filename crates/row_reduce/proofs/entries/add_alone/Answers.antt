use Rattle.std.proofs.Common.{◌≡◌, ℕ, ◌+◌, ◌*◌, ◌%◌, ◌<◌, length, get_or, arith, ap, ◌∙◌, take_all}
use Rattle.linear_law.proofs.Names.{Congruent_from}
use Rattle.row_reduce.{specs.Names.zipped, proofs.SumLemmas.{add_entry, read_at}, proofs.EntryLemmas.{zipped_fits, zipped_length, zipped_read}}
use Rattle.row_reduce.proofs.entries.add_alone.Goals as goal

pub bounds-sum-at : goal.bounds-sum-at
bounds-sum-at g c =
    let b = zipped_fits (length c.args.sum.now) c.args.places.now c.args.values.now c.loop-i.i (omega (arith, c.requires.same)) (omega arith) c.requires.fits in
    omega (arith, b, c.loop-i.auto.sum)

pub bounds-sum-at-in-loop-i : goal.bounds-sum-at-in-loop-i
bounds-sum-at-in-loop-i g c =
    let b = zipped_fits (length c.args.sum.now) c.args.places.now c.args.values.now c.loop-i.i (omega (arith, c.requires.same)) (omega arith) c.requires.fits in
    omega (arith, b, c.loop-i.auto.sum)

pub loop-i-preserved : goal.loop-i-preserved
loop-i-preserved g c =
    let p = g.row.P in
    let i = c.loop-i.i in
    let places = c.args.places.now in
    let values = c.args.values.now in
    let at = get_or places i 0 in
    let e : ℕ × ℕ = (at, c.index-values-i.result) in
    let b = zipped_fits (length c.args.sum.now) places values i (omega (arith, c.requires.same)) (omega arith) c.requires.fits in
    let inside : at < length c.loop-i.sum = omega (arith, b, c.loop-i.auto.sum) in
    let v_is : c.plus_product.result ≡ (get_or c.loop-i.sum at 0 + c.args.by * c.index-values-i.result) % p =
    c.plus_product.ensures ∙ ap (λ n. (n + c.args.by * c.index-values-i.result) % p) (read_at c.loop-i.sum at c.index-sum-at.result c.index-sum-at.is inside) in
    add_entry p c.args.by c.args.sum.now c.loop-i.sum (zipped places values) i c.plus_product.result e
    (zipped_read places values i c.index-values-i.result c.index-values-i.is (omega (arith, c.requires.same)) (omega arith))
    (let l = zipped_length places values (omega (arith, c.requires.same)) in omega arith) inside v_is c.loop-i.invariant

pub returns : goal.returns
returns g c = λ k.
    let l = zipped_length c.args.places.now c.args.values.now (omega (arith, c.requires.same)) in
    let all = take_all c.loop-i.i (zipped c.args.places.now c.args.values.now) (omega (arith, l)) in
    Congruent_from (c.loop-i.invariant k) (rw all (omega arith))
