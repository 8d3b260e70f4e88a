use Rattle.std.proofs.{Common.{◌≡◌, ◌∙◌, ◌+◌, ◌≤◌, ℤ, pos, ◌-ℤ◌, FitsSigned, w64, to_z, of_z, arith, rules, subst, sym, ap}, lemmas.Int.{ints, to_z-of_z}}
use Rattle.bockstein.{specs.Places.IsSumFrom, proofs.PlaceLemmas.{at-most-four, sum-more, sum-start, sum-whole}}
use Rattle.bockstein.proofs.cocycles.lifted_sum.Goals as goal

pub loop-k-init : goal.loop-k-init
loop-k-init g c = sum-start g.row.P c.args.row.now c.args.places.now

pub loop-k-preserved : goal.loop-k-preserved
loop-k-preserved g c =
    let s : ℤ = to_z w64 c.loop-k.sum-bits in
    let a : ℤ = c.from-sum.result in
    let four = at-most-four g.row.P c.value.result c.requires c.value.ensures.small in
    let first : FitsSigned w64 a = search rules in
    let fits : FitsSigned w64 (a -ℤ s) = search rules in
    let e : to_z w64 (of_z w64 (to_z w64 (of_z w64 a) -ℤ s)) ≡ a -ℤ s = ap (λ z. to_z w64 (of_z w64 (z -ℤ s))) (to_z-of_z w64 a first) ∙ to_z-of_z w64 (a -ℤ s) fits in
    let is = c.from-sum.ensures in
    subst (IsSumFrom g.row.P c.args.row.now c.args.places.now (c.loop-k.k + 1)) (sym e)
    (sum-more g.row.P c.args.row.now c.args.places.now c.loop-k.k c.value.result s (a -ℤ s) c.loop-k-test.true (c.value.ensures.same ∙ c.at.ensures) c.value.ensures.small four (omega (arith, ints, is)) c.loop-k.invariant)

pub returns : goal.returns
returns g c = sum-whole g.row.P c.args.row.now c.args.places.now c.loop-k.k _ (omega arith) c.loop-k.invariant
