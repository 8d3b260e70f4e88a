use Rattle.std.proofs.Common.{arith, sym, ap, ◌∙◌, ◌≡◌, ◌≤◌, ◌+◌, ◌^◌, FitsSigned, w64, to_z, of_z, false, inl, inr, refl, ℤ, pos, ◌+ℤ◌, nat_abs}
use Rattle.std.proofs.lemmas.Int.{ints}
use Rattle.signed_sum.specs.Names.{weight_of, is_zero}
use Rattle.signed_sum.proofs.Names.{is_zero-true}
use Rattle.std.proofs.lemmas.Bool.{cases_Bool}
use Rattle.std.proofs.lemmas.List.{get_or_default}
use Rattle.operad_law.proofs.TermPlaces.{weight_at, changed}
use Rattle.operad_law.proofs.formal_sum.change_at.Goals as goal

pub overflow_add-sum : goal.overflow_add-sum
overflow_add-sum g c =
    let m : nat_abs c.index.result.now.1 ≤ weight_of c.args.terms.now.items = weight_at c.args.terms.now.items c.args.place c.index.result.now c.requires.within c.index.ensures in
    omega (arith, ints)

-- what the code puts there is the sum
sum_of : (t u b s : ℤ) → nat_abs t + nat_abs b ≤ 10 ^ 18 → t ≡ u → FitsSigned w64 b → s ≡ to_z w64 (of_z w64 (to_z w64 (of_z w64 t) +ℤ to_z w64 (of_z w64 b))) → s ≡ u +ℤ b
sum_of t u b s m e f h = omega (arith, ints)

not_zero : (z s : ℤ) → s ≡ to_z w64 (of_z w64 z) → FitsSigned w64 z → (of_z w64 z ≡ 0 → ⊥) → is_zero s ≡ false
not_zero z s h f n = elim (cases_Bool (is_zero s)) [
  | inl t ↦ let e : s ≡ pos 0 = is_zero-true s t in
      let k : z ≡ pos 0 = omega (arith, ints) in
      absurd (n (ap (of_z w64) k))
  | inr t ↦ t
]

pub returns-else-sum-eq0 : goal.returns-else-sum-eq0
returns-else-sum-eq0 g c d =
    let a = c.index.result.now in
    let t = c.index_mut.result.now in
    let m : nat_abs a.1 ≤ weight_of c.args.terms.now.items = weight_at c.args.terms.now.items c.args.place a c.requires.within c.index.ensures in
    let q : a.1 ≡ t.1 = ap (λ v. v.1) (c.index.ensures ∙ get_or_default c.args.terms.now.items c.args.place a t c.requires.within ∙ sym c.index_mut.ensures.value) in
    let w : nat_abs a.1 + nat_abs c.args.by ≤ 10 ^ 18 = omega arith in
    changed c.args.terms.now.items c.args.place t c.args.by _ c.requires.within c.index_mut.ensures.value
    (sum_of a.1 t.1 c.args.by _ w q c.ranges.by refl)
    (not_zero (to_z w64 (of_z w64 a.1) +ℤ to_z w64 (of_z w64 c.args.by)) _ refl (omega (arith, ints)) c.if-sum-eq0.false) d
