use Rattle.std.proofs.Common.{◌≡◌, ℕ, ◌*◌, ◌%◌, ◌^◌, ◌/◌, sym, ◌∙◌, ap, ap₂, arith}
use Rattle.std.proofs.Math.Nat.{pow-zero}
use native.Mathlib.Nat.{mod-mod}
use Rattle.fp_field.proofs.PowerLemmas.{even_step, odd_step}
use Rattle.fp_field.proofs.element.Fp.pow.Goals as goal
use Rattle.fp_field.proofs.element.Fp.pow.Goals.{then-left-eq1, else-left-eq1}

pub loop-left-preserved : goal.loop-left-preserved
loop-left-preserved g c =
    let p = g.row.P in
    let left : ℕ = c.loop-left.left in
    elim c.if-left-eq1.branch [
      | then-left-eq1 w ↦
          let e : c.if-left-eq1.power ≡ (c.loop-left.power * c.loop-left.base) % p = w.power-is ∙ w.mul-power.ensures in (
            ap (λ x. x % p) e ∙ mod-mod (c.loop-left.power * c.loop-left.base) p ∙ sym e,
            ap₂ (λ x y. (x * y ^ (left / 2)) % p) e c.mul-base.ensures ∙ odd_step p c.loop-left.power c.loop-left.base left w.if-left-eq1.true ∙ c.loop-left.invariant.1,
          )
      | else-left-eq1 w ↦ (
        ap (λ x. x % p) w.power-is ∙ c.loop-left.invariant.0 ∙ sym w.power-is,
        ap₂ (λ x y. (x * y ^ (left / 2)) % p) w.power-is c.mul-base.ensures ∙ even_step p c.loop-left.power c.loop-left.base left w.if-left-eq1.false
            ∙ c.loop-left.invariant.1,
      )
    ]

pub returns : goal.returns
returns g c =
    let e : c.loop-left.left ≡ 0 = omega (arith, c.loop-left-test.false) in
    let f : c.loop-left.power * c.loop-left.base ^ c.loop-left.left ≡ c.loop-left.power = ap (λ n. c.loop-left.power * c.loop-left.base ^ n) e ∙ ap (λ n. c.loop-left.power * n) (pow-zero c.loop-left.base) ∙ omega arith in
    sym (c.loop-left.invariant.0) ∙ ap (λ x. x % g.row.P) (sym f) ∙ c.loop-left.invariant.1
