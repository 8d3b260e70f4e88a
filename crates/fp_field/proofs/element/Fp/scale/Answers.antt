use Rattle.std.proofs.Common.{◌+◌, ◌-◌, ◌*◌, ◌%◌, ◌^◌, ◌/◌, sym, ◌∙◌, ap, ap₂, arith}
use native.Mathlib.Nat.{mod-mod}
use Rattle.linear_law.specs.Names.{negated}
use Rattle.fp_field.specs.Element.{half, factorial}
use Rattle.fp_field.proofs.ServedLemmas.{served_field, served_large}
use Rattle.fp_field.proofs.ScaleLemmas.{power_nonzero, half_factorial, scale_product}
use Rattle.fp_field.proofs.element.Fp.scale.Goals as goal

pub inv-size-requires : goal.inv-size-requires
inv-size-requires g c = (
  omega arith,
  (
    c.requires.prime,
    λ e. power_nonzero g.row.P (factorial (half g.row.P) % g.row.P) c.args.q (served_field g.row.P c.requires.prime)
        (λ n. half_factorial g.row.P c.requires.prime (sym (mod-mod (factorial (half g.row.P)) g.row.P) ∙ n)) (ap (λ x. x ^ c.args.q % g.row.P) (sym c.factorial.ensures) ∙ sym c.pow.ensures ∙ e),
  ),
)

pub returns : goal.returns
returns g c = record {
  product =
      scale_product g.row.P c.args.q (c.args.s + half g.row.P * (c.args.q * (c.args.q - 1) / 2)) (factorial (half g.row.P)) c.inv-size.result c.pow-sign.result c.mul.result
      (served_large g.row.P c.requires.prime) c.mul.ensures
      (c.pow-sign.ensures ∙ ap₂ (λ x y. x ^ (c.args.s + half g.row.P * (c.args.q * y / 2)) % g.row.P) (c.neg.ensures ∙ ap (λ x. negated g.row.P x % g.row.P) c.new.ensures) c.saturating_sub.ensures)
      (ap (λ x. (x * c.inv-size.result) % g.row.P) (ap (λ x. x ^ c.args.q % g.row.P) (sym c.factorial.ensures) ∙ sym c.pow.ensures) ∙ c.inv-size.ensures);
}
