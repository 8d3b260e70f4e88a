use Rattle.std.proofs.Common.{◌≡◌, ◌∙◌, ℕ, [], ◌∷◌, ◌++◌, arith, ap, ap₂, length, pos}
use Rattle.signed_sum.specs.Names.{signed}
use Rattle.interval_cut_law.specs.Names.{sign_exponent}
use Rattle.interval_cut.proofs.{EvaluationLemmas.shown_term, ProductLemmas.{signed_term, small_sign, zero_term}, WalkLemmas.{has_faces, is_at, on_at}}
use Rattle.interval_cut.proofs.cuts.Cuts.term.Goals as goal

pub product-product-requires : goal.product-product-requires
product-product-requires g c =
    let a = c.self.inside in
    let s = is_at a.values.items a.top a.stage a.inner.items c.args.self.now c.self.view_is c.requires.at in
    let starts = c.self.invariant.starts in (
      omega arith,
      (
        c.requires.prime,
        (
          has_faces a.values.items a.inner.items a.faces.places.items a.faces.starts.items a.top a.most (length c.args.simplex.now) c.self.invariant.cut (on_at a.stage _ s c.self.invariant.table)
              (omega (arith, a.faces.starts.ok.0)) (omega (arith, c.requires.simplex, ap (λ w. w.top) c.self.view_is)),
          omega (arith, c.self.invariant.vertices, c.as_mut_slice.ensures.len),
        ),
      ),
    )

pub returns-then-is_zero-clause-value : goal.returns-then-is_zero-clause-value
returns-then-is_zero-clause-value g c =
    let a = c.self.inside in
    let s = is_at a.values.items a.top a.stage a.inner.items c.args.self.now c.self.view_is c.requires.at in
    shown_term g.row.P c.product-product.result c.product-product.result c.args.mask a.most a.top (g.V.Values.value_of c.args.alpha.now) (g.V.Values.value_of c.args.gamma.now)
    a.values.items a.inner.items c.args.simplex.now a.faces.places.items a.faces.starts.items a.stage c.args.self.now c.self.view_is s c.self.invariant.most c.self.invariant.table c.product-product.ensures
    (zero_term g.row.P (sign_exponent a.values.items 0 (a.inner.items ++ (a.top ∷ []))) c.product-product.result (c.is_zero.ensures.zero.0 c.if-is_zero.true))

pub returns-clause-value : goal.returns-clause-value
returns-clause-value g c =
    let a = c.self.inside in
    let s = is_at a.values.items a.top a.stage a.inner.items c.args.self.now c.self.view_is c.requires.at in
    let e : ℕ = sign_exponent a.values.items 0 (a.inner.items ++ (a.top ∷ [])) in
    let sign : c.cut_sign-sign.result ≡ signed e (pos 1)
    = c.cut_sign-sign.ensures ∙ ap₂ (λ u p. signed (sign_exponent u 0 (p ++ (a.top ∷ []))) (pos 1)) c.as_slice.ensures.value c.as_slice-2.ensures.value in
    shown_term g.row.P c.product-product.result c.with_sign.result c.args.mask a.most a.top (g.V.Values.value_of c.args.alpha.now) (g.V.Values.value_of c.args.gamma.now)
    a.values.items a.inner.items c.args.simplex.now a.faces.places.items a.faces.starts.items a.stage c.args.self.now c.self.view_is s c.self.invariant.most c.self.invariant.table c.product-product.ensures
    (signed_term g.row.P e c.product-product.result c.with_sign.result (c.with_sign.ensures e (small_sign e c.cut_sign-sign.result sign)))
