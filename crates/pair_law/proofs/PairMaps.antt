-- The three maps of a pair, on cocycles and on classes.
use Rattle.std.proofs.Common.{◌≡◌, ℕ, ◌+◌, ◌*◌, ◌-◌, ◌<◌, List, [], refl, sym, ◌∙◌, ap, arith}
use Rattle.linear_law.proofs.Names.{IsLinearOnClasses, class_of, Congruent_add, Congruent_from, Congruent_of, Congruent_refl, Congruent_scale, Congruent_sym, Congruent_trans, add-negated}
use Rattle.linear_law.specs.Names.{Congruent, negated}
use Rattle.simplicial_law.proofs.Names.{coboundaries, coboundary_plus, coboundary_same, coboundary_twice}
use Rattle.simplicial_law.specs.Names.{AgreesOnSimplices, Cochain, IsCoboundary, IsCocycle, IsSimplex, coboundary}
use Rattle.relative_law.proofs.Spaces.{below_relative, forget_bound, no_bound_below, relative_coboundaries, restricted, zero_bound}
use Rattle.relative_law.specs.Names.{IsRelativeCoboundary, IsRelativeCochain, IsRelativeCocycle, IsSubcomplex}
use Rattle.pair_law.proofs.Extensions.{extended_alike, extended_inside, extended_plus, grounded, grounded_coboundary, grounded_same}
use Rattle.pair_law.specs.Laws.{ExactCocycles, OfEachPair, PairMaps}
use Rattle.pair_law.specs.Sequences.{IsExactAt, connecting, extended_by_zero}

minus : (p : ℕ) (f g : Cochain) (s : List ℕ) → coboundary p (λ t. f t + negated p (g t)) s ≡ coboundary p f s + negated p (coboundary p g s)
minus p f g s = coboundary_plus p (p - 1) f g s

-- what agrees on the subcomplex differs by a relative cochain
differ_relative : (sub : List (List ℕ)) (n p : ℕ) → 1 < p → (v w : Cochain) → AgreesOnSimplices sub n p v w → IsRelativeCochain sub n p (λ s. v s + negated p (w s))
differ_relative sub n p large v w h = record { at = λ s on. Congruent_trans (Congruent_add (h.at s on) (Congruent_refl (negated p (w s)))) (add-negated p (w s) large) }

-- the coboundary of a relative cochain
pub bound_of : (facets sub : List (List ℕ)) (n p : ℕ) (z y : Cochain) → IsRelativeCochain sub n p y → AgreesOnSimplices facets (n + 1) p z (coboundary p y) → IsRelativeCoboundary facets sub (n + 1) p z
bound_of facets sub n p z y h same = record {
  below = grounded y;
  nothing = refl;
  relative = below_relative sub n p (grounded y) (record { at = λ s on. Congruent_trans ((grounded_same sub n p y).at s on) (h.at s on) });
  same = record { at = λ s on. Congruent_trans (same.at s on) (Congruent_sym ((grounded_coboundary facets n p y).at s on)) };
}

-- what is 0 on the complex is a coboundary
none_bound : (facets : List (List ℕ)) (n p : ℕ) (z : Cochain) → AgreesOnSimplices facets n p z (λ s. 0) → IsCoboundary facets n p z
none_bound facets n p z h = forget_bound facets [] n p z (zero_bound facets [] n p z h)

module _ (facets sub : List (List ℕ)) (p : ℕ) (large : 1 < p) (pair : IsSubcomplex sub facets) where
  pub into_map : (n : ℕ) → IsLinearOnClasses p (IsSimplex facets n) (IsSimplex facets n) (IsRelativeCocycle facets sub n p) (IsRelativeCoboundary facets sub n p) (IsCoboundary facets n p) (λ z. z)
  into_map n = record {
    bound = forget_bound facets sub n p;
    alike = λ v w h. h;
    plus = λ k v w hv hw. (let x : Cochain = λ s. v s + k * w s in class_of p large (coboundaries facets n p large) x x (record { at = λ s on. Congruent_refl (x s) }));
  }

  pub restricted_cocycle : (n : ℕ) (u : Cochain) → IsCocycle facets n p u → IsCocycle sub n p u
  restricted_cocycle n u h = restricted facets sub (n + 1) p (coboundary p u) (λ s. 0) pair h

  pub restrict_map : (n : ℕ) → IsLinearOnClasses p (IsSimplex facets n) (IsSimplex sub n) (IsCocycle facets n p) (IsCoboundary facets n p) (IsCoboundary sub n p) (λ z. z)
  restrict_map n = record {
    bound = λ u h. record { below = h.below; nothing = h.nothing; same = restricted facets sub n p u (coboundary p h.below) pair h.same };
    alike = λ v w h. restricted facets sub n p v w pair h;
    plus = λ k v w hv hw. (let x : Cochain = λ s. v s + k * w s in class_of p large (coboundaries sub n p large) x x (record { at = λ s on. Congruent_refl (x s) }));
  }

  -- two cochains that agree on the subcomplex have coboundaries that differ by a relative coboundary
  same_extension : (n : ℕ) (e f : Cochain) → AgreesOnSimplices sub n p e f → IsRelativeCoboundary facets sub (n + 1) p (λ s. coboundary p e s + negated p (coboundary p f s))
  same_extension n e f h =
      bound_of facets sub n p (λ s. coboundary p e s + negated p (coboundary p f s)) (λ s. e s + negated p (f s)) (differ_relative sub n p large e f h)
      (record { at = λ s on. Congruent_of (sym (minus p e f s)) })

  pub any_extension : (n : ℕ) (w e : Cochain) → AgreesOnSimplices sub n p e w → IsRelativeCoboundary facets sub (n + 1) p (λ s. coboundary p e s + negated p (connecting p sub w s))
  any_extension n w e h = same_extension n e (extended_by_zero sub w) (record { at = λ s on. Congruent_trans (h.at s on) (Congruent_sym ((extended_inside sub n p w).at s on)) })

  -- so the coboundary of the extension of what extends to a cocycle is a relative coboundary
  extension_bound : (n : ℕ) (w f : Cochain) → AgreesOnSimplices sub n p w f → IsCocycle facets n p f → IsRelativeCoboundary facets sub (n + 1) p (connecting p sub w)
  extension_bound n w f h closed =
      (relative_coboundaries facets sub (n + 1) p large pair).alike (connecting p sub w) (λ s. connecting p sub w s + negated p (coboundary p f s))
      (record { at = λ s on. Congruent_from (Congruent_scale (p - 1) (Congruent_sym (closed.at s on))) (omega arith) })
      (same_extension n (extended_by_zero sub w) f (record { at = λ s on. Congruent_trans ((extended_inside sub n p w).at s on) (h.at s on) }))

  pub connected_cocycle : (n : ℕ) (w : Cochain) → IsCocycle sub n p w → IsRelativeCocycle facets sub (n + 1) p (connecting p sub w)
  connected_cocycle n w h = record {
    relative = record { at = λ s on. Congruent_trans ((coboundary_same sub n p (extended_by_zero sub w) w (extended_inside sub n p w)).at s on) (h.at s on) };
    closed = record { at = λ s on. coboundary_twice p large (extended_by_zero sub w) s };
  }

  pub connect_map : (n : ℕ) → IsLinearOnClasses p (IsSimplex sub n) (IsSimplex facets (n + 1)) (IsCocycle sub n p) (IsCoboundary sub n p) (IsRelativeCoboundary facets sub (n + 1) p) (connecting p sub)
  connect_map n = record {
    bound = λ w h. extension_bound n w (coboundary p h.below) h.same (record { at = λ s on. coboundary_twice p large h.below s });
    alike = λ v w h. coboundary_same facets n p (extended_by_zero sub v) (extended_by_zero sub w) (extended_alike facets sub n p v w h);
    plus = λ k v w hv hw. class_of p large (relative_coboundaries facets sub (n + 1) p large pair) (connecting p sub (λ t. v t + k * w t)) (λ s. connecting p sub v s + k * connecting p sub w s)
        (record {
          at = λ s on. Congruent_of (ap (λ (f : Cochain). coboundary p f s) (λ i t. extended_plus sub k v w t i) ∙ coboundary_plus p k (extended_by_zero sub v) (extended_by_zero sub w) s);
        });
  }

  -- ---- exactness

  -- a relative cocycle is 0 on the subcomplex; a cocycle that is a coboundary there is relative, less the coboundary of an extension
  pub full_exact : (n : ℕ) → IsExactAt p (IsRelativeCocycle facets sub n p) (IsCocycle facets n p) (IsCoboundary facets n p) (IsCoboundary sub n p) (λ z. z) (λ z. z)
  full_exact n = record {
    goes = λ z h. none_bound sub n p z h.relative;
    comes = λ z h b.
        let d : Cochain = coboundary p b.below in
        let y : Cochain = λ s. z s + negated p (d s) in (
          y,
          record {
            relative = differ_relative sub n p large z d b.same;
            closed = record { at = λ s on. Congruent_trans (Congruent_of (minus p z d s)) (Congruent_from (Congruent_add (h.at s on) (Congruent_scale (p - 1) (coboundary_twice p large b.below s))) (omega arith)) };
          },
          record { below = b.below; nothing = b.nothing; same = record { at = λ s on. twice (z s) (d s) } },
        );
  }
    where
      -- a - (a - b) is b
      twice : (a b : ℕ) → Congruent p (a + negated p (a + negated p b)) b
      twice a b = Congruent_from (Congruent_add (add-negated p a large) (Congruent_add (Congruent_scale (p - 1) (add-negated p b large)) (Congruent_sym (add-negated p b large)))) (omega arith)

  -- a cocycle of the complex extends itself; where the extension of w has the coboundary of a relative cochain, their difference extends w to a cocycle
  pub sub_exact : (n : ℕ) → IsExactAt p (IsCocycle facets n p) (IsCocycle sub n p) (IsCoboundary sub n p) (IsRelativeCoboundary facets sub (n + 1) p) (λ z. z) (connecting p sub)
  sub_exact n = record {
    goes = λ z h. extension_bound n z z (record { at = λ s on. Congruent_refl (z s) }) h;
    comes = λ w h b.
        let e : Cochain = extended_by_zero sub w in
        let z : Cochain = λ s. e s + negated p (b.below s) in (
          z,
          record {
            at = λ s on. Congruent_trans (Congruent_of (minus p e b.below s))
                (Congruent_trans (Congruent_add (b.same.at s on) (Congruent_refl (negated p (coboundary p b.below s)))) (add-negated p (coboundary p b.below s) large));
          },
          none_bound sub n p (λ s. w s + negated p (z s))
              (record {
                at = λ s on.
                    let inside = (extended_inside sub n p w).at s on in
                    let none = (b.relative n refl).at s on in
                    Congruent_from (Congruent_add (add-negated p (w s) large) (Congruent_add (Congruent_scale (p - 1) inside) (Congruent_scale ((p - 1) * (p - 1)) none))) (omega arith);
              }),
        );
  }

  -- the coboundary of an extension is one in the complex; a relative cocycle that is the coboundary of y is that of the extension of y, up to a relative coboundary
  pub relative_exact : (n : ℕ) → IsExactAt p (IsCocycle sub n p) (IsRelativeCocycle facets sub (n + 1) p) (IsRelativeCoboundary facets sub (n + 1) p) (IsCoboundary facets (n + 1) p) (connecting p sub) (λ z. z)
  relative_exact n = record {
    goes = λ w h. record {
      below = grounded (extended_by_zero sub w);
      nothing = refl;
      same = record { at = λ s on. Congruent_sym ((grounded_coboundary facets n p (extended_by_zero sub w)).at s on) };
    };
    comes = λ z h b. (
      b.below,
      record { at = λ s on. Congruent_trans (Congruent_sym (b.same.at s (pair.inside (n + 1) s on))) (h.relative.at s on) },
      (relative_coboundaries facets sub (n + 1) p large pair).alike (λ s. z s + negated p (connecting p sub b.below s)) (λ s. coboundary p b.below s + negated p (connecting p sub b.below s))
          (record { at = λ s on. Congruent_add (b.same.at s on) (Congruent_refl (negated p (connecting p sub b.below s))) })
          (any_extension n b.below b.below (record { at = λ s on. Congruent_refl (b.below s) })),
    );
  }

  -- in degree 0 a coboundary is 0
  pub first_exact : (z : Cochain) → IsRelativeCocycle facets sub 0 p z → IsCoboundary facets 0 p z → IsRelativeCoboundary facets sub 0 p z
  first_exact z h b = zero_bound facets sub 0 p z (no_bound_below facets p z b)

pub pair_maps : OfEachPair PairMaps
pair_maps facets sub n p field pair = record {
  into_cocycles = λ z h. h.closed;
  into_coboundaries = (into_map facets sub p field.large pair n).bound;
  restricted_cocycles = restricted_cocycle facets sub p field.large pair n;
  restricted_coboundaries = (restrict_map facets sub p field.large pair n).bound;
  connected_cocycles = connected_cocycle facets sub p field.large pair n;
  connected_coboundaries = (connect_map facets sub p field.large pair n).bound;
  any_extension = any_extension facets sub p field.large pair n;
}

pub exact_cocycles : OfEachPair ExactCocycles
exact_cocycles facets sub n p field pair = record {
  at_first = first_exact facets sub p field.large pair;
  at_relative = relative_exact facets sub p field.large pair n;
  at_full = full_exact facets sub p field.large pair n;
  at_sub = sub_exact facets sub p field.large pair n;
}
