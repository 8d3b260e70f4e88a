-- The laws of the action of permutations on surjections, which the impls cite: it is an action, it
-- keeps surjections, their arity and degree, and it commutes with the boundary.
use Rattle.std.{proofs.Common.{◌≡◌, ℕ, ◌+◌, ◌-◌, ◌<◌, ◌≤◌, cond, List, [], ◌∷◌, ◌++◌, length, map, refl, sym, ap, ◌∙◌, inl, inr, arith, subst}, specs.Prelude.{ℤ, pos}, proofs.lemmas.List.length-map}
use Rattle.signed_sum.{specs.Names.{is_degenerate, numbers_from, occurs, entry_at, normalized, value_at, weight_of}, proofs.Names.{occurs-cons, occurs-mid, occurs-tail, range-in, range-out}}
use Rattle.surjection_law.{specs.Names.{surjection_boundary, IsOnto, IsRelabelling, IsSurjection, arity, surjection_degree}, proofs.BoundaryPlaces.{value_at-surjection_boundary_places, without_place-cong}, proofs.SurjectionTerms.{arity-positive, narrow}}
use Rattle.table_reduction_law.proofs.{FormalSums.is_degenerate-map, Permutations.{Within, onto-moved, onto-within, place, relabels}}
use Rattle.composition_law.proofs.Renaming.{Back, boundary-moved}
use Rattle.operad_law.{specs.Permutations.{IsPerm, composed, identity}, proofs.PermLemmas.{entry-identity, entry-map, permutation_of}}

-- each entry is from 1 to n
abbrev pub InRange : ℕ → List ℕ → Type 0
InRange n [] = Unit {0}
InRange n (x ∷ u) = (1 ≤ x) × (x ≤ n) × InRange n u

pub range-append : (n : ℕ) (p u : List ℕ) → InRange n p → InRange n u → InRange n (p ++ u)
range-append n [] u a b = b
range-append n (x ∷ p) u a b = (a.0, a.1, range-append n p u a.2 b)

-- entries that are among those from 1 to n are in range
pub among : (n : ℕ) (u : List ℕ) → Within n u → InRange n u
among n [] h = tt
among n (x ∷ u) h =
    let b = range-out x 1 n (h x (occurs-mid x [] u)) in
    (b.0, omega (arith, b.1), among n u (λ v k. h v (occurs-tail v x u k)))

pub in_range : (u : List ℕ) → IsSurjection u → InRange (arity u) u
in_range u s = among (arity u) u (onto-within (arity u) u s.onto)

pub in_numbers : (n : ℕ) (u : List ℕ) → InRange n u → Within n u
in_numbers n [] r v o = absurd (omega (arith, o))
in_numbers n (x ∷ u) r v o = elim (occurs-cons v x u) [
  | inl e ↦ ap (λ w. occurs w (numbers_from 1 n)) e ∙ range-in x 1 n r.0 (omega (arith, r.1))
  | inr e ↦ in_numbers n u r.2 v (sym e ∙ o)
]

pub occurs-arity : (v : ℕ) (u : List ℕ) → occurs v u ≡ 1 → v ≤ arity u
occurs-arity v [] o = absurd (omega (arith, o))
occurs-arity v (x ∷ u) o = elim (occurs-cons v x u) [ inl e ↦ omega (arith, e) | inr e ↦ omega (arith, occurs-arity v u (sym e ∙ o)) ]

range-arity : (n : ℕ) (u : List ℕ) → InRange n u → arity u ≤ n
range-arity n [] r = omega arith
range-arity n (x ∷ u) r = omega (arith, r.1, range-arity n u r.2)

pub arity-is : (n : ℕ) (u : List ℕ) → IsOnto n u → 1 ≤ n → arity u ≡ n
arity-is n u o h = omega (arith, range-arity n u (among n u (onto-within n u o)), occurs-arity n u (o n ∙ range-in n 1 n h (omega arith)))

-- ---- maps of values that move 1 to n about
module _ (t i : ℕ → ℕ) (n : ℕ) (m : IsRelabelling n t i) where
  back : (u : List ℕ) → InRange n u → Back t i u
  back [] r = tt
  back (x ∷ u) r = (m.there_back x (range-in x 1 n r.0 (omega (arith, r.1))), back u r.2)

  degenerate-map : (u : List ℕ) → InRange n u → is_degenerate (map t u) ≡ is_degenerate u
  degenerate-map u r = is_degenerate-map n t i u m (in_numbers n u r)

  -- the boundary of the mapped list
  pub boundary-map : (phi : List ℕ → ℤ) (u : List ℕ) → InRange n u → value_at phi (surjection_boundary (map t u)) ≡ value_at (λ w. phi (map t w)) (surjection_boundary u)
  boundary-map phi u r =
      value_at-surjection_boundary_places phi (map t u)
      ∙ boundary-moved t i u [] (normalized phi) tt (back u r)
      ∙ without_place-cong u [] (λ w. normalized phi (map t w)) (normalized (λ w. phi (map t w)))
      (λ w same. ap (λ b. cond b (pos 0) (phi (map t w))) (degenerate-map w (among n w (λ v o. in_numbers n u r v (sym (same v) ∙ o)))))
      ∙ sym (value_at-surjection_boundary_places (λ w. phi (map t w)) u)

  pub arity-map : (u : List ℕ) → IsOnto n u → 1 ≤ n → arity (map t u) ≡ n
  arity-map u o h = arity-is n (map t u) (onto-moved n t i u m o) h

  pub IsSurjection-map : (u : List ℕ) → IsSurjection u → arity u ≡ n → IsSurjection (map t u)
  IsSurjection-map u s e =
      let r : InRange n u = subst (λ (k : ℕ). InRange k u) e (in_range u s) in
      let o : IsOnto n u = subst (λ (k : ℕ). IsOnto k u) e s.onto in
      let a : arity (map t u) ≡ n = arity-map u o (omega (arith, arity-positive u s)) in
      let l = length-map u t in
      record {
        some = omega (arith, s.some);
        short = omega (arith, s.short);
        narrow = omega (arith, s.narrow);
        onto = rw a (onto-moved n t i u m o);
        plain = degenerate-map u r ∙ s.plain;
      }

-- ---- permutations
permutes : (tau u : List ℕ) → IsPerm tau → length tau ≡ arity u → IsRelabelling (arity u) (entry_at tau) (place tau)
permutes tau u p l = relabels (arity u) tau (permutation_of (arity u) tau p l)

pub act_valid : (tau u : List ℕ) → IsSurjection u → IsPerm tau → length tau ≡ arity u → IsSurjection (composed tau u)
act_valid tau u s p l = IsSurjection-map (entry_at tau) (place tau) (arity u) (permutes tau u p l) u s refl

pub act_arity : (tau u : List ℕ) → IsSurjection u → IsPerm tau → length tau ≡ arity u → arity (composed tau u) ≡ arity u
act_arity tau u s p l = arity-map (entry_at tau) (place tau) (arity u) (permutes tau u p l) u s.onto (arity-positive u s)

pub act_degree : (tau u : List ℕ) → IsSurjection u → IsPerm tau → length tau ≡ arity u → surjection_degree (composed tau u) ≡ surjection_degree u
act_degree tau u s p l = λ i. length-map u (entry_at tau) i - act_arity tau u s p l i

pub identity-fixes : (n : ℕ) (u : List ℕ) → InRange n u → composed (identity n) u ≡ u
identity-fixes n [] r = refl
identity-fixes n (x ∷ u) r = λ i. entry-identity n x r.0 r.1 i ∷ identity-fixes n u r.2 i

pub act_identity : (u : List ℕ) → IsSurjection u → composed (identity (arity u)) u ≡ u
act_identity u s = identity-fixes (arity u) u (in_range u s)

pub map-composed : (f : ℕ → ℕ) (tau u : List ℕ) → InRange (length tau) u → map f (composed tau u) ≡ composed (map f tau) u
map-composed f tau [] r = refl
map-composed f tau (x ∷ u) r = λ i. sym (entry-map f tau x r.0 r.1) i ∷ map-composed f tau u r.2 i

pub act_composed : (sigma tau u : List ℕ) → IsSurjection u → IsPerm sigma → IsPerm tau → length sigma ≡ arity u → length tau ≡ arity u → composed sigma (composed tau u) ≡ composed (composed sigma tau) u
act_composed sigma tau u s p q k l = map-composed (entry_at sigma) tau u (rw l (in_range u s))

pub boundary_act : (phi : List ℕ → ℤ) (tau u : List ℕ) → IsSurjection u → IsPerm tau → length tau ≡ arity u → value_at phi (surjection_boundary (composed tau u)) ≡ value_at (λ w. phi (composed tau w)) (surjection_boundary u)
boundary_act phi tau u s p l = boundary-map (entry_at tau) (place tau) (arity u) (permutes tau u p l) phi u (in_range u s)

-- ---- bounds
pub boundary_weight : (u : List ℕ) → IsSurjection u → weight_of (surjection_boundary u) ≤ 510
boundary_weight u s = omega (arith, narrow u s)

pub narrow_degree : (u : List ℕ) → IsSurjection u → surjection_degree u ≤ 255
narrow_degree u s = omega (arith, s.short)
