-- The canonical classes and coboundaries of one degree: coboundaries by their values at the pivots, and a basis.
use Rattle.std.{proofs.Common.{◌≡◌, ℕ, suc, ◌+◌, ◌*◌, ◌-◌, ◌<◌, ◌⊎◌, inl, inr, List, [], ◌∷◌, map, length, get_or, arith, refl, sym, ap, subst, ◌∙◌}, specs.List.AllZip, proofs.lemmas.List.length-map}
use Rattle.linear_law.{specs.Names.{Congruent, IsField, negated, Among, Each, IsAscending, ListsAll, IsCanonical, IsPivot, IsReduced, IsSubspace, combination, expansion}, proofs.Names.{Congruent_add, Congruent_from, Congruent_of, Congruent_scale, Congruent_sym, Congruent_trans, add-negated, zero_if, each_among, each_map, each_of_map, each_unmap, each_zip, same_or_not, coefficients, coefficients_count, coefficients_small, combination_expanded, combination_in, combination_vanishes, expanded_in, same_coefficients, sum_picks}}
use Rattle.simplicial_law.{specs.Names.{IsInOrder, IsSimplex, Precedes, AgreesOnSimplices, Chain, Cochain, HasCoordinates, IsCoboundary, IsCocycle, IsCohomologyBasis, IsCanonicalClass, IsCanonicalCoboundary, IsCoboundaryPivot, IsCocyclePivot, AreCanonicalBases, AreCanonicalClasses, IsCanonicalBasis, cochain_of, cochain_at, of_degree}, specs.ListedSimplices.simplices, proofs.Names.{bounds_close, coboundaries, cocycles, listed_simplices_law, lists_compare, lists_strict, agree_by_place, cochain_at-value, lead_up}}
use Rattle.report_law.{specs.Names.{AreClasses, Classes}, proofs.BoundRows.{BoundRows, Row, bound-rows, lead, value}}

-- ---- lists

pub among_or_not : (s : List ℕ) (ss : List (List ℕ)) → Among s ss ⊎ (Among s ss → ⊥)
among_or_not s [] = inr (λ m. m)
among_or_not s (t ∷ ts) =
    elim (same_or_not Precedes lists_compare lists_strict t s) [
      | inl e ↦ inl (inl e)
      | inr n ↦ elim (among_or_not s ts) [
        | inl m ↦ inl (inr m)
        | inr o ↦ inr (λ m. elim m [ inl e ↦ n e | inr k ↦ o k ])
      ]
    ]

each_of_places : (P : List ℕ → Type 0) (ss : List (List ℕ)) → ((k : ℕ) → k < length ss → P (get_or ss k [])) → Each P ss
each_of_places P [] h = tt
each_of_places P (s ∷ ss) h = (h 0 (omega arith), each_of_places P ss (λ k b. h (suc k) (omega arith)))

pub before_rest : (s : List ℕ) (ss : List (List ℕ)) → IsInOrder (s ∷ ss) → Each (Precedes s) ss
before_rest s ss o = each_of_places (Precedes s) ss (λ k b. o 0 (suc k) (omega arith) (omega arith))

pub rest_in_order : (s : List ℕ) (ss : List (List ℕ)) → IsInOrder (s ∷ ss) → IsInOrder ss
rest_in_order s ss o j k b c = o (suc j) (suc k) (omega arith) (omega arith)

-- the classes, each with its pivot
abbrev pub class_rows : List (List ℕ) → List Chain → List Row
class_rows [] ts = []
class_rows (s ∷ ss) [] = []
class_rows (s ∷ ss) (t ∷ ts) = (s, cochain_of t) ∷ class_rows ss ts

module _ (facets : List (List ℕ)) (ascending : Each IsAscending facets) (n p : ℕ) (field : IsField p) where
  abbrev here : List (List ℕ)
  here = of_degree n (simplices facets)

  all_here : ListsAll (IsSimplex facets n) here
  all_here = listed_simplices_law.of_one_degree facets n ascending

  ordered_here : IsInOrder here
  ordered_here = listed_simplices_law.degree_in_order facets n

  -- a member of a space that is zero at all pivots is zero
  pub vanishes : (N : Cochain → Type 0) → IsSubspace p (IsSimplex facets n) N → (f : Cochain) → N f → ((s : List ℕ) → IsPivot p (IsSimplex facets n) Precedes N s → Congruent p (f s) 0) → AgreesOnSimplices facets n p f (λ s. 0)
  vanishes N space f f_in h =
      let v : ℕ → ℕ = λ x. f (get_or here x []) in
      let same = agree_by_place facets n p here all_here (cochain_at here v) f (λ x b. Congruent_of (cochain_at-value facets n p here all_here v x b)) in
      let none = zero_if p (length here) v
      (λ t l. h (get_or here t []) (record { vector = cochain_at here v; member = space.alike (cochain_at here v) f same f_in; lead = lead_up facets n p here all_here ordered_here v t l })) in
      agree_by_place facets n p here all_here f (λ s. 0) (λ x b. none.at x b)

  -- canonical members at pivots in order are reduced
  pub reduced_rows : (N : Cochain → Type 0) (rs : List Row) → Each (λ r. IsCanonical p (IsSimplex facets n) Precedes N r.0 r.1) rs → IsInOrder (map lead rs) → IsReduced p lead value rs
  reduced_rows N [] c o = tt
  reduced_rows N (r ∷ rs) c o = (
    c.0.one,
    each_zip
        (λ s k b. (
          c.0.others s.0 k.pivot (λ e. lists_strict r.0 (subst (λ (t : List ℕ). Precedes r.0 t) e b)),
          k.others r.0 c.0.pivot (λ e. lists_strict r.0 (subst (λ (t : List ℕ). Precedes r.0 t) (sym e) b)),
        ))
        rs c.1 (each_unmap (Precedes r.0) lead rs (before_rest r.0 (map lead rs) o)),
    reduced_rows N rs c.1 (rest_in_order r.0 (map lead rs) o),
  )

  -- canonical coboundaries, one for each pivot
  abbrev pub canonical-bounds : (rs : List Row) → Each (λ r. IsCanonicalCoboundary facets n p r.0 r.1) rs → IsInOrder (map lead rs) → ((s : List ℕ) → IsCoboundaryPivot facets n p s → Among s (map lead rs)) → BoundRows facets n p
  canonical-bounds rs canonical in_order all = record {
    rows = rs;
    members = each_map (λ r k. k.member) rs canonical;
    pivots = each_map (λ r k. k.pivot) rs canonical;
    reduced = reduced_rows (IsCoboundary facets n p) rs canonical in_order;
    all = all;
  }

  module _ (given : BoundRows facets n p) where
    abbrev bounds : List Row
    bounds = given.rows

    -- the coboundary with the values of f at the pivots
    abbrev pub expanded : Cochain → Cochain
    expanded f = expansion lead value bounds f

    pub expanded_bound : (f : Cochain) → IsCoboundary facets n p (expanded f)
    expanded_bound f = expanded_in p lead value (coboundaries facets n p field.large) f bounds given.members

    at_pivot : (f : Cochain) (s : List ℕ) → Among s (map lead bounds) → Congruent p (expanded f s) (f s)
    at_pivot f s m =
        each_among (λ t. Congruent p (expanded f t) (f t)) s (map lead bounds)
        (each_of_map (λ t. Congruent p (expanded f t) (f t)) lead bounds (sum_picks p lead value (λ r. f r.0) bounds given.reduced)) m

    less : Cochain → Cochain → Cochain
    less f g s = f s + (p - 1) * g s

    less-zero : (f g : Cochain) (s : List ℕ) → Congruent p (g s) (f s) → Congruent p (less f g s) 0
    unfolding less
    less-zero f g s h = Congruent_from (Congruent_add (Congruent_scale (p - 1) h) (add-negated p (f s) field.large)) (omega arith)

    same-of-less : (f g : Cochain) → AgreesOnSimplices facets n p (less f g) (λ s. 0) → AgreesOnSimplices facets n p f g
    unfolding less
    same-of-less f g h = record { at = λ s on. Congruent_from (Congruent_add (h.at s on) (Congruent_sym (add-negated p (g s) field.large))) (omega arith) }

    -- a coboundary that is zero at the pivots is zero
    bound_vanishes : (f : Cochain) → IsCoboundary facets n p f → ((s : List ℕ) → Among s (map lead bounds) → Congruent p (f s) 0) → AgreesOnSimplices facets n p f (λ s. 0)
    bound_vanishes f f_in h = vanishes (IsCoboundary facets n p) (coboundaries facets n p field.large) f f_in (λ s q. h s (given.all s q))

    -- a coboundary is told by its values at the pivots
    pub bound_expanded : (f : Cochain) → IsCoboundary facets n p f → AgreesOnSimplices facets n p f (expanded f)
    unfolding less
    bound_expanded f f_in =
        same-of-less f (expanded f)
        (bound_vanishes (less f (expanded f)) ((coboundaries facets n p field.large).plus (p - 1) f (expanded f) f_in (expanded_bound f)) (λ s m. less-zero f (expanded f) s (at_pivot f s m)))

    -- The canonical classes.
    module _ (classes : List Chain) (are : AreCanonicalClasses facets n p classes) where
      abbrev pub rows : List Row
      rows = class_rows are.pivots classes

      abbrev IsClassRow : Row → Type 0
      IsClassRow r = IsCanonicalClass facets n p r.0 r.1

      leads_are : (ss : List (List ℕ)) (ts : List Chain) → AllZip (λ s terms. IsCanonicalClass facets n p s (cochain_of terms)) ss ts → map lead (class_rows ss ts) ≡ ss
      leads_are [] ts h = refl
      leads_are (s ∷ ss) [] h = absurd h
      leads_are (s ∷ ss) (t ∷ ts) h = ap (λ (us : List (List ℕ)). s ∷ us) (leads_are ss ts h.1)

      values_are : (ss : List (List ℕ)) (ts : List Chain) → AllZip (λ s terms. IsCanonicalClass facets n p s (cochain_of terms)) ss ts → map value (class_rows ss ts) ≡ map cochain_of ts
      values_are [] [] h = refl
      values_are (s ∷ ss) (t ∷ ts) h = ap (λ (us : List Cochain). cochain_of t ∷ us) (values_are ss ts h.1)
      values_are _ _ h = absurd h

      each_is : (ss : List (List ℕ)) (ts : List Chain) → AllZip (λ s terms. IsCanonicalClass facets n p s (cochain_of terms)) ss ts → Each IsClassRow (class_rows ss ts)
      each_is (s ∷ ss) (t ∷ ts) h = (h.0, each_is ss ts h.1)
      each_is _ _ h = tt

      class_leads : map lead rows ≡ are.pivots
      class_leads = leads_are are.pivots classes are.canonical

      pub class_values : map value rows ≡ map cochain_of classes
      class_values = values_are are.pivots classes are.canonical

      pub are_classes : Each IsClassRow rows
      are_classes = each_is are.pivots classes are.canonical

      pub class_reduced : IsReduced p lead value rows
      class_reduced =
          reduced_rows (IsCocycle facets n p) rows (each_map (λ r k. k.canonical) rows are_classes)
          (subst (λ (ss : List (List ℕ)). IsInOrder ss) (sym class_leads) are.in_order)

      closed_pivot : (s : List ℕ) → IsCoboundaryPivot facets n p s → IsCocyclePivot facets n p s
      closed_pivot s q = record { vector = q.vector; member = bounds_close facets n p field.large q.vector q.member; lead = q.lead }

      bound_pivot : (s : List ℕ) → Among s (map lead bounds) → IsCoboundaryPivot facets n p s
      bound_pivot s m = each_among (IsCoboundaryPivot facets n p) s (map lead bounds) (each_of_map (IsCoboundaryPivot facets n p) lead bounds given.pivots) m

      -- classes are zero at the pivots of the coboundaries
      pub classes_zero : (s : List ℕ) → Among s (map lead bounds) → Each (λ r. Congruent p (r.1 s) 0) rows
      classes_zero s m =
          each_map (λ r k. k.canonical.others s (closed_pivot s (bound_pivot s m)) (λ e. k.no_bound (subst (IsCoboundaryPivot facets n p) e (bound_pivot s m)))) rows are_classes

      module _ (z : Cochain) (closed : IsCocycle facets n p z) where
        -- z less the coboundary with its values at the pivots
        cleared : Cochain
        unfolding less
        cleared = less z (expanded z)

        cleared_zero : (s : List ℕ) → Among s (map lead bounds) → Congruent p (cleared s) 0
        unfolding cleared
        cleared_zero s m = less-zero z (expanded z) s (at_pivot z s m)

        coordinates : List ℕ
        coordinates = coefficients p lead value cleared rows

        left : Cochain
        left = less cleared (combination coordinates (map value rows))

        left_closed : IsCocycle facets n p left
        unfolding left cleared less
        left_closed =
            let m = cocycles facets n p field.large in
            m.plus (p - 1) cleared (combination coordinates (map value rows)) (m.plus (p - 1) z (expanded z) closed (bounds_close facets n p field.large (expanded z) (expanded_bound z)))
            (combination_in p lead value m coordinates rows (each_map (λ r k. k.canonical.member) rows are_classes))

        left_zero : (s : List ℕ) → IsCocyclePivot facets n p s → Congruent p (left s) 0
        unfolding left coordinates
        left_zero s q =
            less-zero cleared (combination coordinates (map value rows)) s
            (elim (among_or_not s (map lead bounds)) [
              | inl m ↦ Congruent_trans (combination_vanishes p lead value s coordinates rows (classes_zero s m)) (Congruent_sym (cleared_zero s m))
              | inr o ↦
                  let a : Among s (map lead rows) = subst (λ (ss : List (List ℕ)). Among s ss) (sym class_leads) (are.all s q (λ b. o (given.all s b))) in
                  Congruent_trans (combination_expanded p lead value cleared rows s)
                  (each_among (λ t. Congruent p (expansion lead value rows cleared t) (cleared t)) s (map lead rows)
                  (each_of_map (λ t. Congruent p (expansion lead value rows cleared t) (cleared t)) lead rows (sum_picks p lead value (λ r. cleared r.0) rows class_reduced)) a)
            ])

        rest_bound : IsCoboundary facets n p (λ s. z s + negated p (combination coordinates (map value rows) s))
        unfolding left cleared less
        rest_bound =
            let none = vanishes (IsCocycle facets n p) (cocycles facets n p field.large) left left_closed left_zero in
            (coboundaries facets n p field.large).alike (λ s. z s + negated p (combination coordinates (map value rows) s)) (expanded z)
            (record { at = λ s on. Congruent_from (Congruent_add (none.at s on) (Congruent_sym (add-negated p (expanded z s) field.large))) (omega arith) }) (expanded_bound z)

        has_coordinates : (cs : List ℕ) × HasCoordinates facets n p (map value rows) z cs
        unfolding coordinates
        has_coordinates = (
          coordinates,
          record {
            count = coefficients_count p lead value cleared rows ∙ sym (length-map rows value);
            small = coefficients_small p lead value cleared rows field.large;
            rest = rest_bound;
          },
        )

      only_coordinates : (z : Cochain) (cs ds : List ℕ) → HasCoordinates facets n p (map value rows) z cs → HasCoordinates facets n p (map value rows) z ds → cs ≡ ds
      unfolding less
      only_coordinates z cs ds h k =
          let f : Cochain = combination cs (map value rows) in
          let g : Cochain = combination ds (map value rows) in
          let m = coboundaries facets n p field.large in
          let bound = m.alike (less f g) (λ s. (z s + negated p (g s)) + (p - 1) * (z s + negated p (f s)))
          (record {
            at = λ s on. Congruent_from
                (Congruent_add (Congruent_sym (Congruent_scale (p - 1) (add-negated p (f s) field.large))) (Congruent_add (Congruent_sym (add-negated p (z s) field.large)) (add-negated p (f s) field.large)))
                (omega arith);
          })
          (m.plus (p - 1) (λ s. z s + negated p (g s)) (λ s. z s + negated p (f s)) k.rest h.rest) in
          let none = same-of-less f g (bound_vanishes (less f g) bound
          (λ s a. less-zero f g s (Congruent_trans (combination_vanishes p lead value s ds rows (classes_zero s a)) (Congruent_sym (combination_vanishes p lead value s cs rows (classes_zero s a)))))) in
          same_coefficients p lead value cs ds rows (h.count ∙ length-map rows value) (k.count ∙ length-map rows value) h.small k.small class_reduced
          (each_map (λ r c. none.at r.0 c.canonical.pivot.lead.on) rows are_classes)

      -- the canonical classes are a basis of cohomology
      pub is_basis : IsCohomologyBasis facets n p (map cochain_of classes)
      is_basis = subst (λ (zs : List Cochain). IsCohomologyBasis facets n p zs) class_values (record {
        cocycles = each_of_map (IsCocycle facets n p) value rows (each_map (λ r k. k.canonical.member) rows are_classes);
        coordinates = has_coordinates;
        only = λ z cs ds closed h k. only_coordinates z cs ds h k;
      })

-- canonical classes are a basis of cohomology
pub classes_basis : (facets : List (List ℕ)) → Each IsAscending facets → (n p : ℕ) → IsField p → (classes : List Chain) → AreCanonicalClasses facets n p classes → IsCanonicalBasis facets n p classes
classes_basis facets ascending n p field classes are = record { canonical = are; basis = is_basis facets ascending n p field (bound-rows facets ascending n p field) classes are }

pub bases-of : (facets : List (List ℕ)) → Each IsAscending facets → (p : ℕ) → IsField p → (classes : Classes) → AreClasses facets p classes → AreCanonicalBases facets p classes
bases-of facets ascending p field classes are = record {
  each = λ n b. classes_basis facets ascending n p field (get_or classes n []) (are.each n b);
  inhabited = are.inhabited;
  whole = are.whole;
}
