-- What a walk of the rows of relative cochains tells of the relative cocycles of one degree and of the relative
-- coboundaries of the next.
use Rattle.std.proofs.Common.{◌≡◌, ℕ, ◌+◌, ◌*◌, ◌<◌, inl, inr, Bool, true, false, cond, List, [], length, get_or, arith, refl, sym, ap, subst, ◌∙◌}
use Rattle.std.specs.List.{AllZip}
use Rattle.std.proofs.lemmas.Bool.{cases_Bool}
use Rattle.linear_law.specs.Names.{Congruent, IsImage, IsInKernel, IsLinear, ListsAll, row_combination}
use Rattle.linear_law.proofs.Names.{Congruent_of, Congruent_refl, Congruent_sym, Congruent_trans, each_get_or, zip_change, unit_sum-past}
use Rattle.signed_sum.proofs.Names.{is_same_list-true}
use Rattle.simplicial_law.specs.Names.{IsSimplex, AgreesOnSimplices, Cochain, coboundary, is_same_list, unit_cochain, cochain_at}
use Rattle.simplicial_law.proofs.Names.{coboundary_plus, coboundary_same, coboundary_zero, IsLinearMap, by_place, combined_rows, linear_by_place, agree_by_place, cochain_at-value, simplex_at, unit_away, unit_here}
use Rattle.relative_law.proofs.Covered.{covered_simplex, simplex_covered}
use Rattle.relative_law.specs.Names.{IsRelativeCoboundary, IsRelativeCochain, IsRelativeCocycle, IsSubcomplex, is_covered, IsRelativeCoboundaryRow}

-- ---- cochains outside the subcomplex

-- the cochain, made 0 on the subcomplex
abbrev pub outside : List (List ℕ) → Cochain → Cochain
outside sub f s = cond (is_covered sub s) 0 (f s)

outside_plus : (sub : List (List ℕ)) (k : ℕ) (f g : Cochain) (s : List ℕ) → outside sub (λ t. f t + k * g t) s ≡ outside sub f s + k * outside sub g s
outside_plus sub k f g s = go (is_covered sub s)
  where
    go : (b : Bool) → cond b 0 (f s + k * g s) ≡ cond b 0 (f s) + k * cond b 0 (g s)
    go true = omega arith
    go false = refl

outside_same : (facets sub : List (List ℕ)) (n p : ℕ) (f g : Cochain) → AgreesOnSimplices facets n p f g → AgreesOnSimplices facets n p (outside sub f) (outside sub g)
outside_same facets sub n p f g h = record { at = λ s on. go (is_covered sub s) (h.at s on) }
  where
    go : {a c : ℕ} (b : Bool) → Congruent p a c → Congruent p (cond b 0 a) (cond b 0 c)
    go true k = Congruent_refl 0
    go false k = k

-- it is a relative cochain, and a relative cochain is its own
pub outside_relative : (sub : List (List ℕ)) (n p : ℕ) (f : Cochain) → IsRelativeCochain sub n p (outside sub f)
outside_relative sub n p f = record { at = λ s on. Congruent_of (ap (λ b. cond b 0 (f s)) (simplex_covered sub n s on)) }

pub outside_itself : (facets sub : List (List ℕ)) (n p : ℕ) (f : Cochain) → IsRelativeCochain sub n p f → AgreesOnSimplices facets n p (outside sub f) f
outside_itself facets sub n p f h = record {
  at = λ s on. elim (cases_Bool (is_covered sub s)) [
    | inl e ↦ Congruent_trans (Congruent_of (ap (λ b. cond b 0 (f s)) e)) (Congruent_sym (h.at s (covered_simplex facets sub n s on e)))
    | inr e ↦ Congruent_of (ap (λ b. cond b 0 (f s)) e)
  ];
}

outside_unit : (sub : List (List ℕ)) (s t : List ℕ) → outside sub (unit_cochain s) t ≡ cond (is_covered sub s) 0 (unit_cochain s t)
outside_unit sub s t = elim (cases_Bool (is_same_list s t)) [
  | inl e ↦ (let q = is_same_list-true s t e in ap (λ (u : List ℕ). cond (is_covered sub u) 0 (unit_cochain s t)) (sym q))
  | inr e ↦ both (is_covered sub t) (is_covered sub s) (unit_cochain s t) (ap (λ b. cond b 1 0) e)
]
  where
    both : (b c : Bool) (n : ℕ) → n ≡ 0 → cond b 0 n ≡ cond c 0 n
    both true true n h = refl
    both true false n h = sym h
    both false true n h = h
    both false false n h = refl

-- the coboundary of the cochain outside
abbrev pub outer : ℕ → List (List ℕ) → Cochain → Cochain
outer p sub f = coboundary p (outside sub f)

outer_plus : (p : ℕ) (sub : List (List ℕ)) (k : ℕ) (f g : Cochain) (s : List ℕ) → outer p sub (λ t. f t + k * g t) s ≡ outer p sub f s + k * outer p sub g s
outer_plus p sub k f g s = ap (λ (h : Cochain). coboundary p h s) (λ i t. outside_plus sub k f g t i) ∙ coboundary_plus p k (outside sub f) (outside sub g) s

outer_zero : (p : ℕ) (sub : List (List ℕ)) (s : List ℕ) → outer p sub (λ t. 0) s ≡ 0
outer_zero p sub s = ap (λ (h : Cochain). coboundary p h s) (λ i t. none (is_covered sub t) i) ∙ coboundary_zero p s
  where
    nothing : Bool → ℕ
    nothing b = cond b 0 0

    none : (b : Bool) → nothing b ≡ 0
    none true = refl
    none false = refl

outer_same : (facets sub : List (List ℕ)) (n p : ℕ) (f g : Cochain) → AgreesOnSimplices facets n p f g → AgreesOnSimplices facets (n + 1) p (outer p sub f) (outer p sub g)
outer_same facets sub n p f g h = coboundary_same facets n p (outside sub f) (outside sub g) (outside_same facets sub n p f g h)

pub outer_itself : (facets sub : List (List ℕ)) (n p : ℕ) (f : Cochain) → IsRelativeCochain sub n p f → AgreesOnSimplices facets (n + 1) p (outer p sub f) (coboundary p f)
outer_itself facets sub n p f h = coboundary_same facets n p (outside sub f) f (outside_itself facets sub n p f h)

outer_unit : (p : ℕ) (sub : List (List ℕ)) (s t : List ℕ) → outer p sub (unit_cochain s) t ≡ cond (is_covered sub s) 0 (coboundary p (unit_cochain s) t)
outer_unit p sub s t = ap (λ (h : Cochain). coboundary p h t) (λ i u. outside_unit sub s u i) ∙ go (is_covered sub s)
  where
    go : (b : Bool) → coboundary p (λ u. cond b 0 (unit_cochain s u)) t ≡ cond b 0 (coboundary p (unit_cochain s) t)
    go true = coboundary_zero p t
    go false = refl

-- ---- rows

-- L is the coboundary of the cochain outside, by places
pub record IsOuterByPlace (p : ℕ) (sub here above : List (List ℕ)) (L : (ℕ → ℕ) → ℕ → ℕ) : Type 0 where
  pub same : (v : ℕ → ℕ) (j : ℕ) → j < length above → Congruent p (L v j) (outer p sub (cochain_at here v) (get_or above j []))

outer_map : (p : ℕ) (sub : List (List ℕ)) → IsLinearMap (outer p sub)
outer_map p sub = record { nothing = outer_zero p sub; plus = outer_plus p sub }

pub rows_by_place : (p : ℕ) (sub above here : List (List ℕ)) (rows : List (ℕ → ℕ)) → AllZip (IsRelativeCoboundaryRow p sub above) rows here → IsOuterByPlace p sub here above (row_combination rows)
rows_by_place p sub above here rows are =
    let given : List ℕ → (ℕ → ℕ) → Type 0 = λ s r. (j : ℕ) → j < length above → Congruent p (r j) (outer p sub (unit_cochain s) (get_or above j [])) in
    record {
      same = λ v j b. combined_rows p (outer p sub) (outer_map p sub) above 0 rows here v j b
          (zip_change (IsRelativeCoboundaryRow p sub above) (λ r s. given s r) (λ r s h j b. Congruent_trans (h j b) (Congruent_of (sym (outer_unit p sub s (get_or above j []))))) rows here are);
    }

-- ---- by places

-- v is 0 at the places of the subcomplex
pub record IsOff (sub : List (List ℕ)) (n p : ℕ) (here : List (List ℕ)) (v : ℕ → ℕ) : Type 0 where
  pub at : (x : ℕ) → x < length here → IsSimplex sub n (get_or here x []) → Congruent p (v x) 0

module _ (facets sub : List (List ℕ)) (n p : ℕ) (pair : IsSubcomplex sub facets)
    (here : List (List ℕ)) (all_here : ListsAll (IsSimplex facets n) here) where
  pub off_up : (v : ℕ → ℕ) → IsOff sub n p here v → IsRelativeCochain sub n p (cochain_at here v)
  off_up v h = record {
    at = λ s on.
        let q = all_here.whole s (pair.inside n s on) in
        let P : List ℕ → Type 0 = λ t. Congruent p (cochain_at here v t) 0 in
        subst P (q.2 []) (Congruent_trans (Congruent_of (cochain_at-value facets n p here all_here v q.0 q.1)) (h.at q.0 q.1 (subst (IsSimplex sub n) (sym (q.2 [])) on)));
  }

  pub off_down : (f : Cochain) → IsRelativeCochain sub n p f → IsOff sub n p here (λ x. f (get_or here x []))
  off_down f h = record { at = λ x b on. h.at (get_or here x []) on }

  module _ (above : List (List ℕ)) (all_above : ListsAll (IsSimplex facets (n + 1)) above)
      (L : (ℕ → ℕ) → ℕ → ℕ) (is_outer : IsOuterByPlace p sub here above L) where
    values_down : (v : ℕ → ℕ) (f : Cochain) → ((x : ℕ) → x < length here → Congruent p (v x) (f (get_or here x []))) → (j : ℕ) → j < length above → Congruent p (L v j) (outer p sub f (get_or above j []))
    values_down = by_place facets n p (outer p sub) (outer_map p sub) (outer_same facets sub n p) here all_here above all_above L is_outer.same

    pub linear : IsLinear p (length here) (λ y. y < length above) L
    linear = linear_by_place facets n p (outer p sub) (outer_map p sub) (outer_same facets sub n p) here all_here above all_above L is_outer.same

    pub cocycle_up : (v : ℕ → ℕ) → IsInKernel p (λ y. y < length above) L v → IsOff sub n p here v → IsRelativeCocycle facets sub n p (cochain_at here v)
    cocycle_up v h off = record {
      relative = off_up v off;
      closed = agree_by_place facets (n + 1) p above all_above (coboundary p (cochain_at here v)) (λ s. 0)
          (λ j b. Congruent_trans (Congruent_sym ((outer_itself facets sub n p (cochain_at here v) (off_up v off)).at (get_or above j []) (simplex_at facets (n + 1) p above all_above j b)))
          (Congruent_trans (Congruent_sym (is_outer.same v j b)) (h.at j b)));
    }

    pub cocycle_down : (f : Cochain) → IsRelativeCocycle facets sub n p f → IsInKernel p (λ y. y < length above) L (λ x. f (get_or here x []))
    cocycle_down f h = record {
      at = λ j b.
          let on = simplex_at facets (n + 1) p above all_above j b in
          Congruent_trans (values_down (λ x. f (get_or here x [])) f (λ x c. Congruent_of refl) j b)
          (Congruent_trans ((outer_itself facets sub n p f h.relative).at (get_or above j []) on) (h.closed.at (get_or above j []) on));
    }

    pub coboundary_up : (w : ℕ → ℕ) → IsImage p (λ y. y < length above) L w → IsRelativeCoboundary facets sub (n + 1) p (cochain_at above w)
    coboundary_up w h = record {
      below = outside sub (cochain_at here h.source);
      nothing = none (is_covered sub []) (unit_sum-past unit_cochain unit_here unit_away 0 here h.source [] (λ j d b e. let on = each_get_or (IsSimplex facets n) here j d b all_here.sound in absurd (omega (arith, on.size, ap (λ (t : List ℕ). length t) e))));
      relative = λ m e. subst (λ (i : ℕ). IsRelativeCochain sub i p (outside sub (cochain_at here h.source))) (let q : n ≡ m = omega arith in q) (outside_relative sub n p (cochain_at here h.source));
      same = agree_by_place facets (n + 1) p above all_above (cochain_at above w) (outer p sub (cochain_at here h.source))
          (λ j b. Congruent_trans (Congruent_of (cochain_at-value facets (n + 1) p above all_above w j b)) (Congruent_trans (h.same.at j b) (is_outer.same h.source j b)));
    }
      where
        none : {a : ℕ} (b : Bool) → a ≡ 0 → cond b 0 a ≡ 0
        none true e = refl
        none false e = e

    pub coboundary_down : (f : Cochain) → IsRelativeCoboundary facets sub (n + 1) p f → IsImage p (λ y. y < length above) L (λ x. f (get_or above x []))
    coboundary_down f h = record {
      source = λ x. h.below (get_or here x []);
      same = record {
        at = λ j b.
            let on = simplex_at facets (n + 1) p above all_above j b in
            Congruent_trans (h.same.at (get_or above j []) on)
            (Congruent_trans (Congruent_sym ((outer_itself facets sub n p h.below (h.relative n refl)).at (get_or above j []) on))
            (Congruent_sym (values_down (λ x. h.below (get_or here x [])) h.below (λ x c. Congruent_of refl) j b)));
      };
    }
