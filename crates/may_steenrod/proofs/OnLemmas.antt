-- A cochain of degree n by its row: it is 0 on lists that are no simplices of degree n of the complex.
use Rattle.std.proofs.{Common.{◌≡◌, ◌≢◌, ◌⊎◌, inl, inr, ℕ, zero, suc, ◌+◌, ◌*◌, ◌%◌, ◌<◌, ◌≤◌, List, [], ◌∷◌, length, get_or, cond, arith, refl, sym, ap, ap₂, subst, ◌∙◌, IsTrue}, lemmas.Bool.{cases_Bool, cases_eq, cases_lt}}
use Rattle.fp_field.{proofs.ServedLemmas.served_large, specs.Served.served}
use native.Mathlib.Nat.{zero-mod}
use Rattle.linear_law.{specs.Names.{Among, ListsAll, unit_vector}, proofs.Names.{each_get_or, each_itself, unit_one, unit_other}}
use Rattle.signed_sum.proofs.Names.{is_same_list-true}
use Rattle.simplicial_law.{specs.Names.{IsSimplex, is_same_list, unit_cochain, cochain_of, terms_of}, proofs.Names.{simplex_at, unit_away, unit_here}}
use Rattle.sparse_rows.{specs.Rows.{IsBelow, IsRow, value_in}, proofs.RowLemmas.value_in-small}
use Rattle.complex_index.specs.Names.{IsComplexIndex, level}
use Rattle.may_steenrod.specs.Cochains.{IsOn, cochain_in}

module _ (facets : List (List ℕ)) (n p : ℕ) (here : List (List ℕ)) (all_here : ListsAll (IsSimplex facets n) here) where
  unit_by_place : (x y : ℕ) → y < length here → unit_cochain (get_or here x []) (get_or here y []) ≡ unit_vector x y
  unit_by_place x y c =
      elim (cases_eq x y) [
        | inl e ↦ subst (λ z. unit_cochain (get_or here x []) (get_or here z []) ≡ unit_vector x z) e (unit_here (get_or here x []) ∙ sym (unit_one x x))
        | inr m ↦ unit_away (get_or here x []) (get_or here y []) (apart x y c m) ∙ sym (unit_other x y (λ e. m (sym e)))
      ]
    where
      past : (ss : List (List ℕ)) (i : ℕ) → length ss ≤ i → get_or ss i [] ≡ []
      past [] i h = refl
      past (s ∷ ss) zero h = absurd (omega arith)
      past (s ∷ ss) (suc i) h = past ss i (omega arith)

      apart : (x y : ℕ) → y < length here → x ≢ y → get_or here x [] ≢ get_or here y []
      apart x y c m f =
          elim (cases_lt x (length here)) [
            | inl b ↦ m (all_here.once x y [] b c f)
            | inr b ↦ absurd (let on = simplex_at facets n p here all_here y c in omega (arith, on.size, ap (λ (s : List ℕ). length s) (sym (past here x b) ∙ f)))
          ]

  -- the value at the simplex at a place
  pub value_by_place : (row : List (ℕ × ℕ)) (x : ℕ) → x < length here → cochain_of (terms_of here row) (get_or here x []) ≡ value_in row x
  value_by_place [] x b = refl
  value_by_place (e ∷ es) x b = ap₂ (λ m n. e.1 * m + n) (unit_by_place e.0 x b) (value_by_place es x b)

  -- on a list that is none of the simplices the value is 0
  pub value_elsewhere : (row : List (ℕ × ℕ)) (f : List ℕ) → IsBelow (length here) row → ((x : ℕ) → x < length here → get_or here x [] ≢ f) → cochain_of (terms_of here row) f ≡ 0
  value_elsewhere [] f b h = refl
  value_elsewhere (e ∷ es) f b h =
      omega (arith, ap (λ m. e.1 * m) (unit_away (get_or here e.0 []) f (h e.0 b.0)), value_elsewhere es f b.1 h)

  -- a list that is no simplex of the degree
  value_none : (row : List (ℕ × ℕ)) (f : List ℕ) → IsBelow (length here) row → (IsSimplex facets n f → ⊥) → cochain_of (terms_of here row) f ≡ 0
  value_none row f b h = value_elsewhere row f b (λ x c e. h (subst (IsSimplex facets n) e (simplex_at facets n p here all_here x c)))

  -- either the value is 0, or the list is one of the simplices
  value_or_place : (row : List (ℕ × ℕ)) (f : List ℕ) → IsBelow (length here) row
      → (cochain_of (terms_of here row) f ≡ 0) ⊎ ((x : ℕ) × (x < length here) × (get_or here x [] ≡ f))
  value_or_place [] f b = inl refl
  value_or_place (e ∷ es) f b = elim (cases_Bool (is_same_list (get_or here e.0 []) f)) [
    | inl t ↦ inr (e.0, b.0, is_same_list-true (get_or here e.0 []) f t)
    | inr t ↦ elim (value_or_place es f b.1) [
      | inl z ↦ inl (omega (arith, z, ap (λ c. e.1 * cond c 1 0) t))
      | inr r ↦ inr r
    ]
  ]

pub is_on : (p : ℕ) (levels : List (List (List ℕ))) (n : ℕ) (row : List (ℕ × ℕ)) → IsTrue (served p) → IsComplexIndex levels → IsRow p row → IsBelow (length (level levels n)) row → IsOn p levels n row
is_on p levels n row prime complex pairs inside =
    let all : ListsAll (IsSimplex complex.facets n) (level levels n) = complex.index.lists n in
    let large : 1 < p = served_large p prime in
    record {
      prime = prime;
      small = λ f. elim (value_or_place complex.facets n p (level levels n) all row f inside) [
        | inl z ↦ omega (arith, z)
        | inr r ↦ subst (λ (g : List ℕ). cochain_in levels n row g < p) r.2
            (let v : cochain_in levels n row (get_or (level levels n) r.0 []) ≡ value_in row r.0 = value_by_place complex.facets n p (level levels n) all row r.0 r.1 in
            omega (arith, v, value_in-small p row r.0 (omega arith) pairs))
      ];
      ascending = λ f h. value_none complex.facets n p (level levels n) all row f inside (λ s. h s.ascending);
      long = λ f h. value_none complex.facets n p (level levels n) all row f inside (λ s. h (let z = s.size in omega arith));
      here = λ x b. value_by_place complex.facets n p (level levels n) all row x b;
      elsewhere = λ f h. value_elsewhere complex.facets n p (level levels n) all row f inside h;
    }

module _ (p : ℕ) (levels : List (List (List ℕ))) (n : ℕ) (row : List (ℕ × ℕ)) (on : IsOn p levels n row) (f : List ℕ) where
  pub at-other : (z : ℕ) → z ≡ 0 % p → (length f ≡ n + 1 → ⊥) → z ≡ cochain_in levels n row f
  at-other z e h = e ∙ zero-mod p ∙ sym (on.long f (λ l. h (omega arith)))

  pub at-none : (z : ℕ) → z ≡ 0 % p → ((m : ℕ) → Among f (level levels m) → ⊥) → z ≡ cochain_in levels n row f
  at-none z e h =
      e ∙ zero-mod p
      ∙ sym (on.elsewhere f
      (λ x b q. h n (subst (λ (t : List ℕ). Among t (level levels n)) q (each_get_or (λ (t : List ℕ). Among t (level levels n)) (level levels n) x [] b (each_itself (level levels n))))))

  pub at-place : (m x v : ℕ) → m ≡ n → x < length (level levels m) → get_or (level levels m) x [] ≡ f → v ≡ value_in row x → v ≡ cochain_in levels n row f
  at-place m x v same b q e =
      let there : x < length (level levels n) = subst (λ k. x < length (level levels k)) same b in
      let is : get_or (level levels n) x [] ≡ f = subst (λ k. get_or (level levels k) x [] ≡ f) same q in
      e ∙ sym (on.here x there) ∙ ap (cochain_in levels n row) is
