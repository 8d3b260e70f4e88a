-- The terms of a listed chain one after the other, at ascending places.
use Rattle.std.{proofs.Common.{◌≡◌, ℕ, zero, suc, ◌+◌, ◌-◌, ◌<◌, ◌≢◌, ◌%◌, true, inl, inr, arith, refl, sym, ◌∙◌, ap, subst, List, [], ◌∷◌, ◌++◌, take, length, get_or, Ordering, Less, Equal, Greater, Option, Some, None, mod-eq_of_lt, MatchOption, nat_lt, ltb-true}, specs.Cmp.Lexicographic.nat_list_cmp_total, specs.List.list_all, specs.Ordering.is_lt, proofs.lemmas.Bool.{and_parts, cases_order}, proofs.lemmas.List.{map-append, take_more}}
use Rattle.linear_law.{specs.Names.{Among, Each}, proofs.Names.{each_get_or, each_unmap, each_zip}}
use Rattle.simplicial_law.{specs.Names.{IsInOrder, IsSimplex, Precedes, Chain, simplex_cmp}, proofs.Names.lists_strict}
use Rattle.simplex_set.proofs.Sizes.{among_place}
use Rattle.sparse_rows.specs.Rows.{IsBelow}
use Rattle.complex_index.specs.Names.{IsIndexOf, level}
use Rattle.certificate_law.specs.Names.{IsOn}
use Rattle.report_text_law.specs.Names.{is_chain, is_simplex, is_term, is_unit, terms_ascend}
use Rattle.listed_rows.specs.ListedChains.{IsRowOfChain}

-- in an ordered list what precedes stands before
pub stands_before : (ss : List (List ℕ)) (j k : ℕ) → IsInOrder ss → j < length ss → k < length ss → Precedes (get_or ss j []) (get_or ss k []) → j < k
stands_before ss j k o b c h = elim (cases_order j k) [
  | inl e ↦ absurd (lists_strict (get_or ss k []) (subst (λ (i : ℕ). Precedes (get_or ss i []) (get_or ss k [])) e h))
  | inr r ↦ elim r [
    | inl l ↦ l
    | inr g ↦ absurd (lists_strict (get_or ss j []) (nat_list_cmp_total.trans (get_or ss j []) (get_or ss k []) (get_or ss j []) h (o k j g b)))
  ]
]

-- ---- the terms of a chain

less : (o : Ordering) → is_lt o ≡ true → o ≡ Less
less Less h = refl
less Equal h = absurd cc
less Greater h = absurd cc

first_two : (t u : ℕ × List ℕ) (us : Chain) → terms_ascend (t ∷ u ∷ us) ≡ true → Precedes t.1 u.1 × (terms_ascend (u ∷ us) ≡ true)
first_two t u us h =
    let parts = and_parts (is_lt (simplex_cmp t.1 u.1)) (terms_ascend (u ∷ us)) h in
    (less (simplex_cmp t.1 u.1) parts.0, parts.1)

rest_ascends : (t : ℕ × List ℕ) (ts : Chain) → terms_ascend (t ∷ ts) ≡ true → terms_ascend ts ≡ true
rest_ascends t [] h = refl
rest_ascends t (u ∷ us) h = (first_two t u us h).1

first_precedes : (t : ℕ × List ℕ) (ts : Chain) (i : ℕ) (d : ℕ × List ℕ) → terms_ascend (t ∷ ts) ≡ true → i < length ts → Precedes t.1 (get_or ts i d).1
first_precedes t [] i d h b = absurd (omega (arith, b))
first_precedes t (u ∷ us) zero d h b = (first_two t u us h).0
first_precedes t (u ∷ us) (suc i) d h b =
    let two = first_two t u us h in
    nat_list_cmp_total.trans t.1 u.1 (get_or us i d).1 two.0 (first_precedes u us i d two.1 (omega (arith, b)))

all_precede : (ts : Chain) (i : ℕ) (d : ℕ × List ℕ) → terms_ascend ts ≡ true → i < length ts → Each (λ t. Precedes t.1 (get_or ts i d).1) (take i ts)
all_precede [] i d h b = absurd (omega (arith, b))
all_precede (t ∷ ts) zero d h b = tt
all_precede (t ∷ ts) (suc i) d h b = (first_precedes t ts i d h (omega (arith, b)), all_precede ts i d (rest_ascends t ts h) (omega (arith, b)))

pub coefficients : (p : ℕ) (ts : Chain) → list_all (is_term p) ts ≡ true → Each (λ t. (0 < t.0) × (t.0 < p)) ts
coefficients p [] h = tt
coefficients p (t ∷ ts) h =
    let parts = and_parts (is_term p t) (list_all (is_term p) ts) h in
    let bounds = and_parts (nat_lt 0 t.0) (nat_lt t.0 p) (and_parts (is_unit p t.0) (is_simplex t.1) parts.0).0 in
    ((ltb-true 0 t.0 bounds.0, ltb-true t.0 p bounds.1), coefficients p ts parts.1)

-- ---- the next term

module _ (p : ℕ) (here : List (List ℕ)) (chain : Chain) (listed : is_chain p chain ≡ true) (i : ℕ) (t : ℕ × List ℕ) (is : t ≡ get_or chain i t) (inside : i < length chain) where
  bounds : (0 < t.0) × (t.0 < p)
  bounds = subst (λ (u : ℕ × List ℕ). (0 < u.0) × (u.0 < p)) (sym is)
      (each_get_or (λ (u : ℕ × List ℕ). (0 < u.0) × (u.0 < p)) chain i t inside (coefficients p chain (and_parts (list_all (is_term p) chain) (terms_ascend chain) listed).0))

  -- its coefficient is not 0
  pub next_value : t.0 % p ≢ 0
  next_value e = let q : t.0 % p ≡ t.0 = mod-eq_of_lt bounds.1 in let b = bounds.0 in omega (arith, q, e, b)

  module _ (row : List (ℕ × ℕ)) (is_row : IsRowOfChain here (take i chain) row) (k : ℕ) (place : k < length here) (there : get_or here k [] ≡ t.1) where
    -- its place is behind those of the terms before
    pub next_place : IsInOrder here → IsBelow k row
    next_place ordered =
        let all : Each (λ u. Precedes u.1 t.1) (take i chain) =
        subst (λ (v : ℕ × List ℕ). Each (λ u. Precedes u.1 v.1) (take i chain)) (sym is) (all_precede chain i t (and_parts (list_all (is_term p) chain) (terms_ascend chain) listed).1 inside) in
        let before : Each (λ e. Precedes (get_or here e.0 []) t.1) row =
        each_unmap (λ (u : ℕ × List ℕ). Precedes u.1 t.1) (λ (e : ℕ × ℕ). (e.1, get_or here e.0 [])) row (subst (Each (λ (u : ℕ × List ℕ). Precedes u.1 t.1)) (sym is_row.terms) all) in
        each_zip (λ (e : ℕ × ℕ) b q. stands_before here e.0 k ordered b place (subst (Precedes (get_or here e.0 [])) (sym there) q)) row is_row.inside before

    pub next_row : (new : List (ℕ × ℕ)) → new ≡ row ++ (k, t.0 % p) ∷ [] → IsBelow k row → IsRowOfChain here (take (i + 1) chain) new
    next_row new e b = subst (IsRowOfChain here (take (i + 1) chain)) (sym e) (record {
      inside = more row is_row.inside;
      terms = map-append term row ((k, t.0 % p) ∷ [])
          ∙ ap (λ (ts : Chain). ts ++ (t.0 % p, get_or here k []) ∷ []) is_row.terms
          ∙ ap (λ (u : ℕ × List ℕ). take i chain ++ u ∷ []) same
          ∙ sym (take_more chain i t inside);
    })
      where
        term : ℕ × ℕ → ℕ × List ℕ
        term f = (f.1, get_or here f.0 [])

        same : (t.0 % p, get_or here k []) ≡ get_or chain i t
        same = (λ j. (mod-eq_of_lt bounds.1 j, there j)) ∙ is

        more : (es : List (ℕ × ℕ)) → IsBelow (length here) es → IsBelow (length here) (es ++ (k, t.0 % p) ∷ [])
        more [] h = (place, tt)
        more (f ∷ fs) h = (h.0, more fs h.1)

-- a term that stands on no simplex
pub not_on : (facets : List (List ℕ)) (n : ℕ) (chain : Chain) (i : ℕ) (t : ℕ × List ℕ) → i < length chain → t ≡ get_or chain i t → (IsSimplex facets n t.1 → ⊥) → IsOn facets n chain → ⊥
not_on facets n chain i t b is none on = none (subst (λ (u : ℕ × List ℕ). IsSimplex facets n u.1) (sym is) (each_get_or (λ (u : ℕ × List ℕ). IsSimplex facets n u.1) chain i t b on))

-- the place of a simplex among those of its degree
pub placed : (levels : List (List (List ℕ))) (n : ℕ) (s : List ℕ) (found : Option ℕ) → length s ≡ n + 1
    → MatchOption found ((m : ℕ) → Among s (level levels m) → ⊥) (λ k. (k < length (level levels (length s - 1))) × (get_or (level levels (length s - 1)) k [] ≡ s))
    → MatchOption found ((facets : List (List ℕ)) → IsIndexOf facets levels → IsSimplex facets n s → ⊥) (λ k. (k < length (level levels n)) × (get_or (level levels n) k [] ≡ s))
placed levels n s None size h = λ facets index on.
    let q = (index.lists n).whole s on in
    h n (subst (λ (t : List ℕ). Among t (level levels n)) (q.2 []) (among_place (level levels n) q.0 [] q.1))
placed levels n s (Some k) size h =
    let e : length s - 1 ≡ n = omega (arith, size) in
    subst (λ (m : ℕ). (k < length (level levels m)) × (get_or (level levels m) k [] ≡ s)) e h
