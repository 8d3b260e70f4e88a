-- The cochain of a row, and the least place of a class.
use Rattle.std.proofs.Common.{◌≡◌, ℕ, zero, suc, ◌+◌, ◌*◌, ◌%◌, ◌<◌, ◌≤◌, ◌≢◌, List, [], ◌∷◌, length, get_or, arith, refl, sym, ap, ap₂, subst, ◌∙◌, inl, inr, mod-eq_of_lt, Some, slice_get}
use Rattle.cohomology.{proofs.Below.{AllZip, cases_eq, cases_lt, get_or_default, get_or_from_slice_get, slice_get_read, slice_get_within, zero-mod, IsField, ListsAll, unit_vector, paired, Congruent_of, Congruent_sym, Congruent_trans, each_map, one-nonzero, same_or_not, unit_one, unit_other, IsInOrder, IsSimplex, Precedes, AgreesOnSimplices, Cochain, pairing, cochain_of, cochain_at, terms_of, value_by_place, lists_compare, lists_strict, agree_by_place, cochain_at-value, lead_up, IsBelow, IsFirst, IsRow, value_in, value_in-none, value_in-small, level, PlacedCochain, relative_cocycles, IsCanonicalRelativeClass, IsRelativeCocyclePivot}, specs.Names.{IsPairIndexOf, chains_at, cochain_in, IsLeadOf, at_places}}

-- ---- lists

pub some_at : {X : Type 0} (xs : List X) (i : ℕ) → i < length xs → (x : X) × (slice_get xs i ≡ Some x)
some_at [] i b = absurd (omega arith)
some_at (x ∷ xs) i b =
    let y = get_or (x ∷ xs) i x in
    (y, slice_get_read (x ∷ xs) (length (x ∷ xs)) i y refl b (get_or_default (x ∷ xs) i x y b))

-- ---- the cochain of a row

module _ (facets : List (List ℕ)) (n p : ℕ) (here : List (List ℕ)) (all_here : ListsAll (IsSimplex facets n) here) where
  -- the cochain of a row and the cochain with the values of the row agree
  pub row_agrees : (row : List (ℕ × ℕ)) → AgreesOnSimplices facets n p (cochain_of (terms_of here row)) (cochain_at here (value_in row))
  row_agrees row =
      agree_by_place facets n p here all_here (cochain_of (terms_of here row)) (cochain_at here (value_in row))
      (λ x b. Congruent_of (value_by_place facets n p here all_here row x b ∙ sym (cochain_at-value facets n p here all_here (value_in row) x b)))

-- a place with a value is among those of the row
pub inside_row : (bound : ℕ) (row : List (ℕ × ℕ)) (k : ℕ) → IsBelow bound row → value_in row k ≢ 0 → k < bound
inside_row bound row k below m =
    elim (cases_lt k bound) [
      | inl b ↦ b
      | inr b ↦ absurd (m (value_in-none row k (each_map (λ e c f. absurd (omega arith)) row below)))
    ]

-- ---- a function on the places, paired with a row

paired_unit-past : (m k a : ℕ) (g v : ℕ → ℕ) → m ≤ k → paired m g (λ x. a * unit_vector k x + v x) ≡ paired m g v
paired_unit-past zero k a g v b = refl
paired_unit-past (suc m) k a g v b =
    let u : unit_vector k m ≡ 0 = unit_other k m (λ e. absurd (omega (arith, e, b))) in
    ap₂ (λ c d. d + g m * (a * c + v m)) u (paired_unit-past m k a g v (omega arith)) ∙ omega arith

paired_unit : (n k a : ℕ) (g v : ℕ → ℕ) → k < n → paired n g (λ x. a * unit_vector k x + v x) ≡ a * g k + paired n g v
paired_unit zero k a g v b = absurd (omega arith)
paired_unit (suc m) k a g v b =
    elim (cases_eq m k) [
      | inl e ↦
          let one : unit_vector k m ≡ 1 = ap (unit_vector k) e ∙ unit_one 0 k in
          let q : paired m g v + g m * (a * 1 + v m) ≡ a * g m + (paired m g v + g m * v m) = omega arith in
          ap₂ (λ c d. d + g m * (a * c + v m)) one (paired_unit-past m k a g v (omega (arith, e))) ∙ q ∙ ap (λ c. a * c + (paired m g v + g m * v m)) (ap g e)
      | inr o ↦
          let u : unit_vector k m ≡ 0 = unit_other k m o in
          ap₂ (λ c d. d + g m * (a * c + v m)) u (paired_unit m k a g v (omega (arith, o, b))) ∙ omega arith
    ]

paired_nothing : (n : ℕ) (g : ℕ → ℕ) → paired n g (λ x. 0) ≡ 0
paired_nothing zero g = refl
paired_nothing (suc m) g = omega (arith, paired_nothing m g)

-- what a cochain pairs to with the chain of a row
pub paired_row : (f : Cochain) (here : List (List ℕ)) (row : List (ℕ × ℕ)) → IsBelow (length here) row → pairing f (terms_of here row) ≡ paired (length here) (at_places here f) (value_in row)
paired_row f here [] h = sym (paired_nothing (length here) (at_places here f))
paired_row f here (e ∷ es) h = ap (λ c. e.1 * f (get_or here e.0 []) + c) (paired_row f here es h.1) ∙ sym (paired_unit (length here) e.0 e.1 (at_places here f) (value_in es) h.0)

-- ---- classes

module _ (facets parts : List (List ℕ)) (ls sls : List (List (List ℕ))) (is : IsPairIndexOf facets parts ls sls) (p : ℕ) (field : IsField p) (n : ℕ) where
  -- the class at a place has its pivot in this place of the list
  pub canonical_at : (ss : List (List ℕ)) (cs : List (PlacedCochain p)) → AllZip (λ s terms. IsCanonicalRelativeClass facets parts n p s (cochain_of terms)) ss (chains_at (level ls n) cs) → (j : ℕ) (c : PlacedCochain p) → slice_get cs j ≡ Some c
      → (j < length ss) × IsCanonicalRelativeClass facets parts n p (get_or ss j []) (cochain_in ls n c.row)
  canonical_at ss [] h j c e = absurd (let b = slice_get_within [] j c e in omega arith)
  canonical_at [] (d ∷ ds) h j c e = elim h [ ]
  canonical_at (s ∷ ss) (d ∷ ds) h zero c e = (omega arith, subst (λ (b : PlacedCochain p). IsCanonicalRelativeClass facets parts n p s (cochain_in ls n b.row)) (get_or_from_slice_get (d ∷ ds) 0 c c e) h.0)
  canonical_at (s ∷ ss) (d ∷ ds) h (suc j) c e = let r = canonical_at ss ds h.1 j c (let b = slice_get_within (d ∷ ds) (suc j) c e in let q = get_or_from_slice_get (d ∷ ds) (suc j) c c e in slice_get_read ds (length ds) j c refl (omega arith) (sym q)) in (omega (arith, r.0), r.1)

  -- the least place of a class is that of its pivot
  pub pivot_of_class : (row : List (ℕ × ℕ)) (k : ℕ) (s : List ℕ) → IsBelow (length (level ls n)) row → IsRow p row → IsLeadOf row k → IsCanonicalRelativeClass facets parts n p s (cochain_in ls n row)
      → (k < length (level ls n)) × (get_or (level ls n) k [] ≡ s)
  pivot_of_class row k s below r lead class =
      elim lead [
        | inl e ↦ absurd (one-nonzero p 0 field.large (Congruent_trans (Congruent_of (sym (ap (λ (r : List (ℕ × ℕ)). cochain_in ls n r s) e))) class.canonical.one) (zero-mod p))
        | inr first ↦ (inside_row (length (level ls n)) row k below first.nonzero, go first (inside_row (length (level ls n)) row k below first.nonzero))
      ]
    where
      go : IsFirst row k → k < length (level ls n) → get_or (level ls n) k [] ≡ s
      go first b =
          let here = level ls n in
          let all = is.full_index.lists n in
          let agrees = row_agrees facets n p here all row in
          let nonzero : value_in row k % p ≢ 0 = λ e. first.nonzero (sym (mod-eq_of_lt (value_in-small p row k (let l = field.large in omega arith) r)) ∙ e) in
          let pivot : IsRelativeCocyclePivot facets parts n p (get_or here k []) = record {
            vector = cochain_at here (value_in row);
            member = (relative_cocycles facets parts n p field.large is.inside).alike (cochain_at here (value_in row)) (cochain_of (terms_of here row)) (record { at = λ t on. Congruent_sym (agrees.at t on) }) class.canonical.member;
            lead = lead_up facets n p here all (is.full_index.in_order n) (value_in row) k (record { on = b; nonzero = nonzero; least = λ y on less. Congruent_of (first.least y less) });
          } in
          elim (same_or_not Precedes lists_compare lists_strict (get_or here k []) s) [
            | inl e ↦ e
            | inr m ↦ absurd (nonzero ((Congruent_trans (Congruent_of (sym (value_by_place facets n p here all row k b))) (class.canonical.others (get_or here k []) pivot m)).same ∙ zero-mod p))
          ]

-- pivots in different places of an ordered list differ
pub differ : (ss : List (List ℕ)) → IsInOrder ss → (l m : ℕ) → l ≢ m → l < length ss → m < length ss → get_or ss l [] ≢ get_or ss m []
differ ss o l m k d e q =
    elim (cases_lt l m) [
      | inl less ↦ apart l m less e q
      | inr more ↦ apart m l (omega (arith, more, k)) d (sym q)
    ]
  where
    apart : (l m : ℕ) → l < m → m < length ss → get_or ss l [] ≢ get_or ss m []
    apart l m less d q = lists_strict (get_or ss m []) (subst (λ (t : List ℕ). Precedes t (get_or ss m [])) q (o l m less d))
