-- The classes of a complex as they are kept by place, and as they are listed.
use Rattle.std.{proofs.Common.{◌≡◌, ◌∙◌, ℕ, ◌<◌, ◌≤◌, ◌⊎◌, inl, inr, true, List, [], ◌∷◌, length, map, get_or, arith, refl, sym, ap, ap₂, subst, lt-ltb}, specs.List.AllZip, proofs.lemmas.Bool.cases_lt, proofs.lemmas.List.length-map, proofs.lemmas.Simd.map-map}
use Rattle.signed_sum.specs.Names.{numbers_from}
use Rattle.simplicial_law.specs.Names.{IsSimplex, Chain, IsCoboundary, IsCocycle, IsCanonicalModulo, AreCanonicalModulo, cochain_of}
use Rattle.complex_index.specs.{declared.indexed.Cochain.Cochain, Names.{IsIndexOf, level}}
use Rattle.cohomology.specs.Names.{AreCanonicalIn, chains_at}
use Rattle.report_law.{specs.Names.{has_class, Classes, ranks}, proofs.Names.get_or-past}
use Rattle.op_matrix.specs.Columns.{AreListedAs}
use Rattle.class_matrices.{specs.Names.{class_counts, listed_classes}, proofs.ListLemmas.{numbers-at, numbers-count}}

module _ (p : ℕ) (levels : List (List (List ℕ))) (classes : ℕ → List (Cochain p)) (canonical : (n : ℕ) → AreCanonicalIn p levels n (classes n)) where
  abbrev listed : Classes
  listed = listed_classes {p = p} levels classes

  abbrev chains-in : ℕ → List Chain
  chains-in n = chains_at {p = p} (level levels n) (classes n)

  pub count : length listed ≡ length levels
  count = numbers-count chains-in (length levels)

  pub ranks-are : ranks listed ≡ class_counts {p = p} levels classes
  ranks-are = map-map (λ (cs : List Chain). length cs) chains-in (numbers_from 0 (length levels)) ∙ go (numbers_from 0 (length levels))
    where
      go : (ns : List ℕ) → map (λ (n : ℕ). length (chains_at {p = p} (level levels n) (classes n))) ns ≡ map (λ (n : ℕ). length (classes n)) ns
      go [] = refl
      go (n ∷ ns) = ap₂ (λ (x : ℕ) (xs : List ℕ). x ∷ xs) (length-map (classes n) _) (go ns)

  pub rank-at : (i n : ℕ) → 1 ≤ i → i ≤ get_or (class_counts {p = p} levels classes) n 0 → i ≤ length (classes n)
  rank-at i n a l = elim (cases_lt n (length levels)) [
    | inl k ↦ let e = numbers-at (λ n. length (classes n)) (length levels) n 0 k in omega (arith, l, e)
    | inr k ↦
        let c = numbers-count (λ n. length (classes n)) (length levels) in
        let z = get_or-past (class_counts {p = p} levels classes) n 0 (omega (arith, k, c)) in absurd (omega (arith, a, l, z))
  ]

  module _ (facets : List (List ℕ)) (is : IsIndexOf facets levels) where
    pub on-level : (n : ℕ) (s : List ℕ) → IsSimplex facets n s → n < length levels
    on-level n s on = elim (cases_lt n (length levels)) [
      | inl l ↦ l
      | inr m ↦ let k = (is.lists n).whole s on in let e = ap (λ (ss : List (List ℕ)). length ss) (get_or-past levels n [] m) in let l = k.1 in absurd (omega (arith, e, l))
    ]

    none : (n : ℕ) (cs : List Chain) → length levels ≤ n → AreCanonicalModulo facets n p (IsCocycle facets n p) (IsCoboundary facets n p) cs → cs ≡ []
    none n [] m h = refl
    none n (c ∷ cs) m h = go h.pivots h.canonical
      where
        go : (ss : List (List ℕ)) → AllZip (λ s terms. IsCanonicalModulo facets n p (IsCocycle facets n p) (IsCoboundary facets n p) s (cochain_of terms)) ss (c ∷ cs) → (c ∷ cs) ≡ []
        go [] k = absurd k
        go (s ∷ ss) k = let l = on-level n s k.0.canonical.pivot.lead.on in absurd (omega (arith, l, m))

    none-past : (n : ℕ) → length levels ≤ n → chains-in n ≡ []
    none-past n m = none n (chains-in n) m ((canonical n).basis facets is).canonical

    pub as-listed : AreListedAs {p = p} levels classes listed
    as-listed = record {
      each = λ n. elim (cases_lt n (length levels)) [
        | inl l ↦ numbers-at chains-in (length levels) n [] l
        | inr m ↦ get_or-past listed n [] (subst (λ (k : ℕ). k ≤ n) (sym count) m) ∙ sym (none-past n m)
      ];
    }

    rank-is : (n : ℕ) → get_or (class_counts {p = p} levels classes) n 0 ≡ length (classes n)
    rank-is n = elim (cases_lt n (length levels)) [
      | inl l ↦ numbers-at (λ n. length (classes n)) (length levels) n 0 l
      | inr m ↦
          let c = numbers-count (λ n. length (classes n)) (length levels) in
          get_or-past (class_counts {p = p} levels classes) n 0 (omega (arith, m, c)) ∙ sym (ap (λ (cs : List Chain). length cs) (none-past n m)) ∙ length-map (classes n) _
    ]

    -- a degree has classes or not
    pub class-or-none : (n : ℕ) → (has_class (class_counts {p = p} levels classes) n ≡ true) ⊎ (classes n ≡ [])
    class-or-none n = go (classes n) refl
      where
        go : (zs : List (Cochain p)) → classes n ≡ zs → (has_class (class_counts {p = p} levels classes) n ≡ true) ⊎ (classes n ≡ [])
        go [] e = inr e
        go (z ∷ zs) e = inl (let r = rank-is n in let l = ap (λ (ys : List (Cochain p)). length ys) e in lt-ltb 0 (get_or (class_counts {p = p} levels classes) n 0) (omega (arith, r, l)))
