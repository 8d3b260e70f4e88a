-- The listed masks are the least words of the orbits, and each word is a turn of one of them in one way.
use Rattle.std.proofs.Common.{◌≡◌, ℕ, zero, suc, ◌+◌, ◌^◌, ◌<◌, ◌≤◌, Bool, true, false, ◌&&◌, ◌||◌, not, nat_lt, nat_le, ◌==◌, if◌then◌else◌, List, [], ◌∷◌, ◌++◌, length, slice_index, IsTrue, refl, sym, ◌∙◌, ap, subst, inl, inr, arith, eqb-true, ltb-true, leb-true, eq-eqb, lt-ltb}
use Rattle.std.proofs.lemmas.Bool.{cases_eq, and_parts, or_cases, and_from, both_ways, not-true, false≢true}
use Rattle.linear_law.specs.Names.{Each, IsAscending}
use Rattle.linear_law.proofs.Names.{each_map, each_append}
use Rattle.fp_field.specs.Served.{served}
use Rattle.fp_field.specs.Orbits.{AreOrbits, IsMixed, IsTurnOf, all_below, numbers_below, orbit_masks, turned_mask}
use Rattle.fp_field.proofs.ServedLemmas.{for_served}

all_below-each : (n : ℕ) (test : ℕ → Bool) → all_below n test ≡ true → (k : ℕ) → k < n → test k ≡ true
all_below-each zero test h k b = absurd (omega arith)
all_below-each (suc n) test h k b =
    let q = and_parts (all_below n test) (test n) h in
    elim (cases_eq k n) [ inl e ↦ subst (λ m. test m ≡ true) (sym e) q.1 | inr o ↦ all_below-each n test q.0 k (omega arith) ]

abbrev any_below : ℕ → (ℕ → Bool) → Bool
any_below zero test = false
any_below (suc n) test = test n || any_below n test

any_below-one : (n : ℕ) (test : ℕ → Bool) → any_below n test ≡ true → (k : ℕ) × (k < n) × (test k ≡ true)
any_below-one zero test h = absurd (false≢true h)
any_below-one (suc n) test h = elim (or_cases (test n) (any_below n test) h) [
  | inl e ↦ (n, omega arith, e)
  | inr r ↦ let w = any_below-one n test r in let b = w.1 in (w.0, omega arith, w.2)
]

-- what numbers_below lists
pass : (n : ℕ) (test : ℕ → Bool) → Each (λ k. (test k ≡ true) × (k < n)) (numbers_below n test)
pass zero test = tt
pass (suc n) test =
    each_append (λ k. (test k ≡ true) × (k < suc n)) (numbers_below n test) (if test n then n ∷ [] else [])
    (each_map more (numbers_below n test) (pass n test)) (last (test n) refl)
  where
    more : (k : ℕ) → (test k ≡ true) × (k < n) → (test k ≡ true) × (k < suc n)
    more k h = let b = h.1 in (h.0, omega arith)

    last : (b : Bool) → test n ≡ b → Each (λ k. (test k ≡ true) × (k < suc n)) (if b then n ∷ [] else [])
    last true e = ((e, omega arith), tt)
    last false e = tt

ascends : (n : ℕ) (test : ℕ → Bool) → IsAscending (numbers_below n test)
ascends zero test = tt
ascends (suc n) test = last (test n) (ascends n test)
  where
    push : (xs : List ℕ) → IsAscending xs → Each (λ k. (test k ≡ true) × (k < n)) xs → IsAscending (xs ++ (n ∷ []))
    push [] h b = (tt, tt)
    push (x ∷ xs) h b = (each_append (λ w. x < w) xs (n ∷ []) h.0 (b.0.1, tt), push xs h.1 b.1)

    plain : (xs : List ℕ) → IsAscending xs → IsAscending (xs ++ [])
    plain [] h = tt
    plain (x ∷ xs) h = (each_append (λ w. x < w) xs [] h.0 tt, plain xs h.1)

    last : (b : Bool) → IsAscending (numbers_below n test) → IsAscending (numbers_below n test ++ (if b then n ∷ [] else []))
    last true h = push (numbers_below n test) h (pass n test)
    last false h = plain (numbers_below n test) h

abbrev mixed : ℕ → ℕ → Bool
mixed p word = nat_lt 0 word && nat_lt (word + 1) (2 ^ p)

-- each word is reached
abbrev reached_test : ℕ → List ℕ → Bool
reached_test p masks =
    all_below (2 ^ p) (λ word. not (mixed p word) || any_below (length masks) (λ at. any_below p (λ k. turned_mask p k (slice_index masks at) == word)))

-- no word is reached twice
abbrev once_test : ℕ → List ℕ → Bool
once_test p masks =
    all_below (length masks) (λ at. all_below p (λ k. all_below (length masks) (λ other. all_below p (λ l.
    not (turned_mask p k (slice_index masks at) == turned_mask p l (slice_index masks other)) || (at == other && k == l)))))

abbrev PassesTests : ℕ → Type 0
PassesTests p = (reached_test p (orbit_masks p) ≡ true) × (once_test p (orbit_masks p) ≡ true)

orbit_tests : (p : ℕ) → IsTrue (served p) → PassesTests p
orbit_tests p h = for_served PassesTests p (refl, refl) (refl, refl) (refl, refl) h

module _ (p : ℕ) (h : IsTrue (served p)) where
  abbrev masks : List ℕ
  masks = orbit_masks p

  mixed_test : (word : ℕ) → IsMixed p word → mixed p word ≡ true
  mixed_test word m = and_from (nat_lt 0 word) (nat_lt (word + 1) (2 ^ p)) (lt-ltb 0 word m.0) (lt-ltb (word + 1) (2 ^ p) m.1)

  found : (word : ℕ) → IsMixed p word → (at : ℕ) × (at < length masks) × (any_below p (λ k. turned_mask p k (slice_index masks at) == word) ≡ true)
  found word m =
      let b = m.1 in
      let t = all_below-each (2 ^ p) (λ w. not (mixed p w) || any_below (length masks) (λ at. any_below p (λ k. turned_mask p k (slice_index masks at) == w)))
      (orbit_tests p h).0 word (omega arith) in
      elim (or_cases (not (mixed p word)) (any_below (length masks) (λ at. any_below p (λ k. turned_mask p k (slice_index masks at) == word))) t) [
        | inl n ↦ absurd (both_ways (mixed p word) (not-true (mixed p word) n) (mixed_test word m))
        | inr a ↦ any_below-one (length masks) (λ at. any_below p (λ k. turned_mask p k (slice_index masks at) == word)) a
      ]

  reached : (word : ℕ) → IsMixed p word → (at : ℕ) × (k : ℕ) × IsTurnOf p masks word at k
  reached word m =
      let f = found word m in
      let g = any_below-one p (λ k. turned_mask p k (slice_index masks f.0) == word) f.2 in
      (f.0, g.0, record { listed = f.1; power = g.1; turn = eqb-true (turned_mask p g.0 (slice_index masks f.0)) word g.2 })

  once : (word at k at' k' : ℕ) → IsTurnOf p masks word at k → IsTurnOf p masks word at' k' → (at ≡ at') × (k ≡ k')
  once word at k at' k' a b =
      let same : ℕ → ℕ → ℕ → ℕ → Bool = λ i j m l. not (turned_mask p j (slice_index masks i) == turned_mask p l (slice_index masks m)) || (i == m && j == l) in
      let t1 = all_below-each (length masks) (λ i. all_below p (λ j. all_below (length masks) (λ m. all_below p (λ l. same i j m l)))) (orbit_tests p h).1 at a.listed in
      let t2 = all_below-each p (λ j. all_below (length masks) (λ m. all_below p (λ l. same at j m l))) t1 k a.power in
      let t3 = all_below-each (length masks) (λ m. all_below p (λ l. same at k m l)) t2 at' b.listed in
      let t4 = all_below-each p (λ l. same at k at' l) t3 k' b.power in
      let equal : turned_mask p k (slice_index masks at) ≡ turned_mask p k' (slice_index masks at') = a.turn ∙ sym b.turn in
      elim (or_cases (not (turned_mask p k (slice_index masks at) == turned_mask p k' (slice_index masks at'))) (at == at' && k == k') t4) [
        | inl n ↦ absurd (both_ways (turned_mask p k (slice_index masks at) == turned_mask p k' (slice_index masks at')) (not-true (turned_mask p k (slice_index masks at) == turned_mask p k' (slice_index masks at')) n)
            (eq-eqb (turned_mask p k (slice_index masks at)) (turned_mask p k' (slice_index masks at')) equal))
        | inr e ↦ let q = and_parts (at == at') (k == k') e in (eqb-true at at' q.0, eqb-true k k' q.1)
      ]

  pub orbits : AreOrbits p (orbit_masks p)
  orbits = record {
    ascends = ascends (2 ^ p) (λ word. mixed p word && all_below p (λ k. nat_le word (turned_mask p k word)));
    mixed = each_map both_letters (orbit_masks p) (pass (2 ^ p) (λ word. mixed p word && all_below p (λ k. nat_le word (turned_mask p k word))));
    least = each_map no_less (orbit_masks p) (pass (2 ^ p) (λ word. mixed p word && all_below p (λ k. nat_le word (turned_mask p k word))));
    reached = reached;
    once = once;
  }
    where
      both_letters : (w : ℕ) → ((mixed p w && all_below p (λ k. nat_le w (turned_mask p k w))) ≡ true) × (w < 2 ^ p) → IsMixed p w
      both_letters w t =
          let q = and_parts (mixed p w) (all_below p (λ k. nat_le w (turned_mask p k w))) t.0 in
          let r = and_parts (nat_lt 0 w) (nat_lt (w + 1) (2 ^ p)) q.0 in
          (ltb-true 0 w r.0, ltb-true (w + 1) (2 ^ p) r.1)

      no_less : (w : ℕ) → ((mixed p w && all_below p (λ k. nat_le w (turned_mask p k w))) ≡ true) × (w < 2 ^ p) → (k : ℕ) → k < p → w ≤ turned_mask p k w
      no_less w t k b =
          let q = and_parts (mixed p w) (all_below p (λ k. nat_le w (turned_mask p k w))) t.0 in
          leb-true w (turned_mask p k w) (all_below-each p (λ k. nat_le w (turned_mask p k w)) q.1 k b)

pub orbits_at_five : (p : ℕ) → p ≡ 5 → orbit_masks p ≡ 1 ∷ 3 ∷ 5 ∷ 7 ∷ 11 ∷ 15 ∷ []
orbits_at_five p e = ap orbit_masks e
