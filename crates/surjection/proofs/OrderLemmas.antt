-- The sign of a term: the marks tell in which order the caesuras of the two lists come.
use Rattle.std.proofs.{Common.{◌≡◌, ℕ, zero, suc, ◌+◌, ◌-◌, ◌*◌, ◌<◌, ◌≤◌, ◌≢◌, ◌⊎◌, ◌==◌, Bool, true, false, not, cond, List, [], ◌∷◌, ◌++◌, length, map, drop, refl, sym, ap, ◌∙◌, inl, inr, arith, subst, eq-eqb, ne_eqb}, lemmas.Bool.cases_eq}
use Rattle.signed_sum.{specs.Names.{count_before, inversion_count, stands_before, numbers_from, occurs}, proofs.Names.{Apart, apart-above, apart-append, apart-below, before-first, pairs-among, pairs-later, length-numbers_from, occurs-01}}
use Rattle.surjection_law.{specs.Names.{caesura_count, multiplicity}, proofs.Multiplicity.{multiplicity-other, multiplicity-same}, proofs.SurjectionTerms.multiplicity-at_least}
use Rattle.operad_law.{specs.Parity.is_odd, proofs.WordLemmas.{differ, differ-assoc, differ-none, is_odd-plus}}
use Rattle.composition_law.{specs.Surjections.{numbered, piece, spliced, symbols_of, values_of, with_values, IsRising}, proofs.Cuts.rising-bound}
use Rattle.table_reduction_law.proofs.Permutations.{map-in}
use Rattle.surjection.specs.Names.{is_odd_order_from, marked, Mark, Plain, Outer, Inner}

-- ---- entries with numbers and with marks

-- The numbers of the outer caesuras go from a on, m of them, and those of the inner from b on, l of
-- them, both in order. The marks tell whether the number of pairs in different order is odd.
pub record AreOrdered (a m b l : ℕ) (es : List (ℕ × List ℕ)) (fs : List (ℕ × Mark)) : Type 0 where
  pub values : values_of es ≡ values_of fs
  pub order : a + m ≤ b → (c : ℕ) (odd : Bool) →
      is_odd_order_from (is_odd c) odd fs ≡ differ odd (is_odd (c * m + inversion_count (stands_before (symbols_of es)) (numbers_from a m ++ numbers_from b l)))

nothing-ordered : (a b : ℕ) → AreOrdered a 0 b 0 [] []
nothing-ordered a b = record {
  values = refl;
  order = λ h c odd. let e : c * 0 + 0 ≡ 0 = omega arith in sym (ap (λ n. differ odd (is_odd n)) e ∙ differ-none odd);
}

plain-ordered : (x a m b l : ℕ) (es : List (ℕ × List ℕ)) (fs : List (ℕ × Mark)) → AreOrdered a m b l es fs → AreOrdered a m b l ((x, []) ∷ es) ((x, Plain) ∷ fs)
plain-ordered x a m b l es fs s = record { values = ap (λ w. x ∷ w) s.values; order = λ h c odd. s.order h c odd }

turned-by : (inner odd : Bool) → cond inner (not odd) odd ≡ differ odd inner
turned-by true true = refl
turned-by true false = refl
turned-by false true = refl
turned-by false false = refl

outer-ordered : (x a m b l : ℕ) (es : List (ℕ × List ℕ)) (fs : List (ℕ × Mark)) → AreOrdered (suc a) m b l es fs → AreOrdered a (suc m) b l ((x, a ∷ []) ∷ es) ((x, Outer) ∷ fs)
outer-ordered x a m b l es fs s = record {
  values = ap (λ w. x ∷ w) s.values;
  order = λ h c odd.
      let xs = numbers_from (suc a) m ++ numbers_from b l in
      let w = symbols_of es in
      let far : Apart a (numbers_from (suc a) m ++ numbers_from b l) = apart-append a (numbers_from (suc a) m) (numbers_from b l) (apart-below a (suc a) m (omega arith)) (apart-below a b l (omega arith)) in
      let f = before-first a (symbols_of es) (numbers_from (suc a) m ++ numbers_from b l) in
      let g = pairs-later a (symbols_of es) (numbers_from (suc a) m ++ numbers_from b l) far in
      let n : c + (c * m + inversion_count (stands_before w) xs) ≡ c * suc m + (count_before (stands_before (a ∷ w)) a xs + inversion_count (stands_before (a ∷ w)) xs) = omega (arith, f, g) in
      ap (λ o. is_odd_order_from (is_odd c) o fs) (turned-by (is_odd c) odd)
      ∙ s.order (omega arith) c (differ odd (is_odd c))
      ∙ differ-assoc odd (is_odd c) (is_odd (c * m + inversion_count (stands_before w) xs))
      ∙ ap (differ odd) (sym (is_odd-plus c (c * m + inversion_count (stands_before w) xs)) ∙ ap is_odd n);
}

inner-ordered : (x a m b l : ℕ) (es : List (ℕ × List ℕ)) (fs : List (ℕ × Mark)) → AreOrdered a m (suc b) l es fs → AreOrdered a m b (suc l) ((x, b ∷ []) ∷ es) ((x, Inner) ∷ fs)
inner-ordered x a m b l es fs s = record {
  values = ap (λ w. x ∷ w) s.values;
  order = λ h c odd.
      let w = symbols_of es in
      let p = pairs-among b (symbols_of es) (numbers_from a m) (numbers_from (suc b) l) (apart-above b a m h) (apart-below b (suc b) l (omega arith)) in
      let n : suc c * m + inversion_count (stands_before w) (numbers_from a m ++ numbers_from (suc b) l) ≡ c * m + inversion_count (stands_before (b ∷ w)) (numbers_from a m ++ b ∷ numbers_from (suc b) l) = omega (arith, p, length-numbers_from a m) in
      s.order (omega arith) (suc c) odd ∙ ap (λ j. differ odd (is_odd j)) n;
}

-- an entry with the number of its caesura, or without one
outer-entry : (x h a m b l : ℕ) (es : List (ℕ × List ℕ)) (fs : List (ℕ × Mark)) → (h ≡ 0) ⊎ (h ≡ 1) → AreOrdered (a + h) m b l es fs → AreOrdered a (h + m) b l ((x, numbers_from a h) ∷ es) ((x, cond (h == 1) Outer Plain) ∷ fs)
outer-entry x zero a m b l es fs o s = let e : a + 0 ≡ a = omega arith in let f : m ≡ 0 + m = omega arith in plain-ordered x a (0 + m) b l es fs (subst (λ (j : ℕ). AreOrdered a j b l es fs) f (subst (λ (j : ℕ). AreOrdered j m b l es fs) e s))
outer-entry x (suc zero) a m b l es fs o s = let e : a + 1 ≡ suc a = omega arith in let f : suc m ≡ 1 + m = omega arith in subst (λ (j : ℕ). AreOrdered a j b l ((x, a ∷ []) ∷ es) ((x, Outer) ∷ fs)) f (outer-ordered x a m b l es fs (subst (λ (j : ℕ). AreOrdered j m b l es fs) e s))
outer-entry x (suc (suc h)) a m b l es fs (inl o) s = absurd (omega (arith, o))
outer-entry x (suc (suc h)) a m b l es fs (inr o) s = absurd (omega (arith, o))

inner-entry : (x h a m b l : ℕ) (es : List (ℕ × List ℕ)) (fs : List (ℕ × Mark)) → (h ≡ 0) ⊎ (h ≡ 1) → AreOrdered a m (b + h) l es fs → AreOrdered a m b (h + l) ((x, numbers_from b h) ∷ es) ((x, cond (h == 1) Inner Plain) ∷ fs)
inner-entry x zero a m b l es fs o s = let e : b + 0 ≡ b = omega arith in let f : l ≡ 0 + l = omega arith in plain-ordered x a m b (0 + l) es fs (subst (λ (j : ℕ). AreOrdered a m b j es fs) f (subst (λ (j : ℕ). AreOrdered a m j l es fs) e s))
inner-entry x (suc zero) a m b l es fs o s = let e : b + 1 ≡ suc b = omega arith in let f : suc l ≡ 1 + l = omega arith in subst (λ (j : ℕ). AreOrdered a m b j ((x, b ∷ []) ∷ es) ((x, Inner) ∷ fs)) f (inner-ordered x a m b l es fs (subst (λ (j : ℕ). AreOrdered a m j l es fs) e s))
inner-entry x (suc (suc h)) a m b l es fs (inl o) s = absurd (omega (arith, o))
inner-entry x (suc (suc h)) a m b l es fs (inr o) s = absurd (omega (arith, o))

-- ---- spliced entries

module _ (k : ℕ) (f g : ℕ → ℕ) where
  -- all that is left of the inner list
  rest-ordered : (a m b l : ℕ) (r : List ℕ) (es : List (ℕ × List ℕ)) (fs : List (ℕ × Mark)) → AreOrdered a m (b + caesura_count r) l es fs →
      AreOrdered a m b (caesura_count r + l) (with_values g (numbered b r) ++ es) (with_values g (marked Inner r) ++ fs)
  rest-ordered a m b l [] es fs s = let e : b + 0 ≡ b = omega arith in let h : l ≡ 0 + l = omega arith in subst (λ (j : ℕ). AreOrdered a m b j es fs) h (subst (λ (j : ℕ). AreOrdered a m j l es fs) e s)
  rest-ordered a m b l (y ∷ r) es fs s =
      let e : b + (occurs y r + caesura_count r) ≡ b + occurs y r + caesura_count r = omega arith in
      let h : occurs y r + (caesura_count r + l) ≡ occurs y r + caesura_count r + l = omega arith in
      subst (λ (j : ℕ). AreOrdered a m b j (with_values g (numbered b (y ∷ r)) ++ es) (with_values g (marked Inner (y ∷ r)) ++ fs)) h
      (inner-entry (g y) (occurs y r) a m b (caesura_count r + l) (with_values g (numbered (b + occurs y r) r) ++ es) (with_values g (marked Inner r) ++ fs) (occurs-01 y r)
      (rest-ordered a m (b + occurs y r) l r es fs (subst (λ (j : ℕ). AreOrdered a m j l es fs) e s)))

  -- a piece, which the entry with the number a ends, and what follows it
  piece-ordered : (h a m b i c n : ℕ) (us : List (ℕ × List ℕ)) (ms : List (ℕ × Mark)) (p r : List ℕ) → (h ≡ 0) ⊎ (h ≡ 1) → i + length r ≡ suc n → c ≤ n →
      ((b : ℕ) (r : List ℕ) → c + length r ≡ suc n → AreOrdered (a + h) m b (caesura_count r) (spliced k c (with_values g (numbered b r)) us p) (spliced k c (with_values g (marked Inner r)) ms p)) →
      (j : ℕ) → i + j ≡ c →
      AreOrdered a (h + m) b (caesura_count r) (piece j (with_values g (numbered b r)) (numbers_from a h) ++ spliced k c (drop j (with_values g (numbered b r))) us p)
      (piece j (with_values g (marked Inner r)) (cond (h == 1) Outer Plain) ++ spliced k c (drop j (with_values g (marked Inner r))) ms p)
  piece-ordered h a m b i c n us ms p [] o q w next j e = absurd (omega arith)
  piece-ordered h a m b i c n us ms p (y ∷ r) o q w next zero e =
      outer-entry (g y) h a m b (caesura_count (y ∷ r)) (spliced k c (with_values g (numbered b (y ∷ r))) us p) (spliced k c (with_values g (marked Inner (y ∷ r))) ms p) o (next b (y ∷ r) (omega arith))
  piece-ordered h a m b i c n us ms p (y ∷ r) o q w next (suc j) e =
      inner-entry (g y) (occurs y r) a (h + m) b (caesura_count r)
      (piece j (with_values g (numbered (b + occurs y r) r)) (numbers_from a h) ++ spliced k c (drop j (with_values g (numbered (b + occurs y r) r))) us p)
      (piece j (with_values g (marked Inner r)) (cond (h == 1) Outer Plain) ++ spliced k c (drop j (with_values g (marked Inner r))) ms p) (occurs-01 y r)
      (piece-ordered h a m (b + occurs y r) (suc i) c n us ms p r o (omega arith) w next j (omega arith))

  -- without k
  without-ordered : (a b c : ℕ) (u : List ℕ) (rs : List (ℕ × List ℕ)) (qs : List (ℕ × Mark)) → multiplicity k (map f u) ≡ 0 →
      AreOrdered a (caesura_count u) b 0 (spliced k c rs (with_values f (numbered a u)) []) (spliced k c qs (with_values f (marked Outer u)) [])
  without-ordered a b c [] rs qs z = nothing-ordered a b
  without-ordered a b c (x ∷ u) rs qs z = elim (cases_eq k (f x)) [
    | inl e ↦ absurd (let s = multiplicity-same k (f x) (map f u) e in omega (arith, z, s))
    | inr e ↦ rw (ne_eqb k (f x) e) (outer-entry (f x) (occurs x u) a (caesura_count u) b 0 (spliced k c rs (with_values f (numbered (a + occurs x u) u)) []) (spliced k c qs (with_values f (marked Outer u)) []) (occurs-01 x u)
        (without-ordered (a + occurs x u) b c u rs qs (sym (multiplicity-other k (f x) (map f u) e) ∙ z)))
  ]

  gone : (x : ℕ) (u : List ℕ) → k ≡ f x → multiplicity k (map f u) ≡ 0 → occurs x u ≡ 0
  gone x u e z = elim (occurs-01 x u) [ inl o ↦ o | inr o ↦ absurd (let p = multiplicity-at_least k (map f u) (ap (λ j. occurs j (map f u)) e ∙ map-in f x u o) in omega (arith, p, z)) ]

  pub spliced-ordered : (u : List ℕ) (a b c n : ℕ) (p r : List ℕ) → c + length r ≡ suc n → IsRising c p n → length p + 1 ≡ multiplicity k (map f u) →
      AreOrdered a (caesura_count u) b (caesura_count r) (spliced k c (with_values g (numbered b r)) (with_values f (numbered a u)) p) (spliced k c (with_values g (marked Inner r)) (with_values f (marked Outer u)) p)
  spliced-ordered [] a b c n p r q i m = absurd (omega (arith, m))
  spliced-ordered (x ∷ u) a b c n [] r q i m = elim (cases_eq k (f x)) [
    | inl e ↦
        let z : multiplicity k (map f u) ≡ 0 = (let s = multiplicity-same k (f x) (map f u) e in omega (arith, m, s)) in
        let o = gone x u e z in
        let j : caesura_count r + 0 ≡ caesura_count r = omega arith in
        let l : caesura_count u ≡ caesura_count (x ∷ u) = omega (arith, o) in
        let d : a + occurs x u ≡ a = omega (arith, o) in
        rw (eq-eqb k (f x) e)
        (subst (λ (t : ℕ). AreOrdered a (caesura_count (x ∷ u)) b t (with_values g (numbered b r) ++ spliced k c (with_values g (numbered b r)) (with_values f (numbered (a + occurs x u) u)) []) (with_values g (marked Inner r) ++ spliced k c (with_values g (marked Inner r)) (with_values f (marked Outer u)) [])) j
        (rest-ordered a (caesura_count (x ∷ u)) b 0 r (spliced k c (with_values g (numbered b r)) (with_values f (numbered (a + occurs x u) u)) []) (spliced k c (with_values g (marked Inner r)) (with_values f (marked Outer u)) [])
        (subst (λ (t : ℕ). AreOrdered a (caesura_count (x ∷ u)) (b + caesura_count r) 0 (spliced k c (with_values g (numbered b r)) (with_values f (numbered t u)) []) (spliced k c (with_values g (marked Inner r)) (with_values f (marked Outer u)) [])) (sym d)
        (subst (λ (t : ℕ). AreOrdered a t (b + caesura_count r) 0 (spliced k c (with_values g (numbered b r)) (with_values f (numbered a u)) []) (spliced k c (with_values g (marked Inner r)) (with_values f (marked Outer u)) [])) l
        (without-ordered a (b + caesura_count r) c u (with_values g (numbered b r)) (with_values g (marked Inner r)) z)))))
    | inr e ↦
        rw (ne_eqb k (f x) e)
        (outer-entry (f x) (occurs x u) a (caesura_count u) b (caesura_count r) (spliced k c (with_values g (numbered b r)) (with_values f (numbered (a + occurs x u) u)) []) (spliced k c (with_values g (marked Inner r)) (with_values f (marked Outer u)) []) (occurs-01 x u)
        (spliced-ordered u (a + occurs x u) b c n [] r q i (m ∙ multiplicity-other k (f x) (map f u) e)))
  ]
  spliced-ordered (x ∷ u) a b c n (d ∷ p) r q i m = elim (cases_eq k (f x)) [
    | inl e ↦
        let low : c ≤ d = i.0 in
        let high : d ≤ n = rising-bound d n p i.1 in
        let z : length p + 1 ≡ multiplicity k (map f u) = (let s = multiplicity-same k (f x) (map f u) e in omega (arith, m, s)) in
        rw (eq-eqb k (f x) e)
        (piece-ordered (occurs x u) a (caesura_count u) b c d n (with_values f (numbered (a + occurs x u) u)) (with_values f (marked Outer u)) p r (occurs-01 x u) q high
        (λ b r q. spliced-ordered u (a + occurs x u) b d n p r q i.1 z) (d - c) (omega arith))
    | inr e ↦
        rw (ne_eqb k (f x) e)
        (outer-entry (f x) (occurs x u) a (caesura_count u) b (caesura_count r) (spliced k c (with_values g (numbered b r)) (with_values f (numbered (a + occurs x u) u)) (d ∷ p)) (spliced k c (with_values g (marked Inner r)) (with_values f (marked Outer u)) (d ∷ p)) (occurs-01 x u)
        (spliced-ordered u (a + occurs x u) b c n (d ∷ p) r q i (m ∙ multiplicity-other k (f x) (map f u) e)))
  ]
