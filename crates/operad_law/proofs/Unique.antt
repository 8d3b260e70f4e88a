-- Formal sums with the same value at every function are equal.
use Rattle.std.{proofs.Common.{◌≡◌, ◌≤◌, false, cond, List, [], ◌∷◌, refl, sym, ap, ◌∙◌, arith, Ordering, Less, Equal, Greater, is_eq, ℤ, pos, ◌+ℤ◌, ◌*ℤ◌}, specs.Cmp.IsTotalOrder, specs.Ordering.ordering_reverse, proofs.lemmas.Cmp.tied_itself, proofs.lemmas.Int.ints}
use Rattle.signed_sum.specs.Names.{value_at, weight_of, is_zero}
use Rattle.operad_law.{specs.FormalSums.{IsBelow, IsAscending, IsNonzero, IsFormalSum, IsSameSum, plus_term}, proofs.PlusTerm.{value_at-plus_term, weight_of-plus_term, IsAscending-plus_term, IsNonzero-plus_term}}

-- 1 at x, and 0 elsewhere
abbrev pub one_at : {X : Type 0} → (X → X → Ordering) → X → X → ℤ
one_at cmp x y = cond (is_eq (cmp y x)) (pos 1) (pos 0)

one_at-same : {X : Type 0} (cmp : X → X → Ordering) (o : IsTotalOrder cmp) (x : X) → one_at cmp x x ≡ pos 1
one_at-same cmp o x = rw (tied_itself o x) refl

one_at-less : {X : Type 0} (cmp : X → X → Ordering) (o : IsTotalOrder cmp) (x y : X) → cmp x y ≡ Less → one_at cmp x y ≡ pos 0
one_at-less cmp o x y l = let e : cmp y x ≡ Greater = o.antisymm y x ∙ ap ordering_reverse l in rw e refl

value_at-below : {X : Type 0} (cmp : X → X → Ordering) (o : IsTotalOrder cmp) (x : X) (ts : List (X × ℤ)) → IsBelow cmp x ts → value_at (one_at cmp x) ts ≡ pos 0
value_at-below cmp o x [] b = refl
value_at-below cmp o x (t ∷ ts) b =
    let e : t.1 *ℤ one_at cmp x t.0 ≡ t.1 *ℤ pos 0 = ap (λ v. t.1 *ℤ v) (one_at-less cmp o x t.0 b.0) in
    omega (arith, ints, e, value_at-below cmp o x ts b.1)

-- the first coefficient is the value at the first element
value_at_first : {X : Type 0} (cmp : X → X → Ordering) (o : IsTotalOrder cmp) (t : X × ℤ) (ts : List (X × ℤ)) → IsBelow cmp t.0 ts → value_at (one_at cmp t.0) (t ∷ ts) ≡ t.1
value_at_first cmp o t ts b =
    let e : t.1 *ℤ one_at cmp t.0 t.0 ≡ t.1 *ℤ pos 1 = ap (λ v. t.1 *ℤ v) (one_at-same cmp o t.0) in
    omega (arith, ints, e, value_at-below cmp o t.0 ts b)

along_less : {X : Type 0} (cmp : X → X → Ordering) (o : IsTotalOrder cmp) (x y : X) (ts : List (X × ℤ)) → cmp x y ≡ Less → IsBelow cmp y ts → IsBelow cmp x ts
along_less cmp o x y [] l b = tt
along_less cmp o x y (t ∷ ts) l b = (o.trans x y t.0 l b.0, along_less cmp o x y ts l b.1)

IsBelow-first : {X : Type 0} (cmp : X → X → Ordering) (o : IsTotalOrder cmp) (x : X) (t : X × ℤ) (ts : List (X × ℤ)) → cmp x t.0 ≡ Less → IsBelow cmp t.0 ts → IsBelow cmp x (t ∷ ts)
IsBelow-first cmp o x t ts l b = (l, along_less cmp o x t.0 ts l b)

not_zero : (c : ℤ) → is_zero c ≡ false → c ≡ pos 0 → ⊥
not_zero c n e = cc (ap is_zero e)

first_equal : {X : Type 0} (cmp : X → X → Ordering) (o : IsTotalOrder cmp) (same : (x y : X) → cmp x y ≡ Equal → x ≡ y) (t : X × ℤ) (ts : List (X × ℤ)) (u : X × ℤ) (us : List (X × ℤ)) → IsAscending cmp (t ∷ ts) → IsAscending cmp (u ∷ us) → IsNonzero (t ∷ ts) → IsNonzero (u ∷ us) → ((phi : X → ℤ) → value_at phi (t ∷ ts) ≡ value_at phi (u ∷ us)) → (r : Ordering) → cmp t.0 u.0 ≡ r → (((phi : X → ℤ) → value_at phi ts ≡ value_at phi us) → ts ≡ us) → t ∷ ts ≡ u ∷ us
first_equal cmp o same t ts u us a b m n e Less l ih =
    absurd (not_zero t.1 m.0 (sym (value_at_first cmp o t ts a.0) ∙ e (one_at cmp t.0) ∙ value_at-below cmp o t.0 (u ∷ us) (IsBelow-first cmp o t.0 u us l b.0)))
first_equal cmp o same t ts u us a b m n e Greater l ih =
    let k : cmp u.0 t.0 ≡ Less = o.antisymm u.0 t.0 ∙ ap ordering_reverse l in
    absurd (not_zero u.1 n.0 (sym (value_at_first cmp o u us b.0) ∙ sym (e (one_at cmp u.0)) ∙ value_at-below cmp o u.0 (t ∷ ts) (IsBelow-first cmp o u.0 t ts k a.0)))
first_equal cmp o same t ts u us a b m n e Equal l ih =
    let p : t.0 ≡ u.0 = same t.0 u.0 l in
    let q : t.1 ≡ u.1 = sym (value_at_first cmp o t ts a.0) ∙ e (one_at cmp t.0) ∙ ap (λ v. value_at (one_at cmp v) (u ∷ us)) p ∙ value_at_first cmp o u us b.0 in
    let r : ts ≡ us = ih (λ phi. let k : t.1 *ℤ phi t.0 ≡ u.1 *ℤ phi u.0 = ap (λ v. v *ℤ phi t.0) q ∙ ap (λ v. u.1 *ℤ phi v) p in omega (arith, ints, e phi, k)) in
    λ i. (p i, q i) ∷ r i

-- two formal sums with the same value at every phi are equal
pub same_sums : {X : Type 0} (cmp : X → X → Ordering) (o : IsTotalOrder cmp) (same : (x y : X) → cmp x y ≡ Equal → x ≡ y) (s t : List (X × ℤ)) → IsAscending cmp s → IsAscending cmp t → IsNonzero s → IsNonzero t → ((phi : X → ℤ) → value_at phi s ≡ value_at phi t) → s ≡ t
same_sums cmp o same [] [] a b m n e = refl
same_sums cmp o same [] (u ∷ us) a b m n e = absurd (not_zero u.1 n.0 (sym (value_at_first cmp o u us b.0) ∙ sym (e (one_at cmp u.0))))
same_sums cmp o same (t ∷ ts) [] a b m n e = absurd (not_zero t.1 m.0 (sym (value_at_first cmp o t ts a.0) ∙ e (one_at cmp t.0)))
same_sums {X = X} cmp o same (t ∷ ts) (u ∷ us) a b m n e =
    first_equal cmp o same t ts u us a b m n e (cmp t.0 u.0) refl (λ f. same_sums cmp o same ts us a.1 b.1 m.1 n.1 f)

-- a list of terms, summed up
abbrev pub summed : {X : Type 0} → (X → X → Ordering) → List (X × ℤ) → List (X × ℤ)
summed cmp [] = []
summed cmp (t ∷ ts) = plus_term cmp (summed cmp ts) t.0 t.1

pub value_at-summed : {X : Type 0} (cmp : X → X → Ordering) (same : (x y : X) → cmp x y ≡ Equal → x ≡ y) (phi : X → ℤ) (ts : List (X × ℤ)) → value_at phi (summed cmp ts) ≡ value_at phi ts
value_at-summed cmp same phi [] = refl
value_at-summed cmp same phi (t ∷ ts) = value_at-plus_term cmp same phi (summed cmp ts) t.0 t.1 ∙ ap (λ v. t.1 *ℤ phi t.0 +ℤ v) (value_at-summed cmp same phi ts)

weight_of-summed : {X : Type 0} (cmp : X → X → Ordering) (ts : List (X × ℤ)) → weight_of (summed cmp ts) ≤ weight_of ts
weight_of-summed cmp [] = omega arith
weight_of-summed cmp (t ∷ ts) = omega (arith, weight_of-plus_term cmp (summed cmp ts) t.0 t.1, weight_of-summed cmp ts)

IsAscending-summed : {X : Type 0} (cmp : X → X → Ordering) (o : IsTotalOrder cmp) (ts : List (X × ℤ)) → IsAscending cmp (summed cmp ts)
IsAscending-summed cmp o [] = tt
IsAscending-summed cmp o (t ∷ ts) = IsAscending-plus_term cmp o (summed cmp ts) t.0 t.1 (IsAscending-summed cmp o ts)

IsNonzero-summed : {X : Type 0} (cmp : X → X → Ordering) (ts : List (X × ℤ)) → IsNonzero (summed cmp ts)
IsNonzero-summed cmp [] = tt
IsNonzero-summed cmp (t ∷ ts) = IsNonzero-plus_term cmp (summed cmp ts) t.0 t.1 (IsNonzero-summed cmp ts)

-- a formal sum is its terms summed up, and no heavier than any list that is the same sum
pub sum_is : {X : Type 0} (cmp : X → X → Ordering) (o : IsTotalOrder cmp) (same : (x y : X) → cmp x y ≡ Equal → x ≡ y) (s ts : List (X × ℤ)) → IsFormalSum cmp s → IsSameSum s ts → s ≡ summed cmp ts
sum_is cmp o same s ts f e = same_sums cmp o same s (summed cmp ts) f.ascending (IsAscending-summed cmp o ts) f.nonzero (IsNonzero-summed cmp ts) (λ phi. e.at phi ∙ sym (value_at-summed cmp same phi ts))

pub weight_least : {X : Type 0} (cmp : X → X → Ordering) (o : IsTotalOrder cmp) (same : (x y : X) → cmp x y ≡ Equal → x ≡ y) (s ts : List (X × ℤ)) → IsFormalSum cmp s → IsSameSum s ts → weight_of s ≤ weight_of ts
weight_least cmp o same s ts f e = rw (sum_is cmp o same s ts f e) (weight_of-summed cmp ts)
