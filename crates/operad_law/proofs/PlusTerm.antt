-- A list of terms with one more term: its value, its weight and its order.
use Rattle.std.{proofs.Common.{◌≡◌, ◌+◌, ◌≤◌, List, [], ◌∷◌, ◌++◌, ◌^◌, refl, ap, ◌∙◌, inl, inr, arith, Ordering, Less, Equal, Greater, ℤ, pos, ◌+ℤ◌, ◌*ℤ◌, nat_abs}, proofs.Math.Nat.le_trans, specs.Ordering.ordering_reverse, specs.Cmp.IsTotalOrder, proofs.lemmas.Int.ints, proofs.lemmas.Bool.cases_Bool}
use Rattle.signed_sum.{proofs.Names.{add-mul, is_zero-true}, specs.Names.{value_at, weight_of, is_zero}}
use Rattle.operad_law.specs.{FormalSums.{IsBelow, IsAscending, IsNonzero, IsFormalSum, with_term, plus_first, plus_term}, Places.IsAbove}

pub value_at-with_term : {X : Type 0} (phi : X → ℤ) (x : X) (c : ℤ) (ts : List (X × ℤ)) → value_at phi (with_term x c ts) ≡ c *ℤ phi x +ℤ value_at phi ts
value_at-with_term phi x c ts = elim (cases_Bool (is_zero c)) [
  | inl z ↦ let a : c *ℤ phi x ≡ pos 0 *ℤ phi x = ap (λ v. v *ℤ phi x) (is_zero-true c z) in rw z (omega (arith, ints, a))
  | inr z ↦ rw z refl
]

pub value_at-plus_term : {X : Type 0} (cmp : X → X → Ordering) (same : (x y : X) → cmp x y ≡ Equal → x ≡ y) (phi : X → ℤ) (ts : List (X × ℤ)) (x : X) (c : ℤ) → value_at phi (plus_term cmp ts x c) ≡ c *ℤ phi x +ℤ value_at phi ts
value_at-plus_term cmp same phi [] x c = value_at-with_term phi x c []
value_at-plus_term cmp same phi (t ∷ ts) x c = at_first (value_at-plus_term cmp same phi ts x c) (cmp t.0 x) refl
  where
    at_first : value_at phi (plus_term cmp ts x c) ≡ c *ℤ phi x +ℤ value_at phi ts → (o : Ordering) → cmp t.0 x ≡ o → value_at phi (plus_first o t ts x c (plus_term cmp ts x c)) ≡ c *ℤ phi x +ℤ value_at phi (t ∷ ts)
    at_first ih Less e = omega (arith, ints, ih)
    at_first ih Equal e = omega (arith, ints, value_at-with_term phi t.0 (t.1 +ℤ c) ts, add-mul t.1 c (phi t.0), ap (λ v. c *ℤ phi v) (same t.0 x e))
    at_first ih Greater e = value_at-with_term phi x c (t ∷ ts)

pub weight_of-with_term : {X : Type 0} (x : X) (c : ℤ) (ts : List (X × ℤ)) → weight_of (with_term x c ts) ≡ nat_abs c + weight_of ts
weight_of-with_term x c ts = elim (cases_Bool (is_zero c)) [
  | inl z ↦ let a : nat_abs c ≡ nat_abs (pos 0) = ap nat_abs (is_zero-true c z) in rw z (omega (arith, a))
  | inr z ↦ rw z refl
]

pub abs_sum : (a b : ℤ) → nat_abs (a +ℤ b) ≤ nat_abs a + nat_abs b
abs_sum a b = omega (arith, ints)

pub weight_of-plus_term : {X : Type 0} (cmp : X → X → Ordering) (ts : List (X × ℤ)) (x : X) (c : ℤ) → weight_of (plus_term cmp ts x c) ≤ nat_abs c + weight_of ts
weight_of-plus_term cmp [] x c = omega (arith, weight_of-with_term x c [])
weight_of-plus_term cmp (t ∷ ts) x c = at_head (weight_of-plus_term cmp ts x c) (cmp t.0 x)
  where
    at_head : weight_of (plus_term cmp ts x c) ≤ nat_abs c + weight_of ts → (o : Ordering) → weight_of (plus_first o t ts x c (plus_term cmp ts x c)) ≤ nat_abs c + weight_of (t ∷ ts)
    at_head ih Less = omega arith
    at_head ih Equal = omega (arith, weight_of-with_term t.0 (t.1 +ℤ c) ts, abs_sum t.1 c)
    at_head ih Greater = omega (arith, weight_of-with_term x c (t ∷ ts))

-- ---- the list stays strictly ascending, with no coefficient 0
IsBelow-with_term : {X : Type 0} (cmp : X → X → Ordering) (y x : X) (c : ℤ) (ts : List (X × ℤ)) → cmp y x ≡ Less → IsBelow cmp y ts → IsBelow cmp y (with_term x c ts)
IsBelow-with_term cmp y x c ts l b = elim (cases_Bool (is_zero c)) [ inl z ↦ rw z b | inr z ↦ rw z (l, b) ]

IsBelow-plus_term : {X : Type 0} (cmp : X → X → Ordering) (y : X) (ts : List (X × ℤ)) (x : X) (c : ℤ) → cmp y x ≡ Less → IsBelow cmp y ts → IsBelow cmp y (plus_term cmp ts x c)
IsBelow-plus_term cmp y [] x c l b = IsBelow-with_term cmp y x c [] l b
IsBelow-plus_term cmp y (t ∷ ts) x c l b = at_head (IsBelow-plus_term cmp y ts x c l b.1) (cmp t.0 x)
  where
    at_head : IsBelow cmp y (plus_term cmp ts x c) → (o : Ordering) → IsBelow cmp y (plus_first o t ts x c (plus_term cmp ts x c))
    at_head ih Less = (b.0, ih)
    at_head ih Equal = IsBelow-with_term cmp y t.0 (t.1 +ℤ c) ts b.0 b.1
    at_head ih Greater = IsBelow-with_term cmp y x c (t ∷ ts) l b

pub IsBelow-less : {X : Type 0} (cmp : X → X → Ordering) (o : IsTotalOrder cmp) (x y : X) (ts : List (X × ℤ)) → cmp x y ≡ Less → IsBelow cmp y ts → IsBelow cmp x ts
IsBelow-less cmp o x y [] l b = tt
IsBelow-less cmp o x y (t ∷ ts) l b = (o.trans x y t.0 l b.0, IsBelow-less cmp o x y ts l b.1)

IsAscending-with_term : {X : Type 0} (cmp : X → X → Ordering) (x : X) (c : ℤ) (ts : List (X × ℤ)) → IsBelow cmp x ts → IsAscending cmp ts → IsAscending cmp (with_term x c ts)
IsAscending-with_term cmp x c ts b a = elim (cases_Bool (is_zero c)) [ inl z ↦ rw z a | inr z ↦ rw z (b, a) ]

pub IsAscending-plus_term : {X : Type 0} (cmp : X → X → Ordering) (o : IsTotalOrder cmp) (ts : List (X × ℤ)) (x : X) (c : ℤ) → IsAscending cmp ts → IsAscending cmp (plus_term cmp ts x c)
IsAscending-plus_term cmp o [] x c a = IsAscending-with_term cmp x c [] tt tt
IsAscending-plus_term cmp o (t ∷ ts) x c a = at_head (IsAscending-plus_term cmp o ts x c a.1) (cmp t.0 x) refl
  where
    at_head : IsAscending cmp (plus_term cmp ts x c) → (r : Ordering) → cmp t.0 x ≡ r → IsAscending cmp (plus_first r t ts x c (plus_term cmp ts x c))
    at_head ih Less e = (IsBelow-plus_term cmp t.0 ts x c e a.0, ih)
    at_head ih Equal e = IsAscending-with_term cmp t.0 (t.1 +ℤ c) ts a.0 a.1
    at_head ih Greater e = let l : cmp x t.0 ≡ Less = o.antisymm x t.0 ∙ ap ordering_reverse e in
        IsAscending-with_term cmp x c (t ∷ ts) (l, IsBelow-less cmp o x t.0 ts l a.0) a

IsNonzero-with_term : {X : Type 0} (x : X) (c : ℤ) (ts : List (X × ℤ)) → IsNonzero ts → IsNonzero (with_term x c ts)
IsNonzero-with_term x c ts n = elim (cases_Bool (is_zero c)) [ inl z ↦ rw z n | inr z ↦ rw z (z, n) ]

pub IsNonzero-plus_term : {X : Type 0} (cmp : X → X → Ordering) (ts : List (X × ℤ)) (x : X) (c : ℤ) → IsNonzero ts → IsNonzero (plus_term cmp ts x c)
IsNonzero-plus_term cmp [] x c n = IsNonzero-with_term x c [] tt
IsNonzero-plus_term cmp (t ∷ ts) x c n = at_head (IsNonzero-plus_term cmp ts x c n.1) (cmp t.0 x)
  where
    at_head : IsNonzero (plus_term cmp ts x c) → (o : Ordering) → IsNonzero (plus_first o t ts x c (plus_term cmp ts x c))
    at_head ih Less = (n.0, ih)
    at_head ih Equal = IsNonzero-with_term t.0 (t.1 +ℤ c) ts n.1
    at_head ih Greater = IsNonzero-with_term x c (t ∷ ts) n

pub IsFormalSum-plus_term : {X : Type 0} (cmp : X → X → Ordering) (o : IsTotalOrder cmp) (ts : List (X × ℤ)) (x : X) (c : ℤ) → IsFormalSum cmp ts → nat_abs c + weight_of ts ≤ 10 ^ 18 → IsFormalSum cmp (plus_term cmp ts x c)
IsFormalSum-plus_term cmp o ts x c f l = record {
  ascending = IsAscending-plus_term cmp o ts x c f.ascending;
  nonzero = IsNonzero-plus_term cmp ts x c f.nonzero;
  light = le_trans (weight_of-plus_term cmp ts x c) l;
}

-- ---- at a place
pub plus_term-append : {X : Type 0} (cmp : X → X → Ordering) (ls rs : List (X × ℤ)) (x : X) (c : ℤ) → IsAbove cmp x ls → plus_term cmp (ls ++ rs) x c ≡ ls ++ plus_term cmp rs x c
plus_term-append cmp [] rs x c b = refl
plus_term-append cmp (t ∷ ls) rs x c b = rw b.0 (ap (λ v. t ∷ v) (plus_term-append cmp ls rs x c b.1))
