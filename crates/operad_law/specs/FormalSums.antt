-- Formal sums: lists of terms, each an element with a whole coefficient.
use Rattle.std.specs.{Prelude.{◌≡◌, ◌+◌, ◌*◌, ◌≤◌, ◌^◌, ℕ, List, [], ◌∷◌, ℤ, pos, ◌+ℤ◌, ◌*ℤ◌, nat_abs, false, cond}, Ordering.is_eq, declared.cmp.Ordering.Ordering, declared.cmp.Ordering.TheVariants.{Less, Equal, Greater}}
use Rattle.signed_sum.specs.Names.{is_zero, total, value_at, weight_of}

-- two lists of terms are the same sum: they have the same value at every function of the elements
pub record IsSameSum {X : Type 0} (s t : List (X × ℤ)) : Type 0 where
  pub at : (phi : X → ℤ) → value_at phi s ≡ value_at phi t

-- x is less than the element of each term
abbrev pub IsBelow : {X : Type 0} → (X → X → Ordering) → X → List (X × ℤ) → Type 0
IsBelow cmp x [] = Unit {0}
IsBelow cmp x (t ∷ ts) = (cmp x t.0 ≡ Less) × IsBelow cmp x ts

-- the elements are strictly ascending
abbrev pub IsAscending : {X : Type 0} → (X → X → Ordering) → List (X × ℤ) → Type 0
IsAscending cmp [] = Unit {0}
IsAscending cmp (t ∷ ts) = IsBelow cmp t.0 ts × IsAscending cmp ts

-- no coefficient is 0
abbrev pub IsNonzero : {X : Type 0} → List (X × ℤ) → Type 0
IsNonzero [] = Unit {0}
IsNonzero (t ∷ ts) = (is_zero t.1 ≡ false) × IsNonzero ts

-- The terms of a formal sum are strictly ascending, none has the coefficient 0, and the sizes of the
-- coefficients sum to no more than 10^18. Two formal sums that are the same sum are equal lists.
pub record IsFormalSum {X : Type 0} (cmp : X → X → Ordering) (ts : List (X × ℤ)) : Type 0 where
  pub ascending : IsAscending cmp ts
  pub nonzero : IsNonzero ts
  pub light : weight_of ts ≤ 10 ^ 18

-- the terms of a formal sum, and their weight
pub record IsWeighed {X : Type 0} (cmp : X → X → Ordering) (ts : List (X × ℤ)) (weight : ℕ) : Type 0 where
  pub sum : IsFormalSum cmp ts
  pub weighed : weight ≡ weight_of ts

-- the coefficient of an element: the sum of the coefficients of the terms with it
abbrev pub coefficient_of : {X : Type 0} → (X → X → Ordering) → X → List (X × ℤ) → ℤ
coefficient_of cmp x ts = total (λ t. cond (is_eq (cmp t.0 x)) t.1 (pos 0)) ts

-- a term in front, if its coefficient is not 0
abbrev pub with_term : {X : Type 0} → X → ℤ → List (X × ℤ) → List (X × ℤ)
with_term x c ts = cond (is_zero c) ts ((x, c) ∷ ts)

-- the first term, and `rest` behind it, with c times x: x comes after it, is its element, or comes before it
abbrev pub plus_first : {X : Type 0} → Ordering → X × ℤ → List (X × ℤ) → X → ℤ → List (X × ℤ) → List (X × ℤ)
plus_first Less t ts x c rest = t ∷ rest
plus_first Equal t ts x c rest = with_term t.0 (t.1 +ℤ c) ts
plus_first Greater t ts x c rest = with_term x c (t ∷ ts)

-- an ascending list of terms plus c times x, in its order
abbrev pub plus_term : {X : Type 0} → (X → X → Ordering) → List (X × ℤ) → X → ℤ → List (X × ℤ)
plus_term cmp [] x c = with_term x c []
plus_term cmp (t ∷ ts) x c = plus_first (cmp t.0 x) t ts x c (plus_term cmp ts x c)

-- `new` is `old` plus `by` times `other`
pub record IsPlusScaled {X : Type 0} (old other : List (X × ℤ)) (by : ℤ) (new : List (X × ℤ)) : Type 0 where
  pub sums : (phi : X → ℤ) → value_at phi new ≡ value_at phi old +ℤ by *ℤ value_at phi other
  pub grows : weight_of new ≤ weight_of old + nat_abs by * weight_of other

-- `total` is the sum of the boundaries of the terms, each times its coefficient
pub record SumsBoundaries {X : Type 0} (boundary : X → List (X × ℤ)) (ts total : List (X × ℤ)) : Type 0 where
  pub sums : (phi : X → ℤ) → value_at phi total ≡ value_at (λ x. value_at phi (boundary x)) ts
  pub light : weight_of total ≤ 255 * weight_of ts
