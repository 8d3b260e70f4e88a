-- Places in lists of terms, for the steps of `add_term` and of sums of two lists.
use Rattle.std.specs.{Prelude.{◌≡◌, List, [], ◌∷◌, ℤ}, declared.cmp.Ordering.Ordering, declared.cmp.Ordering.TheVariants.{Less, Greater}}

-- the element of each term is less than x
abbrev pub IsAbove : {X : Type 0} → (X → X → Ordering) → X → List (X × ℤ) → Type 0
IsAbove cmp x [] = Unit {0}
IsAbove cmp x (t ∷ ts) = (cmp t.0 x ≡ Less) × IsAbove cmp x ts

-- how the first elements of two lists compare, where an empty list comes last
abbrev pub first_order : {X : Type 0} → (X → X → Ordering) → List (X × ℤ) → List (X × ℤ) → Ordering
first_order cmp [] ys = Greater
first_order cmp (x ∷ xs) [] = Less
first_order cmp (x ∷ xs) (y ∷ ys) = cmp x.0 y.0
