-- Lists in the order of lists, first difference first: lists that compare equal are the same.
use Rattle.std.{proofs.Common.{◌≡◌, ℕ, List, [], ◌∷◌, refl, sym, Ordering, Less, Equal, Greater}, specs.Ordering.{nat_cmp, ordering_then}, specs.Cmp.Lexicographic.slice_cmp, proofs.lemmas.Cmp.ranked}

then_equal : (o p : Ordering) → ordering_then o p ≡ Equal → (o ≡ Equal) × (p ≡ Equal)
then_equal Less p e = cc
then_equal Equal p e = (refl, e)
then_equal Greater p e = cc

-- For entries of any type whose order has this property.
pub equal_lists : {A : Type 0} (compare : A → A → Ordering) → ((x y : A) → compare x y ≡ Equal → x ≡ y) → (xs ys : List A) → slice_cmp compare xs ys ≡ Equal → xs ≡ ys
equal_lists compare same [] [] e = refl
equal_lists compare same [] (y ∷ ys) e = cc
equal_lists compare same (x ∷ xs) [] e = cc
equal_lists compare same (x ∷ xs) (y ∷ ys) e =
    let p : (compare x y ≡ Equal) × (slice_cmp compare xs ys ≡ Equal) = then_equal (compare x y) (slice_cmp compare xs ys) e in
    let q : x ≡ y = same x y p.0 in
    λ i. q i ∷ equal_lists compare same xs ys p.1 i

-- For numbers.
pub equal_numbers : (xs ys : List ℕ) → slice_cmp nat_cmp xs ys ≡ Equal → xs ≡ ys
equal_numbers = equal_lists nat_cmp (λ x y e. ranked x y Equal (sym e))
