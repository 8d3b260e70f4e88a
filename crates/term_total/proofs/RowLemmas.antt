-- Lists that are made of equal rows.
use Rattle.std.{proofs.Common.{◌≡◌, ℕ, zero, suc, ◌+◌, ◌*◌, Bool, true, false, cond, List, [], ◌∷◌, ◌++◌, map, arith, refl, sym, ap, ap₂, ◌∙◌, append_assoc, flat_map}, specs.List.filter, proofs.lemmas.Grind.flat_map-append, proofs.lemmas.List.map-append, proofs.lemmas.List.Elements.filter-append}
use Rattle.signed_sum.specs.Names.{numbers_from}
use Rattle.term_total.specs.Names.{repeated}

pub filter-flat : {X Y : Type 0} (test : Y → Bool) (g : X → List Y) (xs : List X) → filter test (flat_map g xs) ≡ flat_map (λ x. filter test (g x)) xs
filter-flat test g [] = refl
filter-flat test g (x ∷ xs) = filter-append test (g x) (flat_map g xs) ∙ ap (λ ys. filter test (g x) ++ ys) (filter-flat test g xs)

pub flat-flat : {X Y Z : Type 0} (f : Y → List Z) (g : X → List Y) (xs : List X) → flat_map f (flat_map g xs) ≡ flat_map (λ x. flat_map f (g x)) xs
flat-flat f g [] = refl
flat-flat f g (x ∷ xs) = flat_map-append f (g x) (flat_map g xs) ∙ ap (λ ys. flat_map f (g x) ++ ys) (flat-flat f g xs)

pub flat-same : {X Y : Type 0} (g h : X → List Y) (xs : List X) → ((x : X) → g x ≡ h x) → flat_map g xs ≡ flat_map h xs
flat-same g h [] e = refl
flat-same g h (x ∷ xs) e = ap₂ (λ ys zs. ys ++ zs) (e x) (flat-same g h xs e)

-- what is left out by a test, where it gives nothing
pub flat-kept : {X Y : Type 0} (test : X → Bool) (f : X → List Y) (xs : List X) → ((x : X) → test x ≡ false → f x ≡ []) → flat_map f (filter test xs) ≡ flat_map f xs
flat-kept test f [] h = refl
flat-kept test f (x ∷ xs) h = go (test x) refl (flat-kept test f xs h)
  where
    go : (t : Bool) → test x ≡ t → flat_map f (filter test xs) ≡ flat_map f xs → flat_map f (cond t (x ∷ filter test xs) (filter test xs)) ≡ f x ++ flat_map f xs
    go true e r = ap (λ ys. f x ++ ys) r
    go false e r = r ∙ ap (λ ys. ys ++ flat_map f xs) (sym (h x e))

flat-constant : {X : Type 0} (row : List X) (s k : ℕ) → flat_map (λ (i : ℕ). row) (numbers_from s k) ≡ repeated k row
flat-constant row s zero = refl
flat-constant row s (suc k) = ap (λ ys. row ++ ys) (flat-constant row (suc s) k)

repeated-sum : {X : Type 0} (j k : ℕ) (row : List X) → repeated j row ++ repeated k row ≡ repeated (j + k) row
repeated-sum zero k row = let e : k ≡ 0 + k = omega arith in ap (λ n. repeated n row) e
repeated-sum (suc j) k row = let e : suc (j + k) ≡ suc j + k = omega arith in append_assoc row (repeated j row) (repeated k row) ∙ ap (λ ys. row ++ ys) (repeated-sum j k row) ∙ ap (λ n. repeated n row) e

repeated-times : {X : Type 0} (j k : ℕ) (row : List X) → repeated j (repeated k row) ≡ repeated (j * k) row
repeated-times zero k row = let e : 0 ≡ 0 * k = omega arith in ap (λ n. repeated n row) e
repeated-times (suc j) k row = let e : k + j * k ≡ suc j * k = omega arith in ap (λ ys. repeated k row ++ ys) (repeated-times j k row) ∙ repeated-sum k (j * k) row ∙ ap (λ n. repeated n row) e

pub repeated-map : {X Y : Type 0} (k : ℕ) (f : X → Y) (xs : List X) → repeated k (map f xs) ≡ map f (repeated k xs)
repeated-map zero f xs = refl
repeated-map (suc k) f xs = ap (λ ys. map f xs ++ ys) (repeated-map k f xs) ∙ sym (map-append f xs (repeated k xs))

-- the items of rows that go by two numbers, of which the row does not depend
pub rows-repeated : {X : Type 0} (g : ℕ → ℕ → List X) (row : List X) (m n : ℕ) → ((i j : ℕ) → g i j ≡ row) → flat_map (λ i. flat_map (g i) (numbers_from 1 n)) (numbers_from 1 m) ≡ repeated (m * n) row
rows-repeated g row m n e =
    flat-same (λ i. flat_map (g i) (numbers_from 1 n)) (λ i. repeated n row) (numbers_from 1 m) (λ i. flat-same (g i) (λ j. row) (numbers_from 1 n) (e i) ∙ flat-constant row 1 n)
    ∙ flat-constant (repeated n row) 1 m ∙ repeated-times m n row
