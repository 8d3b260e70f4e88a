-- Lists over numbers, and lists that are made item by item.
use Rattle.std.proofs.{Common.{◌≡◌, ◌≢◌, ◌∙◌, ℕ, zero, suc, ◌+◌, ◌<◌, ◌≤◌, ◌⊎◌, inl, inr, List, [], ◌∷◌, ◌++◌, drop, length, map, min, take, get_or, arith, refl, sym, ap, ap₂, subst}, lemmas.Bool.cases_lt, lemmas.List.{drop-map, drop_min, length-map, map-append, take_min}}
use Rattle.signed_sum.specs.Names.{numbers_from}
use Rattle.linear_law.{specs.Names.{Among, Each, copies}, proofs.Names.{each_get_or, each_itself}}

-- ---- lists over numbers

numbers-get : {X : Type 0} (g : ℕ → X) (a k n : ℕ) (d : X) → n < k → get_or (map g (numbers_from a k)) n d ≡ g (a + n)
numbers-get g a zero n d l = absurd (omega (arith, l))
numbers-get g a (suc k) zero d l = let e : a ≡ a + 0 = omega arith in ap g e
numbers-get g a (suc k) (suc n) d l = let e : suc a + n ≡ a + suc n = omega arith in numbers-get g (suc a) k n d (omega (arith, l)) ∙ ap g e

pub numbers-at : {X : Type 0} (g : ℕ → X) (k n : ℕ) (d : X) → n < k → get_or (map g (numbers_from 0 k)) n d ≡ g n
numbers-at g k n d l = let e : 0 + n ≡ n = omega arith in numbers-get g 0 k n d l ∙ ap g e

pub numbers-length : (a k : ℕ) → length (numbers_from a k) ≡ k
numbers-length a zero = refl
numbers-length a (suc k) = ap suc (numbers-length (suc a) k)

pub numbers-count : {X : Type 0} (g : ℕ → X) (k : ℕ) → length (map g (numbers_from 0 k)) ≡ k
numbers-count g k = length-map (numbers_from 0 k) g ∙ numbers-length 0 k

-- one number more
pub numbers-more : (a k : ℕ) → numbers_from a (k + 1) ≡ numbers_from a k ++ (a + k) ∷ []
numbers-more a k = let e : suc k ≡ k + 1 = omega arith in subst (λ (m : ℕ). numbers_from a m ≡ numbers_from a k ++ (a + k) ∷ []) e (go a k)
  where
    go : (b m : ℕ) → numbers_from b (suc m) ≡ numbers_from b m ++ (b + m) ∷ []
    go b zero = let e : b ≡ b + 0 = omega arith in ap (λ (x : ℕ). x ∷ []) e
    go b (suc m) = let e : suc b + m ≡ b + suc m = omega arith in ap (λ (xs : List ℕ). b ∷ xs) (go (suc b) m ∙ ap (λ (x : ℕ). numbers_from (suc b) m ++ x ∷ []) e)

pub counted-more : {X : Type 0} (g : ℕ → X) (k : ℕ) (ys new : List X) (y : X) → ys ≡ map g (numbers_from 0 k) → y ≡ g k → new ≡ ys ++ y ∷ [] → new ≡ map g (numbers_from 0 (k + 1))
counted-more g k ys new y h r e =
    let z : k ≡ 0 + k = omega arith in
    e ∙ ap₂ (λ (xs : List _) (x : _). xs ++ x ∷ []) h (r ∙ ap g z) ∙ sym (ap (map g) (numbers-more 0 k) ∙ map-append g (numbers_from 0 k) ((0 + k) ∷ []))

copied-more : {X : Type 0} (k : ℕ) (x : X) → copies (suc k) x ≡ copies k x ++ x ∷ []
copied-more zero x = refl
copied-more (suc k) x = ap (λ (xs : List _). x ∷ xs) (copied-more k x)

-- one copy more
pub copies-more : {X : Type 0} (k : ℕ) (x y : X) (ys new : List X) → ys ≡ copies k x → y ≡ x → new ≡ ys ++ y ∷ [] → new ≡ copies (k + 1) x
copies-more k x y ys new h r e = let s : suc k ≡ k + 1 = omega arith in e ∙ ap₂ (λ (xs : List _) (u : _). xs ++ u ∷ []) h r ∙ sym (copied-more k x) ∙ ap (λ (n : ℕ). copies n x) s

-- ---- items

pub item-among : {X : Type 0} (xs ys : List X) (i : ℕ) (d : X) → i < length xs → xs ≡ ys → Among (get_or xs i d) ys
item-among xs ys i d lt e = subst (λ (zs : List _). Among (get_or xs i d) zs) e (each_get_or (λ t. Among t xs) xs i d lt (each_itself xs))

-- what no item has as its heading is none of the headings
pub no-heading : {M H : Type 0} (heading : M → H) (h : H) (ms : List M) → Each (λ m. heading m ≢ h) ms → Among h (map heading ms) → ⊥
no-heading heading h [] others m = m
no-heading heading h (x ∷ xs) others m = elim m [ inl e ↦ others.0 e | inr n ↦ no-heading heading h xs others.1 n ]

-- what has the length of the shorter of two lists
pub shorter : (a b k : ℕ) → k ≡ min a b → (a ≤ k) ⊎ (b ≤ k)
shorter a b k e = elim (cases_lt a b) [ inl l ↦ inl (omega (arith, e, l)) | inr l ↦ inr (omega (arith, e, l)) ]

-- the item of a mapped list at a place inside
pub mapped-at : {X Y : Type 0} (f : X → Y) (xs : List X) (i : ℕ) (d : X) (e : Y) → i < length xs → get_or (map f xs) i e ≡ f (get_or xs i d)
mapped-at f [] i d e l = absurd (omega (arith, l))
mapped-at f (x ∷ xs) zero d e l = refl
mapped-at f (x ∷ xs) (suc i) d e l = mapped-at f xs i d e (omega (arith, l))

-- the first n items and the others, mapped
pub mapped-front : {X Y : Type 0} (f : X → Y) (xs front : List X) (n m : ℕ) → m ≡ min n (length xs) → front ≡ take m xs → map f front ≡ take n (map f xs)
mapped-front f xs front n m e is = ap (map f) (is ∙ ap (λ (k : ℕ). take k xs) e ∙ take_min n xs) ∙ take-of-map f n xs
  where
    take-of-map : {X Y : Type 0} (f : X → Y) (n : ℕ) (xs : List X) → map f (take n xs) ≡ take n (map f xs)
    take-of-map f zero xs = refl
    take-of-map f (suc n) [] = refl
    take-of-map f (suc n) (x ∷ xs) = ap (λ (ys : List _). f x ∷ ys) (take-of-map f n xs)

pub mapped-back : {X Y : Type 0} (f : X → Y) (xs back : List X) (n m : ℕ) → m ≡ min n (length xs) → back ≡ drop m xs → map f back ≡ drop n (map f xs)
mapped-back f xs back n m e is = ap (map f) (is ∙ ap (λ (k : ℕ). drop k xs) e ∙ drop_min n xs) ∙ sym (drop-map f n xs)
