-- Elements at their places: what is asked of numbered lines, what stands in filtered and joined lists.
use Rattle.std.{proofs.Common.{◌≡◌, ℕ, suc, ◌+◌, ◌-◌, ◌<◌, ◌≤◌, inl, inr, refl, sym, ◌∙◌, ap, ap₂, subst, arith, List, [], ◌∷◌, ◌++◌, length, map, get_or, slice_get, Some, None, Option, ◌⊎◌}, specs.List.AllZip}
use Rattle.linear_law.specs.Names.{Among, Each}
use Rattle.certificate_law.{specs.Names.{Stated, numbered}, proofs.Asked.{each_left, each_right}}

-- ---- each element with its place, from k on

unfoldable pub EachAt : {X : Type 0} → (ℕ → X → Type 0) → ℕ → List X → Type 0
EachAt P k [] = Unit {0}
EachAt P k (x ∷ xs) = P k x × EachAt P (k + 1) xs

pub each_at : {X : Type 0} (A : Stated → Type 0) (line : ℕ → X → Stated) (next : X → Stated) (k : ℕ) (xs : List X) → Each A (numbered (λ j x. line j x ∷ next x ∷ []) k xs) → EachAt (λ j x. A (line j x)) k xs
unfolding EachAt
each_at A line next k [] h = tt
each_at A line next k (x ∷ xs) h = (h.0, each_at A line next (k + 1) xs h.1.1)

pub at_map : {X : Type 0} (P Q : ℕ → X → Type 0) → ((j : ℕ) (x : X) → P j x → Q j x) → (k : ℕ) (xs : List X) → EachAt P k xs → EachAt Q k xs
unfolding EachAt
at_map P Q f k [] h = tt
at_map P Q f k (x ∷ xs) h = (f k x h.0, at_map P Q f (k + 1) xs h.1)

pub at_each : {X : Type 0} (P : ℕ → X → Type 0) (Q : X → Type 0) → ((j : ℕ) (x : X) → P j x → Q x) → (k : ℕ) (xs : List X) → EachAt P k xs → Each Q xs
unfolding EachAt
at_each P Q f k [] h = tt
at_each P Q f k (x ∷ xs) h = (f k x h.0, at_each P Q f (k + 1) xs h.1)

-- where each place is below m, there are no more elements
pub at_count : {X : Type 0} (P : ℕ → X → Type 0) (m : ℕ) → ((j : ℕ) (x : X) → P j x → j < m) → (k : ℕ) (xs : List X) → k ≤ m → EachAt P k xs → k + length xs ≤ m
unfolding EachAt
at_count P m f k [] b h = omega arith
at_count P m f k (x ∷ xs) b h =
    let here = f k x h.0 in
    let rest = at_count P m f (k + 1) xs (omega arith) h.1 in
    omega (arith, rest)

-- beside the elements of another list
at_zip : {X Z : Type 0} (P : ℕ → X → Type 0) (R : Z → X → Type 0) (d : Z) (full : List Z) → ((j : ℕ) (x : X) → P j x → R (get_or full j d) x) → (k : ℕ) (zs : List Z) (xs : List X) → length zs ≡ length xs
    → ((i : ℕ) → i < length zs → get_or full (k + i) d ≡ get_or zs i d) → EachAt P k xs → AllZip R zs xs
unfolding EachAt
at_zip P R d full f k [] [] e h a = tt
at_zip P R d full f k (z ∷ zs) (x ∷ xs) e h a =
    let q : k + 0 ≡ k = omega arith in
    let here : get_or full k d ≡ z = ap (λ j. get_or full j d) (sym q) ∙ h 0 (omega arith) in (
      subst (λ (w : _). R w x) here (f k x a.0),
      at_zip P R d full f (k + 1) zs xs (omega (arith, e)) (λ i b. let g : (k + 1) + i ≡ k + suc i = omega arith in ap (λ j. get_or full j d) g ∙ h (suc i) (omega arith)) a.1,
    )
at_zip P R d full f k _ _ e h a = absurd (omega (arith, e))

pub at_start : {X : Type 0} (full : List X) (d : X) (i : ℕ) → get_or full (0 + i) d ≡ get_or full i d
at_start full d i = let e : 0 + i ≡ i = omega arith in ap (λ j. get_or full j d) e

-- the columns beside the elements of another list, of which none is missing
pub zip_places_of : {X Z : Type 0} (P : ℕ → X → Type 0) (R : Z → X → Type 0) (d : Z) (zs : List Z) (xs : List X) → ((j : ℕ) (x : X) → P j x → (j < length zs) × R (get_or zs ((j + 1) - 1) d) x)
    → length zs ≤ length xs → EachAt P 0 xs → AllZip R zs xs
zip_places_of P R d zs xs f whole h =
    let most = at_count P (length zs) (λ j x a. (f j x a).0) 0 xs (omega arith) h in
    at_zip P R d zs (λ j x a. let e : (j + 1) - 1 ≡ j = omega arith in subst (λ (i : ℕ). R (get_or zs i d) x) e (f j x a).1) 0 zs xs (omega (arith, most, whole)) (λ i b. at_start zs d i) h

-- ---- what stands in a list

pub in_append : {X : Type 0} (x : X) (xs ys : List X) → Among x (xs ++ ys) → Among x xs ⊎ Among x ys
in_append x [] ys m = inr m
in_append x (y ∷ xs) ys m = elim m [ inl e ↦ inl (inl e) | inr k ↦ elim (in_append x xs ys k) [ inl a ↦ inl (inr a) | inr b ↦ inr b ] ]

value_or : {X : Type 0} → X → Option X → X
value_or d None = d
value_or d (Some x) = x

-- what is asked of the parts of numbered elements
pub numbered_heads : {X : Type 0} (A : Stated → Type 0) (line : ℕ → X → List Stated) (Q : ℕ → X → Type 0) → ((k : ℕ) (x : X) → Each A (line k x) → Q k x) → (k : ℕ) (xs : List X) → Each A (numbered line k xs) → EachAt Q k xs
unfolding EachAt
numbered_heads A line Q f k [] h = tt
numbered_heads A line Q f k (x ∷ xs) h = (f k x (each_left A (line k x) (numbered line (k + 1) xs) h), numbered_heads A line Q f (k + 1) xs (each_right A (line k x) (numbered line (k + 1) xs) h))

-- each element is that of a list at its place, and none is missing
pub all_placed : {X Y : Type 0} (f : X → Y) (full : List Y) (k : ℕ) (xs : List X) (ys : List Y) → EachAt (λ j x. slice_get full j ≡ Some (f x)) k xs → length ys ≤ length xs → ((i : ℕ) → slice_get full (k + i) ≡ slice_get ys i) → map f xs ≡ ys
unfolding EachAt value_or
all_placed f full k [] [] h l e = refl
all_placed f full k [] (y ∷ ys) h l e = absurd (omega (arith, l))
all_placed f full k (x ∷ xs) [] h l e =
    let z : k + 0 ≡ k = omega arith in
    let none : Some (f x) ≡ None = sym h.0 ∙ ap (slice_get full) (sym z) ∙ e 0 in
    absurd (never none)
  where
    never : {Y : Type 0} {y : Y} → Some y ≡ None → ⊥
    never q = cc
all_placed f full k (x ∷ xs) (y ∷ ys) h l e =
    let z : k + 0 ≡ k = omega arith in
    let here : Some (f x) ≡ Some y = sym h.0 ∙ ap (slice_get full) (sym z) ∙ e 0 in
    ap₂ ◌∷◌ (ap (value_or y) here) (all_placed f full (k + 1) xs ys h.1 (omega (arith, l)) (λ i. let q : (k + 1) + i ≡ k + suc i = omega arith in ap (slice_get full) q ∙ e (suc i)))

pub placed_from_start : {X Y : Type 0} (f : X → Y) (full : List Y) (xs : List X) → EachAt (λ j x. slice_get full j ≡ Some (f x)) 0 xs → length full ≤ length xs → map f xs ≡ full
placed_from_start f full xs h l = all_placed f full 0 xs full h l (λ i. let q : 0 + i ≡ i = omega arith in ap (slice_get full) q)
