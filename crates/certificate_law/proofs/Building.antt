-- What is asked of numbered lines, put together.
use Rattle.std.{proofs.Common.{◌≡◌, ℕ, suc, ◌+◌, ◌<◌, sym, ◌∙◌, ap, subst, arith, List, [], ◌∷◌, ◌++◌, length, map, get_or, slice_get, Some}, specs.List.AllZip}
use Rattle.linear_law.{specs.Names.Each, proofs.Names.each_append}
use Rattle.certificate_law.{specs.Names.{Stated, behind, numbered}, proofs.Places.EachAt}

-- ---- places

pub at_both : {X : Type 0} (P Q R : ℕ → X → Type 0) → ((j : ℕ) (x : X) → P j x → Q j x → R j x) → (k : ℕ) (xs : List X) → EachAt P k xs → EachAt Q k xs → EachAt R k xs
unfolding EachAt
at_both P Q R f k [] h g = tt
at_both P Q R f k (x ∷ xs) h g = (f k x h.0 g.0, at_both P Q R f (k + 1) xs h.1 g.1)

pub at_of_each : {X : Type 0} (Q : X → Type 0) (k : ℕ) (xs : List X) → Each Q xs → EachAt (λ j x. Q x) k xs
unfolding EachAt
at_of_each Q k [] h = tt
at_of_each Q k (x ∷ xs) h = (h.0, at_of_each Q (k + 1) xs h.1)

-- each element at its place of the list of what f gives
at_placed : {X Y : Type 0} (f : X → Y) (full : List Y) (k : ℕ) (xs : List X) → ((i : ℕ) → slice_get full (k + i) ≡ slice_get (map f xs) i) → EachAt (λ j x. slice_get full j ≡ Some (f x)) k xs
unfolding EachAt
at_placed f full k [] h = tt
at_placed f full k (x ∷ xs) h =
    let z : k ≡ k + 0 = omega arith in (
      ap (slice_get full) z ∙ h 0,
      at_placed f full (k + 1) xs (λ i. let e : (k + 1) + i ≡ k + suc i = omega arith in ap (slice_get full) e ∙ h (suc i)),
    )

pub placed : {X Y : Type 0} (f : X → Y) (full : List Y) (xs : List X) → map f xs ≡ full → EachAt (λ j x. slice_get full j ≡ Some (f x)) 0 xs
placed f full xs e = at_placed f full 0 xs (λ i. let z : 0 + i ≡ i = omega arith in ap (slice_get full) z ∙ ap (λ ys. slice_get ys i) (sym e))

-- beside the elements of another list, by their places
zip_at : {X Z : Type 0} (R : Z → X → Type 0) (d : Z) (full : List Z) (k : ℕ) (zs : List Z) (xs : List X) → k + length zs ≡ length full → ((i : ℕ) → get_or full (k + i) d ≡ get_or zs i d) → AllZip R zs xs
    → EachAt (λ j x. (j < length full) × R (get_or full j d) x) k xs
unfolding EachAt
zip_at R d full k [] [] l e h = tt
zip_at R d full k (z ∷ zs) (x ∷ xs) l e h =
    let o : k + 0 ≡ k = omega arith in (
      (omega (arith, l), subst (λ (w : _). R w x) (sym (e 0) ∙ ap (λ j. get_or full j d) o) h.0),
      zip_at R d full (k + 1) zs xs (omega (arith, l)) (λ i. let q : (k + 1) + i ≡ k + suc i = omega arith in ap (λ j. get_or full j d) q ∙ e (suc i)) h.1,
    )
zip_at R d full k _ _ l e h = absurd h

zip_unmap : {X Y Z : Type 0} (R : Z → X → Type 0) (g : Y → Z) (ys : List Y) (xs : List X) → AllZip R (map g ys) xs → AllZip (λ y x. R (g y) x) ys xs
zip_unmap R g [] [] h = tt
zip_unmap R g (y ∷ ys) (x ∷ xs) h = (h.0, zip_unmap R g ys xs h.1)
zip_unmap R g _ _ h = absurd h

pub zip_places : {X Y Z : Type 0} (R : Z → X → Type 0) (g : Y → Z) (d : Y) (ys : List Y) (xs : List X) → AllZip R (map g ys) xs → EachAt (λ j x. (j < length ys) × R (g (get_or ys j d)) x) 0 xs
zip_places R g d ys xs h = zip_at (λ y x. R (g y) x) d ys 0 ys xs (omega arith) (λ i. let e : 0 + i ≡ i = omega arith in ap (λ j. get_or ys j d) e) (zip_unmap R g ys xs h)

-- ---- lines

pub each_numbered : {X : Type 0} (P : Stated → Type 0) (line : ℕ → X → List Stated) (k : ℕ) (xs : List X) → EachAt (λ j x. Each P (line j x)) k xs → Each P (numbered line k xs)
unfolding EachAt
each_numbered P line k [] h = tt
each_numbered P line k (x ∷ xs) h = each_append P (line k x) (numbered line (k + 1) xs) h.0 (each_numbered P line (k + 1) xs h.1)

at_from : {X : Type 0} (Q : ℕ → X → Type 0) (d : X) (k : ℕ) (xs : List X) → ((i : ℕ) → i < length xs → Q (k + i) (get_or xs i d)) → EachAt Q k xs
unfolding EachAt
at_from Q d k [] h = tt
at_from Q d k (x ∷ xs) h =
    let z : k + 0 ≡ k = omega arith in (
      subst (λ (j : ℕ). Q j x) z (h 0 (omega arith)),
      at_from Q d (k + 1) xs (λ i b. let e : k + suc i ≡ (k + 1) + i = omega arith in subst (λ (j : ℕ). Q j (get_or xs i d)) e (h (suc i) (omega arith))),
    )

pub at_index : {X : Type 0} (Q : ℕ → X → Type 0) (d : X) (xs : List X) → ((n : ℕ) → n < length xs → Q n (get_or xs n d)) → EachAt Q 0 xs
at_index Q d xs h = at_from Q d 0 xs (λ i b. let z : i ≡ 0 + i = omega arith in subst (λ (j : ℕ). Q j (get_or xs i d)) z (h i b))

pub each_behind : {X : Type 0} (P : Stated → Type 0) (line : List X → X → List Stated) (b xs : List X) → Each (λ x. (b : List X) → Each P (line b x)) xs → Each P (behind line b xs)
each_behind P line b [] h = tt
each_behind P line b (x ∷ xs) h = each_append P (line b x) (behind line (b ++ x ∷ []) xs) (h.0 b) (each_behind P line (b ++ x ∷ []) xs h.1)
