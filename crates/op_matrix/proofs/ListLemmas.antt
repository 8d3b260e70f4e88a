-- Lists that grow with the first items of others.
use Rattle.std.{proofs.Common.{◌≡◌, ℕ, zero, suc, ◌+◌, ◌<◌, List, [], ◌∷◌, ◌++◌, append_assoc, map, length, take, arith, refl, sym, ap, subst, ◌∙◌, append-nil, flat_map, slice_get, Some}, proofs.lemmas.Grind.flat_map-append, proofs.lemmas.List.map-append, specs.List.AllZip}
use Rattle.linear_law.proofs.Names.{zip_push}

-- the item at a place inside, which stands behind the first items
pub next : {X : Type 0} (xs : List X) (i : ℕ) → i < length xs → (x : X) × (slice_get xs i ≡ Some x) × (take (i + 1) xs ≡ take i xs ++ x ∷ [])
next xs i l = (let e : suc i ≡ i + 1 = omega arith in let r = go xs i l in (r.0, r.1, ap (λ (k : ℕ). take k xs) (sym e) ∙ r.2))
  where
    go : {X : Type 0} (xs : List X) (i : ℕ) → i < length xs → (x : X) × (slice_get xs i ≡ Some x) × (take (suc i) xs ≡ take i xs ++ x ∷ [])
    go [] i l = absurd (omega (arith, l))
    go (x ∷ xs) zero l = (x, refl, refl)
    go (x ∷ xs) (suc i) l = let r = go xs i (omega (arith, l)) in (r.0, r.1, ap (λ t. x ∷ t) r.2)

-- one more item of xs behind the items us
pub more-behind : {X Z Y : Type 0} (R : Z → Y → Type 0) (f : X → Z) (us : List Z) (xs : List X) (i : ℕ) (ys : List Y) (y : Y) → i < length xs → AllZip R (us ++ map f (take i xs)) ys → ((x : X) → slice_get xs i ≡ Some x → R (f x) y) → AllZip R (us ++ map f (take (i + 1) xs)) (ys ++ (y ∷ []))
more-behind R f us xs i ys y l h k =
    let n = next xs i l in
    subst (λ (vs : List _). AllZip R vs (ys ++ (y ∷ [])))
    (append_assoc us (map f (take i xs)) (f n.0 ∷ []) ∙ ap (λ (vs : List _). us ++ vs) (sym (ap (map f) n.2 ∙ map-append f (take i xs) (n.0 ∷ []))))
    (zip_push R (us ++ map f (take i xs)) ys (f n.0) y h (k n.0 n.1))

-- one more item
pub zip-more : {X Y : Type 0} (R : X → Y → Type 0) (xs : List X) (i : ℕ) (ys : List Y) (y : Y) → i < length xs → AllZip R (take i xs) ys → ((x : X) → slice_get xs i ≡ Some x → R x y) → AllZip R (take (i + 1) xs) (ys ++ (y ∷ []))
zip-more R xs i ys y l h k = let n = next xs i l in subst (λ (us : List _). AllZip R us (ys ++ (y ∷ []))) (sym n.2) (zip_push R (take i xs) ys n.0 y h (k n.0 n.1))

-- the lists of one more item
pub flat-more : {X Y : Type 0} (f : X → List Y) (xs : List X) (i : ℕ) (x : X) → i < length xs → slice_get xs i ≡ Some x → flat_map f (take (i + 1) xs) ≡ flat_map f (take i xs) ++ f x
flat-more f xs i x l e =
    let n = next xs i l in
    ap (flat_map f) n.2 ∙ flat_map-append f (take i xs) (n.0 ∷ []) ∙ ap (λ (ys : List _). flat_map f (take i xs) ++ ys) (append-nil (f n.0) ∙ ap f (same n.0 x (sym n.1 ∙ e)))
  where
    same : {X : Type 0} (x z : X) → Some x ≡ Some z → x ≡ z
    same x z q = cc
