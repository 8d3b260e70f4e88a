-- Lists by their places, and answers of tests.
use Rattle.std.{proofs.Common.{◌≡◌, ℕ, zero, suc, ◌+◌, ◌<◌, ◌≤◌, inl, inr, Bool, true, false, List, [], ◌∷◌, ◌++◌, length, get_or, take, arith, refl, sym, ap, subst, ◌∙◌, Vec, Global, IsTrue, ◌↔◌, slice_get, Some, None}, specs.List.AllZip, proofs.lemmas.List.take_more}
use Rattle.linear_law.{specs.Names.Among, proofs.Names.zip_push}
use Rattle.complex_index.specs.Names.{list_at}

-- ---- answers

pub tells : {A B : Type 0} (answer : Bool) → (A → B) → (B → A) → (IsTrue answer ↔ A) → (IsTrue answer ↔ B)
tells answer f g h = (λ e. f (h.0 e), λ b. h.1 (g b))

pub tells-no : {A : Type 0} → (A → ⊥) → (IsTrue false ↔ A)
tells-no n = (λ e. absurd (never e), λ a. absurd (n a))
  where
    never : false ≡ true → ⊥
    never e = cc

-- ---- lists beside each other

-- one more item beside one more
pub zip-next : {X Y : Type 0} (R : X → Y → Type 0) (xs : List X) (i : ℕ) (d : X) (ys new : List Y) (y : Y) → i < length xs → new ≡ ys ++ y ∷ [] → AllZip R (take i xs) ys → R (get_or xs i d) y → AllZip R (take (i + 1) xs) new
zip-next R xs i d ys new y b e h r =
    subst (λ (zs : List _). AllZip R (take (i + 1) xs) zs) (sym e) (subst (λ (zs : List _). AllZip R zs (ys ++ y ∷ [])) (sym (take_more xs i d b)) (zip_push R (take i xs) ys (get_or xs i d) y h r))

-- the items at one place
pub zip-at : {X Y : Type 0} (R : X → Y → Type 0) (xs : List X) (ys : List Y) (i : ℕ) (d : X) (y : Y) → AllZip R xs ys → i < length ys → y ≡ get_or ys i y → R (get_or xs i d) y
zip-at R [] [] i d y h b e = absurd (omega (arith, b))
zip-at R [] (v ∷ ys) i d y h b e = absurd h
zip-at R (x ∷ xs) [] i d y h b e = absurd h
zip-at R (x ∷ xs) (v ∷ ys) zero d y h b e = subst (R x) (sym e) h.0
zip-at R (x ∷ xs) (v ∷ ys) (suc i) d y h b e = zip-at R xs ys i d y h.1 (omega (arith, b)) e

pub slice-among : {X : Type 0} (xs : List X) (k : ℕ) (x : X) → slice_get xs k ≡ Some x → Among x xs
slice-among [] k x e = absurd (never e)
  where
    never : {Y : Type 0} {y : Y} → None ≡ Some y → ⊥
    never q = cc
slice-among (y ∷ ys) zero x e = inl (one e)
  where
    one : {Y : Type 0} {a b : Y} → Some a ≡ Some b → a ≡ b
    one q = cc
slice-among (y ∷ ys) (suc k) x e = inr (slice-among ys k x e)

-- ---- lists of lists

pub list_at-push : {X : Type 0} (vs new : List (Vec X Global)) (v : Vec X Global) (n : ℕ) → new ≡ vs ++ v ∷ [] → length vs ≡ n → list_at new n ≡ v.items
list_at-push {X = X} vs new v n e l = ap (λ (ws : List (Vec X Global)). list_at ws n) e ∙ go vs n l
  where
    go : (vs : List (Vec X Global)) (n : ℕ) → length vs ≡ n → list_at (vs ++ v ∷ []) n ≡ v.items
    go [] zero l = refl
    go [] (suc n) l = absurd (omega (arith, l))
    go (w ∷ ws) zero l = absurd (omega (arith, l))
    go (w ∷ ws) (suc n) l = go ws n (omega (arith, l))

pub list_at-before : {X : Type 0} (vs new : List (Vec X Global)) (v : Vec X Global) (m : ℕ) → new ≡ vs ++ v ∷ [] → m < length vs → list_at new m ≡ list_at vs m
list_at-before {X = X} vs new v m e l = ap (λ (ws : List (Vec X Global)). list_at ws m) e ∙ go vs m l
  where
    go : (vs : List (Vec X Global)) (m : ℕ) → m < length vs → list_at (vs ++ v ∷ []) m ≡ list_at vs m
    go [] m l = absurd (omega (arith, l))
    go (w ∷ ws) zero l = refl
    go (w ∷ ws) (suc m) l = go ws m (omega (arith, l))

pub list_at-past : {X : Type 0} (vs : List (Vec X Global)) (m : ℕ) → length vs ≤ m → list_at vs m ≡ []
list_at-past [] m l = refl
list_at-past (v ∷ vs) zero l = absurd (omega (arith, l))
list_at-past (v ∷ vs) (suc m) l = list_at-past vs m (omega (arith, l))

pub list_at-here : {X : Type 0} (vs : List (Vec X Global)) (m : ℕ) (v : Vec X Global) → m < length vs → v ≡ get_or vs m v → v.items ≡ list_at vs m
list_at-here {X = X} [] m v l e = absurd (omega (arith, l))
list_at-here {X = X} (w ∷ vs) zero v l e = ap (λ (u : Vec X Global). u.items) e
list_at-here {X = X} (w ∷ vs) (suc m) v l e = list_at-here vs m v (omega (arith, l)) e
