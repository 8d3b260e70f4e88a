-- Lists of lists in one list with bounds.
use Rattle.std.proofs.{Common.{◌≡◌, ℕ, zero, suc, ◌+◌, ◌-◌, ◌<◌, ◌≤◌, arith, refl, sym, ◌∙◌, ap, ap₂, List, [], ◌∷◌, ◌++◌, length, take, take_all, drop, get_or, drop_at, length-append, length-drop}, lemmas.List.{drop-append-le, take-append-le}}
use Rattle.simplicial_law.proofs.Names.{get_or_any}
use Rattle.complex_index.specs.Names.{AreBounds, parts}

abbrev EndsAt : ℕ → List ℕ → Type 0
EndsAt n [] = ⊥
EndsAt n (a ∷ []) = a ≡ n
EndsAt n (a ∷ (b ∷ bs)) = EndsAt n (b ∷ bs)

-- these are the parts up to the end of the list
pub record AreParts {X : Type 0} (bounds : List ℕ) (xs : List X) (done : List (List X)) : Type 0 where
  pub bounds_are : AreBounds (length xs) bounds
  pub end : EndsAt (length xs) bounds
  pub parts_are : parts bounds xs ≡ done

first_below : (n b : ℕ) (bs : List ℕ) → AreBounds n (b ∷ bs) → b ≤ n
first_below n b [] h = h
first_below n b (c ∷ bs) h = omega (arith, h.0, first_below n c bs h.1)

bounds_grow : (n m : ℕ) (bs : List ℕ) → n ≤ m → EndsAt n bs → AreBounds n bs → AreBounds m (bs ++ m ∷ [])
bounds_grow n m [] l e h = absurd e
bounds_grow n m (a ∷ []) l e h = (omega (arith, e), omega arith)
bounds_grow n m (a ∷ (b ∷ bs)) l e h = (h.0, bounds_grow n m (b ∷ bs) l e h.1)

ends_grow : (m : ℕ) (bs : List ℕ) → EndsAt m (bs ++ m ∷ [])
ends_grow m [] = refl
ends_grow m (a ∷ []) = refl
ends_grow m (a ∷ (b ∷ bs)) = ends_grow m (b ∷ bs)

parts_grow : {X : Type 0} (m : ℕ) (bs : List ℕ) (xs ys : List X) → m ≡ length xs + length ys → EndsAt (length xs) bs → AreBounds (length xs) bs → parts (bs ++ m ∷ []) (xs ++ ys) ≡ parts bs xs ++ ys ∷ []
parts_grow m [] xs ys q e h = absurd e
parts_grow m (a ∷ []) xs ys q e h = ap (λ zs. zs ∷ []) (ap (take (m - a)) (drop_at xs ys a (sym e)) ∙ take_all (m - a) ys (omega (arith, q, e)))
parts_grow m (a ∷ (b ∷ bs)) xs ys q e h =
    let c : b ≤ length xs = first_below (length xs) b bs h.1 in
    ap₂ (λ z zs. z ∷ zs)
    (ap (take (b - a)) (drop-append-le a xs ys (omega (arith, h.0, c))) ∙ take-append-le (b - a) (drop a xs) ys (omega (arith, length-drop a xs, h.0, c)))
    (parts_grow m (b ∷ bs) xs ys q e h.1)

pub parts_start : {X : Type 0} (bs : List ℕ) (xs : List X) → bs ≡ 0 ∷ [] → xs ≡ [] → AreParts bs xs []
parts_start bs xs e f = rw e (rw f (record { bounds_are = omega arith; end = refl; parts_are = refl }))

pub parts_more : {X : Type 0} (bs ns : List ℕ) (m : ℕ) (xs ys zs : List X) (done : List (List X)) → AreParts bs xs done → zs ≡ xs ++ ys → m ≡ length zs → ns ≡ bs ++ m ∷ [] → AreParts ns zs (done ++ ys ∷ [])
parts_more bs ns m xs ys zs done h e f g =
    let q : m ≡ length xs + length ys = f ∙ ap length e ∙ length-append xs ys in
    rw g (rw e (record {
      bounds_are = rw (sym (ap length e)) (rw (sym f) (bounds_grow (length xs) m bs (omega (arith, q)) h.end h.bounds_are));
      end = rw (sym (ap length e)) (rw (sym f) (ends_grow m bs));
      parts_are = parts_grow m bs xs ys q h.end h.bounds_are ∙ ap (λ ks. ks ++ ys ∷ []) h.parts_are;
    }))

-- ---- reading

bounds_beyond : {X : Type 0} (bs : List ℕ) (xs : List X) (i : ℕ) → i < length (parts bs xs) → i + 1 < length bs
bounds_beyond [] xs i h = absurd (omega arith)
bounds_beyond (a ∷ []) xs i h = absurd (omega arith)
bounds_beyond (a ∷ (b ∷ bs)) xs zero h = omega arith
bounds_beyond (a ∷ (b ∷ bs)) xs (suc i) h = omega (arith, bounds_beyond (b ∷ bs) xs i (omega arith))

part_at : {X : Type 0} (bs : List ℕ) (xs : List X) (i : ℕ) → i < length (parts bs xs) → get_or (parts bs xs) i [] ≡ take (get_or bs (suc i) 0 - get_or bs i 0) (drop (get_or bs i 0) xs)
part_at [] xs i h = absurd (omega arith)
part_at (a ∷ []) xs i h = absurd (omega arith)
part_at (a ∷ (b ∷ bs)) xs zero h = refl
part_at (a ∷ (b ∷ bs)) xs (suc i) h = part_at (b ∷ bs) xs i (omega arith)

bounds_at : (n : ℕ) (bs : List ℕ) (i : ℕ) → AreBounds n bs → i + 1 < length bs → (get_or bs i 0 ≤ get_or bs (suc i) 0) × (get_or bs (suc i) 0 ≤ n)
bounds_at n [] i h l = absurd (omega arith)
bounds_at n (a ∷ []) i h l = absurd (omega arith)
bounds_at n (a ∷ (b ∷ bs)) zero h l = (h.0, first_below n b bs h.1)
bounds_at n (a ∷ (b ∷ bs)) (suc i) h l = bounds_at n (b ∷ bs) i h.1 (omega arith)

pub bound_inside : {X : Type 0} (bs : List ℕ) (xs : List X) (now : List (List X)) (i : ℕ) → parts bs xs ≡ now → i < length now → i + 1 < length bs
bound_inside bs xs now i v h = bounds_beyond bs xs i (omega (arith, h, ap length v))

-- two neighbouring bounds, as they were read
read_at : (bs : List ℕ) (i a b : ℕ) → i + 1 < length bs → a ≡ get_or bs i a → b ≡ get_or bs (i + 1) b → (a ≡ get_or bs i 0) × (b ≡ get_or bs (suc i) 0)
read_at bs i a b h e f = let n : i + 1 ≡ suc i = omega arith in (e ∙ get_or_any bs i a 0 (omega (arith, h)), f ∙ get_or_any bs (i + 1) b 0 h ∙ ap (λ (k : ℕ). get_or bs k 0) n)

pub bounds_here : {X : Type 0} (bs : List ℕ) (xs : List X) (now : List (List X)) (i a b : ℕ) → AreBounds (length xs) bs → parts bs xs ≡ now → i < length now → a ≡ get_or bs i a → b ≡ get_or bs (i + 1) b → (a ≤ b) × (b ≤ length xs)
bounds_here bs xs now i a b w v h e f =
    let inside : i + 1 < length bs = bound_inside bs xs now i v h in
    let at = read_at bs i a b inside e f in
    let k = bounds_at (length xs) bs i w inside in
    (omega (arith, at.0, at.1, k.0), omega (arith, at.1, k.1))

pub part_here : {X : Type 0} (bs : List ℕ) (xs ys : List X) (now : List (List X)) (i a b : ℕ) → parts bs xs ≡ now → ys ≡ xs → i < length now → a ≡ get_or bs i a → b ≡ get_or bs (i + 1) b → take (b - a) (drop a ys) ≡ get_or now i []
part_here {X = X} bs xs ys now i a b v q h e f =
    let at = read_at bs i a b (bound_inside bs xs now i v h) e f in
    ap (λ (zs : List X). take (b - a) (drop a zs)) q
    ∙ ap₂ (λ (m n : ℕ). take (n - m) (drop m xs)) at.0 at.1
    ∙ sym (part_at bs xs i (omega (arith, h, ap length v)))
    ∙ ap (λ (ls : List (List X)). get_or ls i []) v
