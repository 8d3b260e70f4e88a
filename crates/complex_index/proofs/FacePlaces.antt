-- Steps of the loops over faces and cofaces.
use Rattle.std.{proofs.Common.{◌≡◌, ℕ, zero, suc, ◌+◌, ◌-◌, ◌*◌, ◌<◌, ◌≤◌, inl, inr, arith, refl, sym, ◌∙◌, ap, ap₂, subst, List, [], ◌∷◌, ◌++◌, map, length, take, drop, take_all, get_or, true, false, cond, eqb, append_assoc, Vec, Global, add-one, slice_set, Result, Ok, Err, append-nil, length-append, eq-eqb}, specs.Result.IfOk, specs.declared.alloc.AllocError.AllocError, proofs.lemmas.List.{drop_all, get_or-map, length-map, map-append, take_more, take_rest}, proofs.lemmas.Bool.Decides.eqb_tells, proofs.Math.Seq.drop-cons}
use Rattle.complex_index.specs.Names.{Coface, AddsPlaces, ArePlaces, ArePlacesOf, simplex_at, marks, above_at, list_at, lists_of}
use Rattle.linear_law.{specs.Names.Each, proofs.Names.{each_get_or, each_push, zip_push}}
use Rattle.simplicial_law.{proofs.Names.get_or_any, specs.Names.faces}
use Rattle.simplex_set.{specs.Pieces.pieces, proofs.AddingFaces.{face_made, length_faces}, proofs.InPieces.{length_push, pieces_push}}

-- what is left at i, and at i + 1
pub left_at : {X : Type 0} (xs : List X) (i : ℕ) (x : X) → i < length xs → x ≡ get_or xs i x → drop i xs ≡ x ∷ drop (i + 1) xs
left_at xs i x h e = rw add-one (drop-cons xs i x h ∙ ap (λ y. y ∷ drop (suc i) xs) (sym e))

-- ---- rows

pub row_is : {X : Type 0} (vs : List (Vec X Global)) (x : ℕ) (v : Vec X Global) → x < length vs → v ≡ get_or vs x v → v.items ≡ list_at vs x
row_is {X} vs x v b e = ap (λ (u : Vec X Global). u.items) e ∙ sym (get_or-map (λ (u : Vec X Global). u.items) vs x v [] b)

apart_suc : (i x : ℕ) → eqb (suc i) (suc x) ≡ eqb i x
apart_suc i x = elim (eqb_tells i x) [
  | inl h ↦ (let e : eqb (suc i) (suc x) ≡ true = eq-eqb (suc i) (suc x) (ap suc h.1) in e ∙ sym h.0)
  | inr h ↦ elim (eqb_tells (suc i) (suc x)) [
    | inl k ↦ absurd (h.1 (omega (arith, k.1)))
    | inr k ↦ k.0 ∙ sym h.0
  ]
]

zero_apart : (x : ℕ) → eqb 0 (suc x) ≡ false
zero_apart x = elim (eqb_tells 0 (suc x)) [ inl h ↦ absurd (omega (arith, h.1)) | inr h ↦ h.0 ]

suc_apart : (x : ℕ) → eqb (suc x) 0 ≡ false
suc_apart x = elim (eqb_tells (suc x) 0) [ inl h ↦ absurd (omega (arith, h.1)) | inr h ↦ h.0 ]

pub row_set : {X : Type 0} (vs : List (Vec X Global)) (i x : ℕ) (d new : Vec X Global) (c : X) → i < length vs → new.items ≡ (get_or vs i d).items ++ c ∷ []
    → list_at (slice_set vs i new) x ≡ list_at vs x ++ cond (eqb i x) (c ∷ []) []
row_set [] i x d new c h n = absurd (omega arith)
row_set (v ∷ vs) zero zero d new c h n = n
row_set (v ∷ vs) zero (suc x) d new c h n = sym (append-nil (list_at vs x)) ∙ ap (λ b. list_at vs x ++ cond b (c ∷ []) []) (sym (zero_apart x))
row_set (v ∷ vs) (suc i) zero d new c h n = sym (append-nil v.items) ∙ ap (λ b. v.items ++ cond b (c ∷ []) []) (sym (suc_apart i))
row_set (v ∷ vs) (suc i) (suc x) d new c h n = row_set vs i x d new c (omega arith) n ∙ ap (λ b. list_at vs x ++ cond b (c ∷ []) []) (sym (apart_suc i x))

pub rows_push : {X : Type 0} (vs : List (Vec X Global)) (v : Vec X Global) → ((x : ℕ) → list_at vs x ≡ []) → v.items ≡ [] → (x : ℕ) → list_at (vs ++ v ∷ []) x ≡ []
rows_push [] v h e zero = e
rows_push [] v h e (suc x) = refl
rows_push (w ∷ vs) v h e zero = h zero
rows_push (w ∷ vs) v h e (suc x) = rows_push vs v (λ y. h (suc y)) e x

pub lists_push : {X : Type 0} (vs : List (Vec X Global)) (v : Vec X Global) → lists_of (vs ++ v ∷ []) ≡ lists_of vs ++ v.items ∷ []
lists_push [] v = refl
lists_push (w ∷ vs) v = ap (λ xs. w.items ∷ xs) (lists_push vs v)

pub above_step : (x y : ℕ) (faces : List (List ℕ)) (old new : List Coface) (row : List ℕ)
    → y < length faces → row ≡ get_or faces y [] → new ≡ old ++ marks x y false row
    → old ++ above_at x y (drop y faces) ≡ above_at x 0 faces → new ++ above_at x (y + 1) (drop (y + 1) faces) ≡ above_at x 0 faces
above_step x y faces old new row l e n h =
    ap (λ xs. xs ++ above_at x (y + 1) (drop (y + 1) faces)) n
    ∙ append_assoc old (marks x y false row) (above_at x (y + 1) (drop (y + 1) faces))
    ∙ (let f : y + 1 ≡ suc y = omega arith in ap (λ (k : ℕ). old ++ (marks x y false row ++ above_at x k (drop (y + 1) faces))) f)
    ∙ ap (λ (pss : List (List ℕ)). old ++ above_at x y pss) (sym (left_at faces y row l (e ∙ get_or_any faces y [] row l)))
    ∙ h

pub lists_more : {X : Type 0} (vs : List (Vec X Global)) (i : ℕ) (v : Vec X Global) (ys : List X) → i < length vs → v ≡ get_or vs i v → ys ≡ v.items → lists_of (take i vs) ++ ys ∷ [] ≡ lists_of (take (i + 1) vs)
lists_more {X = X} vs i v ys l e q =
    ap (λ (zs : List X). lists_of (take i vs) ++ zs ∷ []) q ∙ sym (lists_push (take i vs) v) ∙ ap (λ (u : Vec X Global). lists_of (take i vs ++ u ∷ [])) e ∙ ap lists_of (sym (take_more vs i v l))

pub all_above : (r : Result (List (List Coface)) AllocError) (vs : List (Vec Coface Global)) (ls : List (Vec Coface Global)) (pss : List (List ℕ)) (y : ℕ) → length pss ≤ y → ls ≡ vs
    → ((x : ℕ) → list_at vs x ++ above_at x y (drop y pss) ≡ above_at x 0 pss) → IfOk r (λ c. c ≡ lists_of ls) → IfOk r (λ c. (x : ℕ) → get_or c x [] ≡ above_at x 0 pss)
all_above (Ok c) vs ls pss y l q h e = λ x. ap (λ (k : List (List Coface)). get_or k x []) (e ∙ ap lists_of q) ∙ sym (append-nil (list_at vs x)) ∙ ap (λ (ps : List (List ℕ)). list_at vs x ++ above_at x y ps) (sym (drop_all y pss l)) ∙ h x
all_above (Err f) vs ls pss y l q h e = tt

pub faces_more : (s : List ℕ) (i : ℕ) → i < length s → take (i + 1) (faces s) ≡ take i (faces s) ++ get_or (faces s) i [] ∷ []
faces_more s i h = take_more (faces s) i [] (omega (arith, length_faces s))

pub faces_all : (s : List ℕ) (i : ℕ) → length s ≤ i → take i (faces s) ≡ faces s
faces_all s i h = take_all i (faces s) (omega (arith, length_faces s))

pub places_more : (lower : List (List ℕ)) (s : List ℕ) (i k : ℕ) (old new : List ℕ) → i < length s → new ≡ old ++ k ∷ [] → k < length lower → simplex_at lower k ≡ get_or (faces s) i []
    → Each (λ x. x < length lower) old → map (simplex_at lower) old ≡ take i (faces s) → Each (λ x. x < length lower) new × (map (simplex_at lower) new ≡ take (i + 1) (faces s))
places_more lower s i k old new l n b e h g = (
  subst (λ (ps : List ℕ). Each (λ x. x < length lower) ps) (sym n) (each_push (λ x. x < length lower) old k h b),
  ap (map (simplex_at lower)) n ∙ map-append (simplex_at lower) old (k ∷ []) ∙ ap₂ (λ (u v : List (List ℕ)). u ++ v) g (ap (λ (t : List ℕ). t ∷ []) e) ∙ sym (faces_more s i l),
)

pub length_places : (lower : List (List ℕ)) (s ps : List ℕ) → ArePlaces lower s ps → length ps ≡ length s
length_places lower s ps h = sym (length-map ps (simplex_at lower)) ∙ ap length h.places ∙ length_faces s

-- the places of the faces of i simplices, one after the other
pub places_so_far : (size i : ℕ) (lower upper : List (List ℕ)) (s old new : List ℕ) → i < length upper → s ≡ get_or upper i [] → Each (λ t. length t ≡ size) upper → AddsPlaces lower s old new
    → (length old ≡ i * size) × ArePlacesOf lower (take i upper) (pieces size i old) → (length new ≡ (i + 1) * size) × ArePlacesOf lower (take (i + 1) upper) (pieces size (i + 1) new)
places_so_far size i lower upper s old new l e z a h =
    let sized : length a.added ≡ size = length_places lower s a.added a.places ∙ subst (λ (t : List ℕ). length t ≡ size) (sym e) (each_get_or (λ t. length t ≡ size) upper i [] l z) in (
      ap length a.is ∙ length-append old a.added ∙ length_push old a.added size i h.0 sized,
      subst (λ (ss : List (List ℕ)). ArePlacesOf lower ss (pieces size (i + 1) new)) (sym (take_more upper i [] l ∙ ap (λ (t : List ℕ). take i upper ++ t ∷ []) (sym e)))
          (subst (λ (ps : List (List ℕ)). ArePlacesOf lower (take i upper ++ s ∷ []) ps) (sym (ap (pieces size (i + 1)) a.is ∙ pieces_push size i old a.added h.0 sized))
          (zip_push (ArePlaces lower) (take i upper) (pieces size i old) s a.added h.1 a.places)),
    )

-- ---- the places of the faces of one simplex

-- the list grows by the places of the first i faces of s
pub record IsAdding (lower : List (List ℕ)) (s : List ℕ) (i : ℕ) (old new : List ℕ) : Type 0 where
  pub added : List ℕ
  pub is : new ≡ old ++ added
  pub below : Each (λ x. x < length lower) added
  pub places : map (simplex_at lower) added ≡ take i (faces s)

pub adding_none : (lower : List (List ℕ)) (s old : List ℕ) → IsAdding lower s 0 old old
adding_none lower s old = record { added = []; is = sym (append-nil old); below = tt; places = refl }

pub adding_more : (lower : List (List ℕ)) (s : List ℕ) (i k : ℕ) (old mid new : List ℕ) → i < length s → new ≡ mid ++ k ∷ [] → k < length lower → simplex_at lower k ≡ get_or (faces s) i []
    → IsAdding lower s i old mid → IsAdding lower s (i + 1) old new
adding_more lower s i k old mid new l n b e h =
    let more = places_more lower s i k h.added (h.added ++ k ∷ []) l refl b e h.below h.places in
    record { added = h.added ++ k ∷ []; is = n ∙ ap (λ (xs : List ℕ). xs ++ k ∷ []) h.is ∙ append_assoc old h.added (k ∷ []); below = more.0; places = more.1 }

pub adding_all : (lower : List (List ℕ)) (s : List ℕ) (i : ℕ) (old new : List ℕ) → length s ≤ i → IsAdding lower s i old new → AddsPlaces lower s old new
adding_all lower s i old new l h = record { added = h.added; is = h.is; places = record { below = h.below; places = h.places ∙ faces_all s i l } }

-- a face in two parts
pub face_joined : (s : List ℕ) (at : ℕ) → at < length s → take at s ++ take (length s - (at + 1)) (drop (at + 1) s) ≡ get_or (faces s) at []
face_joined s at h = ap (λ (r : List ℕ). take at s ++ r) (take_rest s (at + 1)) ∙ face_made at s h
