-- The faces of a cut are written one after the other.
use Rattle.std.proofs.{Common.{true, false, ◌≡◌, ℕ, zero, suc, ◌+◌, ◌-◌, ◌≤◌, ◌<◌, ◌≢◌, List, [], ◌∷◌, ◌++◌, take, drop, length, get_or, refl, sym, ◌∙◌, ap, ap₂, arith, subst, length-drop, inl, inr, cond, eqb, length-append, set, get_or-set_same, get_or-set_other, slice_index, eq-eqb, ne_eqb, append-nil, append_assoc, take-append-drop, length-take}, lemmas.Bool.cases_eq, lemmas.List.{drop_more, take_more_set}, Math.Seq.{drop-append_seam, take-append_seam}}
use Rattle.linear_law.{specs.Names.{sum_over, Each}, proofs.Names.each_append}
use Rattle.signed_sum.{specs.Names.{IsDistinct, numbers_from, occurs}, proofs.Names.{length-numbers_from, numbers_from-distinct, numbers_from-append}}
use Rattle.interval_cut_law.specs.Names.{IsCutFrom, cut_face}
use Rattle.interval_cut.{specs.Names.{IsFaceTable, IsPartOfFace, IsPartOfTable, flat_faces}, proofs.ExponentLemmas.{last_of, last_of-append}}

flat_faces-append : (ks ls u p : List ℕ) → flat_faces (ks ++ ls) u p ≡ flat_faces ks u p ++ flat_faces ls u p
flat_faces-append [] ls u p = refl
flat_faces-append (k ∷ ks) ls u p =
    ap (λ r. cut_face k u 0 p ++ r) (flat_faces-append ks ls u p) ∙ sym (append_assoc (cut_face k u 0 p) (flat_faces ks u p) (flat_faces ls u p))

-- one more face
pub flat_faces-next : (k : ℕ) (u p : List ℕ) → flat_faces (numbers_from 1 (k + 1)) u p ≡ flat_faces (numbers_from 1 k) u p ++ cut_face (k + 1) u 0 p
flat_faces-next k u p =
    let e : 1 + k ≡ k + 1 = omega arith in
    ap (λ ks. flat_faces ks u p) (numbers_from-append 1 k 1 ∙ ap (λ x. numbers_from 1 k ++ (x ∷ [])) e)
    ∙ flat_faces-append (numbers_from 1 k) ((k + 1) ∷ []) u p ∙ ap (λ r. flat_faces (numbers_from 1 k) u p ++ r) (append-nil (cut_face (k + 1) u 0 p))

-- ---- room: the intervals have as many places as the edges and the intervals together

abbrev sizes : List ℕ → List ℕ → ℕ → List ℕ → ℕ
sizes ks u a p = sum_over (λ k. length (cut_face k u a p)) ks

pub face_here : (k v : ℕ) (u : List ℕ) (a b : ℕ) (p : List ℕ) → k ≡ v → cut_face k (v ∷ u) a (b ∷ p) ≡ numbers_from a (suc (b - a)) ++ cut_face k u b p
face_here k v u a b p e = ap (λ t. cond t (numbers_from a (suc (b - a)) ++ cut_face k u b p) (cut_face k u b p)) (eq-eqb k v e)

pub face_other : (k v : ℕ) (u : List ℕ) (a b : ℕ) (p : List ℕ) → k ≢ v → cut_face k (v ∷ u) a (b ∷ p) ≡ cut_face k u b p
face_other k v u a b p n = ap (λ t. cond t (numbers_from a (suc (b - a)) ++ cut_face k u b p) (cut_face k u b p)) (ne_eqb k v n)

size_here : (k v : ℕ) (u : List ℕ) (a b : ℕ) (p : List ℕ) → k ≡ v → length (cut_face k (v ∷ u) a (b ∷ p)) ≡ suc (b - a) + length (cut_face k u b p)
size_here k v u a b p e =
    ap length (face_here k v u a b p e) ∙ length-append (numbers_from a (suc (b - a))) (cut_face k u b p) ∙ ap (λ n. n + length (cut_face k u b p)) (length-numbers_from a (suc (b - a)))

-- no face of ks has the first interval
sizes-none : (ks : List ℕ) (v : ℕ) (u : List ℕ) (a b : ℕ) (p : List ℕ) → occurs v ks ≡ 0 → sizes ks (v ∷ u) a (b ∷ p) ≡ sizes ks u b p
sizes-none [] v u a b p o = refl
sizes-none (k ∷ ks) v u a b p o = elim (cases_eq v k) [
  | inl e ↦ absurd (let f : ◌≡◌ {A = ℕ} 1 0 = sym (ap (λ t. cond t 1 (occurs v ks)) (eq-eqb v k e)) ∙ o in omega arith)
  | inr n ↦
      let rest : occurs v ks ≡ 0 = sym (ap (λ t. cond t 1 (occurs v ks)) (ne_eqb v k n)) ∙ o in
      ap₂ (λ x y. x + y) (ap length (face_other k v u a b p (λ e. n (sym e)))) (sizes-none ks v u a b p rest)
]

-- one face at most has it
sizes-one : (ks : List ℕ) (v : ℕ) (u : List ℕ) (a b : ℕ) (p : List ℕ) → IsDistinct ks → sizes ks (v ∷ u) a (b ∷ p) ≤ suc (b - a) + sizes ks u b p
sizes-one [] v u a b p d = omega arith
sizes-one (k ∷ ks) v u a b p d = elim (cases_eq k v) [
  | inl e ↦
      let none : occurs v ks ≡ 0 = ap (λ x. occurs x ks) (sym e) ∙ d.0 in
      omega (arith, size_here k v u a b p e, sizes-none ks v u a b p none)
  | inr n ↦
      let same : length (cut_face k (v ∷ u) a (b ∷ p)) ≡ length (cut_face k u b p) = ap length (face_other k v u a b p n) in
      let more = sizes-one ks v u a b p d.1 in
      omega (arith, same, more)
]

sizes-empty : (ks : List ℕ) (a : ℕ) (p : List ℕ) → sizes ks [] a p ≡ 0
sizes-empty [] a p = refl
sizes-empty (k ∷ ks) a p = omega (arith, sizes-empty ks a p)

room : (ks u : List ℕ) (a : ℕ) (p : List ℕ) → IsDistinct ks → IsCutFrom u a p → sizes ks u a p + a ≤ length u + last_of a p
room ks [] a [] d c = let e = sizes-empty ks a [] in omega (arith, e)
room ks [] a (b ∷ p) d c = absurd c
room ks (v ∷ u) a [] d c = absurd c
room ks (v ∷ u) a (b ∷ p) d c =
    let h = room ks u b p d c.1 in
    let one = sizes-one ks v u a b p d in
    let o = c.0 in
    omega (arith, h, one, o)

length-flat_faces : (ks u p : List ℕ) → length (flat_faces ks u p) ≡ sizes ks u 0 p
length-flat_faces [] u p = refl
length-flat_faces (k ∷ ks) u p = length-append (cut_face k u 0 p) (flat_faces ks u p) ∙ ap (λ n. length (cut_face k u 0 p) + n) (length-flat_faces ks u p)

-- the first k faces have room
pub faces_room : (k : ℕ) (u inner : List ℕ) (top : ℕ) → IsCutFrom u 0 (inner ++ (top ∷ [])) → length (flat_faces (numbers_from 1 k) u (inner ++ (top ∷ []))) ≤ top + length u
faces_room k u inner top c =
    let h = room (numbers_from 1 k) u 0 (inner ++ (top ∷ [])) (numbers_from-distinct 1 k) c in
    omega (arith, h, length-flat_faces (numbers_from 1 k) u (inner ++ (top ∷ [])), last_of-append 0 inner top)

-- ---- one face

pub numbers_step : (places old : List ℕ) (at k first : ℕ) → at + k < length places → take (at + k) places ≡ take at old ++ numbers_from first k
    → take (at + (k + 1)) (set places (at + k) (first + k)) ≡ take at old ++ numbers_from first (k + 1)
numbers_step places old at k first b h =
    let e : at + (k + 1) ≡ at + k + 1 = omega arith in
    ap (λ n. take n (set places (at + k) (first + k))) e ∙ take_more_set places (at + k) (first + k) b ∙ ap (λ r. r ++ ((first + k) ∷ [])) h
    ∙ append_assoc (take at old) (numbers_from first k) ((first + k) ∷ []) ∙ ap (λ r. take at old ++ r) (sym (numbers_from-append first k 1))

module _ (k : ℕ) (u p : List ℕ) (at i a next : ℕ) (old done : List ℕ) (h : IsPartOfFace k u p at i a next old done) (inside : i < length u) (inside_cut : i < length p) where
  v : ℕ
  v = get_or u i 0

  b : ℕ
  b = get_or p i 0

  split : drop i u ≡ get_or u i 0 ∷ drop (i + 1) u
  split = drop_more u i 0 inside

  face_next : cut_face k (drop i u) a (drop i p) ≡ cut_face k (get_or u i 0 ∷ drop (i + 1) u) a (get_or p i 0 ∷ drop (i + 1) p)
  face_next = ap₂ (λ (x y : List ℕ). cut_face k x a y) split (drop_more p i 0 inside_cut)

  rest_next : IsCutFrom (drop (i + 1) u) (get_or p i 0) (drop (i + 1) p)
  rest_next =
      let c : IsCutFrom (get_or u i 0 ∷ drop (i + 1) u) a (get_or p i 0 ∷ drop (i + 1) p) = subst (λ (x : List ℕ). IsCutFrom (get_or u i 0 ∷ drop (i + 1) u) a x) (drop_more p i 0 inside_cut)
      (subst (λ (x : List ℕ). IsCutFrom x a (drop i p)) split h.rest) in
      c.1

  pub face_skip : get_or u i 0 ≢ k → IsPartOfFace k u p at (i + 1) (get_or p i 0) next old done
  face_skip n =
      let e : cut_face k (drop i u) a (drop i p) ≡ cut_face k (drop (i + 1) u) (get_or p i 0) (drop (i + 1) p) =
      face_next ∙ face_other k (get_or u i 0) (drop (i + 1) u) a (get_or p i 0) (drop (i + 1) p) (λ q. n (sym q)) in
      record { rest = rest_next; long = ap (λ r. next + length r) (sym e) ∙ h.long; written = ap (λ r. done ++ r) (sym e) ∙ h.written }

  face_taken : get_or u i 0 ≡ k → cut_face k (drop i u) a (drop i p) ≡ numbers_from a (suc (get_or p i 0 - a)) ++ cut_face k (drop (i + 1) u) (get_or p i 0) (drop (i + 1) p)
  face_taken q = face_next ∙ face_here k (get_or u i 0) (drop (i + 1) u) a (get_or p i 0) (drop (i + 1) p) (sym q)

  size_taken : get_or u i 0 ≡ k → length (cut_face k (drop i u) a (drop i p)) ≡ suc (get_or p i 0 - a) + length (cut_face k (drop (i + 1) u) (get_or p i 0) (drop (i + 1) p))
  size_taken q =
      ap length (face_taken q) ∙ length-append (numbers_from a (suc (get_or p i 0 - a))) (cut_face k (drop (i + 1) u) (get_or p i 0) (drop (i + 1) p))
      ∙ ap (λ n. n + length (cut_face k (drop (i + 1) u) (get_or p i 0) (drop (i + 1) p))) (length-numbers_from a (suc (get_or p i 0 - a)))

  pub face_room : get_or u i 0 ≡ k → (count size : ℕ) → count ≡ get_or p i 0 - a + 1 → at + length (cut_face k u 0 p) ≤ size → next + count ≤ size
  face_room q count size e r = omega (arith, size_taken q, h.long, e, r)

  pub face_write : get_or u i 0 ≡ k → (count : ℕ) (new : List ℕ) → count ≡ get_or p i 0 - a + 1 → new ≡ done ++ numbers_from a count
      → IsPartOfFace k u p at (i + 1) (get_or p i 0) (next + count) old new
  face_write q count new e w =
      let c : suc (get_or p i 0 - a) ≡ count = omega (arith, e) in
      let rest : List ℕ = cut_face k (drop (i + 1) u) (get_or p i 0) (drop (i + 1) p) in
      record {
        rest = rest_next;
        long = omega (arith, size_taken q, h.long, c);
        written =
            ap (λ r. r ++ rest) w ∙ append_assoc done (numbers_from a count) rest ∙ ap (λ n. done ++ (numbers_from a n ++ rest)) (sym c)
            ∙ ap (λ r. done ++ r) (sym (face_taken q)) ∙ h.written;
      }

-- ---- the table

pub table_step : (u p : List ℕ) (k next : ℕ) (places starts new : List ℕ) (after : ℕ) → IsPartOfTable u p k next places starts → k + 1 < length starts
    → after ≡ next + length (cut_face (k + 1) u 0 p) → take after new ≡ take next places ++ cut_face (k + 1) u 0 p
    → IsPartOfTable u p (k + 1) after new (set starts (k + 1) after)
table_step u p k next places starts new after h b e w =
    let more = flat_faces-next k u p in
    let long : after ≡ length (flat_faces (numbers_from 1 (k + 1)) u p) = omega (arith, e, h.here, ap length more ∙ length-append (flat_faces (numbers_from 1 k) u p) (cut_face (k + 1) u 0 p)) in
    record {
      start = λ j c. elim (cases_eq j (k + 1)) [
        | inl q ↦ ap (λ i. get_or (set starts (k + 1) after) i 0) q ∙ get_or-set_same starts (k + 1) after 0 b ∙ long ∙ ap (λ i. length (flat_faces (numbers_from 1 i) u p)) (sym q)
        | inr n ↦ get_or-set_other starts (k + 1) j after 0 n ∙ h.start j (omega arith)
      ];
      here = long;
      written = w ∙ ap (λ r. r ++ cut_face (k + 1) u 0 p) h.written ∙ sym more;
    }

pub part_moved : (k : ℕ) (u p : List ℕ) (at i : ℕ) (old : List ℕ) (a b n m : ℕ) (xs ys : List ℕ) → b ≡ a → m ≡ n → ys ≡ xs → IsPartOfFace k u p at i a n old (take n xs)
    → IsPartOfFace k u p at i b m old (take m ys)
part_moved k u p at i old a b n m xs ys e f g h =
    subst (λ x. IsPartOfFace k u p at i x m old (take m ys)) (sym e) (subst (λ x. IsPartOfFace k u p at i a x old (take x ys)) (sym f) (subst (λ x. IsPartOfFace k u p at i a n old (take n x)) (sym g) h))

pub next_room : (k : ℕ) (u inner : List ℕ) (top next size : ℕ) → IsCutFrom u 0 (inner ++ (top ∷ [])) → next ≡ length (flat_faces (numbers_from 1 k) u (inner ++ (top ∷ [])))
    → top + length u ≤ size → next + length (cut_face (k + 1) u 0 (inner ++ (top ∷ []))) ≤ size
next_room k u inner top next size c h r =
    let p : List ℕ = inner ++ (top ∷ []) in
    let all = faces_room (k + 1) u inner top c in
    let more : length (flat_faces (numbers_from 1 (k + 1)) u p) ≡ length (flat_faces (numbers_from 1 k) u p) + length (cut_face (k + 1) u 0 p) =
    ap length (flat_faces-next k u p) ∙ length-append (flat_faces (numbers_from 1 k) u p) (cut_face (k + 1) u 0 p) in
    omega (arith, all, more, h, r)

-- ---- reading a face

module _ (u p : List ℕ) (r k : ℕ) (places starts : List ℕ) (h : IsFaceTable u p r places starts) (b : k + 1 ≤ r) where
  abbrev flat : ℕ → List ℕ
  flat n = flat_faces (numbers_from 1 n) u p

  abbrev after : List ℕ
  after = flat_faces (numbers_from (1 + (k + 1)) (r - (k + 1))) u p ++ drop (length (flat r)) places

  flat_split : flat r ≡ flat k ++ (cut_face (k + 1) u 0 p ++ flat_faces (numbers_from (1 + (k + 1)) (r - (k + 1))) u p)
  flat_split =
      let e : r ≡ k + 1 + (r - (k + 1)) = omega arith in
      ap flat e ∙ ap (λ ks. flat_faces ks u p) (numbers_from-append 1 (k + 1) (r - (k + 1)))
      ∙ flat_faces-append (numbers_from 1 (k + 1)) (numbers_from (1 + (k + 1)) (r - (k + 1))) u p
      ∙ ap (λ x. x ++ flat_faces (numbers_from (1 + (k + 1)) (r - (k + 1))) u p) (flat_faces-next k u p)
      ∙ append_assoc (flat k) (cut_face (k + 1) u 0 p) (flat_faces (numbers_from (1 + (k + 1)) (r - (k + 1))) u p)

  places_split : places ≡ flat k ++ (cut_face (k + 1) u 0 p ++ after)
  places_split =
      let rest : List ℕ = drop (length (flat r)) places in
      let more : List ℕ = flat_faces (numbers_from (1 + (k + 1)) (r - (k + 1))) u p in
      sym (take-append-drop (length (flat r)) places) ∙ ap (λ x. x ++ rest) (h.written ∙ flat_split)
      ∙ append_assoc (flat k) (cut_face (k + 1) u 0 p ++ more) rest ∙ ap (λ x. flat k ++ x) (append_assoc (cut_face (k + 1) u 0 p) more rest)

  starts_here : slice_index starts k ≡ length (flat k)
  starts_here = h.start k (omega arith)

  ends_here : slice_index starts (k + 1) ≡ length (flat k) + length (cut_face (k + 1) u 0 p)
  ends_here = h.start (k + 1) b ∙ ap length (flat_faces-next k u p) ∙ length-append (flat k) (cut_face (k + 1) u 0 p)

  pub face_begins : slice_index starts k ≤ slice_index starts (k + 1)
  face_begins = omega (arith, starts_here, ends_here)

  pub face_ends : slice_index starts (k + 1) ≤ length places
  face_ends =
      omega (arith, ends_here, ap length places_split ∙ length-append (flat k) (cut_face (k + 1) u 0 p ++ after), length-append (cut_face (k + 1) u 0 p) after)

  pub face_is : take (slice_index starts (k + 1) - slice_index starts k) (drop (slice_index starts k) places) ≡ cut_face (k + 1) u 0 p
  face_is =
      let size : slice_index starts (k + 1) - slice_index starts k ≡ length (cut_face (k + 1) u 0 p) = omega (arith, starts_here, ends_here) in
      ap₂ (λ n m. take n (drop m places)) size starts_here ∙ ap (λ x. take (length (cut_face (k + 1) u 0 p)) (drop (length (flat k)) x)) places_split
      ∙ ap (λ x. take (length (cut_face (k + 1) u 0 p)) x) (drop-append_seam (flat k) (cut_face (k + 1) u 0 p ++ after)) ∙ take-append_seam (cut_face (k + 1) u 0 p) after

-- face k in lists that are those of the table
pub face_at : (u p : List ℕ) (r m k : ℕ) (places starts xs ys : List ℕ) → m + 1 ≡ k → xs ≡ places → ys ≡ starts → IsFaceTable u p r places starts → k ≤ r
    → (slice_index ys m ≤ slice_index ys k) × (slice_index ys k ≤ length xs) × (take (slice_index ys k - slice_index ys m) (drop (slice_index ys m) xs) ≡ cut_face k u 0 p)
face_at u p r m k places starts xs ys e f g h b =
    let P : ℕ → List ℕ → List ℕ → Type 0 = λ n x y.
    (slice_index y m ≤ slice_index y n) × (slice_index y n ≤ length x) × (take (slice_index y n - slice_index y m) (drop (slice_index y m) x) ≡ cut_face n u 0 p) in
    let small : m + 1 ≤ r = omega arith in
    subst (λ n. P n xs ys) e (subst (λ x. P (m + 1) x ys) (sym f) (subst (λ y. P (m + 1) places y) (sym g)
    (face_begins u p r m places starts h small, face_ends u p r m places starts h small, face_is u p r m places starts h small)))

numbers_below : (a m n : ℕ) → a + m ≤ n → Each (λ k. k < n) (numbers_from a m)
numbers_below a zero n h = tt
numbers_below a (suc m) n h = (omega arith, numbers_below (suc a) m n (omega arith))

-- the places of a face are below what the ends of its intervals are below
pub places_below : (k : ℕ) (u : List ℕ) (a : ℕ) (p : List ℕ) (n : ℕ) → IsCutFrom u a p → Each (λ b. b < n) p → Each (λ m. m < n) (cut_face k u a p)
places_below k [] a p n c h = tt
places_below k (v ∷ u) a [] n c h = tt
places_below k (v ∷ u) a (b ∷ p) n c h =
    let order = c.0 in
    let low = h.0 in
    let rest = places_below k u b p n c.1 h.1 in
    elim (eqb k v) as (λ t. Each (λ m. m < n) (cond t (numbers_from a (suc (b - a)) ++ cut_face k u b p) (cut_face k u b p))) [
      | true ↦ each_append (λ m. m < n) (numbers_from a (suc (b - a))) (cut_face k u b p) (numbers_below a (suc (b - a)) n (omega arith)) rest
      | false ↦ rest
    ]

pub part_short : (n m : ℕ) (xs : List ℕ) → length (take n (drop m xs)) ≤ length xs
part_short n m xs = omega (arith, length-take n (drop m xs), length-drop m xs)
