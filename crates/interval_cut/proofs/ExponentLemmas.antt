-- The exponent of a cut, walked from the right.
use Rattle.std.proofs.{Common.{Bool, ◌==◌, take_all, length-drop, length-set, ◌≡◌, ℕ, zero, suc, ◌+◌, ◌-◌, ◌*◌, ◌≤◌, ◌<◌, List, [], ◌∷◌, ◌++◌, drop, length, take, get_or, set, refl, sym, ◌∙◌, ap, ap₂, arith, subst, inl, inr, length-append, length-take-le, mul-le-mul, slice_index, slice_set, sum}, lemmas.Bool.cases_lt, lemmas.List.take-set-le, lemmas.List.Sums.sum_by-set, Math.Seq.{drop-cons, take-set-lt}}
use mir.Val.{bool_byte}
use Rattle.signed_sum.{specs.Names.{less, occurs}, proofs.Names.{less-no, less-yes, occurs-01, occurs_once}}
use Rattle.surjection_law.specs.Names.{arity}
use Rattle.interval_cut_law.specs.Names.{IsCutFrom, lengths_below, sign_exponent}
use Rattle.interval_cut.{specs.Names.IsPassed, proofs.WalkLemmas.length-cut}

-- ---- sums of the first numbers of a list

get_or-take : (xs : List ℕ) (n i : ℕ) → i < n → get_or (take n xs) i 0 ≡ get_or xs i 0
get_or-take [] zero i h = refl
get_or-take [] (suc n) i h = refl
get_or-take (x ∷ xs) zero i h = absurd (omega arith)
get_or-take (x ∷ xs) (suc n) zero h = refl
get_or-take (x ∷ xs) (suc n) (suc i) h = get_or-take xs n i (omega arith)

-- one number of the list is raised by m
sum-raised : (xs : List ℕ) (w v m : ℕ) → w < length xs → v ≤ length xs → sum (take v (set xs w (get_or xs w 0 + m))) ≡ less w v * m + sum (take v xs)
sum-raised xs w v m h g = elim (cases_lt w v) [
  | inl l ↦
      let size : length (take v xs) ≡ v = length-take-le v xs g in
      let at : get_or (take v xs) w 0 ≡ get_or xs w 0 = get_or-take xs v w l in
      let new : sum (take v (set xs w (get_or xs w 0 + m))) ≡ sum (set (take v xs) w (get_or xs w 0 + m)) = ap sum (take-set-lt v xs w (get_or xs w 0 + m) l) in
      let one = less-yes w v l in
      let raised = sum_by-set (λ x. x) (take v xs) w (get_or xs w 0 + m) 0 (omega (arith, size, l)) in
      let times : less w v * m ≡ m = ap (λ n. n * m) one ∙ omega arith in
      omega (arith, new, raised, at, times)
  | inr l ↦
      let new : sum (take v (set xs w (get_or xs w 0 + m))) ≡ sum (take v xs) = ap sum (take-set-le v xs w (get_or xs w 0 + m) l) in
      let none = less-no w v l in
      let times : less w v * m ≡ 0 = ap (λ n. n * m) none ∙ omega arith in
      omega (arith, new, times)
]

-- ---- bounds

abbrev pub last_of : ℕ → List ℕ → ℕ
last_of a [] = a
last_of a (b ∷ p) = last_of b p

pub last_of-append : (a : ℕ) (p : List ℕ) (n : ℕ) → last_of a (p ++ (n ∷ [])) ≡ n
last_of-append a [] n = refl
last_of-append a (b ∷ p) n = last_of-append b p n

below-room : (v : ℕ) (u : List ℕ) (a : ℕ) (p : List ℕ) → IsCutFrom u a p → lengths_below v u a p + a ≤ length u + last_of a p
below-room v [] a [] c = omega arith
below-room v [] a (b ∷ p) c = absurd c
below-room v (w ∷ u) a [] c = absurd c
below-room v (w ∷ u) a (b ∷ p) c =
    let rest = below-room v u b p c.1 in
    let order = c.0 in
    let one = occurs_once w u in
    elim (cases_lt w v) [
      | inl l ↦
          let times : less w v * (b - a + occurs w u) ≡ b - a + occurs w u = ap (λ n. n * (b - a + occurs w u)) (less-yes w v l) ∙ omega arith in
          omega (arith, rest, order, one, times)
      | inr l ↦
          let times : less w v * (b - a + occurs w u) ≡ 0 = ap (λ n. n * (b - a + occurs w u)) (less-no w v l) ∙ omega arith in
          omega (arith, rest, order, one, times)
    ]

last-grows : (u : List ℕ) (a : ℕ) (p : List ℕ) → IsCutFrom u a p → a ≤ last_of a p
last-grows [] a [] c = omega arith
last-grows [] a (b ∷ p) c = absurd c
last-grows (v ∷ u) a [] c = absurd c
last-grows (v ∷ u) a (b ∷ p) c = let order = c.0 in let rest = last-grows u b p c.1 in omega (arith, order, rest)

-- each interval adds at most that much
pub term-room : (x y b k : ℕ) → x ≤ 256 → y ≤ 510 → b ≤ 255 → k ≤ 1 → x * y + k * b ≤ 131000
term-room x y b k hx hy hb hk =
    let first : x * y ≤ 256 * 510 = mul-le-mul hx hy in
    let second : k * b ≤ 1 * 255 = mul-le-mul hk hb in
    omega (arith, first, second)

exponent-room : (u : List ℕ) (a : ℕ) (p : List ℕ) → IsCutFrom u a p → length u ≤ 255 → last_of a p ≤ 255 → sign_exponent u a p ≤ 131000 * length u
exponent-room [] a [] c l t = omega arith
exponent-room [] a (b ∷ p) c l t = absurd c
exponent-room (v ∷ u) a [] c l t = absurd c
exponent-room (v ∷ u) a (b ∷ p) c l t =
    let rest = exponent-room u b p c.1 (omega arith) t in
    let order = c.0 in
    let grows = last-grows u b p c.1 in
    let one = occurs_once v u in
    let lower = below-room v u b p c.1 in
    let term = term-room (b - a + occurs v u) (lengths_below v u b p) b (occurs v u) (omega (arith, order, grows, one, t)) (omega (arith, lower, t, l)) (omega (arith, grows, t)) one in
    omega (arith, rest, term)

-- ---- the walk

IsCutFrom-drop : (u p : List ℕ) (i a : ℕ) → IsCutFrom u a p → i ≤ length u → IsCutFrom (drop i u) (get_or (a ∷ p) i 0) (drop i p)
IsCutFrom-drop [] [] zero a c h = tt
IsCutFrom-drop [] [] (suc i) a c h = absurd (omega arith)
IsCutFrom-drop [] (b ∷ p) i a c h = absurd c
IsCutFrom-drop (v ∷ u) [] i a c h = absurd c
IsCutFrom-drop (v ∷ u) (b ∷ p) zero a c h = c
IsCutFrom-drop (v ∷ u) (b ∷ p) (suc i) a c h = IsCutFrom-drop u p i b c.1 (omega arith)

last_of-drop : (p : List ℕ) (i a : ℕ) → i ≤ length p → last_of (get_or (a ∷ p) i 0) (drop i p) ≡ last_of a p
last_of-drop [] zero a h = refl
last_of-drop [] (suc i) a h = absurd (omega arith)
last_of-drop (b ∷ p) zero a h = refl
last_of-drop (b ∷ p) (suc i) a h = last_of-drop p i b (omega arith)

-- what is known of the interval that is passed next, the j-th
pub record IsNext (u p : List ℕ) (j : ℕ) (sizes : List ℕ) (done : ℕ) : Type 0 where
  pub total : sum sizes ≤ 509
  pub lower : sum (take (slice_index u j) sizes) ≤ 509
  pub done_small : done ≤ 131000 * 254
  pub narrow : slice_index u j < 33

value_narrow : (u : List ℕ) (i : ℕ) → arity u ≤ 32 → slice_index u i < 33
value_narrow [] i h = omega arith
value_narrow (v ∷ u) zero h = omega arith
value_narrow (v ∷ u) (suc i) h = value_narrow u i (omega arith)

pub as_number : (b : Bool) (v : ℕ) (u : List ℕ) → b ≡ (occurs v u == 1) → bool_byte b ≡ occurs v u
as_number b v u e = elim (occurs-01 v u) [
  | inl h ↦ ap bool_byte (e ∙ ap (λ n. n == 1) h) ∙ sym h
  | inr h ↦ ap bool_byte (e ∙ ap (λ n. n == 1) h) ∙ sym h
]

-- the interval that is passed next
module _ (u p : List ℕ) (i j : ℕ) (sizes : List ℕ) (done : ℕ) (c : IsCutFrom u 0 p) (short : length u ≤ 255) (narrow : arity u ≤ 32) (low : last_of 0 p ≤ 255) (h : IsPassed u p i sizes done) (e : j + 1 ≡ i) where
  cut_next : IsCutFrom (drop i u) (slice_index (0 ∷ p) i) (drop i p)
  cut_next = IsCutFrom-drop u p i 0 c h.within

  last_next : last_of (slice_index (0 ∷ p) i) (drop i p) ≤ 255
  last_next =
      let w = h.within in
      let k = length-cut u 0 p c in
      omega (arith, last_of-drop p i 0 (omega arith))

  long_next : length (drop i u) ≤ 254
  long_next = let w = h.within in omega (arith, length-drop i u)

  lower : (v : ℕ) → v ≤ 33 → sum (take v sizes) ≤ 509
  lower v w = let r = below-room v (drop i u) (slice_index (0 ∷ p) i) (drop i p) cut_next in omega (arith, h.below v w, r, last_next, long_next)

  total : sum sizes ≤ 509
  total = let l = lower 33 (omega arith) in subst (λ xs. sum xs ≤ 509) (take_all 33 sizes (let w = h.wide in omega arith)) l

  small : done ≤ 131000 * 254
  small = let r = exponent-room (drop i u) (slice_index (0 ∷ p) i) (drop i p) cut_next (let l = long_next in omega arith) last_next in let l = long_next in omega (arith, h.exponent, r, l)

  next : IsNext u p j sizes done
  next = record {
    total = total;
    lower = lower (slice_index u j) (let v = value_narrow u j narrow in omega arith);
    done_small = small;
    narrow = value_narrow u j narrow;
  }

  next_passed : (size below k b : ℕ) (new : List ℕ) → size ≡ slice_index p j - slice_index (0 ∷ p) j + occurs (slice_index u j) (drop (j + 1) u) → below ≡ sum (take (slice_index u j) sizes)
      → k ≡ occurs (slice_index u j) (drop (j + 1) u) → b ≡ slice_index p j → new ≡ slice_set sizes (slice_index u j) (slice_index sizes (slice_index u j) + size)
      → IsPassed u p j new (done + size * below + k * b)
  next_passed size below k b new es eb ek ee en =
      let f : suc j ≡ i = omega (arith, e) in
      let g : j + 1 ≡ suc j = omega arith in
      let x : ℕ = slice_index u j in
      let a : ℕ = slice_index (0 ∷ p) j in
      let y : ℕ = slice_index p j in
      let U : List ℕ = drop (suc j) u in
      let Q : List ℕ = drop (suc j) p in
      let old : IsPassed u p (suc j) sizes done = subst (λ n. IsPassed u p n sizes done) (sym f) h in
      let w = h.within in
      let split : drop j u ≡ x ∷ U = drop-cons u j 0 (omega arith) in
      let split_cut : drop j p ≡ y ∷ Q = let n = length-cut u 0 p c in drop-cons p j 0 (omega arith) in
      let size_is : size ≡ y - a + occurs x U = es ∙ ap (λ n. y - a + occurs x (drop n u)) g in
      let narrow_here = value_narrow u j narrow in
      let wide = h.wide in
      record {
        within = omega arith;
        wide = ap length en ∙ length-set sizes x (slice_index sizes x + size) ∙ h.wide;
        below = λ v l.
            ap (λ n. sum (take v n)) en ∙ sum-raised sizes x v size (omega arith) (omega arith) ∙ ap₂ (λ m n. less x v * m + n) size_is (old.below v l)
            ∙ sym (ap₂ (λ m n. lengths_below v m a n) split split_cut);
        exponent =
            let first : size * below ≡ (y - a + occurs x U) * lengths_below x U y Q = ap₂ (λ m n. m * n) size_is (eb ∙ old.below x (omega arith)) in
            let second : k * b ≡ occurs x U * y = ap₂ (λ m n. m * n) (ek ∙ ap (λ n. occurs x (drop n u)) g) ee in
            whole done (size * below) (k * b) ((y - a + occurs x U) * lengths_below x U y Q) (occurs x U * y) (sign_exponent U y Q) first second old.exponent
            ∙ sym (ap₂ (λ m n. sign_exponent m a n) split split_cut);
      }
    where
      whole : (d m n m' n' r : ℕ) → m ≡ m' → n ≡ n' → d ≡ r → d + m + n ≡ m' + n' + r
      whole d m n m' n' r q s t = omega arith

-- the i-th interval
pub record IsInterval (u inner : List ℕ) (top i : ℕ) : Type 0 where
  pub inside : i ≤ length inner
  pub order : slice_index (0 ∷ (inner ++ (top ∷ []))) i ≤ slice_index (inner ++ (top ∷ [])) i
  pub end : slice_index (inner ++ (top ∷ [])) i ≤ top
  pub once : occurs (slice_index u i) (drop (i + 1) u) ≤ 1

order-at : (u : List ℕ) (a : ℕ) (p : List ℕ) (i : ℕ) → IsCutFrom u a p → i < length u → (get_or (a ∷ p) i 0 ≤ get_or p i 0) × (get_or p i 0 ≤ last_of a p)
order-at [] a p i c h = absurd (omega arith)
order-at (v ∷ u) a [] i c h = absurd c
order-at (v ∷ u) a (b ∷ p) zero c h = (c.0, last-grows u b p c.1)
order-at (v ∷ u) a (b ∷ p) (suc i) c h = order-at u b p i c.1 (omega arith)

pub interval : (u inner : List ℕ) (top i : ℕ) → IsCutFrom u 0 (inner ++ (top ∷ [])) → i < length u → IsInterval u inner top i
interval u inner top i c h =
    let o = order-at u 0 (inner ++ (top ∷ [])) i c h in
    let l = last_of-append 0 inner top in
    let m = o.1 in
    record {
      inside = omega (arith, length-cut u 0 (inner ++ (top ∷ [])) c, length-append inner (top ∷ []));
      order = o.0;
      end = omega arith;
      once = occurs_once (slice_index u i) (drop (i + 1) u);
    }

-- the facts and the step in the terms of the walk
module _ (u inner : List ℕ) (top i : ℕ) (sizes : List ℕ) (done : ℕ) (c : IsCutFrom u 0 (inner ++ (top ∷ []))) (short : length u ≤ 255) (narrow : arity u ≤ 32) (low : top ≤ 255)
    (h : IsPassed u (inner ++ (top ∷ [])) i sizes done) (some : 0 < i) where
  last_low : last_of 0 (inner ++ (top ∷ [])) ≤ 255
  last_low = omega (arith, last_of-append 0 inner top)

  before : i - 1 + 1 ≡ i
  before = omega arith

  pub passing : IsNext u (inner ++ (top ∷ [])) (i - 1) sizes done
  passing = next u (inner ++ (top ∷ [])) i (i - 1) sizes done c short narrow last_low h before

  pub passing_interval : IsInterval u inner top (i - 1)
  passing_interval = interval u inner top (i - 1) c (let w = h.within in omega arith)

  pub passing_step : (size below k b : ℕ) (new : List ℕ) → size ≡ slice_index (inner ++ (top ∷ [])) (i - 1) - slice_index (0 ∷ (inner ++ (top ∷ []))) (i - 1) + occurs (slice_index u (i - 1)) (drop (i - 1 + 1) u)
      → below ≡ sum (take (slice_index u (i - 1)) sizes) → k ≡ occurs (slice_index u (i - 1)) (drop (i - 1 + 1) u) → b ≡ slice_index (inner ++ (top ∷ [])) (i - 1)
      → new ≡ slice_set sizes (slice_index u (i - 1)) (slice_index sizes (slice_index u (i - 1)) + size) → IsPassed u (inner ++ (top ∷ [])) (i - 1) new (done + size * below + k * b)
  passing_step = next_passed u (inner ++ (top ∷ [])) i (i - 1) sizes done c short narrow last_low h before
