-- Permutations as maps of values, turns by the cycle, and table reduction of a moved tuple.
use Rattle.std.proofs.{Common.{◌≡◌, ℕ, zero, suc, ◌+◌, ◌<◌, ◌≤◌, cond, List, [], ◌∷◌, ◌++◌, map, refl, sym, ◌∙◌, ap, arith, ◌==◌, inl, inr, eq-eqb, ne_eqb, get_or, take, ℤ, pos, ◌-ℤ◌, ◌*ℤ◌, length, pred}, lemmas.Int.ints, lemmas.Bool.Decides.{eqb_tells, nat_tests}, lemmas.List.{length-map, map-append, take-map}}
use Rattle.signed_sum.{proofs.Names.{at_turn, one-mul, range-in, range-out, occurs-01, occurs-apart, occurs-self, occurs-tail, total-map}, specs.Names.{IsDistinct, after_turns, difference, numbers_from, occurs, total, value_at}}
use Rattle.surjection_law.specs.Names.{IsOnto, IsRelabelling}
use Rattle.table_reduction_law.{proofs.ReductionBoundary.{permutation-length, reduction_sum}, proofs.UnusedEntries.{unused-in, unused-out}, specs.Names.{cycle, cons_if_zero, row_lengths, rows, turned, turned_values, unused, IsPermutationOf, IsTuple, entry_at}}

-- a list of values as a map

-- the place of a value, from 1
abbrev pub place : List ℕ → ℕ → ℕ
place [] x = 0
place (y ∷ t) x = cond (x == y) 1 (suc (place t x))

place-range : (t : List ℕ) (x : ℕ) → occurs x t ≡ 1 → (1 ≤ place t x) × (place t x ≤ length t)
place-range [] x h = absurd (omega (arith, h))
place-range (y ∷ t) x h = (grind (arith, nat_tests), grind (arith, nat_tests, place-range t x))

at-place : (t : List ℕ) (x : ℕ) → occurs x t ≡ 1 → entry_at t (place t x) ≡ x
at-place [] x h = absurd (omega (arith, h))
at-place (y ∷ t) x h = elim (eqb_tells x y) [
  | inl e ↦ rw e.0 (sym e.1)
  | inr n ↦ let m : occurs x t ≡ 1 = sym (occurs-apart x y t n.1) ∙ h in rw n.0 (later (place t x) (place-range t x m).0 ∙ at-place t x m)
]
  where
    later : (n : ℕ) → 1 ≤ n → entry_at (y ∷ t) (suc n) ≡ entry_at t n
    later zero k = absurd (omega (arith, k))
    later (suc n) k = refl

at-has : (t : List ℕ) (v d : ℕ) → v < length t → occurs (get_or t v d) t ≡ 1
at-has [] v d h = absurd (omega (arith, h))
at-has (y ∷ t) zero d h = occurs-self y t
at-has (y ∷ t) (suc v) d h = occurs-tail (get_or t v d) y t (at-has t v d (omega (arith, h)))

place-at : (t : List ℕ) (v : ℕ) → IsDistinct t → v < length t → place t (entry_at t (suc v)) ≡ suc v
place-at [] v d h = absurd (omega (arith, h))
place-at (y ∷ t) zero d h = rw (eq-eqb y y refl) refl
place-at (y ∷ t) (suc v) d h =
    let m : occurs (entry_at t (suc v)) t ≡ 1 = at-has t v 0 (omega (arith, h)) in
    rw (ne_eqb (entry_at t (suc v)) y (λ e. omega (arith, d.0, m, ap (λ j. occurs j t) e))) (ap suc (place-at t v d.1 (omega (arith, h))))

pub relabels : (r : ℕ) (t : List ℕ) → IsPermutationOf r t → IsRelabelling r (entry_at t) (place t)
relabels r t k = record { there = go; back = home; there_back = round; back_there = λ v h. at-place t v (k.onto v ∙ h) }
  where
    c : length t ≡ r
    c = permutation-length r t k

    one : (v : ℕ) → (1 ≤ v) × (v < 1 + r) → occurs (entry_at t v) t ≡ 1
    one zero h = absurd (omega (arith, h.0))
    one (suc v) h = at-has t v 0 (omega (arith, h.1, c))

    go : (v : ℕ) → occurs v (numbers_from 1 r) ≡ 1 → occurs (entry_at t v) (numbers_from 1 r) ≡ 1
    go v h = sym (k.onto (entry_at t v)) ∙ one v (range-out v 1 r h)

    home : (v : ℕ) → occurs v (numbers_from 1 r) ≡ 1 → occurs (place t v) (numbers_from 1 r) ≡ 1
    home v h = let p = place-range t v (k.onto v ∙ h) in range-in (place t v) 1 r p.0 (omega (arith, p.1, c))

    two : (v : ℕ) → (1 ≤ v) × (v < 1 + r) → place t (entry_at t v) ≡ v
    two zero h = absurd (omega (arith, h.0))
    two (suc v) h = place-at t v k.distinct (omega (arith, h.1, c))

    round : (v : ℕ) → occurs v (numbers_from 1 r) ≡ 1 → place t (entry_at t v) ≡ v
    round v h = two v (range-out v 1 r h)

-- the cycle

pub cycle-last : (p : ℕ) → cycle p p ≡ 1
cycle-last p = rw (eq-eqb p p refl) refl

pub cycle-other : (p v : ℕ) → (v ≡ p → ⊥) → cycle p v ≡ suc v
cycle-other p v n = rw (ne_eqb v p n) refl

abbrev pub uncycle : ℕ → ℕ → ℕ
uncycle p v = cond (v == 1) p (pred v)

pub moves-cycle : (p : ℕ) → IsRelabelling p (cycle p) (uncycle p)
moves-cycle p = record { there = λ v h. go v (range-out v 1 p h); back = λ v h. home v (range-out v 1 p h); there_back = λ v h. round v (range-out v 1 p h); back_there = λ v h. about v (range-out v 1 p h) }
  where
    go : (v : ℕ) → (1 ≤ v) × (v < 1 + p) → occurs (cycle p v) (numbers_from 1 p) ≡ 1
    go v h = let a = h.0 in let b = h.1 in range-in (cycle p v) 1 p (grind (arith, nat_tests)) (grind (arith, nat_tests))

    home : (v : ℕ) → (1 ≤ v) × (v < 1 + p) → occurs (uncycle p v) (numbers_from 1 p) ≡ 1
    home zero h = absurd (omega (arith, h.0))
    home (suc v) h = let b = h.1 in range-in (uncycle p (suc v)) 1 p (grind (arith, nat_tests)) (grind (arith, nat_tests))

    round : (v : ℕ) → (1 ≤ v) × (v < 1 + p) → uncycle p (cycle p v) ≡ v
    round v h = let a = h.0 in let b = h.1 in grind (arith, nat_tests)

    about : (v : ℕ) → (1 ≤ v) × (v < 1 + p) → cycle p (uncycle p v) ≡ v
    about zero h = absurd (omega (arith, h.0))
    about (suc v) h = let b = h.1 in grind (arith, nat_tests)

-- turns

pub after-turned : (p n : ℕ) (u : List ℕ) → after_turns (turned_values p) n u ≡ (turned p n u, pos 1)
after-turned p zero u = refl
after-turned p (suc n) u = λ i. (map (cycle p) (after-turned p n u i).0, (after-turned p n u i).1 *ℤ pos 1)

pub turned-at : (p n : ℕ) (h : List ℕ → ℤ) (u : List ℕ) → at_turn (turned_values p) n h u ≡ h (turned p n u)
turned-at p n h u = ap (λ (q : List ℕ × ℤ). q.1 *ℤ h q.0) (after-turned p n u) ∙ one-mul (h (turned p n u))

pub turned-less : (p : ℕ) (h : List ℕ → ℤ) (u : List ℕ) → value_at h (difference (turned_values p) u) ≡ h (map (cycle p) u) -ℤ h u
turned-less p h u = omega (arith, ints)

-- moved lists

-- all values are among 1 to r
abbrev pub Within : ℕ → List ℕ → Type 0
Within r w = (v : ℕ) → occurs v w ≡ 1 → occurs v (numbers_from 1 r) ≡ 1

pub within-tail : (r x : ℕ) (w : List ℕ) → Within r (x ∷ w) → Within r w
within-tail r x w k v h = k v (occurs-tail v x w h)

pub within-at : (r : ℕ) (w : List ℕ) (k d : ℕ) → Within r w → k < length w → (1 ≤ get_or w k d) × (get_or w k d ≤ r)
within-at r w k d h l = let b = range-out (get_or w k d) 1 r (h (get_or w k d) (at-has w k d l)) in (b.0, omega (arith, b.1))

pub onto-within : (r : ℕ) (w : List ℕ) → IsOnto r w → Within r w
onto-within r w o v h = sym (o v) ∙ h

pub perm-within : (r : ℕ) (w : List ℕ) → IsPermutationOf r w → Within r w
perm-within r w k = onto-within r w k.onto

pub map-in : (t : ℕ → ℕ) (x : ℕ) (w : List ℕ) → occurs x w ≡ 1 → occurs (t x) (map t w) ≡ 1
map-in t x [] h = absurd (omega (arith, h))
map-in t x (y ∷ w) h = grind (arith, nat_tests, map-in t x w)

pub map-within : (r : ℕ) (t i : ℕ → ℕ) (v : ℕ) (w : List ℕ) → IsRelabelling r t i → Within r w → occurs v (map t w) ≡ 1 → occurs v (numbers_from 1 r) ≡ 1
map-within r t i v [] m k h = absurd (omega (arith, h))
map-within r t i v (y ∷ w) m k h = grind (arith, nat_tests, m.there y (k y (occurs-self y w)), map-within r t i v w m (within-tail r y w k))

pub map-has : (r : ℕ) (t i : ℕ → ℕ) (x : ℕ) (w : List ℕ) → IsRelabelling r t i → occurs x (numbers_from 1 r) ≡ 1 → Within r w → occurs (t x) (map t w) ≡ occurs x w
map-has r t i x [] m q k = refl
map-has r t i x (y ∷ w) m q k =
    let n : t x ≡ t y → x ≡ y = λ z. sym (m.there_back x q) ∙ ap i z ∙ m.there_back y (k y (occurs-self y w)) in
    grind (arith, nat_tests, n, map-has r t i x w m q (within-tail r y w k))

map-distinct : (r : ℕ) (t i : ℕ → ℕ) (w : List ℕ) → IsRelabelling r t i → Within r w → IsDistinct w → IsDistinct (map t w)
map-distinct r t i [] m k d = tt
map-distinct r t i (y ∷ w) m k d = (map-has r t i y w m (k y (occurs-self y w)) (within-tail r y w k) ∙ d.0, map-distinct r t i w m (within-tail r y w k) d.1)

pub onto-moved : (r : ℕ) (t i : ℕ → ℕ) (w : List ℕ) → IsRelabelling r t i → IsOnto r w → IsOnto r (map t w)
onto-moved r t i w m o v = elim (occurs-01 v (numbers_from 1 r)) [
  | inl z ↦ elim (occurs-01 v (map t w)) [ inl q ↦ q ∙ sym z | inr q ↦ absurd (let b = map-within r t i v w m (onto-within r w o) q in omega (arith, b, z)) ]
  | inr z ↦ ap (λ j. occurs j (map t w)) (sym (m.back_there v z)) ∙ map-in t (i v) w (o (i v) ∙ m.back v z) ∙ sym z
]

pub onto-turned : (p n : ℕ) (u : List ℕ) → IsOnto p u → IsOnto p (turned p n u)
onto-turned p zero u o = o
onto-turned p (suc n) u o = onto-moved p (cycle p) (uncycle p) (turned p n u) (moves-cycle p) (onto-turned p n u o)

pub perm-moved : (r : ℕ) (t i : ℕ → ℕ) (w : List ℕ) → IsRelabelling r t i → IsPermutationOf r w → IsPermutationOf r (map t w)
perm-moved r t i w m k = record { distinct = map-distinct r t i w m (perm-within r w k) k.distinct; onto = onto-moved r t i w m k.onto }

pub tuple-moved : (r : ℕ) (t i : ℕ → ℕ) (w : List (List ℕ)) → IsRelabelling r t i → IsTuple r w → IsTuple r (map (λ x. map t x) w)
tuple-moved r t i [] m k = tt
tuple-moved r t i (x ∷ w) m k = (perm-moved r t i x m k.0, tuple-moved r t i w m k.1)

-- moved rows

keep-map : (t : ℕ → ℕ) (n x : ℕ) (u : List ℕ) → cons_if_zero n (t x) (map t u) ≡ map t (cons_if_zero n x u)
keep-map t zero x u = refl
keep-map t (suc n) x u = refl

unused-moved : (r : ℕ) (t i : ℕ → ℕ) (a w : List ℕ) → IsRelabelling r t i → Within r a → Within r w → unused (map t a) (map t w) ≡ map t (unused a w)
unused-moved r t i a [] m k l = refl
unused-moved r t i a (x ∷ w) m k l =
    let e = map-has r t i x a m (l x (occurs-self x w)) k in
    (λ j. cons_if_zero (e j) (t x) (unused-moved r t i a w m k (within-tail r x w l) j)) ∙ keep-map t (occurs x a) x (unused a w)

within-unused : (r : ℕ) (a w : List ℕ) → Within r w → Within r (unused a w)
within-unused r a w k v h =
    elim (occurs-01 v a) [
      | inl z ↦ k v (sym (unused-out v a w z) ∙ h)
      | inr z ↦ absurd (let q = unused-in v a w z in omega (arith, q, h))
    ]

within-cons : (r x : ℕ) (w : List ℕ) → occurs x (numbers_from 1 r) ≡ 1 → Within r w → Within r (x ∷ w)
within-cons r x w q k v h = grind (arith, nat_tests, q, k v)

within-take : (r n : ℕ) (w a : List ℕ) → Within r w → Within r a → Within r (take n w ++ a)
within-take r zero w a k l = l
within-take r (suc n) [] a k l = l
within-take r (suc n) (x ∷ w) a k l = within-cons r x (take n w ++ a) (k x (occurs-self x w)) (within-take r n w a (within-tail r x w k) l)

rows-moved : (r : ℕ) (t i : ℕ → ℕ) (ws : List (List ℕ)) (a ls : List ℕ) → IsRelabelling r t i → IsTuple r ws → Within r a →
    rows (map t a) (map (λ w. map t w) ws) ls ≡ map t (rows a ws ls)
rows-moved r t i [] a ls m k l = refl
rows-moved r t i (w ∷ ws) a [] m k l = refl
rows-moved r t i (w ∷ ws) a (n ∷ ls) m k l =
    let y : List ℕ = unused a w in
    let b : List ℕ = take (pred n) y ++ a in
    let e = unused-moved r t i a w m l (perm-within r w k.0) in
    let f : take n (map t y) ≡ map t (take n y) = take-map t n y in
    let g : take (pred n) (map t y) ++ map t a ≡ map t b = ap (λ z. z ++ map t a) (take-map t (pred n) y) ∙ sym (map-append t (take (pred n) y) a) in
    let ih = rows-moved r t i ws b ls m k.1 (within-take r (pred n) y a (within-unused r a w (perm-within r w k.0)) l) in
    (λ j. take n (e j) ++ rows (take (pred n) (e j) ++ map t a) (map (λ w. map t w) ws) ls)
    ∙ (λ j. f j ++ rows (g j) (map (λ w. map t w) ws) ls)
    ∙ ap (λ z. map t (take n y) ++ z) ih
    ∙ sym (map-append t (take n y) (rows b ws ls))

pub reduced-moved : (r : ℕ) (t i : ℕ → ℕ) (w : List (List ℕ)) (h : List ℕ → ℤ) → IsRelabelling r t i → IsTuple r w →
    reduction_sum (map (λ x. map t x) w) h ≡ reduction_sum w (λ u. h (map t u))
reduced-moved r t i [] h m k = refl
reduced-moved r t i (w ∷ ws) h m k =
    let mw : List (List ℕ) = map (λ x. map t x) ws in
    let L : List (List ℕ) = row_lengths (suc (length ws)) (length w + length ws) in
    let c : length mw ≡ length ws = length-map ws (λ x. map t x) in
    let d : length (map t w) ≡ length w = length-map w t in
    ap (λ L. total h (map (λ ls. rows [] (map t w ∷ mw) ls) L)) (λ j. row_lengths (suc (c j)) (d j + c j))
    ∙ total-map h (λ ls. rows [] (map t w ∷ mw) ls) L
    ∙ ap (λ f. total f L) (λ j ls. h (rows-moved r t i (w ∷ ws) [] ls m k (λ v q. absurd (omega (arith, q))) j))
    ∙ sym (total-map (λ u. h (map t u)) (λ ls. rows [] (w ∷ ws) ls) L)
