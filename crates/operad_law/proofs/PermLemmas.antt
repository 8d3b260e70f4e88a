-- Permutations: what no refusal says, compositions and powers of the cycle.
use Rattle.std.proofs.{Common.{◌≡◌, ℕ, zero, suc, ◌+◌, ◌%◌, ◌<◌, ◌≤◌, ◌≢◌, ◌==◌, ◌||◌, Bool, false, List, [], ◌∷◌, ◌++◌, length, map, get_or, None, Some, refl, sym, ap, ◌∙◌, inl, inr, arith, subst, All, nat_lt}, Math.Nat.{mod-add-mod, add-mod-mod, mod-eq_of_lt, mod-lt, mod_self}, lemmas.Bool.{cases_Bool, cases_eq, eqb-false, or_parts}, lemmas.List.map-append}
use Rattle.signed_sum.{specs.Names.{IsDistinct, numbers_from, occurs, cycle_power, cycle, entry_at}, proofs.Names.{length-numbers_from, numbers_from-append, numbers_from-distinct, occurs-01, occurs-apart, occurs-cons, occurs-head, occurs-mid, occurs-more, occurs-range, occurs-self, occurs-tail, range-in, range-out}}
use Rattle.table_reduction_law.{specs.Names.{IsPermutationOf, unused}, proofs.Permutations.{cycle-last, cycle-other, perm-moved, perm-within, place, relabels, within-at}, proofs.PowerPairs.power-perm, proofs.ReductionBoundary.permutation-length, proofs.RowsAsWalks.count-remove, proofs.UnusedEntries.{unused-distinct, unused-out}}
use Rattle.operad_law.specs.{Refusals.{first_place_from, is_misplaced, permutation_fault, repeated_place}, Permutations.{IsPerm, composed, identity}}

-- ---- what it means that a test holds nowhere
first_place-none : (test : List ℕ → ℕ → Bool) (before : List ℕ) (x : ℕ) (xs : List ℕ) → first_place_from test before (x ∷ xs) ≡ None →
    (test before x ≡ false) × (first_place_from test (before ++ (x ∷ [])) xs ≡ None)
first_place-none test before x xs e = elim (cases_Bool (test before x)) [
  | inl t ↦ let s : first_place_from test before (x ∷ xs) ≡ Some (suc (length before)) = rw t refl in cc
  | inr t ↦ (t, rw t at e)
]

nowhere-all : (P : ℕ → Type 0) (test : List ℕ → ℕ → Bool) → ((before : List ℕ) (v : ℕ) → test before v ≡ false → P v) → (before xs : List ℕ) → first_place_from test before xs ≡ None →
    (v : ℕ) → occurs v xs ≡ 1 → P v
nowhere-all P test h before [] e v o = absurd (omega (arith, o))
nowhere-all P test h before (x ∷ xs) e v o =
    let f = first_place-none test before x xs e in
    elim (occurs-cons v x xs) [
      | inl q ↦ subst P (sym q) (h before x f.0)
      | inr q ↦ nowhere-all P test h (before ++ (x ∷ [])) xs f.1 v (sym q ∙ o)
    ]

-- where no entry stands at an earlier place, the entries are distinct
nowhere-distinct : (test : List ℕ → ℕ → Bool) → ((before : List ℕ) (v : ℕ) → test before v ≡ false → occurs v before ≡ 0) → (before xs : List ℕ) → first_place_from test before xs ≡ None →
    IsDistinct xs × ((v : ℕ) → occurs v before ≡ 1 → occurs v xs ≡ 0)
nowhere-distinct test h before [] e = (tt, λ v o. refl)
nowhere-distinct test h before (x ∷ xs) e =
    let f = first_place-none test before x xs e in
    let ih : IsDistinct xs × ((v : ℕ) → occurs v (before ++ (x ∷ [])) ≡ 1 → occurs v xs ≡ 0) = nowhere-distinct test h (before ++ (x ∷ [])) xs f.1 in
    let n : occurs x before ≡ 0 = h before x f.0 in (
      (ih.1 x (occurs-mid x before []), ih.0),
      λ v o. elim (occurs-cons v x xs) [
        | inl q ↦ absurd (let k : occurs v before ≡ 0 = ap (λ w. occurs w before) q ∙ n in omega arith)
        | inr q ↦ q ∙ ih.1 v (occurs-more v before (x ∷ []) o)
      ],
    )

not_one : (v : ℕ) (xs : List ℕ) → (occurs v xs == 1) ≡ false → occurs v xs ≡ 0
not_one v xs e = elim (occurs-01 v xs) [ inl z ↦ z | inr o ↦ absurd (eqb-false (occurs v xs) 1 e o) ]

pub repeated-none : (xs : List ℕ) → repeated_place xs ≡ None → IsDistinct xs
repeated-none xs e = (nowhere-distinct (λ before v. occurs v before == 1) (λ before v f. not_one v before f) [] xs e).0

misplaced-parts : (n : ℕ) (before : List ℕ) (v : ℕ) → is_misplaced n before v ≡ false → ((1 ≤ v) × (v ≤ n)) × (occurs v before ≡ 0)
misplaced-parts n before v e =
    let a = or_parts (v == 0) (nat_lt n v || (occurs v before == 1)) e in
    let b = or_parts (nat_lt n v) (occurs v before == 1) a.1 in
    ((grind (arith, a.0), grind (arith, b.0)), not_one v before b.1)

-- distinct entries of a list that are as many as it has places are all of them
full : (xs ks : List ℕ) → IsDistinct xs → IsDistinct ks → length ks ≤ length xs → ((v : ℕ) → occurs v xs ≡ 1 → occurs v ks ≡ 1) → (v : ℕ) → occurs v ks ≡ 1 → occurs v xs ≡ 1
full [] [] d e l h v o = o
full [] (k ∷ ks) d e l h v o = absurd (omega (arith, l))
full (x ∷ xs) ks d e l h v o = elim (cases_eq v x) [
  | inl q ↦ ap (λ w. occurs w (x ∷ xs)) q ∙ occurs-self x xs
  | inr n ↦
      let there : (w : ℕ) → w ≢ x → occurs w (unused (x ∷ []) ks) ≡ occurs w ks = λ w m. unused-out w (x ∷ []) ks (occurs-apart w x [] m) in
      let c = count-remove x ks e (h x (occurs-self x xs)) in
      let other : (w : ℕ) → occurs w xs ≡ 1 → w ≢ x = λ w. occurs-head w x xs d.0 in
      let ih = full xs (unused (x ∷ []) ks) d.1 (unused-distinct (x ∷ []) ks e) (omega (arith, c, l)) (λ w k. there w (other w k) ∙ h w (occurs-tail w x xs k)) in
      occurs-tail v x xs (ih v (there v n ∙ o))
]

pub no_fault : (p : List ℕ) → permutation_fault p ≡ None → IsPerm p
no_fault p e = elim (cases_Bool ((length p == 0) || nat_lt 32 (length p))) [
  | inl t ↦ absurd (let s : permutation_fault p ≡ Some 0 = rw t refl in cc)
  | inr t ↦
      let n = numbers_from 1 (length p) in
      let f : first_place_from (is_misplaced (length p)) [] p ≡ None = rw t at e in
      let b = or_parts (length p == 0) (nat_lt 32 (length p)) t in
      let l = length-numbers_from 1 (length p) in
      let inside = nowhere-all (λ v. occurs v n ≡ 1) (is_misplaced (length p)) (λ before v g. let i = (misplaced-parts (length p) before v g).0 in range-in v 1 (length p) i.0 (omega (arith, i.1))) [] p f in
      let distinct = (nowhere-distinct (is_misplaced (length p)) (λ before v g. (misplaced-parts (length p) before v g).1) [] p f).0 in
      let all = full p n distinct (numbers_from-distinct 1 (length p)) (omega (arith, l)) inside in
      record {
        some = grind (arith, b.0);
        short = grind (arith, b.1);
        permutation = record { distinct = distinct; onto = occurs-range 1 (length p) p (λ v o. range-out v 1 (length p) (inside v o)) (λ v a b. all v (range-in v 1 (length p) a b)) };
      }
]

-- ---- permutations of 1 to r
pub perm_of : (r : ℕ) (p : List ℕ) → 1 ≤ r → r ≤ 32 → IsPermutationOf r p → IsPerm p
perm_of r p a b k = let e = permutation-length r p k in record { some = omega (arith, a, e); short = omega (arith, b, e); permutation = subst (λ (n : ℕ). IsPermutationOf n p) (sym e) k }

pub permutation_of : (r : ℕ) (p : List ℕ) → IsPerm p → length p ≡ r → IsPermutationOf r p
permutation_of r p h e = subst (λ (n : ℕ). IsPermutationOf n p) e h.permutation

pub perm_values : (p : List ℕ) → IsPerm p → All (λ v. (1 ≤ v) × (v ≤ length p)) p
perm_values p h k d l = within-at (length p) p k d (perm-within (length p) p h.permutation) l

pub entry-map : (f : ℕ → ℕ) (t : List ℕ) (v : ℕ) → 1 ≤ v → v ≤ length t → entry_at (map f t) v ≡ f (entry_at t v)
entry-map f t zero a b = absurd (omega arith)
entry-map f [] (suc v) a b = absurd (omega arith)
entry-map f (x ∷ t) (suc zero) a b = refl
entry-map f (x ∷ t) (suc (suc v)) a b = entry-map f t (suc v) (omega arith) (omega arith)

pub entry-identity : (r v : ℕ) → 1 ≤ v → v ≤ r → entry_at (identity r) v ≡ v
entry-identity r zero a b = absurd (omega arith)
entry-identity r (suc v) a b = omega (arith, numbers-at 1 r v (omega arith))
  where
    numbers-at : (a n i : ℕ) → i < n → get_or (numbers_from a n) i 0 ≡ a + i
    numbers-at a zero i h = absurd (omega arith)
    numbers-at a (suc n) zero h = omega arith
    numbers-at a (suc n) (suc i) h = omega (arith, numbers-at (suc a) n i (omega arith))

pub IsPerm-composed : (p q : List ℕ) → IsPerm p → IsPerm q → length p ≡ length q → IsPerm (composed p q)
IsPerm-composed p q h k e = perm_of (length q) (composed p q) k.some k.short (perm-moved (length q) (entry_at p) (place p) q (relabels (length q) p (permutation_of (length q) p h e)) k.permutation)

-- ---- powers of the cycle
pub length-cycle_power : (r n : ℕ) → length (cycle_power r n) ≡ r
length-cycle_power r n = permutation-length r (cycle_power r n) (power-perm r n)

-- the number at place j, from 0, of a power
abbrev pub shifted : ℕ → ℕ → ℕ → ℕ
shifted r n j = (j + n) % r + 1

cycle-shifted : (r n j : ℕ) → 1 ≤ r → cycle r (shifted r n j) ≡ shifted r (suc n) j
cycle-shifted r n j h =
    let m = (j + n) % r in
    let below : m < r = mod-lt (j + n) (omega arith) in
    let s : (j + suc n) % r ≡ (m + 1) % r = ap (λ k. k % r) (let q : j + suc n ≡ (j + n) + 1 = omega arith in q) ∙ sym (mod-add-mod (j + n) r 1) in
    elim (cases_eq (m + 1) r) [
      | inl e ↦ ap (cycle r) e ∙ cycle-last r ∙ sym (ap (λ k. k + 1) (s ∙ ap (λ k. k % r) e ∙ mod_self r))
      | inr n' ↦ cycle-other r (m + 1) n' ∙ sym (ap (λ k. k + 1) (s ∙ mod-eq_of_lt (omega arith)) ∙ (omega arith))
    ]

map-shifted : (r n : ℕ) (js : List ℕ) → 1 ≤ r → map (cycle r) (map (shifted r n) js) ≡ map (shifted r (suc n)) js
map-shifted r n [] h = refl
map-shifted r n (j ∷ js) h = λ i. cycle-shifted r n j h i ∷ map-shifted r n js h i

unshifted : (r a m : ℕ) → a + m ≤ r → numbers_from (suc a) m ≡ map (shifted r 0) (numbers_from a m)
unshifted r a zero h = refl
unshifted r a (suc m) h =
    let e : suc a ≡ shifted r 0 a = sym (ap (λ k. k + 1) (mod-eq_of_lt (let q : a + 0 < r = omega arith in q)) ∙ omega arith) in
    λ i. e i ∷ unshifted r (suc a) m (omega arith) i

-- each power of the cycle moves the numbers on
pub cycle_power-shifted : (r n : ℕ) → 1 ≤ r → cycle_power r n ≡ map (shifted r n) (numbers_from 0 r)
cycle_power-shifted r zero h = unshifted r 0 r (omega arith)
cycle_power-shifted r (suc n) h = ap (map (cycle r)) (cycle_power-shifted r n h) ∙ map-shifted r n (numbers_from 0 r) h

same_shift : (r n : ℕ) (js : List ℕ) → map (shifted r (n % r)) js ≡ map (shifted r n) js
same_shift r n [] = refl
same_shift r n (j ∷ js) = λ i. (add-mod-mod j n r i + 1) ∷ same_shift r n js i

pub cycle_power-mod : (r n : ℕ) → 1 ≤ r → cycle_power r (n % r) ≡ cycle_power r n
cycle_power-mod r n h = cycle_power-shifted r (n % r) h ∙ same_shift r n (numbers_from 0 r) ∙ sym (cycle_power-shifted r n h)

pub shifted-next : (r by i : ℕ) (values : List ℕ) → values ≡ map (shifted r by) (numbers_from 0 i) → values ++ (shifted r by i ∷ []) ≡ map (shifted r by) (numbers_from 0 (i + 1))
shifted-next r by i values e =
    let z : 0 + i ≡ i = omega arith in
    ap (λ v. v ++ (shifted r by i ∷ [])) e ∙ sym (ap (map (shifted r by)) (numbers_from-append 0 i 1 ∙ ap (λ k. numbers_from 0 i ++ (k ∷ [])) z) ∙ map-append (shifted r by) (numbers_from 0 i) (i ∷ []))
