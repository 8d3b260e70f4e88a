-- May elements in tuples.
use Rattle.std.proofs.{Common.{◌≡◌, ℕ, zero, suc, ◌+◌, ◌%◌, ◌≤◌, List, [], ◌∷◌, ◌++◌, map, refl, sym, ◌∙◌, ap, arith, append_assoc, append-nil, ℤ, pos, ◌+ℤ◌, neg_ℤ}, lemmas.Int.ints, lemmas.List.map-append}
use Rattle.signed_sum.{proofs.Names.numbers_from-distinct, specs.Names.{numbers_from, unless_empty, without_one}}
use Rattle.table_reduction_law.{proofs.Permutations.{cycle-last, cycle-other, moves-cycle, perm-moved}, proofs.ReductionBoundary.{face_sum, reduction_sum}, specs.Names.{cycle, cycle_power, pair_count, leading_entries, IsPermutationOf, IsTuple}}

-- the sum of f below n
abbrev pub sum_below : ℕ → (ℕ → ℤ) → ℤ
sum_below zero f = pos 0
sum_below (suc n) f = sum_below n f +ℤ f n

-- a tuple turned by the cycle
abbrev pub turned_tuple : ℕ → List (List ℕ) → List (List ℕ)
turned_tuple p w = map (λ x. map (cycle p) x) w

-- turned e times
abbrev pub tuple_turned : ℕ → ℕ → List (List ℕ) → List (List ℕ)
tuple_turned p zero w = w
tuple_turned p (suc e) w = turned_tuple p (tuple_turned p e w)

-- the sum of h over the lists of k pairs
abbrev pub pair_sum : ℕ → ℕ → (List (List ℕ) → ℤ) → ℤ
pair_sum p zero h = h []
pair_sum p (suc k) h = sum_below p (λ e. pair_sum p k (λ t. h (cycle_power p e ∷ cycle_power p (suc e) ∷ t)))

-- the sum of h over the tuples of the May element of degree d, and over the lists that come from them
abbrev pub may_tuple_sum : ℕ → ℕ → (List (List ℕ) → ℤ) → ℤ
may_tuple_sum p d h = pair_sum p (pair_count d) (λ t. h (leading_entries p d ++ t))

abbrev pub may_sum : ℕ → ℕ → (List ℕ → ℤ) → ℤ
may_sum p d h = may_tuple_sum p d (λ w. reduction_sum w h)

-- powers of the cycle

turn-range : (p a m : ℕ) → a + m ≤ p → map (cycle p) (numbers_from a m) ≡ numbers_from (suc a) m
turn-range p a zero h = refl
turn-range p a (suc m) h = λ i. cycle-other p a (λ e. omega (arith, e, h)) i ∷ turn-range p (suc a) m (omega (arith, h)) i

turn-last : (p a m : ℕ) → a + m ≡ p → map (cycle p) (numbers_from a (suc m)) ≡ numbers_from (suc a) m ++ (1 ∷ [])
turn-last p a zero h = let e : a ≡ p = omega (arith, h) in ap (λ v. v ∷ []) (ap (cycle p) e ∙ cycle-last p)
turn-last p a (suc m) h = λ i. cycle-other p a (λ e. omega (arith, e, h)) i ∷ turn-last p (suc a) m (omega (arith, h)) i

power-form : (p e m : ℕ) → e + m ≡ p → cycle_power p e ≡ numbers_from (suc e) m ++ numbers_from 1 e
power-form p zero m h = let e : m ≡ p = omega (arith, h) in ap (λ j. numbers_from 1 j) (sym e) ∙ sym (append-nil (numbers_from 1 m))
power-form p (suc e) m h =
    ap (λ u. map (cycle p) u) (power-form p e (suc m) (omega (arith, h)))
    ∙ map-append (cycle p) (numbers_from (suc e) (suc m)) (numbers_from 1 e)
    ∙ (λ i. turn-last p (suc e) m (omega (arith, h)) i ++ turn-range p 1 e (omega (arith, h)) i)
    ∙ append_assoc (numbers_from (suc (suc e)) m) (1 ∷ []) (numbers_from 2 e)

-- p turns do nothing
pub power-turn : (p : ℕ) → cycle_power p p ≡ cycle_power p 0
power-turn p = power-form p p 0 (omega arith)

pub power-perm : (p e : ℕ) → IsPermutationOf p (cycle_power p e)
power-perm p zero = record { distinct = numbers_from-distinct 1 p; onto = λ v. refl }
power-perm p (suc e) = perm-moved p (cycle p) _ (cycle_power p e) (moves-cycle p) (power-perm p e)

-- sums

pub sum-cong : (n : ℕ) (f g : ℕ → ℤ) → ((e : ℕ) → f e ≡ g e) → sum_below n f ≡ sum_below n g
sum-cong n f g h = ap (λ k. sum_below n k) (λ i e. h e i)

sum-plus : (n : ℕ) (f g : ℕ → ℤ) → sum_below n (λ e. f e +ℤ g e) ≡ sum_below n f +ℤ sum_below n g
sum-plus zero f g = refl
sum-plus (suc n) f g = let a = sum-plus n f g in omega (arith, ints)

sum-neg : (n : ℕ) (f : ℕ → ℤ) → sum_below n (λ e. neg_ℤ (f e)) ≡ neg_ℤ (sum_below n f)
sum-neg zero f = refl
sum-neg (suc n) f = let a = sum-neg n f in omega (arith, ints)

-- the sum from 1 on
sum-shift : (n : ℕ) (f : ℕ → ℤ) → sum_below n (λ e. f (suc e)) +ℤ f 0 ≡ sum_below n f +ℤ f n
sum-shift zero f = refl
sum-shift (suc n) f = let a = sum-shift n f in omega (arith, ints)

-- over a whole turn
sum-turn : (n : ℕ) (f : ℕ → ℤ) → f n ≡ f 0 → sum_below n (λ e. f (suc e)) ≡ sum_below n f
sum-turn n f h = let a = sum-shift n f in omega (arith, ints)

pub pairs-cong : (p k : ℕ) (f g : List (List ℕ) → ℤ) → ((t : List (List ℕ)) → IsTuple p t → f t ≡ g t) → pair_sum p k f ≡ pair_sum p k g
pairs-cong p zero f g h = h [] tt
pairs-cong p (suc k) f g h =
    sum-cong p (λ e. pair_sum p k (λ t. f (cycle_power p e ∷ cycle_power p (suc e) ∷ t))) (λ e. pair_sum p k (λ t. g (cycle_power p e ∷ cycle_power p (suc e) ∷ t)))
    (λ e. pairs-cong p k (λ t. f (cycle_power p e ∷ cycle_power p (suc e) ∷ t)) (λ t. g (cycle_power p e ∷ cycle_power p (suc e) ∷ t))
    (λ t q. h (cycle_power p e ∷ cycle_power p (suc e) ∷ t) (power-perm p e, (power-perm p (suc e), q))))

pub pairs-plus : (p k : ℕ) (f g : List (List ℕ) → ℤ) → pair_sum p k (λ t. f t +ℤ g t) ≡ pair_sum p k f +ℤ pair_sum p k g
pairs-plus p zero f g = refl
pairs-plus p (suc k) f g =
    sum-cong p _ _ (λ e. pairs-plus p k (λ t. f (cycle_power p e ∷ cycle_power p (suc e) ∷ t)) (λ t. g (cycle_power p e ∷ cycle_power p (suc e) ∷ t)))
    ∙ sum-plus p (λ e. pair_sum p k (λ t. f (cycle_power p e ∷ cycle_power p (suc e) ∷ t))) (λ e. pair_sum p k (λ t. g (cycle_power p e ∷ cycle_power p (suc e) ∷ t)))

pub pairs-neg : (p k : ℕ) (f : List (List ℕ) → ℤ) → pair_sum p k (λ t. neg_ℤ (f t)) ≡ neg_ℤ (pair_sum p k f)
pairs-neg p zero f = refl
pairs-neg p (suc k) f =
    sum-cong p _ _ (λ e. pairs-neg p k (λ t. f (cycle_power p e ∷ cycle_power p (suc e) ∷ t)))
    ∙ sum-neg p (λ e. pair_sum p k (λ t. f (cycle_power p e ∷ cycle_power p (suc e) ∷ t)))

-- pairs have no boundary: with the next power in place of a power the sum is the same
pub pairs-closed : (p k : ℕ) (g : List (List ℕ) → ℤ) → pair_sum p k (λ t. without_one t g) ≡ pos 0
pairs-closed p zero g = refl
pairs-closed p (suc k) g =
    let f : ℕ → ℤ = λ e. pair_sum p k (λ t. g (cycle_power p e ∷ t)) in
    sum-cong p (λ e. pair_sum p k (λ t. without_one (cycle_power p e ∷ cycle_power p (suc e) ∷ t) g)) (λ e. pair_sum p k (λ t. g (cycle_power p (suc e) ∷ t)) +ℤ neg_ℤ (pair_sum p k (λ t. g (cycle_power p e ∷ t))))
    (λ e. first e (pairs-closed p k (λ r. g (cycle_power p e ∷ cycle_power p (suc e) ∷ r))))
    ∙ (let a = sum-plus p (λ e. f (suc e)) (λ e. neg_ℤ (f e)) in
    let b = sum-neg p f in
    let c = sum-turn p f (ap (λ u. pair_sum p k (λ t. g (u ∷ t))) (power-turn p)) in
    omega (arith, ints))
  where
    first : (e : ℕ) → pair_sum p k (λ t. without_one t (λ r. g (cycle_power p e ∷ cycle_power p (suc e) ∷ r))) ≡ pos 0 →
        pair_sum p k (λ t. without_one (cycle_power p e ∷ cycle_power p (suc e) ∷ t) g) ≡ pair_sum p k (λ t. g (cycle_power p (suc e) ∷ t)) +ℤ neg_ℤ (pair_sum p k (λ t. g (cycle_power p e ∷ t)))
    first e z =
        let w : List (List ℕ) → ℤ = λ t. without_one t (λ r. g (cycle_power p e ∷ cycle_power p (suc e) ∷ r)) in
        let a = pairs-plus p k (λ t. g (cycle_power p (suc e) ∷ t)) (λ t. neg_ℤ (g (cycle_power p e ∷ t) +ℤ neg_ℤ (w t))) in
        let b = pairs-neg p k (λ t. g (cycle_power p e ∷ t) +ℤ neg_ℤ (w t)) in
        let c = pairs-plus p k (λ t. g (cycle_power p e ∷ t)) (λ t. neg_ℤ (w t)) in
        let d = pairs-neg p k w in
        omega (arith, ints)

-- with each power turned the sum is the same
pub pairs-turned : (p k : ℕ) (g : List (List ℕ) → ℤ) → pair_sum p k (λ t. g (turned_tuple p t)) ≡ pair_sum p k g
pairs-turned p zero g = refl
pairs-turned p (suc k) g =
    sum-cong p _ _ (λ e. pairs-turned p k (λ t. g (cycle_power p (suc e) ∷ cycle_power p (suc (suc e)) ∷ t)))
    ∙ sum-turn p (λ e. pair_sum p k (λ t. g (cycle_power p e ∷ cycle_power p (suc e) ∷ t))) (λ i. pair_sum p k (λ t. g (power-turn p i ∷ map (cycle p) (power-turn p i) ∷ t)))

pub pairs-turned_by : (p e k : ℕ) (g : List (List ℕ) → ℤ) → pair_sum p k (λ t. g (tuple_turned p e t)) ≡ pair_sum p k g
pairs-turned_by p zero k g = refl
pairs-turned_by p (suc e) k g = pairs-turned_by p e k (λ t. g (turned_tuple p t)) ∙ pairs-turned p k g

turned_by-pair : (p e : ℕ) (t : List (List ℕ)) → tuple_turned p e (cycle_power p 0 ∷ cycle_power p 1 ∷ t) ≡ cycle_power p e ∷ cycle_power p (suc e) ∷ tuple_turned p e t
turned_by-pair p zero t = refl
turned_by-pair p (suc e) t = ap (turned_tuple p) (turned_by-pair p e t)

-- the relations

-- the parts of an element of even degree, and of the next
record Even (p d : ℕ) : Type 0 where
  half_next : pair_count (suc d) ≡ pair_count d
  lead_here : leading_entries p d ≡ cycle_power p 0 ∷ []
  lead_next : leading_entries p (suc d) ≡ cycle_power p 0 ∷ cycle_power p 1 ∷ []

even-parts : (p d : ℕ) → d % 2 ≡ 0 → Even p d
even-parts p zero h = record { half_next = refl; lead_here = refl; lead_next = refl }
even-parts p (suc zero) h = absurd (let e : (suc zero) % 2 ≡ 1 = refl in omega (arith, e, h))
even-parts p (suc (suc d)) h =
    let k = even-parts p d (omega (arith, h)) in
    record { half_next = ap suc k.half_next; lead_here = k.lead_here; lead_next = k.lead_next }

record Odd (p d : ℕ) : Type 0 where
  half_next : pair_count (suc d) ≡ suc (pair_count d)
  lead_here : leading_entries p d ≡ cycle_power p 0 ∷ cycle_power p 1 ∷ []
  lead_next : leading_entries p (suc d) ≡ cycle_power p 0 ∷ []

odd-parts : (p d : ℕ) → d % 2 ≡ 1 → Odd p d
odd-parts p zero h = absurd (let e : zero % 2 ≡ 0 = refl in omega (arith, e, h))
odd-parts p (suc zero) h = record { half_next = refl; lead_here = refl; lead_next = refl }
odd-parts p (suc (suc d)) h =
    let k = odd-parts p d (omega (arith, h)) in
    record { half_next = ap suc k.half_next; lead_here = k.lead_here; lead_next = k.lead_next }

pub even-tuples : (p d : ℕ) (h : List (List ℕ) → ℤ) → d % 2 ≡ 0 →
    may_tuple_sum p (suc d) (λ w. face_sum w h) ≡ may_tuple_sum p d (λ w. h (turned_tuple p w)) +ℤ neg_ℤ (may_tuple_sum p d h)
even-tuples p d h q =
    let e = even-parts p d q in
    let k : ℕ = pair_count d in
    let one : List ℕ = cycle_power p 0 in
    let rho : List ℕ = cycle_power p 1 in
    let w : List (List ℕ) → ℤ = λ t. without_one t (λ r. h (one ∷ rho ∷ r)) in
    let l : may_tuple_sum p (suc d) (λ w. face_sum w h) ≡ pair_sum p k (λ t. h (rho ∷ t) +ℤ neg_ℤ (h (one ∷ t) +ℤ neg_ℤ (w t))) =
    (λ i. pair_sum p (e.half_next i) (λ t. face_sum (e.lead_next i ++ t) h)) in
    let a = pairs-plus p k (λ t. h (rho ∷ t)) (λ t. neg_ℤ (h (one ∷ t) +ℤ neg_ℤ (w t))) in
    let b = pairs-neg p k (λ t. h (one ∷ t) +ℤ neg_ℤ (w t)) in
    let c = pairs-plus p k (λ t. h (one ∷ t)) (λ t. neg_ℤ (w t)) in
    let f = pairs-neg p k w in
    let z = pairs-closed p k (λ r. h (one ∷ rho ∷ r)) in
    let r1 : may_tuple_sum p d (λ w. h (turned_tuple p w)) ≡ pair_sum p k (λ t. h (rho ∷ turned_tuple p t)) = (λ i. pair_sum p k (λ t. h (turned_tuple p (e.lead_here i ++ t)))) in
    let r2 = pairs-turned p k (λ t. h (rho ∷ t)) in
    let r3 : may_tuple_sum p d h ≡ pair_sum p k (λ t. h (one ∷ t)) = (λ i. pair_sum p k (λ t. h (e.lead_here i ++ t))) in
    omega (arith, ints)

pub odd-tuples : (p d : ℕ) (h : List (List ℕ) → ℤ) → d % 2 ≡ 1 →
    may_tuple_sum p (suc d) (λ w. face_sum w h) ≡ sum_below p (λ e. may_tuple_sum p d (λ w. h (tuple_turned p e w)))
odd-tuples p d h q =
    let o = odd-parts p d q in
    let k : ℕ = pair_count d in
    let one : List ℕ = cycle_power p 0 in
    let g : List (List ℕ) → ℤ = λ v. unless_empty v (h v) in
    let w : List (List ℕ) → ℤ = λ t. without_one t (λ r. h (one ∷ r)) in
    let l : may_tuple_sum p (suc d) (λ w. face_sum w h) ≡ pair_sum p (suc k) (λ t. g t +ℤ neg_ℤ (w t)) =
    (λ i. pair_sum p (o.half_next i) (λ t. face_sum (o.lead_next i ++ t) h)) in
    let a = pairs-plus p (suc k) g (λ t. neg_ℤ (w t)) in
    let b = pairs-neg p (suc k) w in
    let z = pairs-closed p (suc k) (λ r. h (one ∷ r)) in
    let r : sum_below p (λ e. may_tuple_sum p d (λ w. h (tuple_turned p e w))) ≡ sum_below p (λ e. pair_sum p k (λ t. h (cycle_power p e ∷ cycle_power p (suc e) ∷ t))) =
    sum-cong p (λ e. may_tuple_sum p d (λ w. h (tuple_turned p e w))) (λ e. pair_sum p k (λ t. h (cycle_power p e ∷ cycle_power p (suc e) ∷ t)))
    (λ e. (λ i. pair_sum p k (λ t. h (tuple_turned p e (o.lead_here i ++ t))))
    ∙ (λ i. pair_sum p k (λ t. h (turned_by-pair p e t i)))
    ∙ pairs-turned_by p e k (λ t. h (cycle_power p e ∷ cycle_power p (suc e) ∷ t))) in
    omega (arith, ints)
