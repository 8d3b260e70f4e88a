-- What a row has at each place.
use Rattle.std.proofs.Common.{◌≡◌, ◌≢◌, ℕ, zero, suc, ◌+◌, ◌*◌, ◌%◌, ◌<◌, ◌≤◌, List, [], ◌∷◌, map, take, length, get_or, arith, refl, sym, ◌∙◌, ap, ap₂, subst, inl, inr, add-one, mod-eq_of_lt}
use Rattle.sparse_rows.{proofs.Below.{cases_eq, cases_lt, add-mod, zero-mod, Congruent, sum_over, Each, IsAscending, unit_vector, Congruent_mod, Congruent_of, Congruent_trans, each_from_index, each_map, each_get_or, each_unmap, unit_one, unit_other}, specs.Rows.{IsBelow, IsFirst, IsRow, pairing, value_in}, specs.Merging.position_of}

pub sum_take : {X : Type 0} (f : X → ℕ) (xs : List X) (i : ℕ) (d : X) → i < length xs → sum_over f (take (i + 1) xs) ≡ sum_over f (take i xs) + f (get_or xs i d)
sum_take f [] i d h = absurd (omega arith)
sum_take f (x ∷ xs) zero d h = omega arith
sum_take f (x ∷ xs) (suc i) d h = rw add-one (let e : sum_over f (take (suc i) xs) ≡ sum_over f (take i xs) + f (get_or xs i d) = rw (← add-one) (sum_take f xs i d (omega arith)) in omega arith)

-- positions ascend
pub ascending_from : (row : List (ℕ × ℕ)) (i k : ℕ) → IsAscending (map (λ (e : ℕ × ℕ). e.0) row) → i < k → k < length row → position_of row i < position_of row k
ascending_from [] i k h a b = absurd (omega arith)
ascending_from (e ∷ es) zero zero h a b = absurd (omega arith)
ascending_from (e ∷ es) zero (suc k) h a b =
    each_get_or (λ (f : ℕ × ℕ). e.0 < f.0) es k (0, 0) (omega arith) (each_unmap (λ w. e.0 < w) (λ (f : ℕ × ℕ). f.0) es h.0)
ascending_from (e ∷ es) (suc i) zero h a b = absurd (omega arith)
ascending_from (e ∷ es) (suc i) (suc k) h a b = ascending_from es i k h.1 (omega arith) (omega arith)

-- nothing stands at k
pub value_in-none : (row : List (ℕ × ℕ)) (k : ℕ) → Each (λ e. e.0 ≢ k) row → value_in row k ≡ 0
value_in-none [] k h = refl
value_in-none (e ∷ es) k h =
    let u : unit_vector e.0 k ≡ 0 = unit_other e.0 k (λ q. h.0 (sym q)) in
    rw u (omega (arith, value_in-none es k h.1))

-- what stands at the i-th pair's position is its value
pub value_in-at : (row : List (ℕ × ℕ)) (i : ℕ) (d : ℕ × ℕ) → IsAscending (map (λ (e : ℕ × ℕ). e.0) row) → i < length row → value_in row ((get_or row i d).0) ≡ (get_or row i d).1
value_in-at [] i d h b = absurd (omega arith)
value_in-at (e ∷ es) zero d h b =
    let u : unit_vector e.0 e.0 ≡ 1 = unit_one 0 e.0 in
    let other : (f : ℕ × ℕ) → e.0 < f.0 → f.0 ≢ e.0 = λ f c q. absurd (omega arith) in
    let rest = value_in-none es e.0 (each_map other es (each_unmap (λ w. e.0 < w) (λ (f : ℕ × ℕ). f.0) es h.0)) in
    rw u (omega (arith, rest))
value_in-at (e ∷ es) (suc i) d h b =
    let c : e.0 < (get_or es i d).0 = each_get_or (λ (f : ℕ × ℕ). e.0 < f.0) es i d (omega arith) (each_unmap (λ w. e.0 < w) (λ (f : ℕ × ℕ). f.0) es h.0) in
    let u : unit_vector e.0 ((get_or es i d).0) ≡ 0 = unit_other e.0 ((get_or es i d).0) (λ q. absurd (omega arith)) in
    rw u (omega (arith, value_in-at es i d h.1 (omega arith)))

-- a value of a row is below p
pub value_in-small : (p : ℕ) (row : List (ℕ × ℕ)) (k : ℕ) → 0 < p → IsRow p row → value_in row k < p
value_in-small p [] k z h = z
value_in-small p (e ∷ es) k z h =
    elim (cases_eq k e.0) [
      | inl q ↦ let v : value_in (e ∷ es) k ≡ e.1 = ap (value_in (e ∷ es)) q ∙ value_in-at (e ∷ es) 0 (0, 0) h.ascends (omega arith) in subst (λ y. y < p) (sym v) (h.values.0.1)
      | inr n ↦
          let u : unit_vector e.0 k ≡ 0 = unit_other e.0 k n in
          let rest = value_in-small p es k z (record { ascends = h.ascends.1; values = h.values.1 }) in
          rw u (omega (arith, rest))
    ]

-- the first pair of a row has its least position
pub first_least : (p : ℕ) (e : ℕ × ℕ) (es : List (ℕ × ℕ)) → IsRow p (e ∷ es) → IsFirst (e ∷ es) e.0
first_least p e es h = record {
  nonzero = λ q. h.values.0.0 (sym (value_in-at (e ∷ es) 0 (0, 0) h.ascends (omega arith)) ∙ q);
  least = λ y b. value_in-none (e ∷ es) y (λ q. absurd (omega arith), each_map (above y b) es (each_unmap (λ w. e.0 < w) (λ (f : ℕ × ℕ). f.0) es h.ascends.0));
}
  where
    above : (y : ℕ) → y < e.0 → (f : ℕ × ℕ) → e.0 < f.0 → f.0 ≢ y
    above y b f c q = absurd (omega arith)

-- where each position differs from k
pub value_in-nowhere : (row : List (ℕ × ℕ)) (k : ℕ) → ((j : ℕ) → j < length row → position_of row j ≢ k) → value_in row k ≡ 0
value_in-nowhere [] k h = refl
value_in-nowhere (e ∷ es) k h =
    let u : unit_vector e.0 k ≡ 0 = unit_other e.0 k (λ q. h 0 (omega arith) (sym q)) in
    rw u (omega (arith, value_in-nowhere es k (λ j b. h (suc j) (omega arith))))

pub first_of : (p : ℕ) (row : List (ℕ × ℕ)) (e : ℕ × ℕ) → IsRow p row → 1 ≤ length row → e ≡ get_or row 0 e → IsFirst row e.0
first_of p [] e h b i = absurd (omega arith)
first_of p (x ∷ xs) e h b i = subst (λ (y : ℕ × ℕ). IsFirst (x ∷ xs) y.0) (sym i) (first_least p x xs h)

-- one more product
pub pairing_more : (p : ℕ) (row other : List (ℕ × ℕ)) (i : ℕ) (pair : ℕ × ℕ) (sum at product : ℕ) → pair ≡ get_or row i pair → i < length row
    → sum ≡ pairing (take i row) other % p → at ≡ value_in other pair.0 → product ≡ (pair.1 * at) % p → (sum + product) % p ≡ pairing (take (i + 1) row) other % p
pairing_more p row other i pair sum at product is b s a m =
    ap₂ (λ x y. (x + y) % p) s (m ∙ ap (λ x. (pair.1 * x) % p) a) ∙ sym (add-mod (pairing (take i row) other) (pair.1 * value_in other pair.0) p)
    ∙ ap (λ (x : ℕ × ℕ). (pairing (take i row) other + x.1 * value_in other x.0) % p) is
    ∙ ap (λ x. x % p) (sym (sum_take (λ (e : ℕ × ℕ). e.1 * value_in other e.0) row i pair b))

-- beyond a bound of the positions there is nothing
pub value_in-past : (bound k : ℕ) (row : List (ℕ × ℕ)) → IsBelow bound row → bound ≤ k → value_in row k ≡ 0
value_in-past bound k row h b = value_in-none row k (each_map {Q = λ (e : ℕ × ℕ). e.0 ≢ k} (λ e c q. absurd (omega arith)) row h)

-- a row that is zero from a bound on has its positions below
pub below_of_zero : (p bound : ℕ) (row : List (ℕ × ℕ)) → IsRow p row → ((k : ℕ) → bound ≤ k → Congruent p (value_in row k) 0) → IsBelow bound row
below_of_zero p bound row h z = each_from_index (λ (e : ℕ × ℕ). e.0 < bound) row (λ i d b. elim (cases_lt (get_or row i d).0 bound) [
  | inl l ↦ l
  | inr m ↦
      let v = each_get_or (λ (e : ℕ × ℕ). (e.1 ≢ 0) × (e.1 < p)) row i d b h.values in
      absurd (v.0 (sym (mod-eq_of_lt v.1) ∙ ap (λ n. n % p) (sym (value_in-at row i d h.ascends b)) ∙ (z (get_or row i d).0 m).same ∙ zero-mod p))
])

-- so a row that is the sum of pairs has no position beyond theirs
pub below_of_sum : (p : ℕ) (pairs row : List (ℕ × ℕ)) → IsRow p row → ((k : ℕ) → value_in row k ≡ value_in pairs k % p) → (bound : ℕ) → IsBelow bound pairs → IsBelow bound row
below_of_sum p pairs row h s bound below =
    below_of_zero p bound row h (λ k b. Congruent_trans (Congruent_of (s k)) (Congruent_trans (Congruent_mod p (value_in pairs k)) (Congruent_of (value_in-past bound k pairs below b))))
