-- Pairs in any order are sorted, and then summed in one pass.
use Rattle.std.proofs.Common.{◌≡◌, ℕ, ◌+◌, ◌*◌, ◌%◌, ◌<◌, ◌≤◌, List, [], ◌∷◌, take, length, get_or, arith, refl, sym, ◌∙◌, ap, subst}
use Rattle.sparse_rows.{proofs.Below.{mod-eq_of_lt, get_or_default, sum_by-IsPermutation, sum_by-cons, sum_by, IsNonDecreasingBy, IsPermutation, Congruent, sum_over, unit_vector, Congruent_add, Congruent_from, Congruent_mod, Congruent_mul, Congruent_of, Congruent_refl, Congruent_trans}, specs.Rows.{IsBelow, IsRow, value_in}, specs.Merging.position_of, proofs.RowLemmas.{sum_take, value_in-small}}

-- the first i pairs are in `out`, but for the sum of those at the last position
pub record IsSummed (p : ℕ) (pairs out : List (ℕ × ℕ)) (i position sum : ℕ) : Type 0 where
  pub row : IsRow p out
  pub below : IsBelow position out
  pub next : (k : ℕ) → i ≤ k → k < length pairs → position ≤ position_of pairs k
  pub value : (y : ℕ) → Congruent p (value_in out y + sum * unit_vector position y) (value_in (take i pairs) y)

pub summed_step : (p : ℕ) (pairs old new : List (ℕ × ℕ)) (i position sum carried total : ℕ) (pair : ℕ × ℕ) → IsNonDecreasingBy (λ (e : ℕ × ℕ). e.0) pairs → pair ≡ get_or pairs i pair → i < length pairs
    → IsRow p new → IsBelow pair.0 new → ((y : ℕ) → value_in new y + carried * unit_vector pair.0 y ≡ value_in old y + sum * unit_vector position y)
    → total ≡ (carried + pair.1) % p → IsSummed p pairs old i position sum → IsSummed p pairs new (i + 1) pair.0 total
summed_step p pairs old new i position sum carried total pair sorted is b row below same total_is h = record {
  row = row;
  below = below;
  next = λ k c d.
      let here : (get_or pairs i (0, 0)).0 ≤ (get_or pairs k (0, 0)).0 = sorted i k (0, 0) (omega arith) d in
      subst (λ (e : ℕ × ℕ). e.0 ≤ (get_or pairs k (0, 0)).0) (sym (is ∙ get_or_default pairs i pair (0, 0) b)) here;
  value = λ y.
      let more : value_in (take (i + 1) pairs) y ≡ value_in (take i pairs) y + pair.1 * unit_vector pair.0 y =
      sum_take (λ (e : ℕ × ℕ). e.1 * unit_vector e.0 y) pairs i pair b ∙ ap (λ (e : ℕ × ℕ). value_in (take i pairs) y + e.1 * unit_vector e.0 y) (sym is) in
      let all : Congruent p (total * unit_vector pair.0 y) ((carried + pair.1) * unit_vector pair.0 y) =
      Congruent_mul (Congruent_trans (Congruent_of total_is) (Congruent_mod p (carried + pair.1))) (Congruent_refl (unit_vector pair.0 y)) in
      let s = same y in
      Congruent_from (Congruent_add all (h.value y)) (rw more (omega (arith, s)));
}

pub summed_end : (p : ℕ) (pairs out new : List (ℕ × ℕ)) (i position sum : ℕ) → 0 < p → take i pairs ≡ pairs → IsRow p new → ((y : ℕ) → value_in new y ≡ value_in out y + sum * unit_vector position y)
    → IsSummed p pairs out i position sum → (y : ℕ) → value_in new y ≡ value_in pairs y % p
summed_end p pairs out new i position sum some all row last h y =
    sym (mod-eq_of_lt (value_in-small p new y some row))
    ∙ (Congruent_trans (Congruent_of (last y)) (Congruent_trans (h.value y) (Congruent_of (ap (λ (r : List (ℕ × ℕ)). value_in r y) all)))).same

-- the order of the pairs does not matter
total_from : {X : Type 0} (f : X → ℕ) (xs : List X) → sum_by f xs ≡ sum_over f xs
total_from f [] = refl
total_from f (x ∷ xs) = sum_by-cons f x xs ∙ ap (λ n. f x + n) (total_from f xs)

pub value_in-sorted : (pairs sorted : List (ℕ × ℕ)) (y : ℕ) → IsPermutation pairs sorted → value_in sorted y ≡ value_in pairs y
value_in-sorted pairs sorted y h =
    let f : ℕ × ℕ → ℕ = λ e. e.1 * unit_vector e.0 y in
    sym (total_from f sorted) ∙ sum_by-IsPermutation f pairs sorted h ∙ total_from f pairs
