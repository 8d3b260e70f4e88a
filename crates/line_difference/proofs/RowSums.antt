-- A row plus a multiple of another.
use Rattle.std.proofs.Common.{◌≡◌, ◌∙◌, ℕ, ◌+◌, ◌*◌, ◌%◌, ◌<◌, List, [], ◌∷◌, ◌++◌, map, arith, sym, ap}
use Rattle.linear_law.{proofs.Names.{Congruent_mod, Congruent_of, Congruent_trans, each_append, each_of_map, sum_append}, specs.Names.unit_vector}
use Rattle.simplicial_law.{specs.Names.AgreesOnSimplices, proofs.Names.agree_by_place}
use Rattle.sparse_rows.{specs.Rows.{IsBelow, IsRow, value_in}, proofs.RowLemmas.below_of_sum}
use Rattle.complex_index.specs.Names.{IsIndexOf, level}
use Rattle.may_steenrod.{specs.Cochains.cochain_in, proofs.OnLemmas.value_by_place}

abbrev times : ℕ → List (ℕ × ℕ) → List (ℕ × ℕ)
times by row = map (λ e. (e.0, by * e.1)) row

value-times : (by : ℕ) (row : List (ℕ × ℕ)) (k : ℕ) → value_in (times by row) k ≡ by * value_in row k
value-times by [] k = omega arith
value-times by (e ∷ es) k = let h = value-times by es k in omega (arith, h)

module _ (p by : ℕ) (old part new : List (ℕ × ℕ)) (sum : (k : ℕ) → value_in new k ≡ (value_in old k + by * value_in part k) % p) where
  pub sum-below : IsRow p new → (bound : ℕ) → IsBelow bound old → IsBelow bound part → IsBelow bound new
  sum-below row bound a b =
      below_of_sum p (old ++ times by part) new row
      (λ k. sum k ∙ ap (λ (v : ℕ). v % p) (sym (sum_append (λ (e : ℕ × ℕ). e.1 * unit_vector e.0 k) old (times by part) ∙ ap (λ (v : ℕ). value_in old k + v) (value-times by part k))))
      bound (each_append (λ (e : ℕ × ℕ). e.0 < bound) old (times by part) a (each_of_map (λ (e : ℕ × ℕ). e.0 < bound) (λ e. (e.0, by * e.1)) part b))

  pub sum-agrees : (facets : List (List ℕ)) (levels : List (List (List ℕ))) (n : ℕ) → IsIndexOf facets levels
      → AgreesOnSimplices facets n p (cochain_in levels n new) (λ s. cochain_in levels n old s + by * cochain_in levels n part s)
  sum-agrees facets levels n is =
      let here : List (List ℕ) = level levels n in
      let at = value_by_place facets n p here (is.lists n) in
      agree_by_place facets n p here (is.lists n) (cochain_in levels n new) (λ s. cochain_in levels n old s + by * cochain_in levels n part s)
      (λ k b. Congruent_trans (Congruent_of (at new k b ∙ sum k))
      (Congruent_trans (Congruent_mod p (value_in old k + by * value_in part k)) (Congruent_of (λ i. sym (at old k b) i + by * sym (at part k b) i))))
