-- The laws of tuples, of table reduction and of May elements. Formal sums are tested by functions: two
-- are equal where each function has the same value at both.
use Rattle.std.specs.Prelude.{◌≡◌, ℕ, ◌+◌, ◌≤◌, ◌%◌, false, cond, sum, List, [], ◌∷◌, All, length, map, ℤ, pos, negsuc, IsTrue}
use Rattle.signed_sum.specs.Names.{difference, is_degenerate, is_same_list, power_sum, total, value_at}
use Rattle.surjection_law.specs.Names.{surjection_boundary, IsOnto}
use Rattle.table_reduction_law.specs.{Tuples.{IsPermutationOf, IsTuple, entry_at, is_degenerate_tuple, permuted_tuple, tuple_boundary}, Reduction.{reduced_lists, row_lengths, table_reduction}, MayElements.{may_candidates, may_element, may_tuples, turned_values}, Counts.{ArePositive, binomial, candidate_count, in_turn}}

-- The boundary of the boundary of a tuple is zero.
abbrev pub TupleBoundaryLaw : Type 0
TupleBoundaryLaw = (h : List (List ℕ) → ℤ) (w : List (List ℕ)) →
    value_at (λ v. value_at h (tuple_boundary v)) (tuple_boundary w) ≡ pos 0

-- Permutations act on tuples, and the boundary commutes with them.
pub record TupleActionLaw : Type 0 where
  pub tuples : (r : ℕ) (t : List ℕ) (w : List (List ℕ)) → IsPermutationOf r t → IsTuple r w →
      IsTuple r (permuted_tuple t w)
  pub boundary : (r : ℕ) (t : List ℕ) (w : List (List ℕ)) (h : List (List ℕ) → ℤ) → IsPermutationOf r t →
      IsTuple r w → value_at h (tuple_boundary (permuted_tuple t w)) ≡ value_at (λ v. h (permuted_tuple t v)) (tuple_boundary w)

-- The lists of row lengths are the lists of k positive numbers with the sum n, each once.
pub record RowLengthsLaw : Type 0 where
  pub right : (k n : ℕ) → All (λ ls. ArePositive ls × (length ls ≡ k) × (sum ls ≡ n)) (row_lengths k n)
  pub once : (ls : List ℕ) → ArePositive ls →
      total (λ l. cond (is_same_list ls l) (pos 1) (pos 0)) (row_lengths (length ls) (sum ls)) ≡ pos 1

-- Each list of a table reduction takes exactly the values 1 to r and has r + d places. There are as
-- many as there are sets of d among r + d - 1 things: here r is the arity less 1.
pub record ReducedListsLaw : Type 0 where
  pub terms : (r : ℕ) (w : List ℕ) (ws : List (List ℕ)) → 1 ≤ r → IsTuple r (w ∷ ws) →
      All (λ u. IsOnto r u × (length u ≡ r + length ws)) (reduced_lists (w ∷ ws))
  pub count : (r : ℕ) (w : List ℕ) (ws : List (List ℕ)) → IsTuple (r + 1) (w ∷ ws) →
      length (reduced_lists (w ∷ ws)) ≡ binomial (r + length ws) (length ws)

-- A degenerate tuple reduces to degenerate lists alone: its table reduction is zero.
abbrev pub DegenerateTupleLaw : Type 0
DegenerateTupleLaw = (r : ℕ) (w : List (List ℕ)) (h : List ℕ → ℤ) → 1 ≤ r → IsTuple r w → IsTrue (is_degenerate_tuple w) →
    value_at h (table_reduction w) ≡ pos 0

-- Table reduction commutes with permutations.
abbrev pub ReductionActionLaw : Type 0
ReductionActionLaw = (r : ℕ) (t : List ℕ) (w : List (List ℕ)) (h : List ℕ → ℤ) → 1 ≤ r → IsPermutationOf r t →
    IsTuple r w →
    value_at h (table_reduction (permuted_tuple t w)) ≡ value_at (λ u. h (map (λ v. entry_at t v) u)) (table_reduction w)

-- Table reduction is a chain map.
abbrev pub ReductionBoundaryLaw : Type 0
ReductionBoundaryLaw = (r : ℕ) (w : List (List ℕ)) (h : List ℕ → ℤ) → 1 ≤ r → IsTuple r w →
    value_at (λ u. value_at h (surjection_boundary u)) (table_reduction w)
    ≡ value_at (λ v. value_at h (table_reduction v)) (tuple_boundary w)

-- The tuples of a May element are tuples of degree d, and the terms of the element take exactly the
-- values 1 to p, have p + d places and are not degenerate.
pub record MayTermsLaw : Type 0 where
  pub tuples : (p d : ℕ) → All (λ w. IsTuple p w × (length w ≡ d + 1)) (may_tuples p d)
  pub terms : (p d : ℕ) → 1 ≤ p →
      All (λ t. IsOnto p t.0 × (length t.0 ≡ p + d) × (is_degenerate t.0 ≡ false)) (may_element p d)

-- The relations of the May elements. With T the turn less the identity and N the sum of the powers
-- of the turn, the boundary of the element of degree d + 1 is T of the element of degree d where d is even,
-- and N of it where d is odd. The boundary of the element of degree 0 is zero.
pub record MayRelations : Type 0 where
  pub bottom : (p : ℕ) (h : List ℕ → ℤ) → 1 ≤ p →
      value_at (λ u. value_at h (surjection_boundary u)) (may_element p 0) ≡ pos 0
  pub even : (p d : ℕ) (h : List ℕ → ℤ) → 1 ≤ p → d % 2 ≡ 0 →
      value_at (λ u. value_at h (surjection_boundary u)) (may_element p (d + 1))
      ≡ value_at (λ u. value_at h (difference (turned_values p) u)) (may_element p d)
  pub odd : (p d : ℕ) (h : List ℕ → ℤ) → 1 ≤ p → d % 2 ≡ 1 →
      value_at (λ u. value_at h (surjection_boundary u)) (may_element p (d + 1))
      ≡ value_at (λ u. value_at h (power_sum (turned_values p) p u)) (may_element p d)

-- The number of lists from which a May element is made.
abbrev pub CandidateCountLaw : Type 0
CandidateCountLaw = (p d : ℕ) → 1 ≤ p → length (may_candidates p d) ≡ candidate_count p d

-- At 2 the element of degree d is the one list 1 2 1 .. of d + 2 places.
abbrev pub MayTwoLaw : Type 0
MayTwoLaw = (d : ℕ) (h : List ℕ → ℤ) → value_at h (may_element 2 d) ≡ h (in_turn 1 2 (d + 2))

-- worked rows
pub record ReductionRows : Type 0 where
  pub tuple_row : tuple_boundary ((1 ∷ 2 ∷ 3 ∷ []) ∷ (2 ∷ 3 ∷ 1 ∷ []) ∷ [])
      ≡ ((2 ∷ 3 ∷ 1 ∷ []) ∷ [], pos 1) ∷ ((1 ∷ 2 ∷ 3 ∷ []) ∷ [], negsuc 0) ∷ []
  pub reduced_row : table_reduction ((1 ∷ 2 ∷ 3 ∷ []) ∷ (3 ∷ 1 ∷ 2 ∷ []) ∷ (1 ∷ 2 ∷ 3 ∷ []) ∷ [])
      ≡ (1 ∷ 3 ∷ 1 ∷ 2 ∷ 3 ∷ [], pos 1) ∷ (1 ∷ 2 ∷ 3 ∷ 2 ∷ 3 ∷ [], pos 1) ∷ []
  pub lists : length (reduced_lists ((1 ∷ 2 ∷ 3 ∷ []) ∷ (3 ∷ 1 ∷ 2 ∷ []) ∷ (1 ∷ 2 ∷ 3 ∷ []) ∷ [])) ≡ 6
  pub three : may_element 3 2 ≡ (1 ∷ 2 ∷ 3 ∷ 1 ∷ 2 ∷ [], pos 1) ∷ (1 ∷ 3 ∷ 1 ∷ 2 ∷ 3 ∷ [], pos 1)
      ∷ (1 ∷ 2 ∷ 3 ∷ 2 ∷ 3 ∷ [], pos 1) ∷ []
  pub two : may_element 2 3 ≡ (1 ∷ 2 ∷ 1 ∷ 2 ∷ 1 ∷ [], pos 1) ∷ []
  pub five : candidate_count 5 16 ≡ 1892578125
