-- The Leibniz rule of compositions, tested by functions: two formal sums are equal where each function has the
-- same value at both.
use Rattle.std.specs.Prelude.{◌≡◌, ℕ, ◌≤◌, true, ◌||◌, ◌+◌, ◌*◌, ◌++◌, List, ◌∷◌, length, suc, sum, ℤ, pos, ◌+ℤ◌, negsuc, []}
use Rattle.interval_cut_law.specs.Names.{AreNormalized, operation_value}
use Rattle.simplicial_law.specs.Names.{HaveDegrees}
use Rattle.signed_sum.specs.Names.{is_degenerate, signed, value_at}
use Rattle.surjection_law.specs.Names.{caesura_count, surjection_boundary, IsOnto}
use Rattle.table_reduction_law.specs.Names.{is_degenerate_tuple, tuple_boundary, tuple_degree}
use Rattle.composition_law.specs.{Surjections.composition, Tuples.tuple_composition}

-- The boundary of u composed with v at k is the boundary of u composed with v plus, with the sign of the degree
-- of u, u composed with the boundary of v.
pub record SurjectionLeibniz : Type 0 where
  pub boundary : (k r s : ℕ) (u v : List ℕ) (phi : List ℕ → ℤ) → 1 ≤ k → k ≤ r → 1 ≤ s → IsOnto r u → IsOnto s v →
      value_at (λ w. value_at phi (surjection_boundary w)) (composition k u v)
      ≡ value_at (λ x. value_at phi (composition k x v)) (surjection_boundary u)
      +ℤ signed (caesura_count u) (value_at (λ y. value_at phi (composition k u y)) (surjection_boundary v))
  pub degenerate : (k r s : ℕ) (u v : List ℕ) (phi : List ℕ → ℤ) → 1 ≤ k → k ≤ r → 1 ≤ s → IsOnto r u → IsOnto s v →
      (is_degenerate u || is_degenerate v) ≡ true → value_at phi (composition k u v) ≡ pos 0

-- The same for tuples.
pub record TupleLeibniz : Type 0 where
  pub boundary : (k : ℕ) (w v : List (List ℕ)) (phi : List (List ℕ) → ℤ) → 1 ≤ length w → 1 ≤ length v →
      value_at (λ t. value_at phi (tuple_boundary t)) (tuple_composition k w v)
      ≡ value_at (λ x. value_at phi (tuple_composition k x v)) (tuple_boundary w)
      +ℤ signed (tuple_degree w) (value_at (λ y. value_at phi (tuple_composition k w y)) (tuple_boundary v))
  pub degenerate : (k : ℕ) (w v : List (List ℕ)) (phi : List (List ℕ) → ℤ) → 1 ≤ length w → 1 ≤ length v →
      (is_degenerate_tuple w || is_degenerate_tuple v) ≡ true → value_at phi (tuple_composition k w v) ≡ pos 0

-- The value of u composed with v, at the place behind the cochains `ls`, is that of u on `ls`, the value of v on
-- `bs`, and `cs`. The sign is that of moving the degree of v past the degree of u and the degrees qs of `ls`.
abbrev pub SurjectionAction : Type 0
SurjectionAction = (u v s qs : List ℕ) (ls bs cs : List (List ℕ → ℤ)) → AreNormalized (ls ++ (bs ++ cs)) →
    HaveDegrees qs ls → 1 ≤ length bs → 1 ≤ length s →
    IsOnto (length ls + suc (length cs)) u → IsOnto (length bs) v →
    value_at (λ w. operation_value (length ls + (length bs + length cs)) w (ls ++ (bs ++ cs)) s) (composition (suc (length ls)) u v)
    ≡ signed (caesura_count v * (caesura_count u + sum qs))
    (operation_value (length ls + suc (length cs)) u (ls ++ ((λ f. operation_value (length bs) v bs f) ∷ cs)) s)

-- worked rows: 1 2 1 composed with itself at 1, and 1 2 composed with 1 2 1 at 2
pub record CompositionRows : Type 0 where
  pub three : composition 1 (1 ∷ 2 ∷ 1 ∷ []) (1 ∷ 2 ∷ 1 ∷ [])
      ≡ (1 ∷ 3 ∷ 1 ∷ 2 ∷ 1 ∷ [], pos 1) ∷ (1 ∷ 2 ∷ 3 ∷ 2 ∷ 1 ∷ [], negsuc 0) ∷ (1 ∷ 2 ∷ 1 ∷ 3 ∷ 1 ∷ [], negsuc 0) ∷ []
  pub one : composition 2 (1 ∷ 2 ∷ []) (1 ∷ 2 ∷ 1 ∷ []) ≡ (1 ∷ 2 ∷ 3 ∷ 2 ∷ [], pos 1) ∷ []
  pub tuple : tuple_composition 1 ((1 ∷ 2 ∷ []) ∷ (2 ∷ 1 ∷ []) ∷ []) ((1 ∷ 2 ∷ []) ∷ []) ≡ ((1 ∷ 2 ∷ 3 ∷ []) ∷ (3 ∷ 1 ∷ 2 ∷ []) ∷ [], pos 1) ∷ []
