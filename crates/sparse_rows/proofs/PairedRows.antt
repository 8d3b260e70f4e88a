-- A row paired with a function on the positions.
use Rattle.std.proofs.Common.{◌≡◌, ℕ, ◌+◌, ◌*◌, List, [], ◌∷◌, arith, ap, ◌∙◌, add_comm}
use Rattle.sparse_rows.{proofs.Below.{Congruent, sum_over, unit_vector, paired, Congruent_add, Congruent_from, Congruent_mul, Congruent_of, Congruent_refl, Congruent_scale, pair_none, pair_one, paired_plus, unit_one, unit_other}, specs.Rows.{IsBelow, value_in}}

-- each entry counts with the value of the function at its position
pub paired_row : (p n : ℕ) (row : List (ℕ × ℕ)) (g : ℕ → ℕ) → IsBelow n row → Congruent p (paired n (value_in row) g) (sum_over (λ e. e.1 * g e.0) row)
paired_row p n [] g h = pair_none p n (value_in []) g (λ x b. Congruent_of (omega arith))
paired_row p n (e ∷ es) g h =
    let turned : paired n (value_in (e ∷ es)) g ≡ paired n (λ x. value_in es x + e.1 * unit_vector e.0 x) g =
    ap (λ (v : ℕ → ℕ). paired n v g) (λ i x. add_comm (e.1 * unit_vector e.0 x) (value_in es x) i) in
    let parts = paired_plus n e.1 (value_in es) (unit_vector e.0) g in
    let one = pair_one p n e.0 (unit_vector e.0) g h.0 (λ x b m. Congruent_from (Congruent_mul (Congruent_of (unit_other e.0 x m)) (Congruent_refl (g x))) (omega arith)) in
    Congruent_from (Congruent_add (paired_row p n es g h.1) (Congruent_scale e.1 one)) (omega (arith, turned ∙ parts, ap (λ u. e.1 * (u * g e.0)) (unit_one p e.0)))
