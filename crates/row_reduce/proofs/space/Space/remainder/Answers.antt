use Rattle.std.proofs.Common.{ℕ, ◌*◌, ◌-◌, List, subst, arith}
use Rattle.row_reduce.{proofs.Below.{Congruent, Congruent_mod, Congruent_of, Congruent_scale, Congruent_trans, served_field, value_in}, specs.Names.{EchelonRow, cleared, combination_of, row_of, IsRemainder, Spanned}, proofs.SpaceLemmas.divided}
use Rattle.row_reduce.proofs.space.Space.remainder.Goals as goal

pub returns : goal.returns
returns g c =
    let p = g.row.P in
    let row = c.args.row.now in
    let given = c.self.inside.given.items in
    let echelon = c.self.inside.echelon.items in
    let sum = c.clear.new.combination in
    let by : Congruent p c.neg.result (p - 1) =
    Congruent_trans (Congruent_of c.neg.ensures)
    (Congruent_trans (Congruent_mod p ((p - 1) * c.new.result)) (Congruent_trans (Congruent_scale (p - 1) (Congruent_trans (Congruent_of c.new.ensures) (Congruent_mod p 1))) (Congruent_of (omega arith)))) in
    subst (λ (s : Spanned p). IsRemainder p s.given s.echelon row c.clear.new.row c.in_ok-combination.combination) c.self.view_is
    (divided p (served_field p c.requires) given echelon row c.clear.new.row sum c.in_ok-combination.combination c.neg.result c.self.invariant (c.in_ok-clear.ensures.is_row c.in_ok-rest.ensures.row) c.in_ok-combination.ensures.row by
    (λ y.
    subst (λ (es : List (EchelonRow p)). Congruent p (value_in c.clear.new.row y) (cleared row_of es (value_in row) (value_in row) y)) c.as_slice.ensures.value
    (subst (λ (r : List (ℕ × ℕ)). Congruent p (value_in c.clear.new.row y) (cleared row_of c.as_slice.result.now (value_in row) (value_in r) y)) c.in_ok-rest.ensures.same (c.in_ok-clear.ensures.row y)))
    (λ x.
    subst (λ (es : List (EchelonRow p)). Congruent p (value_in sum x) (cleared combination_of es (value_in row) (λ x. 0) x)) c.as_slice.ensures.value
    (subst (λ (r : List (ℕ × ℕ)). Congruent p (value_in sum x) (cleared combination_of c.as_slice.result.now (value_in row) (value_in r) x)) c.new-combination.ensures (c.in_ok-clear.ensures.combination x)))
    (λ x. Congruent_trans (Congruent_of (c.in_ok-combination.ensures.sum x)) (Congruent_mod p (c.neg.result * value_in sum x))))
