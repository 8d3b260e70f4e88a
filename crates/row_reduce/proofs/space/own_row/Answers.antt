use Rattle.std.proofs.Common.{◌∷◌, [], arith}
use Rattle.row_reduce.proofs.Below.{Congruent, unit_vector, Congruent_from, Congruent_mod, Congruent_mul, Congruent_of, Congruent_refl, Congruent_trans, value_in}
use Rattle.row_reduce.proofs.space.own_row.Goals as goal

pub returns : goal.returns
returns g c =
    let p = g.row.P in
    let at = c.args.at in
    let one : Congruent p c.new.result 1 = Congruent_trans (Congruent_of c.new.ensures) (Congruent_mod p 1) in
    record {
      same = c.in_ok-own.ensures.same;
      rows_are = (c.in_ok-own.ensures.row, c.in_ok-combination.ensures.row);
      combination = λ x.
          Congruent_trans (Congruent_of (c.in_ok-combination.ensures.sum x))
          (Congruent_trans (Congruent_mod p (value_in ((at, c.new.result) ∷ []) x)) (Congruent_from (Congruent_mul one (Congruent_refl (unit_vector at x))) (omega arith)));
      pivot = c.lead_of.ensures;
    }
