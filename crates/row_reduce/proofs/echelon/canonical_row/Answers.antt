use Rattle.std.proofs.Common.{ℕ, ◌*◌, List, refl, ap}
use Rattle.row_reduce.{proofs.Below.{Congruent, negated, Congruent_mod, Congruent_mul, Congruent_of, Congruent_trans, value_in}, specs.Names.{cleared, row_of}}
use Rattle.row_reduce.proofs.echelon.canonical_row.Goals as goal

pub returns : goal.returns
returns g c =
    let p = g.row.P in
    let images = c.args.images.now in
    let s = c.args.stored.now in
    let done = c.args.done.now in
    let given = c.in_ok-given.given in
    let start = c.in_ok-combination.combination in
    let by_is : Congruent p c.neg-by.result (negated p s.factor) = Congruent_trans (Congruent_of c.neg-by.ensures) (Congruent_mod p (negated p s.factor)) in
    record {
      pivot = refl;
      rows_are = (c.in_ok-canonical.ensures.row, c.in_ok-source.ensures.row);
      start = start;
      vector = c.in_ok-combination.ensures;
      given = value_in given;
      given_is = λ y.
          Congruent_trans (Congruent_of (c.in_ok-given.ensures.sum y)) (Congruent_mod p (value_in s.row y));
      row = λ y.
          Congruent_trans (Congruent_of (c.in_ok-canonical.ensures.sum y))
          (Congruent_trans (Congruent_mod p (c.neg-by.result * value_in c.clear.new.row y))
          (Congruent_mul by_is (Congruent_trans (c.in_ok-clear.ensures.row y) (Congruent_of (ap (λ (r : List (ℕ × ℕ)). cleared row_of done (value_in given) (value_in r) y) c.in_ok-row.ensures.same)))));
      combination = λ x.
          Congruent_trans (Congruent_of (c.in_ok-source.ensures.sum x))
          (Congruent_trans (Congruent_mod p (c.neg-by.result * value_in c.clear.new.combination x)) (Congruent_mul by_is (c.in_ok-clear.ensures.combination x)));
    }
