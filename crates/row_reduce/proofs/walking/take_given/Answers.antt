use Rattle.std.proofs.Common.{◌*◌, ◌-◌, get_or, arith}
use Rattle.row_reduce.proofs.{Below.{Congruent, Congruent_add, Congruent_mod, Congruent_mul, Congruent_of, Congruent_refl, Congruent_scale, Congruent_trans, served_large, value_in}, StoredLemmas.given_rest}
use Rattle.row_reduce.proofs.walking.take_given.Goals as goal

pub returns : goal.returns
returns g c =
    let minus : Congruent g.row.P c.neg.result (g.row.P - 1) =
    Congruent_trans (Congruent_of c.neg.ensures) (Congruent_trans (Congruent_mod g.row.P ((g.row.P - 1) * c.new.result))
    (Congruent_trans (Congruent_scale (g.row.P - 1) (Congruent_trans (Congruent_of c.new.ensures) (Congruent_mod g.row.P 1))) (Congruent_of (omega arith)))) in
    given_rest g.row.P c.args.sum.now c.add_row.new.sum c.args.row.now c.in_ok-rest.rest (served_large g.row.P c.requires.prime) c.requires.fits c.in_ok-rest.ensures c.requires.same
    (λ y. Congruent_trans (c.add_row.ensures y) (Congruent_add (Congruent_refl (get_or c.args.sum.now y 0)) (Congruent_mul minus (Congruent_refl (value_in c.args.row.now y)))))
