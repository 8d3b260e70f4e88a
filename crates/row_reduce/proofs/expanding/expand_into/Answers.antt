use Rattle.std.proofs.Common.{ℕ, length, get_or, List, sym, subst}
use Rattle.row_reduce.{proofs.Below.{Congruent, Congruent_add, Congruent_mod, Congruent_mul, Congruent_of, Congruent_refl, Congruent_trans, value_in}, specs.Names.Expanding, proofs.ExpansionLemmas.expand_start}
use Rattle.row_reduce.proofs.expanding.expand_into.Goals as goal

pub returns-clause-expanded : goal.returns-clause-expanded
returns-clause-expanded g c = λ place start.
    let p = g.row.P in
    let history = c.args.history.now in
    let one : Congruent p c.new.result 1 = Congruent_trans (Congruent_of c.new.ensures) (Congruent_mod p 1) in
    c.in_ok-move_all.ensures.expanded place history
    (subst (λ (o : List (ℕ × ℕ)). Expanding p c.args.images.now place history c.add_to.new.sum o (length c.args.images.now)) (sym start)
    (expand_start p c.args.images.now place history c.args.weights.now c.add_to.new.sum c.requires.clear c.requires.fits
    (λ j. Congruent_trans (c.add_to.ensures j) (Congruent_add (Congruent_refl (get_or c.args.weights.now j 0)) (Congruent_mul one (Congruent_refl (value_in history j)))))))
