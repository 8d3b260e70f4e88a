use Rattle.std.proofs.Common.{List, ap, arith, take_all}
use Rattle.row_reduce.{proofs.Below.{Congruent_from, Congruent_of, Congruent_refl, Congruent_trans, value_in}, specs.Names.{EchelonRow, cleared, combination_of, row_of}, proofs.EchelonLemmas.cleared_more}
use Rattle.row_reduce.proofs.echelon.clear.Goals as goal

pub loop-reduced-init : goal.loop-reduced-init
loop-reduced-init g c = record {
  is_row = λ h. h;
  row = λ y. Congruent_from (Congruent_refl (value_in c.args.row.now y)) (omega arith);
  combination = λ x. Congruent_from (Congruent_refl (value_in c.args.combination.now x)) (omega arith);
}

pub loop-reduced-preserved : goal.loop-reduced-preserved
loop-reduced-preserved g c =
    let i = c.loop-reduced.reduced-index in
    let done = c.args.done.now in
    let given = value_in c.args.given.now in
    record {
      is_row = λ h. c.in_ok-clear_one.ensures.is_row (c.loop-reduced.invariant.is_row h);
      row = λ y. cleared_more row_of done given (value_in c.args.row.now) i c.reduced-item.result y (value_in c.loop-reduced.row y) (value_in c.clear_one.new.row y)
          c.reduced-item.is c.loop-reduced-test.true (c.loop-reduced.invariant.row y) (c.in_ok-clear_one.ensures.row y);
      combination = λ x. cleared_more combination_of done given (value_in c.args.combination.now) i c.reduced-item.result x (value_in c.loop-reduced.combination x) (value_in c.clear_one.new.combination x)
          c.reduced-item.is c.loop-reduced-test.true (c.loop-reduced.invariant.combination x) (c.in_ok-clear_one.ensures.combination x);
    }

pub returns-clause-row : goal.returns-clause-row
returns-clause-row g c = λ y.
    Congruent_trans (c.loop-reduced.invariant.row y)
    (Congruent_of (ap (λ (ds : List (EchelonRow g.row.P)). cleared row_of ds (value_in c.args.given.now) (value_in c.args.row.now) y) (take_all c.loop-reduced.reduced-index c.args.done.now (omega arith))))

pub returns-clause-combination : goal.returns-clause-combination
returns-clause-combination g c = λ x.
    Congruent_trans (c.loop-reduced.invariant.combination x)
    (Congruent_of (ap (λ (ds : List (EchelonRow g.row.P)). cleared combination_of ds (value_in c.args.given.now) (value_in c.args.combination.now) x) (take_all c.loop-reduced.reduced-index c.args.done.now (omega arith))))
