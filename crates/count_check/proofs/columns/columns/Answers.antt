use Rattle.std.proofs.Common.{subst, arith, [], ◌∷◌}
use Rattle.certificate_law.specs.Names.{Asks, numbered, with_stands}
use Rattle.certificate_walk.{specs.Names.IsWalk, proofs.Names.{numbered_end, numbered_more, numbered_stop, walk_first, walk_passed}}
use Rattle.count_check.{specs.Columns.with_primitive, proofs.SectionLemmas.asked}
use Rattle.count_check.proofs.columns.columns.Goals as goal

pub returns-in_err-at-clause-walk : goal.returns-in_err-at-clause-walk
returns-in_err-at-clause-walk c = λ p line asks.
    let y = c.index-listed-place.result in
    let k = c.loop-place.place in
    let walked = walk_first (Asks p 5) c.loop-place.at (line k y) (with_stands y.primitive ∷ []) c.is_column.result c.ask_first.result (λ t. asks.holds k y (c.is_column.ensures.0 t), λ q. c.is_column.ensures.1 (asks.asks k y q)) (tt, tt) c.ask_first.ensures in
    walk_passed (Asks p 5) c.args.before (numbered (with_primitive line) 0 c.args.listed.now) c.in_err-at.field-0.0 c.from_residual.result c.from_residual.ensures.1
    (numbered_stop (Asks p 5) (with_primitive line) c.args.listed.now c.args.before c.loop-place.at k y c.in_err-at.field-0.0 c.loop-place-test.true c.index-listed-place.is (subst (IsWalk (Asks p 5) c.loop-place.at (with_primitive line k y)) c.in_err-at.was walked) (c.loop-place.invariant.walked p line asks))

pub loop-place-preserved : goal.loop-place-preserved
loop-place-preserved c = record {
  counted = let n = asked c.is_column.result _ _ _ _ c.ask_first.ensures c.in_ok-at.was in let i = c.loop-place.invariant.counted in omega (arith, n, i);
  walked = λ p line asks.
      let y = c.index-listed-place.result in
      let k = c.loop-place.place in
      let walked = walk_first (Asks p 5) c.loop-place.at (line k y) (with_stands y.primitive ∷ []) c.is_column.result c.ask_first.result (λ t. asks.holds k y (c.is_column.ensures.0 t), λ q. c.is_column.ensures.1 (asks.asks k y q)) (tt, tt) c.ask_first.ensures in
      numbered_more (Asks p 5) (with_primitive line) c.args.listed.now c.args.before c.loop-place.at c.in_ok-at.at k y c.loop-place-test.true c.index-listed-place.is (subst (IsWalk (Asks p 5) c.loop-place.at (with_primitive line k y)) c.in_ok-at.was walked) (c.loop-place.invariant.walked p line asks);
}

pub returns-clause-walk : goal.returns-clause-walk
returns-clause-walk c = λ p line asks. numbered_end (Asks p 5) (with_primitive line) c.args.listed.now c.args.before c.loop-place.at c.loop-place.place c.loop-place-test.false (c.loop-place.invariant.walked p line asks)
