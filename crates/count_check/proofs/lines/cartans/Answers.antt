use Rattle.std.proofs.Common.{subst, arith, [], ◌∷◌}
use Rattle.report_law.specs.Names.{line_of}
use Rattle.certificate_law.specs.Names.{Asks, answer_stated, cartan_stands, cartan_stated, numbered}
use Rattle.certificate_walk.{specs.Names.IsWalk, proofs.Names.{numbered_end, numbered_more, numbered_stop, walk_first, walk_passed}}
use Rattle.count_check.proofs.SectionLemmas.{asked, asks_nothing, is_live}
use Rattle.count_check.proofs.lines.cartans.Goals as goal

pub returns-in_err-at : goal.returns-in_err-at
returns-in_err-at c = λ d p e.
    let x = c.index-listed-place.result in
    let k = c.loop-place.place in
    let walked = walk_first (Asks p 5) c.loop-place.at (cartan_stands d k x) (answer_stated x.answer ∷ []) c.is_line.result c.ask_first.result (is_live (line_of x) k e c.is_line.ensures) (asks_nothing p x.answer, tt) c.ask_first.ensures in
    walk_passed (Asks p 5) c.args.before (numbered (cartan_stated d) 0 c.args.listed.now) c.in_err-at.field-0.0 c.from_residual.result c.from_residual.ensures.1
    (numbered_stop (Asks p 5) (cartan_stated d) c.args.listed.now c.args.before c.loop-place.at k x c.in_err-at.field-0.0 c.loop-place-test.true c.index-listed-place.is (subst (IsWalk (Asks p 5) c.loop-place.at (cartan_stated d k x)) c.in_err-at.was walked) (c.loop-place.invariant.walked d p e))

pub loop-place-preserved : goal.loop-place-preserved
loop-place-preserved c = record {
  counted = let n = asked c.is_line.result _ _ _ _ c.ask_first.ensures c.in_ok-at.was in let i = c.loop-place.invariant.counted in omega (arith, n, i);
  walked = λ d p e.
      let x = c.index-listed-place.result in
      let k = c.loop-place.place in
      let walked = walk_first (Asks p 5) c.loop-place.at (cartan_stands d k x) (answer_stated x.answer ∷ []) c.is_line.result c.ask_first.result (is_live (line_of x) k e c.is_line.ensures) (asks_nothing p x.answer, tt) c.ask_first.ensures in
      numbered_more (Asks p 5) (cartan_stated d) c.args.listed.now c.args.before c.loop-place.at c.in_ok-at.at k x c.loop-place-test.true c.index-listed-place.is (subst (IsWalk (Asks p 5) c.loop-place.at (cartan_stated d k x)) c.in_ok-at.was walked) (c.loop-place.invariant.walked d p e);
}

pub returns : goal.returns
returns c = λ d p e. numbered_end (Asks p 5) (cartan_stated d) c.args.listed.now c.args.before c.loop-place.at c.loop-place.place c.loop-place-test.false (c.loop-place.invariant.walked d p e)
