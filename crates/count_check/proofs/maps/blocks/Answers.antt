use Rattle.certificate_law.specs.Names.{Asks, numbered, induced_stated}
use Rattle.certificate_walk.{specs.Names.induced_lines, proofs.Names.{numbered_end, numbered_more, numbered_stop, walk_passed, rest_less}}
use Rattle.count_check.proofs.maps.blocks.Goals as goal

pub returns-in_err-at : goal.returns-in_err-at
returns-in_err-at c = λ d t m p e f g.
    walk_passed (Asks p 5) c.args.before (numbered (induced_stated d t m) 0 c.args.listed.now) c.in_err-at.field-0.0 c.from_residual.result c.from_residual.ensures.1
    (numbered_stop (Asks p 5) (induced_stated d t m) c.args.listed.now c.args.before c.loop-place.at c.loop-place.place c.index-listed-place.result c.in_err-at.field-0.0 c.loop-place-test.true c.index-listed-place.is (c.in_err-at.ensures.walk d t m p e f g) (c.loop-place.invariant.walked d t m p e f g))

pub loop-place-preserved : goal.loop-place-preserved
loop-place-preserved c = record {
  counted = rest_less induced_lines c.args.listed.now c.loop-place.place c.index-listed-place.result c.loop-place.at c.in_ok-at.at _ c.loop-place-test.true c.index-listed-place.is c.in_ok-at.ensures.lines c.loop-place.invariant.counted;
  walked = λ d t m p e f g. numbered_more (Asks p 5) (induced_stated d t m) c.args.listed.now c.args.before c.loop-place.at c.in_ok-at.at c.loop-place.place c.index-listed-place.result c.loop-place-test.true c.index-listed-place.is (c.in_ok-at.ensures.walk d t m p e f g) (c.loop-place.invariant.walked d t m p e f g);
}

pub returns : goal.returns
returns c = λ d t m p e f g. numbered_end (Asks p 5) (induced_stated d t m) c.args.listed.now c.args.before c.loop-place.at c.loop-place.place c.loop-place-test.false (c.loop-place.invariant.walked d t m p e f g)
