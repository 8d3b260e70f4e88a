use Rattle.certificate_law.specs.Names.{Asks, numbered, product_stated}
use Rattle.certificate_walk.{specs.Names.product_lines, proofs.Names.{numbered_end, numbered_more, numbered_stop, walk_passed, rest_less}}
use Rattle.count_check.proofs.pairs.products.Goals as goal

pub returns-in_err-at : goal.returns-in_err-at
returns-in_err-at c = λ d p e f.
    walk_passed (Asks p 5) c.args.before (numbered (product_stated d) 0 c.args.listed.now) c.in_err-at.field-0.0 c.from_residual.result c.from_residual.ensures.1
    (numbered_stop (Asks p 5) (product_stated d) c.args.listed.now c.args.before c.loop-place.at c.loop-place.place c.index-listed-place.result c.in_err-at.field-0.0 c.loop-place-test.true c.index-listed-place.is (c.in_err-at.ensures.walk d p e f) (c.loop-place.invariant.walked d p e f))

pub loop-place-preserved : goal.loop-place-preserved
loop-place-preserved c = record {
  counted = rest_less product_lines c.args.listed.now c.loop-place.place c.index-listed-place.result c.loop-place.at c.in_ok-at.at _ c.loop-place-test.true c.index-listed-place.is c.in_ok-at.ensures.lines c.loop-place.invariant.counted;
  walked = λ d p e f. numbered_more (Asks p 5) (product_stated d) c.args.listed.now c.args.before c.loop-place.at c.in_ok-at.at c.loop-place.place c.index-listed-place.result c.loop-place-test.true c.index-listed-place.is (c.in_ok-at.ensures.walk d p e f) (c.loop-place.invariant.walked d p e f);
}

pub returns : goal.returns
returns c = λ d p e f. numbered_end (Asks p 5) (product_stated d) c.args.listed.now c.args.before c.loop-place.at c.loop-place.place c.loop-place-test.false (c.loop-place.invariant.walked d p e f)
