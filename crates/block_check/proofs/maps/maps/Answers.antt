use Rattle.std.proofs.Common.{[]}
use Rattle.certificate_law.specs.Names.{Asks, behind, map_stated}
use Rattle.certificate_walk.{specs.Names.map_lines, proofs.Names.{rest_less, behind_end, behind_more, behind_stop, walk_passed}}
use Rattle.block_check.proofs.maps.maps.Goals as goal

pub returns-in_err-at : goal.returns-in_err-at
returns-in_err-at c = λ p.
    let e = c.in_err-at.field-0.0 in
    walk_passed (Asks p 1) c.args.before (behind (map_stated c.args.complexes.now) [] c.args.parts.now) e c.from_residual.result c.from_residual.ensures.1
    (behind_stop (Asks p 1) (map_stated c.args.complexes.now) c.args.parts.now c.args.before c.loop-place.at c.loop-place.place c.index-parts-place.result e c.loop-place-test.true c.index-parts-place.is
    (c.in_err-at.ensures.walk p)
    (c.loop-place.invariant.walked p))

pub loop-place-preserved : goal.loop-place-preserved
loop-place-preserved c = record {
  counted = rest_less map_lines c.args.parts.now c.loop-place.place c.index-parts-place.result c.loop-place.at c.in_ok-at.at _ c.loop-place-test.true c.index-parts-place.is c.in_ok-at.ensures.lines c.loop-place.invariant.counted;
  walked = λ p. behind_more (Asks p 1) (map_stated c.args.complexes.now) c.args.parts.now c.args.before c.loop-place.at c.in_ok-at.at c.loop-place.place c.index-parts-place.result c.loop-place-test.true c.index-parts-place.is
      (c.in_ok-at.ensures.walk p)
      (c.loop-place.invariant.walked p);
}

pub returns : goal.returns
returns c = λ p. behind_end (Asks p 1) (map_stated c.args.complexes.now) c.args.parts.now c.args.before c.loop-place.at c.loop-place.place c.loop-place-test.false (c.loop-place.invariant.walked p)
