use Rattle.std.proofs.Common.{◌+◌, sym, ◌∙◌, ap, List, [], length, map, get_or, sum_by}
use Rattle.report.specs.declared.complex.DegreePart.{DegreePart}
use Rattle.certificate_law.specs.Names.{Asks, numbered, degree_stated}
use Rattle.certificate_walk.{specs.Names.degree_lines, proofs.Names.{numbered_end, numbered_more, numbered_stop, walk_passed, rest_less}}
use Rattle.count_check.proofs.SectionLemmas.{degree_few}
use Rattle.count_check.proofs.degrees.degrees.Goals as goal

pub degree-requires-clause-few : goal.degree-requires-clause-few
degree-requires-clause-few c =
    degree_few c.args.degrees.now c.loop-n.n c.index-degrees-n.result c.below_count.result c.loop-n.at (c.args.before + sum_by degree_lines c.args.degrees.now) c.loop-n-test.true c.index-degrees-n.is c.below_count.ensures c.loop-n.invariant.counted c.requires.room

pub returns-in_err-at : goal.returns-in_err-at
returns-in_err-at c = λ d p e f.
    walk_passed (Asks p 5) c.args.before (numbered (degree_stated d) 0 c.args.degrees.now) c.in_err-at.field-0.0 c.from_residual.result c.from_residual.ensures.1
    (numbered_stop (Asks p 5) (degree_stated d) c.args.degrees.now c.args.before c.loop-n.at c.loop-n.n c.index-degrees-n.result c.in_err-at.field-0.0 c.loop-n-test.true c.index-degrees-n.is (c.in_err-at.ensures.walk d p e (sym (c.below_count.ensures ∙ ap (λ (ds : List DegreePart). length (get_or (map (λ (d : DegreePart). d.below) ds) (c.loop-n.n + 1) [])) (sym f)))) (c.loop-n.invariant.walked d p e f))

pub loop-n-preserved : goal.loop-n-preserved
loop-n-preserved c = record {
  counted = rest_less degree_lines c.args.degrees.now c.loop-n.n c.index-degrees-n.result c.loop-n.at c.in_ok-at.at _ c.loop-n-test.true c.index-degrees-n.is c.in_ok-at.ensures.lines c.loop-n.invariant.counted;
  walked = λ d p e f. numbered_more (Asks p 5) (degree_stated d) c.args.degrees.now c.args.before c.loop-n.at c.in_ok-at.at c.loop-n.n c.index-degrees-n.result c.loop-n-test.true c.index-degrees-n.is (c.in_ok-at.ensures.walk d p e (sym (c.below_count.ensures ∙ ap (λ (ds : List DegreePart). length (get_or (map (λ (d : DegreePart). d.below) ds) (c.loop-n.n + 1) [])) (sym f)))) (c.loop-n.invariant.walked d p e f);
}

pub returns : goal.returns
returns c = λ d p e f. numbered_end (Asks p 5) (degree_stated d) c.args.degrees.now c.args.before c.loop-n.at c.loop-n.n c.loop-n-test.false (c.loop-n.invariant.walked d p e f)
