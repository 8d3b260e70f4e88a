use Rattle.std.proofs.{Common.{◌≡◌, ℕ, ◌+◌, ◌++◌, sym, ◌∙◌, ap, ap₂, [], ◌∷◌, Ok, subst, sum_by, take}, lemmas.List.map_more}
use Rattle.certificate_law.specs.Names.{Asks, itself, behind, complex_stated}
use Rattle.certificate_walk.{specs.Names.{complex_lines, IsWalk}, proofs.Names.{rest_less, behind_end, behind_more, behind_stop}}
use Rattle.block_check.proofs.{BlockLemmas.complexes_length, FacetLemmas.walked_passed}
use Rattle.block_check.proofs.blocks.complexes.Goals as goal

pub returns-in_err-complex-clause-walk : goal.returns-in_err-complex-clause-walk
returns-in_err-complex-clause-walk c = λ p.
    let e = c.in_err-complex.field-0.0 in
    walked_passed (Asks p 1) c.args.before (c.args.before + sum_by complex_lines c.args.parts.now) (behind complex_stated [] c.args.parts.now) e c.from_residual.result c.from_residual.ensures.1
    (behind_stop (Asks p 1) complex_stated c.args.parts.now c.args.before c.loop-place.at c.loop-place.place c.index-parts-place.result e c.loop-place-test.true c.index-parts-place.is
    (c.in_err-complex.ensures.walk p)
    (c.loop-place.invariant.walked p))

pub loop-place-preserved : goal.loop-place-preserved
loop-place-preserved c =
    let next : c.loop-place.at + c.complex_lines.result ≡ c.loop-place.at + complex_lines c.index-parts-place.result = ap (λ n. c.loop-place.at + n) c.complex_lines.ensures in
    record {
      counted = rest_less complex_lines c.args.parts.now c.loop-place.place c.index-parts-place.result c.loop-place.at (c.loop-place.at + c.complex_lines.result) _ c.loop-place-test.true c.index-parts-place.is next c.loop-place.invariant.counted;
      kept = c.in_ok-push.ensures.items ∙ ap₂ (λ bs b. bs ++ b ∷ []) c.loop-place.invariant.kept (c.in_ok-complex.ensures.kept ∙ ap itself c.index-parts-place.is) ∙ sym (map_more itself c.args.parts.now c.loop-place.place c.index-parts-place.result c.loop-place-test.true);
      walked = λ p. behind_more (Asks p 1) complex_stated c.args.parts.now c.args.before c.loop-place.at (c.loop-place.at + c.complex_lines.result) c.loop-place.place c.index-parts-place.result c.loop-place-test.true c.index-parts-place.is
          (subst (λ (n : ℕ). IsWalk (Asks p 1) c.loop-place.at (complex_stated (take c.loop-place.place c.args.parts.now) c.index-parts-place.result) (Ok n)) (sym next)
          (c.in_ok-complex.ensures.walk p))
          (c.loop-place.invariant.walked p);
    }

pub returns-clause-walk : goal.returns-clause-walk
returns-clause-walk c = λ p.
    let w = behind_end (Asks p 1) complex_stated c.args.parts.now c.args.before c.loop-place.at c.loop-place.place c.loop-place-test.false (c.loop-place.invariant.walked p) in
    (ap (λ n. c.args.before + n) (sym (complexes_length c.args.parts.now)), w.1)
