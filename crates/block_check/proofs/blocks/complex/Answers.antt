use Rattle.std.proofs.Common.{◌+◌, ◌++◌, subst, [], ◌∷◌, Err}
use Rattle.linear_law.specs.Names.{Each}
use Rattle.certificate_law.specs.Names.{Asks, behind, complex_opens, complex_stated}
use Rattle.certificate_walk.{specs.Names.{complex_lines, IsWalk}, proofs.Names.{walk_both, walk_stops, walk_tested}}
use Rattle.block_check.proofs.{BlockLemmas.{complex_walked, under_facets}, FacetLemmas.{facet_line, walked_passed}}
use Rattle.block_check.proofs.blocks.complex.Goals as goal

pub returns-in_err-complex-clause-walk : goal.returns-in_err-complex-clause-walk
returns-in_err-complex-clause-walk c = λ p.
    let x = c.args.part.now in
    let e = c.in_err-complex.field-0.0 in
    walked_passed (Asks p 1) c.args.before (c.args.before + complex_lines x) (complex_stated c.args.earlier.now x) e c.from_residual-in_err-complex.result c.from_residual-in_err-complex.ensures.1
    (walk_both (Asks p 1) c.args.before (complex_opens c.args.earlier.now x ∷ []) (behind facet_line [] x.facets ++ under_facets x) c.in_ok-line.line (Err e) (subst (IsWalk (Asks p 1) c.args.before (complex_opens c.args.earlier.now c.args.part.now ∷ [])) c.in_ok-line.was (walk_tested (Asks p 1) c.args.before (complex_opens c.args.earlier.now c.args.part.now) c.is_new_complex.result c.ask.result c.is_new_complex.ensures c.ask.ensures))
    (walk_stops (Asks p 1) c.in_ok-line.line (behind facet_line [] x.facets) (under_facets x) e
    (subst (λ fs. IsWalk (Asks p 1) c.in_ok-line.line (behind facet_line [] fs) (Err e)) c.as_slice.ensures (c.in_err-complex.ensures.walk p))))

pub returns-clause-walk : goal.returns-clause-walk
returns-clause-walk c = λ p.
    let opened = (subst (IsWalk (Asks p 1) c.args.before (complex_opens c.args.earlier.now c.args.part.now ∷ [])) c.in_ok-line.was (walk_tested (Asks p 1) c.args.before (complex_opens c.args.earlier.now c.args.part.now) c.is_new_complex.result c.ask.result c.is_new_complex.ensures c.ask.ensures)) in
    complex_walked p c.args.earlier.now c.args.part.now c.args.before opened.1.0
    (subst (λ fs. Each (Asks p 1) (behind facet_line [] fs)) c.as_slice.ensures ((c.in_ok-complex.ensures.walk p).1))
