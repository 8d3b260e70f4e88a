use Rattle.std.proofs.Common.{◌+◌, subst, [], ◌∷◌, Ok}
use Rattle.certificate_law.specs.Names.{Asks, degree_opens, degree_stated}
use Rattle.certificate_walk.{specs.Names.IsWalk, proofs.Names.{walk_both, walk_passed, walk_stops, walk_tested}}
use Rattle.count_check.proofs.SectionLemmas.{degree_tested, under_degree, under_walked}
use Rattle.count_check.proofs.degrees.degree.Goals as goal

pub returns-in_err-line-clause-walk : goal.returns-in_err-line-clause-walk
returns-in_err-line-clause-walk c = λ k p index e.
    let d = c.args.degree.now in
    let n = c.args.n in
    walk_passed (Asks p 5) c.args.before (degree_stated k n d) c.in_err-line.field-0.0 c.from_residual.result c.from_residual.ensures.1
    (walk_stops (Asks p 5) c.args.before (degree_opens k n d ∷ []) (under_degree k n d) c.in_err-line.field-0.0
    (subst (IsWalk (Asks p 5) c.args.before (degree_opens k n d ∷ [])) c.in_err-line.was
    (walk_tested (Asks p 5) c.args.before (degree_opens k n d) c.is_counted.result c.ask.result (degree_tested k n d c.args.next c.args.index.now c.is_counted.result index e c.is_counted.ensures) c.ask.ensures)))

pub returns-clause-walk : goal.returns-clause-walk
returns-clause-walk c = λ k p index e.
    let d = c.args.degree.now in
    let n = c.args.n in
    walk_both (Asks p 5) c.args.before (degree_opens k n d ∷ []) (under_degree k n d) c.in_ok-line.line (Ok (c.in_ok-line.line + c.len.result + c.len-2.result))
    (subst (IsWalk (Asks p 5) c.args.before (degree_opens k n d ∷ [])) c.in_ok-line.was
    (walk_tested (Asks p 5) c.args.before (degree_opens k n d) c.is_counted.result c.ask.result (degree_tested k n d c.args.next c.args.index.now c.is_counted.result index e c.is_counted.ensures) c.ask.ensures))
    (under_walked k n p d c.in_ok-line.line c.len.result c.len-2.result c.len.ensures c.len-2.ensures)
