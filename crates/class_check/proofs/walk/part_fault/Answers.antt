use Rattle.std.proofs.Common.{◌≡◌, ◌+◌, ◌*◌, ◌∙◌, List, ap, ap₂, sym, subst, length, sum_by, Ok, Err}
use Rattle.report.specs.declared.complex.DegreePart.{DegreePart}
use Rattle.certificate_law.specs.Names.{Asks, complex_stated, degree_stated, numbered}
use Rattle.certificate_walk.{specs.Names.{operation_lines, product_lines, IsWalk}, proofs.Names.walk_passed}
use Rattle.class_check.{specs.Questions.{AreReady, condition_of}, proofs.WalkLemmas.{part_ends, part_formed, part_stops}}
use Rattle.class_check.proofs.walk.part_fault.Goals as goal

pub returns-in_err-at : goal.returns-in_err-at
returns-in_err-at g c = λ earlier.
    let part = c.args.part.now in
    let asks = Asks g.row.P (condition_of c.args.question) in
    let first = c.args.before + 1 + c.len.result in
    let ready : AreReady g.row.P c.args.question (numbered (degree_stated part) 0 c.as_slice.result.now) = subst (λ (ds : List DegreePart). AreReady g.row.P c.args.question (numbered (degree_stated part) 0 ds)) (sym c.as_slice.ensures) c.requires.ready in
    let walk : IsWalk asks first (numbered (degree_stated part) 0 part.degrees) (Err c.in_err-at.field-0.0) =
    subst (λ (ds : List DegreePart). IsWalk asks first (numbered (degree_stated part) 0 ds) (Err c.in_err-at.field-0.0)) c.as_slice.ensures (c.in_err-at.ensures.walk part c.requires.index (sym c.as_slice.ensures) ready) in
    walk_passed asks c.args.before (complex_stated earlier part) c.in_err-at.field-0.0 c.from_residual.result c.from_residual.ensures.1
    (part_stops g.row.P c.args.question earlier part c.args.before first c.in_err-at.field-0.0 (ap (λ n. c.args.before + 1 + n) c.len.ensures) walk)

pub is_ended-requires-clause-ascending : goal.is_ended-requires-clause-ascending
is_ended-requires-clause-ascending g c = (part_formed g.row.P c.args.part.now c.requires.well_formed).0

pub returns : goal.returns
returns g c = λ earlier.
    let part = c.args.part.now in
    let asks = Asks g.row.P (condition_of c.args.question) in
    let first = c.args.before + 1 + c.len.result in
    let at = c.in_ok-at.at in
    let last = at + (c.products_lines.result + c.operations_lines.result) + 2 * c.len-2.result in
    let ready : AreReady g.row.P c.args.question (numbered (degree_stated part) 0 c.as_slice.result.now) = subst (λ (ds : List DegreePart). AreReady g.row.P c.args.question (numbered (degree_stated part) 0 ds)) (sym c.as_slice.ensures) c.requires.ready in
    let walk : IsWalk asks first (numbered (degree_stated part) 0 part.degrees) (Ok at) =
    subst (λ (ds : List DegreePart). IsWalk asks first (numbered (degree_stated part) 0 ds) (Ok at)) c.as_slice.ensures (c.in_ok-at.ensures.walk part c.requires.index (sym c.as_slice.ensures) ready) in
    let total : last ≡ at + (sum_by product_lines part.products + sum_by operation_lines part.operations) + 2 * length part.cartans =
    ap₂ (λ x n. at + x + 2 * n) (ap₂ (λ x y. x + y) (c.products_lines.ensures ∙ ap (sum_by product_lines) c.as_slice-2.ensures) (c.operations_lines.ensures ∙ ap (sum_by operation_lines) c.as_slice-3.ensures)) c.len-2.ensures in
    part_ends g.row.P c.args.question earlier part c.args.before first at last c.is_ended.result c.ask.result (ap (λ n. c.args.before + 1 + n) c.len.ensures) walk total (c.is_ended.ensures g.row.P) c.ask.ensures
