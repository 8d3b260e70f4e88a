use Rattle.std.proofs.Common.{subst, [], ◌∷◌}
use Rattle.report_law.specs.Names.{product_of}
use Rattle.certificate_law.specs.Names.{Asks, numbered, product_opens, product_stated}
use Rattle.certificate_walk.{specs.Names.IsWalk, proofs.Names.{walk_both, walk_passed, walk_stops, walk_tested}}
use Rattle.count_check.{specs.Columns.with_numbers, proofs.SectionLemmas.is_live}
use Rattle.count_check.proofs.pairs.product.Goals as goal

pub returns-in_err-line-clause-walk : goal.returns-in_err-line-clause-walk
returns-in_err-line-clause-walk c = λ d p e f.
    let x = c.args.product.now in
    let k = c.args.place in
    let rest = numbered (with_numbers d x) 0 x.columns in
    walk_passed (Asks p 5) c.args.before (product_stated d k x) c.in_err-line.field-0.0 c.from_residual.result c.from_residual.ensures.1
    (walk_stops (Asks p 5) c.args.before (product_opens d k x ∷ []) rest c.in_err-line.field-0.0
    (subst (IsWalk (Asks p 5) c.args.before (product_opens d k x ∷ [])) c.in_err-line.was
    (walk_tested (Asks p 5) c.args.before (product_opens d k x) c.is_product.result c.ask.result (is_live (product_of x) k f c.is_product.ensures) c.ask.ensures)))

pub returns-clause-walk : goal.returns-clause-walk
returns-clause-walk c = λ d p e f.
    let x = c.args.product.now in
    let k = c.args.place in
    let rest = numbered (with_numbers d x) 0 x.columns in
    walk_both (Asks p 5) c.args.before (product_opens d k x ∷ []) rest c.in_ok-line.line c.pair_columns.result
    (subst (IsWalk (Asks p 5) c.args.before (product_opens d k x ∷ [])) c.in_ok-line.was
    (walk_tested (Asks p 5) c.args.before (product_opens d k x) c.is_product.result c.ask.result (is_live (product_of x) k f c.is_product.ensures) c.ask.ensures))
    (c.pair_columns.ensures.walk d p e)
