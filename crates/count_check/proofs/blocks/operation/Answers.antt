use Rattle.std.proofs.Common.{◌∙◌, ap, subst, List, [], ◌∷◌, get_or}
use Rattle.report.specs.declared.columns.Column.{Column}
use Rattle.report_law.specs.Names.{block_of}
use Rattle.certificate_law.specs.Names.{Asks, numbered, operation_column, operation_opens, operation_stated}
use Rattle.certificate_walk.{specs.Names.IsWalk, proofs.Names.{walk_both, walk_passed, walk_stops, walk_tested}}
use Rattle.count_check.{specs.Columns.with_primitive, proofs.SectionLemmas.{is_live, operation_asks, rank_is}}
use Rattle.count_check.proofs.blocks.operation.Goals as goal

pub returns-in_err-line-clause-walk : goal.returns-in_err-line-clause-walk
returns-in_err-line-clause-walk c = λ d p e f.
    let x = c.args.block.now in
    let k = c.args.place in
    let rest = numbered (with_primitive (operation_column d x)) 0 x.columns in
    walk_passed (Asks p 5) c.args.before (operation_stated d k x) c.in_err-line.field-0.0 c.from_residual.result c.from_residual.ensures.1
    (walk_stops (Asks p 5) c.args.before (operation_opens d k x ∷ []) rest c.in_err-line.field-0.0
    (subst (IsWalk (Asks p 5) c.args.before (operation_opens d k x ∷ [])) c.in_err-line.was
    (walk_tested (Asks p 5) c.args.before (operation_opens d k x) c.is_block.result c.ask.result (is_live (block_of x) k f c.is_block.ensures) c.ask.ensures)))

pub returns-clause-walk : goal.returns-clause-walk
returns-clause-walk c = λ d p e f.
    let x = c.args.block.now in
    let k = c.args.place in
    let rest = numbered (with_primitive (operation_column d x)) 0 x.columns in
    walk_both (Asks p 5) c.args.before (operation_opens d k x ∷ []) rest c.in_ok-line.line c.columns.result
    (subst (IsWalk (Asks p 5) c.args.before (operation_opens d k x ∷ [])) c.in_ok-line.was
    (walk_tested (Asks p 5) c.args.before (operation_opens d k x) c.is_block.result c.ask.result (is_live (block_of x) k f c.is_block.ensures) c.ask.ensures))
    (subst (λ (ys : List Column). IsWalk (Asks p 5) c.in_ok-line.line (numbered (with_primitive (operation_column d x)) 0 ys) c.columns.result) c.as_slice.ensures
    (c.columns.ensures.walk p (operation_column d x)
    (operation_asks d p x c.rank_at-from.result c.rank_at-to.result
    (c.rank_at-from.ensures ∙ ap (λ n. get_or c.args.ranks.now n 0) c.from.ensures ∙ rank_is d x.from e)
    (c.rank_at-to.ensures ∙ ap (λ n. get_or c.args.ranks.now n 0) c.from-2.ensures ∙ rank_is d x.to e))))
