use Rattle.std.proofs.Common.{◌∙◌, ap, subst, List, [], ◌∷◌, get_or}
use Rattle.report.specs.declared.columns.Column.{Column}
use Rattle.certificate_law.specs.Names.{Asks, numbered, induced_column, induced_opens, induced_stated}
use Rattle.certificate_walk.{specs.Names.IsWalk, proofs.Names.{walk_both, walk_passed, walk_stops, walk_tested}}
use Rattle.count_check.{specs.Columns.with_primitive, proofs.SectionLemmas.{is_live, induced_asks, rank_is}}
use Rattle.count_check.proofs.maps.block.Goals as goal

pub returns-in_err-line-clause-walk : goal.returns-in_err-line-clause-walk
returns-in_err-line-clause-walk c = λ d t m p e f g.
    let x = c.args.block.now in
    let k = c.args.place in
    let rest = numbered (with_primitive (induced_column d t m x)) 0 x.columns in
    walk_passed (Asks p 5) c.args.before (induced_stated d t m k x) c.in_err-line.field-0.0 c.from_residual.result c.from_residual.ensures.1
    (walk_stops (Asks p 5) c.args.before (induced_opens d t k x ∷ []) rest c.in_err-line.field-0.0
    (subst (IsWalk (Asks p 5) c.args.before (induced_opens d t k x ∷ [])) c.in_err-line.was
    (walk_tested (Asks p 5) c.args.before (induced_opens d t k x) c.is_block.result c.ask.result (is_live x.q k g c.is_block.ensures) c.ask.ensures)))

pub returns-clause-walk : goal.returns-clause-walk
returns-clause-walk c = λ d t m p e f g.
    let x = c.args.block.now in
    let k = c.args.place in
    let rest = numbered (with_primitive (induced_column d t m x)) 0 x.columns in
    walk_both (Asks p 5) c.args.before (induced_opens d t k x ∷ []) rest c.in_ok-line.line c.columns.result
    (subst (IsWalk (Asks p 5) c.args.before (induced_opens d t k x ∷ [])) c.in_ok-line.was
    (walk_tested (Asks p 5) c.args.before (induced_opens d t k x) c.is_block.result c.ask.result (is_live x.q k g c.is_block.ensures) c.ask.ensures))
    (subst (λ (ys : List Column). IsWalk (Asks p 5) c.in_ok-line.line (numbered (with_primitive (induced_column d t m x)) 0 ys) c.columns.result) c.as_slice.ensures
    (c.columns.ensures.walk p (induced_column d t m x)
    (induced_asks d t m p x c.rank_at.result c.rank_at-2.result
    (c.rank_at.ensures ∙ ap (λ n. get_or c.args.to.now n 0) c.from-q.ensures ∙ rank_is t x.q f)
    (c.rank_at-2.ensures ∙ ap (λ n. get_or c.args.from.now n 0) c.from-q.ensures ∙ rank_is d x.q e))))
