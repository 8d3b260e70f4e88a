use Rattle.std.proofs.Common.{◌∙◌, ap, sym}
use Rattle.table_reduction.{specs.Walks.is_last, proofs.WalkLemmas.is_last-append}
use Rattle.table_reduction.proofs.walk.ends_with.Goals as goal

pub returns-in-Some : goal.returns-in-Some
returns-in-Some c =
    sym (is_last-append c.args.value c.in-Some.last.now c.in-Some.field-0-1.now) ∙ ap (is_last c.args.value) (sym c.in-Some.ensures.cases.0)
