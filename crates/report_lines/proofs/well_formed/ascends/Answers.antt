use Rattle.std.proofs.{Common.{rules, nat_lt}, lemmas.Fn.always_returns_same}
use Rattle.report_lines.proofs.Neighbours.{ascends_tested}
use Rattle.report_lines.proofs.well_formed.ascends.Goals as goal

pub returns : goal.returns
returns c = ascends_tested c.args.vertices.now _ (c.is_sorted_by.ensures.cases nat_lt (always_returns_same _ _ _ (λ a r q k. (search rules, search rules))))
