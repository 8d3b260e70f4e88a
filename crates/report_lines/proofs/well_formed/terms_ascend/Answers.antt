use Rattle.std.{proofs.Common.{ℕ, List, rules}, specs.Ordering.is_lt, proofs.lemmas.Fn.always_returns_same}
use Rattle.simplicial_law.specs.Names.{simplex_cmp}
use Rattle.report_lines.proofs.Neighbours.{terms_tested}
use Rattle.report_lines.proofs.well_formed.terms_ascend.Goals as goal

pub returns : goal.returns
returns c =
    terms_tested c.args.terms.now _ (c.is_sorted_by.ensures.cases (λ (t u : ℕ × List ℕ). is_lt (simplex_cmp t.1 u.1)) (always_returns_same _ _ _ (λ a r q k. (search rules, search rules))))
