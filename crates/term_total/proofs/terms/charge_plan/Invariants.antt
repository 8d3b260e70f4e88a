use Rattle.std.proofs.Common.{drop, flat_map}
use Rattle.term_total.{specs.Names.row_numbers, proofs.ChargeLemmas.IsLeft}
use Rattle.term_total.proofs.terms.charge_plan.Given as goal

abbrev pub invariant-loop-row : goal.invariant-loop-row
invariant-loop-row g l = IsLeft l.fn.terms l.terms (flat_map (row_numbers g.row.P) l.rows) (flat_map (row_numbers g.row.P) (drop l.row-index l.rows))
