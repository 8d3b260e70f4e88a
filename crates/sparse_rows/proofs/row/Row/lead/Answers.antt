use Rattle.std.proofs.Common.{ℕ, List, subst, sym, ◌∙◌}
use Rattle.sparse_rows.{specs.Rows.{IsFirst, IsRow}, proofs.RowLemmas.first_of}
use Rattle.sparse_rows.proofs.row.Row.lead.Goals as goal

pub returns-in-len1-up : goal.returns-in-len1-up
returns-in-len1-up g c =
    subst (λ (r : List (ℕ × ℕ)). IsFirst r c.first-item.result.0) (c.as_slice.ensures.value ∙ c.self.view_is)
    (first_of g.row.P c.as_slice.result.now c.first-item.result (subst (IsRow g.row.P) (sym c.as_slice.ensures.value) c.self.invariant) c.in-len1-up.len_at_least c.first-item.is)
