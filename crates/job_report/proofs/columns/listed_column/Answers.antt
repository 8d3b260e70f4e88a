use Rattle.std.proofs.Common.{◌∙◌, ℕ, ap}
use Rattle.cartan_check.specs.Verdicts.{cycle_terms}
use Rattle.job_report.proofs.ColumnLemmas.{kept-primitive}
use Rattle.job_report.proofs.columns.listed_column.Goals as goal

pub returns : goal.returns
returns g c = record {
  values = c.from.ensures ∙ c.in_ok-values.ensures ∙ c.deref.ensures.value;
  primitive = λ t. c.in_ok-primitive.ensures t ∙ ap (λ (m : ℕ). cycle_terms {p = g.row.P} c.args.index.now m c.args.column.now.primitive) c.saturating_sub.ensures
      ∙ kept-primitive {p = g.row.P} c.args.index.now c.args.n c.args.column.now.primitive;
}
