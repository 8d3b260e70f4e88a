use Rattle.std.proofs.Common.{◌≡◌, ◌∙◌, ◌++◌, ℕ, List, OnOk, subst}
use Rattle.report_text_law.specs.{Names.{ended, spelled}, declared.line.Line.TheVariants.{Column as column_line}}
use Rattle.bockstein_text.proofs.matrix.add_column.Goals as goal

pub returns : goal.returns
returns g c =
    subst (λ (vs : List ℕ). OnOk c.spell.result (c.spell.new.text ≡ c.args.text.now ++ ended (spelled (column_line c.args.j vs)))) (c.from-values.ensures ∙ c.in_ok-numbers.ensures ∙ c.deref.ensures.value) c.spell.ensures
