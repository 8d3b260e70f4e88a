use Rattle.std.proofs.Common.{◌∙◌, ap, subst, codes, List, ℕ, ◌++◌}
use Rattle.cert_check.specs.Checked.{IsChecked}
use Rattle.comch_app.proofs.Verdicts.{few_lines, shows}
use Rattle.comch_app.proofs.verdict.report_verdict.Goals as goal

pub check-requires-clause-few : goal.check-requires-clause-few
check-requires-clause-few c = few_lines c.args.text.now c.args.report.now c.requires.short c.requires.spelled

pub returns-in_ok-extend-in-Yes-clause-answer : goal.returns-in_ok-extend-in-Yes-clause-answer
returns-in_ok-extend-in-Yes-clause-answer c = (
  c.requires.short,
  shows c.args.text.now c.args.report.now c.requires.spelled (subst (IsChecked c.args.report.now) c.in-Yes.is c.in_ok-check.ensures),
  c.in_ok-extend-in-Yes.ensures.ok ∙ ap (λ (bytes : List ℕ). bytes ++ codes "yes\n") c.new-answer.ensures,
)
