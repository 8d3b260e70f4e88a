use Rattle.std.proofs.Common.{Err, ℕ, ap, subst, sym, ◌∙◌}
use Rattle.complex_file.specs.Names.{content}
use Rattle.report_law.specs.Names.{PassesLimit}
use Rattle.comch_app.proofs.JobAnswered.{is_report_text, passes_limit}
use Rattle.comch_app.proofs.answer.report_answer.Goals as goal

pub returns-in_ok-text-in-Ok : goal.returns-in_ok-text-in-Ok
returns-in_ok-text-in-Ok c =
    (c.in-Ok.ensures.within, is_report_text c.args.form (content c.args.job.now) c.in-Ok.report c.in_ok-text-in-Ok.text c.args.job.now.kept c.in-Ok.ensures.report c.in_ok-text-in-Ok.ensures)

pub returns-in-Err-TooManyTerms : goal.returns-in-Err-TooManyTerms
returns-in-Err-TooManyTerms c =
    let e = c.in-Err-TooManyTerms in
    let h = e.ensures.refused e.count e.limit (ap Err e.field-0-is) in
    passes_limit c.args.form c.args.limit _ _ (content c.args.job.now) c.too_many_terms.result c.too_many_terms.ensures.status c.too_many_terms.ensures.text
    (e.limit-is ∙ h.0, subst (λ (n : ℕ). PassesLimit (content c.args.job.now) c.args.limit n) (sym e.count-is) h.1)
