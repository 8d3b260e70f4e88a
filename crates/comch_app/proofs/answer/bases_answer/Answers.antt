use Rattle.complex_file.specs.Names.{content}
use Rattle.report.specs.declared.form.Form.TheVariants.{Basis}
use Rattle.comch_app.proofs.JobAnswered.{is_report_text}
use Rattle.comch_app.proofs.answer.bases_answer.Goals as goal

pub returns : goal.returns
returns c = (tt, is_report_text Basis (content c.args.job.now) c.in_ok-report.report c.in_ok-text.text c.args.job.now.kept c.in_ok-report.ensures c.in_ok-text.ensures)
