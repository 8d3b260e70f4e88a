-- From the answer to a job to the answer to the bytes that spell it.
use Rattle.std.{proofs.Common.{◌≡◌, ℕ, List, Some, None, Ok, Err, Result, IfOk, true, ap, subst, sym}, specs.declared.alloc.AllocError.AllocError, specs.declared.option.Option.Option}
use Rattle.complex_file.specs.{Names.Spelled, Input.input_of, Jobs.is_job}
use Rattle.report.specs.declared.{form.Form.Form, form.Form.TheVariants.Basis, job.Report.Report}
use Rattle.report_law.{proofs.Names.headline_law, specs.Names.{IsReportOf, PassesLimit}}
use Rattle.report_text_law.specs.Text.{text_of}
use Rattle.comch_app.specs.Names.{BocksteinAnswers, InputAnswers, IsReportText, JobAnswers, refusal, IsMade, WantedOf, Wanted, Status, Done, TooManyTerms}
use Rattle.comch_app.specs.declared.answer.Wanted.TheVariants as wanted

-- the text of a report that was made
pub is_report_text : (form : Form) (job : Spelled) (r : Report) (text : List ℕ) → is_job job.prime job.complexes job.maps ≡ true → IsReportOf form job r → text ≡ text_of form r → IsReportText form job text
is_report_text form job r text kept made same = record { report = r; of_job = made; headline = headline_law form job r kept made; text_is = same }

spelled_answers : (form : Form) (limit : Option ℕ) (bytes : List ℕ) (job : Spelled) (s : Status) (text : List ℕ) → input_of bytes ≡ Ok job → JobAnswers form limit job s text → InputAnswers (JobAnswers form limit) bytes s text
spelled_answers form limit bytes job Done text e a = (job, e, a)
spelled_answers form limit bytes job (TooManyTerms count most) text e a = (job, e, a)
spelled_answers form limit bytes job _ text e a = absurd a

job_made : (form : Form) (limit : Option ℕ) (job : Spelled) (s : Status) (text : List ℕ) → JobAnswers form limit job s text → IsMade s text
job_made form limit job Done text a = tt
job_made form limit job (TooManyTerms count most) text (same, passes, text_is) = text_is
job_made form limit job _ text a = absurd a

bockstein_answers : (bytes : List ℕ) (job : Spelled) (s : Status) (text : List ℕ) → input_of bytes ≡ Ok job → BocksteinAnswers job s text → InputAnswers BocksteinAnswers bytes s text
bockstein_answers bytes job Done text e a = (job, e, a)
bockstein_answers bytes job _ text e a = absurd a

bockstein_made : (job : Spelled) (s : Status) (text : List ℕ) → BocksteinAnswers job s text → IsMade s text
bockstein_made job Done text a = tt
bockstein_made job _ text a = absurd a

pub wanted_answers : (w : Wanted) (bytes : List ℕ) (job : Spelled) (s : Status) (text : List ℕ) → input_of bytes ≡ Ok job → WantedOf w job s text → InputAnswers (WantedOf w) bytes s text
wanted_answers wanted.Bases bytes job s text e a = spelled_answers Basis None bytes job s text e a
wanted_answers (wanted.Report form limit) bytes job s text e a = spelled_answers form (Some limit) bytes job s text e a
wanted_answers wanted.Bocksteins bytes job s text e a = bockstein_answers bytes job s text e a

pub wanted_made : (w : Wanted) (job : Spelled) (s : Status) (text : List ℕ) → WantedOf w job s text → IsMade s text
wanted_made wanted.Bases job s text a = job_made Basis None job s text a
wanted_made (wanted.Report form limit) job s text a = job_made form (Some limit) job s text a
wanted_made wanted.Bocksteins job s text a = bockstein_made job s text a

-- counted terms that pass the limit are answered by their refusal
pub passes_limit : (form : Form) (limit count most : ℕ) (job : Spelled) (r : Result (Status × List ℕ) AllocError) → IfOk r (λ p. p.0 ≡ TooManyTerms count most) → IfOk r (λ p. p.1 ≡ refusal (TooManyTerms count most))
    → (most ≡ limit) × PassesLimit job limit count → IfOk r (λ p. JobAnswers form (Some limit) job p.0 p.1)
passes_limit form limit count most job (Err e) status text h = tt
passes_limit form limit count most job (Ok (s, t)) status text h =
    subst (λ (z : Status). JobAnswers form (Some limit) job z t) (sym status)
    (ap (λ (n : ℕ). Some n) (sym h.0), subst (λ (n : ℕ). PassesLimit job n count) (sym h.0) h.1, text)
