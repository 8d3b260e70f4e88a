use Rattle.std.proofs.Common.{◌∙◌, ◌+◌, ◌^◌, ℕ, Err, ap, subst, sym}
use Rattle.report_law.specs.Names.{PassesLimit}
use Rattle.sample_torus.specs.Torus.{torus_job}
use Rattle.comch_app.proofs.SampleLemmas.{sample_passes}
use Rattle.comch_app.proofs.samples.sample_answer.Goals as goal

pub returns-in-Err-TooManyTerms-clause-answer : goal.returns-in-Err-TooManyTerms-clause-answer
returns-in-Err-TooManyTerms-clause-answer c =
    let e = c.in-Err-TooManyTerms in
    let h = e.ensures.refused e.count e.limit (ap Err e.field-0-is) in
    sample_passes c.args.number c.args.prime _ _ c.too_many_terms.result c.too_many_terms.ensures.status c.too_many_terms.ensures.text
    (e.limit-is ∙ h.0, subst (λ (n : ℕ). PassesLimit (torus_job c.args.prime (c.args.number + 6)) (10 ^ 8) n) (sym e.count-is) h.1)
