use Rattle.std.proofs.Common.{◌≡◌, ◌^◌, ℕ, Err, ap, codes, subst}
use Rattle.complex_file.specs.Names.{Spelled}
use Rattle.job_report.specs.declared.refused.MakeRefused.TheVariants.{TooManyTerms}
use Rattle.report_law.specs.Names.{PassesLimit}
use Rattle.sample_torus.specs.{Samples.IsSample, Torus.torus_facets}
use Rattle.sample_torus.proofs.sizes.make_sample.Goals as goal

pub returns-in-Ok-clause-sample : goal.returns-in-Ok-clause-sample
returns-in-Ok-clause-sample c =
    let e = c.in_ok-job.ensures in
    let facets = torus_facets c.args.m in
    subst (λ (p : ℕ). IsSample p facets c.in_ok-shown-in-Ok.field-0) (ap (λ (j : Spelled). j.prime) e) (c.in_ok-shown-in-Ok.ensures (record { name = codes "torus"; facets = facets }) (ap (λ (j : Spelled). j.complexes) e))

pub returns-clause-refused : goal.returns-clause-refused
returns-clause-refused c count limit f =
    let g : c.in-Err.refused ≡ TooManyTerms count limit = cc f in
    let h = c.in-Err.ensures.refused count limit (ap Err g) in
    (h.0, subst (λ (j : Spelled). PassesLimit j (10 ^ 8) count) c.in_ok-job.ensures h.1)
