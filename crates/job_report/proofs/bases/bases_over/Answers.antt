use Rattle.std.{proofs.Common.{ℕ, List, false, subst, sym}, specs.List.AllZip}
use Rattle.linear_law.specs.Names.{Each}
use Rattle.report_law.specs.{Types.{ComplexBlock, MapPart}, Names.{IsComplexPart, IsReportOf}}
use Rattle.complex_file.specs.Names.{content}
use Rattle.report.specs.declared.form.Form.TheVariants.{Basis}
use Rattle.job_report.{specs.Jobs.CanBeIndexed, proofs.JobLemmas.{is-served, job-fits}, proofs.PartLemmas.bases-report}
use Rattle.job_report.proofs.bases.bases_over.Goals as goal

pub basis_parts-requires : goal.basis_parts-requires
basis_parts-requires g c =
    let p : ℕ = g.row.P in
    let job = c.args.job.now in
    let served = is-served job.prime p job.complexes job.maps job.kept c.requires in
    let fits = job-fits job.prime job.complexes job.maps job.kept in
    record { prime = served; complexes = subst (λ (bs : List ComplexBlock). Each (λ b. CanBeIndexed b.facets) bs) (sym c.as_slice.ensures) fits }

pub returns : goal.returns
returns g c =
    let p : ℕ = g.row.P in
    let job = c.args.job.now in
    let cs = c.in_ok-basis_parts.field-0 in
    subst (λ (ms : List MapPart). IsReportOf Basis (content job) (record { prime = p; complexes = cs; maps = ms })) (sym c.new.ensures)
    (bases-report (content job) cs p c.requires (subst (λ (bs : List ComplexBlock). AllZip (IsComplexPart false false p) bs cs) c.as_slice.ensures c.in_ok-basis_parts.ensures))
