use Rattle.std.proofs.Common.{ℕ, List, subst, sym}
use Rattle.linear_law.specs.Names.{Each}
use Rattle.complex_file.specs.{declared.block.ComplexBlock.ComplexBlock, Names.content}
use Rattle.job_report.{specs.Jobs.CanBeIndexed, proofs.JobLemmas.{is-served, job-fits}}
use Rattle.bockstein_text.{specs.Names.{Adds, AreBocksteins, bocksteins_text}, proofs.Listed.job_text}
use Rattle.bockstein_text.proofs.text.print_over.Goals as goal

pub add_complexes-requires : goal.add_complexes-requires
add_complexes-requires g c =
    let job = c.args.job.now in
    let fits = job-fits job.prime job.complexes job.maps job.kept in
    record { prime = is-served job.prime g.row.P job.complexes job.maps job.kept c.requires; complexes = subst (λ (bs : List ComplexBlock). Each (λ b. CanBeIndexed b.facets) bs) (sym c.as_slice.ensures) fits }

pub returns : goal.returns
returns g c =
    job_text (content c.args.job.now) g.row.P c.new-text.result _ _ _ _ c.requires c.new-text.ensures c.in_ok-extend.ensures.ok c.in_ok-spell.ensures
    (subst (λ (bs : List ComplexBlock). Adds bocksteins_text (AreBocksteins g.row.P) bs c.spell.new.text c.add_complexes.new.text) c.as_slice.ensures c.in_ok-add_complexes.ensures) c.in_ok-spell-2.ensures
