use Rattle.std.{proofs.Common.{List, lit<, subst, sym}, specs.List.AllZip}
use Rattle.cohomology.specs.Names.{AreClassesOf, IsCohomologyOf}
use Rattle.job_report.{specs.declared.known.Known.Known, specs.Jobs.IsKnown, proofs.JobLemmas.is-served, proofs.PartLemmas.deeper-known}
use Rattle.job_report.proofs.whole.finished.Goals as goal

pub deepened-requires : goal.deepened-requires
deepened-requires g c = (let job = c.args.job.now in is-served job.prime g.row.P job.complexes job.maps job.kept c.requires.prime)

pub report_of-requires : goal.report_of-requires
report_of-requires g c =
    let p = g.row.P in
    let blocks = c.args.job.now.complexes in (
      lit< tt,
      (
        c.requires.prime,
        (
          subst (λ (ks : List (Known _)). AllZip (IsKnown (IsCohomologyOf p)) blocks ks) (sym c.deref.ensures.value)
              (deeper-known (AreClassesOf p) (IsCohomologyOf p) blocks c.args.known.items c.in_ok-known-in-Certificate.known.items c.requires.known c.in_ok-known-in-Certificate.ensures),
          c.requires.stored,
        ),
      ),
    )
