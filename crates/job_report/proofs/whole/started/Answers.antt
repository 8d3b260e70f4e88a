use Rattle.std.{proofs.Common.{◌≡◌, ℕ, List, lit<, subst, sym, None, Some}, specs.List.AllZip}
use Rattle.linear_law.specs.Names.{Each}
use Rattle.report_law.specs.{Types.{ComplexBlock, Sizes}, Names.{AreSizes, passing_sum}}
use Rattle.term_total.specs.Names.{IsPart}
use Rattle.job_report.{specs.declared.known.Known.Known, specs.Jobs.{CanBeIndexed, IsKnown, IsSize}, proofs.JobLemmas.{ascending-facets, is-served, job-fits, same-error}, proofs.PartLemmas.{all-parts, all-stored, known-sizes}}
use Rattle.line_difference.specs.Elements.{AreStored}
use Rattle.job_report.proofs.whole.started.Goals as goal

pub known_of-requires : goal.known_of-requires
known_of-requires g c =
    let p : ℕ = g.row.P in
    let job = c.args.job.now in
    let served = is-served job.prime p job.complexes job.maps job.kept c.requires.prime in
    let fits = job-fits job.prime job.complexes job.maps job.kept in
    record { prime = served; complexes = subst (λ (bs : List ComplexBlock). Each (λ b. CanBeIndexed b.facets) bs) (sym c.as_slice.ensures) fits }

pub charged-requires : goal.charged-requires
charged-requires g c =
    let p : ℕ = g.row.P in
    let job = c.args.job.now in (
      lit< tt,
      (
        is-served job.prime p job.complexes job.maps job.kept c.requires.prime,
        (
          c.requires.low,
          subst (Each IsPart) (sym c.deref-2.ensures.value) (all-parts p g.B.Basis.is_of g.B.Basis.classes g.met.B.Basis.canonical c.deref.result.now c.in_ok-sizes.sizes.items c.in_ok-sizes.ensures),
        ),
      ),
    )

pub returns-in-Ok : goal.returns-in-Ok
returns-in-Ok g c =
    let p : ℕ = g.row.P in
    let job = c.args.job.now in
    let fits = job-fits job.prime job.complexes job.maps job.kept in
    let zs = c.in_ok-sizes.sizes.items in
    let sizes = known-sizes p g.B.Basis.is_of g.B.Basis.classes g.met.B.Basis.canonical job.complexes _ c.in_ok-known.known.items _ zs c.as_slice.ensures c.deref.ensures.value fits c.in_ok-known.ensures c.in_ok-sizes.ensures in
    record {
      known = subst (λ (bs : List ComplexBlock). AllZip (IsKnown g.B.Basis.is_of) bs c.in_ok-known.known.items) c.as_slice.ensures c.in_ok-known.ensures;
      stored = all-stored p c.in-Ok.table job.complexes zs (is-served job.prime p job.complexes job.maps job.kept c.requires.prime) (ascending-facets job.complexes fits) sizes
          (subst (Each (λ (z : Sizes). AreStored p c.in-Ok.table z.ranks)) c.deref-2.ensures.value c.in-Ok.ensures.stored);
      within = record {
        sizes = zs;
        are = subst (λ (q : ℕ). AllZip (λ (b : ComplexBlock) (z : Sizes). AreSizes q b.facets z) job.complexes zs) (sym c.requires.prime) sizes;
        within = subst (λ (q : ℕ). passing_sum q c.args.limit zs ≡ None) (sym c.requires.prime) (subst (λ (us : List Sizes). passing_sum p c.args.limit us ≡ None) c.deref-2.ensures.value c.in-Ok.ensures.within);
      };
      refused = λ count most e. absurd cc;
    }

pub returns-in-Err : goal.returns-in-Err
returns-in-Err g c =
    let p : ℕ = g.row.P in
    let job = c.args.job.now in
    let zs = c.in_ok-sizes.sizes.items in
    let sizes = known-sizes p g.B.Basis.is_of g.B.Basis.classes g.met.B.Basis.canonical job.complexes _ c.in_ok-known.known.items _ zs c.as_slice.ensures c.deref.ensures.value (job-fits job.prime job.complexes job.maps job.kept)
    c.in_ok-known.ensures c.in_ok-sizes.ensures in
    record {
      known = tt;
      stored = tt;
      within = tt;
      refused = λ count most e.
          let k = c.in-Err.ensures.refused count most (same-error _ _ e) in (
            k.0,
            record {
              sizes = zs;
              are = subst (λ (q : ℕ). AllZip (λ (b : ComplexBlock) (z : Sizes). AreSizes q b.facets z) job.complexes zs) (sym c.requires.prime) sizes;
              passes = subst (λ (q : ℕ). passing_sum q c.args.limit zs ≡ Some count) (sym c.requires.prime) (subst (λ (us : List Sizes). passing_sum p c.args.limit us ≡ Some count) c.deref-2.ensures.value k.1);
            },
          );
    }
