use Rattle.std.{proofs.Common.{ℕ, List, [], lit<, map, subst, sym, true}, specs.List.AllZip}
use Rattle.linear_law.specs.Names.{Each, IsAscending}
use Rattle.report_law.specs.{Types.{ComplexBlock, MapBlock}, Names.{classes_of, IsComplexPart, IsMapPart}}
use Rattle.complex_file.specs.Names.{content}
use Rattle.job_report.{specs.Jobs.{CanBeIndexed, HasStored, IsFreeMap, IsKnown}, proofs.JobLemmas.{ascending-facets, free-maps, is-served, job-fits}, proofs.PartLemmas.whole-report}
use Rattle.job_report.proofs.whole.report_of.Goals as goal

pub complex_parts-requires : goal.complex_parts-requires
complex_parts-requires g c =
    let p : ℕ = g.row.P in
    let job = c.args.job.now in
    let served = is-served job.prime p job.complexes job.maps job.kept c.requires.prime in
    let fits = job-fits job.prime job.complexes job.maps job.kept in
    let e = sym c.as_slice-blocks.ensures in (
      lit< tt,
      (
        served,
        (
          subst (λ (bs : List ComplexBlock). Each (λ b. CanBeIndexed b.facets) bs) e fits,
          (subst (λ (bs : List ComplexBlock). AllZip (IsKnown g.B.Basis.is_of) bs c.args.known.now) e c.requires.known, subst (λ (bs : List ComplexBlock). Each (HasStored p c.args.table.now) bs) e c.requires.stored),
        ),
      ),
    )

pub map_parts-requires : goal.map_parts-requires
map_parts-requires g c =
    let p : ℕ = g.row.P in
    let job = c.args.job.now in
    let served = is-served job.prime p job.complexes job.maps job.kept c.requires.prime in
    let fits = job-fits job.prime job.complexes job.maps job.kept in
    let e = sym c.as_slice-blocks.ensures in
    record {
      prime = served;
      ascending = subst (λ (bs : List ComplexBlock). Each (λ b. Each IsAscending b.facets) bs) e (ascending-facets job.complexes fits);
      maps = subst (λ (ms : List MapBlock). Each (IsFreeMap c.as_slice-blocks.result.now) ms) (sym c.as_slice.ensures)
          (subst (λ (bs : List ComplexBlock). Each (IsFreeMap bs) job.maps) e (free-maps job.prime job.complexes job.maps job.kept));
      known = subst (λ (bs : List ComplexBlock). AllZip (IsKnown g.B.Basis.is_of) bs c.args.known.now) e c.requires.known;
    }

pub returns : goal.returns
returns g c = λ form d.
    let p : ℕ = g.row.P in
    let job = c.args.job.now in
    let cs = c.in_ok-complex_parts.field-0 in
    let ms = c.in_ok-map_parts.field-0 in
    let all = map classes_of cs in
    whole-report form (content job) cs ms p g.B.Basis.keeps c.requires.prime d
    (subst (λ (bs : List ComplexBlock). AllZip (IsComplexPart true g.B.Basis.keeps p) bs cs) c.as_slice-blocks.ensures c.in_ok-complex_parts.ensures.parts)
    (subst (λ (bs : List MapBlock). AllZip (IsMapPart g.B.Basis.keeps (record { prime = p; complexes = job.complexes; maps = [] }) all) bs ms) c.as_slice.ensures
    (subst (λ (bs : List ComplexBlock). AllZip (IsMapPart g.B.Basis.keeps (record { prime = p; complexes = bs; maps = [] }) all) c.as_slice.result.now ms) c.as_slice-blocks.ensures
    (c.in_ok-map_parts.ensures all c.in_ok-complex_parts.ensures.classes)))
