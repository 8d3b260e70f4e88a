use Rattle.std.proofs.Common.{◌∙◌, ℕ, List, ap, arith, get_or, subst, sym}
use Rattle.linear_law.proofs.Names.{length_alike}
use Rattle.simplicial_law.proofs.Names.{get_or_any}
use Rattle.report_law.specs.{Types.{ComplexBlock, Sent}, Names.AreOrderedSends}
use Rattle.complex_file.specs.Names.{facets_at, image}
use Rattle.job_report.{specs.Jobs.IsKnown, proofs.JobLemmas.map-in, proofs.MapLemmas.{known-at, map-is}}
use Rattle.ordered_sends.{specs.Sends.IsOnce, proofs.SendLemmas.once}
use Rattle.job_report.proofs.maps.map_part.Goals as goal

pub map_of-requires : goal.map_of-requires
map_of-requires g c =
    let cs = c.args.complexes.now in
    let m = c.args.block.now in
    subst IsOnce (sym c.as_slice-sends.ensures) (once (facets_at cs m.from) (facets_at cs m.to) m.sends c.requires.map.free)

pub ordered_sends-requires : goal.ordered_sends-requires
ordered_sends-requires g c =
    let cs = c.args.complexes.now in
    let m = c.args.block.now in
    subst IsOnce (sym c.as_slice-sends.ensures) (once (facets_at cs m.from) (facets_at cs m.to) m.sends c.requires.map.free)

pub offset_bounds-known-from : goal.offset_bounds-known-from
offset_bounds-known-from g c = (let e = length_alike (IsKnown g.B.Basis.is_of) c.args.complexes.now c.args.known.now c.requires.known in let l = c.requires.map.from in omega (arith, e, l))

pub bounds-known-from : goal.bounds-known-from
bounds-known-from g c = (let e = length_alike (IsKnown g.B.Basis.is_of) c.args.complexes.now c.args.known.now c.requires.known in let l = c.requires.map.from in omega (arith, e, l))

pub offset_bounds-known-to : goal.offset_bounds-known-to
offset_bounds-known-to g c = (let e = length_alike (IsKnown g.B.Basis.is_of) c.args.complexes.now c.args.known.now c.requires.known in let l = c.requires.map.to in omega (arith, e, l))

pub bounds-known-to : goal.bounds-known-to
bounds-known-to g c = (let e = length_alike (IsKnown g.B.Basis.is_of) c.args.complexes.now c.args.known.now c.requires.known in let l = c.requires.map.to in omega (arith, e, l))

pub induced_parts-requires : goal.induced_parts-requires
induced_parts-requires g c =
    let p : ℕ = g.row.P in
    let cs = c.args.complexes.now in
    let known = c.args.known.now in
    let classes = g.B.Basis.classes in
    let m = c.args.block.now in
    let x = known-at p g.B.Basis.keeps g.B.Basis.is_of classes g.met.B.Basis.canonical cs known c.requires.known m.from c.index-known-from.result c.requires.map.from c.index-known-from.is in
    let y = known-at p g.B.Basis.keeps g.B.Basis.is_of classes g.met.B.Basis.canonical cs known c.requires.known m.to c.index-known-to.result c.requires.map.to c.index-known-to.is in
    record {
      prime = c.requires.prime;
      complex = record { facets = facets_at cs m.from; index = x.0 };
      source_of = x.1;
      target_of = y.1;
      map = map-in (λ v. get_or c.in_ok-map.map v 0) cs m c.index-known-from.result.index c.index-known-to.result.index c.requires.ascending c.requires.map x.0 y.0
          (λ v. c.in_ok-map.ensures v ∙ ap (λ (ss : List Sent). image ss v) c.as_slice-sends.ensures);
    }

pub returns : goal.returns
returns g c =
    let p : ℕ = g.row.P in
    let cs = c.args.complexes.now in
    let known = c.args.known.now in
    let classes = g.B.Basis.classes in
    let m = c.args.block.now in
    let count = length_alike (IsKnown g.B.Basis.is_of) cs known c.requires.known in
    map-is p g.B.Basis.keeps g.B.Basis.is_of classes g.met.B.Basis.canonical cs known c.requires.known m _ (λ v. get_or c.in_ok-map.map v 0) c.index-known-from.result c.index-known-to.result c.requires.map count
    c.index-known-from.is c.index-known-to.is (λ v. c.in_ok-map.ensures v ∙ ap (λ (ss : List Sent). image ss v) c.as_slice-sends.ensures)
    (c.in_ok-new.ensures ∙ c.bytes.ensures)
    (c.in_ok-new-2.ensures ∙ c.bytes-2.ensures ∙ ap (λ (b : ComplexBlock). b.name) (get_or_any cs m.from _ _ c.requires.map.from))
    (c.in_ok-new-3.ensures ∙ c.bytes-3.ensures ∙ ap (λ (b : ComplexBlock). b.name) (get_or_any cs m.to _ _ c.requires.map.to))
    (subst (λ (ss : List Sent). AreOrderedSends ss c.in_ok-ordered_sends.field-0) c.as_slice-sends.ensures c.in_ok-ordered_sends.ensures)
    c.in_ok-induced.ensures
