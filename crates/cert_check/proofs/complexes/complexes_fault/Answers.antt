use Rattle.std.proofs.Common.{◌≡◌, ◌+◌, ◌∙◌, lit<, sym, ap, subst, arith, [], take}
use Rattle.linear_law.proofs.Names.{each_get_or, length_alike}
use Rattle.report.specs.declared.complex.ComplexPart.{ComplexPart}
use Rattle.report_law.specs.Names.{ranks_of}
use Rattle.certificate_law.specs.Names.{Asks, behind, complex_stated}
use Rattle.certificate_walk.{specs.Names.complex_lines, proofs.Names.{complex_length, rest_less, rest_next, behind_end, behind_more, behind_stop, walk_passed}}
use Rattle.line_difference.specs.Elements.{AreStored}
use Rattle.count_check.proofs.TotalLemmas.{zip_get}
use Rattle.cert_check.specs.Ready.{IsReady}
use Rattle.cert_check.proofs.complexes.complexes_fault.Goals as goal

pub bounds-indexes-place : goal.bounds-indexes-place
bounds-indexes-place g c = let l = length_alike (IsReady g.row.P c.args.condition) c.args.indexes.now c.args.parts.now c.requires.ready in let t = c.loop-place-test.true in omega (arith, l, t)

pub complex_fault-requires : goal.complex_fault-requires
complex_fault-requires g c = (
  lit< tt,
  (
    c.requires.prime,
    (
      c.requires.low,
      (
        c.requires.high,
        (
          zip_get (IsReady g.row.P c.args.condition) c.args.indexes.now c.args.parts.now c.loop-place.place c.index-indexes-place.result c.index-parts-place.result c.requires.ready c.loop-place-test.true c.index-indexes-place.is c.index-parts-place.is,
          (
            (λ above. subst (λ (k : ComplexPart). AreStored g.row.P c.args.table.now (ranks_of k)) (sym c.index-parts-place.is) (each_get_or (λ (k : ComplexPart). AreStored g.row.P c.args.table.now (ranks_of k)) c.args.parts.now c.loop-place.place c.index-parts-place.result c.loop-place-test.true (c.requires.stored above))),
            (let n = rest_next complex_lines c.args.parts.now c.loop-place.place c.index-parts-place.result c.loop-place-test.true c.index-parts-place.is in let e = c.loop-place.invariant.counted in let room = c.requires.room in omega (arith, n, e, room)),
          ),
        ),
      ),
    ),
  ),
)

pub returns-in_err-at : goal.returns-in_err-at
returns-in_err-at g c =
    let e = c.in_err-at.field-0.0 in
    walk_passed (Asks g.row.P c.args.condition) c.args.before (behind complex_stated [] c.args.parts.now) e c.from_residual.result c.from_residual.ensures.1
    (behind_stop (Asks g.row.P c.args.condition) complex_stated c.args.parts.now c.args.before c.loop-place.at c.loop-place.place c.index-parts-place.result e c.loop-place-test.true c.index-parts-place.is (c.in_err-at.ensures (take c.loop-place.place c.args.parts.now)) c.loop-place.invariant.walked)

pub loop-place-preserved : goal.loop-place-preserved
loop-place-preserved g c =
    let w = c.in_ok-at.ensures (take c.loop-place.place c.args.parts.now) in
    let next : c.in_ok-at.at ≡ c.loop-place.at + complex_lines c.index-parts-place.result = w.0 ∙ ap (λ n. c.loop-place.at + n) (complex_length (take c.loop-place.place c.args.parts.now) c.index-parts-place.result) in
    record {
      counted = rest_less complex_lines c.args.parts.now c.loop-place.place c.index-parts-place.result c.loop-place.at c.in_ok-at.at _ c.loop-place-test.true c.index-parts-place.is next c.loop-place.invariant.counted;
      walked = behind_more (Asks g.row.P c.args.condition) complex_stated c.args.parts.now c.args.before c.loop-place.at c.in_ok-at.at c.loop-place.place c.index-parts-place.result c.loop-place-test.true c.index-parts-place.is w c.loop-place.invariant.walked;
    }

pub returns : goal.returns
returns g c = behind_end (Asks g.row.P c.args.condition) complex_stated c.args.parts.now c.args.before c.loop-place.at c.loop-place.place c.loop-place-test.false c.loop-place.invariant.walked
