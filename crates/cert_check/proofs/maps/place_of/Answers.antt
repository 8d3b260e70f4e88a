use Rattle.std.{proofs.Common.{◌∙◌, sym, ap}, specs.Str.bytes_eq}
use Rattle.cert_check.proofs.PartLemmas.{found_part, not_yet_part}
use Rattle.cert_check.proofs.maps.place_of.Goals as goal

pub returns-then-eq-clause-named : goal.returns-then-eq-clause-named
returns-then-eq-clause-named c = λ d.
    let name = c.args.name.now in
    found_part c.args.parts.now c.loop-place.place c.index-parts-place.result name c.loop-place-test.true c.index-parts-place.is (ap (bytes_eq name) (sym c.bytes.ensures) ∙ sym c.if-eq.ensures) c.loop-place.invariant d

pub loop-place-preserved : goal.loop-place-preserved
loop-place-preserved c =
    let name = c.args.name.now in
    not_yet_part c.args.parts.now c.loop-place.place c.index-parts-place.result name c.loop-place-test.true c.index-parts-place.is (ap (bytes_eq name) (sym c.bytes.ensures) ∙ sym c.if-eq.ensures) c.loop-place.invariant
