use Rattle.std.proofs.Common.{◌≡◌, ◌+◌, ◌∙◌, sym, ap, subst, arith, [], Ok, Err, take}
use Rattle.linear_law.proofs.Names.{each_get_or, length_alike}
use Rattle.certificate_law.specs.Names.{Asks, complex_named, behind, map_stated}
use Rattle.certificate_walk.{specs.Names.map_lines, proofs.Names.{map_length, rest_less, behind_end, behind_more, behind_stop, walk_passed}}
use Rattle.count_check.proofs.TotalLemmas.{zip_get}
use Rattle.cert_check.{specs.Ready.{IsMapReady, IsReady}, proofs.ReadyLemmas.{counts_between, walk_between}}
use Rattle.cert_check.proofs.maps.maps_fault.Goals as goal

pub bounds-indexes-from : goal.bounds-indexes-from
bounds-indexes-from g c = let l = length_alike (IsReady g.row.P (c.args.condition + 1)) c.args.indexes.now c.args.parts.now c.requires.ready in let t = c.place_of-from.ensures.inside in omega (arith, l, t)

pub bounds-indexes-to : goal.bounds-indexes-to
bounds-indexes-to g c = let l = length_alike (IsReady g.row.P (c.args.condition + 1)) c.args.indexes.now c.args.parts.now c.requires.ready in let t = c.place_of-to.ensures.inside in omega (arith, l, t)

pub map_fault-requires-clause-from_ready : goal.map_fault-requires-clause-from_ready
map_fault-requires-clause-from_ready g c = zip_get (IsReady g.row.P (c.args.condition + 1)) c.args.indexes.now c.args.parts.now c.place_of-from.result c.index-indexes-from.result c.index-parts-from.result c.requires.ready c.place_of-from.ensures.inside c.index-indexes-from.is c.index-parts-from.is

pub map_fault-requires-clause-to_ready : goal.map_fault-requires-clause-to_ready
map_fault-requires-clause-to_ready g c = zip_get (IsReady g.row.P (c.args.condition + 1)) c.args.indexes.now c.args.parts.now c.place_of-to.result c.index-indexes-to.result c.index-parts-to.result c.requires.ready c.place_of-to.ensures.inside c.index-indexes-to.is c.index-parts-to.is

pub map_fault-requires-clause-counts : goal.map_fault-requires-clause-counts
map_fault-requires-clause-counts g c = λ above ds e. counts_between g.row.P ds e c.map-item.result (c.index-parts-from.is ∙ c.place_of-from.ensures.named c.index-parts-from.result ∙ ap (complex_named c.args.parts.now) c.bytes.ensures) (c.index-parts-to.is ∙ c.place_of-to.ensures.named c.index-parts-to.result ∙ ap (complex_named c.args.parts.now) c.bytes-in-loop-map.ensures) ((subst (IsMapReady g.row.P c.args.condition c.args.parts.now) (sym c.map-item.is) (each_get_or (IsMapReady g.row.P c.args.condition c.args.parts.now) c.args.maps.now c.loop-map.map-index c.map-item.result c.loop-map-test.true c.requires.maps)).counts above ds e)

pub returns-in_err-at : goal.returns-in_err-at
returns-in_err-at g c =
    let e = c.in_err-at.field-0.0 in
    walk_passed (Asks g.row.P c.args.condition) c.args.before (behind (map_stated c.args.parts.now) [] c.args.maps.now) e c.from_residual.result c.from_residual.ensures.1
    (behind_stop (Asks g.row.P c.args.condition) (map_stated c.args.parts.now) c.args.maps.now c.args.before c.loop-map.at c.loop-map.map-index c.map-item.result e c.loop-map-test.true c.map-item.is (walk_between (Asks g.row.P c.args.condition) c.loop-map.at (Err e) c.args.parts.now (take c.loop-map.map-index c.args.maps.now) c.map-item.result (c.index-parts-from.is ∙ c.place_of-from.ensures.named c.index-parts-from.result ∙ ap (complex_named c.args.parts.now) c.bytes.ensures) (c.index-parts-to.is ∙ c.place_of-to.ensures.named c.index-parts-to.result ∙ ap (complex_named c.args.parts.now) c.bytes-in-loop-map.ensures) (c.in_err-at.ensures c.args.parts.now (take c.loop-map.map-index c.args.maps.now))) c.loop-map.invariant.walked)

pub loop-map-preserved : goal.loop-map-preserved
loop-map-preserved g c =
    let w = (walk_between (Asks g.row.P c.args.condition) c.loop-map.at (Ok c.in_ok-at.at) c.args.parts.now (take c.loop-map.map-index c.args.maps.now) c.map-item.result (c.index-parts-from.is ∙ c.place_of-from.ensures.named c.index-parts-from.result ∙ ap (complex_named c.args.parts.now) c.bytes.ensures) (c.index-parts-to.is ∙ c.place_of-to.ensures.named c.index-parts-to.result ∙ ap (complex_named c.args.parts.now) c.bytes-in-loop-map.ensures) (c.in_ok-at.ensures c.args.parts.now (take c.loop-map.map-index c.args.maps.now))) in
    let next : c.in_ok-at.at ≡ c.loop-map.at + map_lines c.map-item.result = w.0 ∙ ap (λ n. c.loop-map.at + n) (map_length (complex_named c.args.parts.now c.map-item.result.from) (complex_named c.args.parts.now c.map-item.result.to) c.args.parts.now (take c.loop-map.map-index c.args.maps.now) c.map-item.result) in
    record {
      counted = rest_less map_lines c.args.maps.now c.loop-map.map-index c.map-item.result c.loop-map.at c.in_ok-at.at _ c.loop-map-test.true c.map-item.is next c.loop-map.invariant.counted;
      walked = behind_more (Asks g.row.P c.args.condition) (map_stated c.args.parts.now) c.args.maps.now c.args.before c.loop-map.at c.in_ok-at.at c.loop-map.map-index c.map-item.result c.loop-map-test.true c.map-item.is w c.loop-map.invariant.walked;
    }

pub returns : goal.returns
returns g c = behind_end (Asks g.row.P c.args.condition) (map_stated c.args.parts.now) c.args.maps.now c.args.before c.loop-map.at c.loop-map.map-index c.loop-map-test.false c.loop-map.invariant.walked
