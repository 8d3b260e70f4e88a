use Rattle.std.proofs.Common.{[]}
use Rattle.report_law.specs.Names.{IsMapPart}
use Rattle.job_report.{specs.Jobs.IsFreeMap, proofs.Zips.{each-item, zip-more}}
use Rattle.job_report.proofs.maps.map_parts.Goals as goal

pub map_part-requires : goal.map_part-requires
map_part-requires g c = record {
  prime = c.requires.prime;
  ascending = c.requires.ascending;
  map = each-item (IsFreeMap c.args.complexes.now) c.args.maps.now c.loop-map.map-index c.map-item.result c.loop-map-test.true c.map-item.is c.requires.maps;
  known = c.requires.known;
}

pub loop-map-preserved : goal.loop-map-preserved
loop-map-preserved g c = λ all h.
    zip-more (IsMapPart g.B.Basis.keeps (record { prime = g.row.P; complexes = c.args.complexes.now; maps = [] }) all) c.args.maps.now c.loop-map.parts.items _ c.loop-map.map-index c.map-item.result _ c.loop-map-test.true c.map-item.is
    (c.loop-map.invariant all h) (c.in_ok-map_part.ensures all h) c.in_ok-push.ensures.items
