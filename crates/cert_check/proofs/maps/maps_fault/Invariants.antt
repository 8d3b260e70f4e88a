use Rattle.std.proofs.Common.{◌≡◌, ◌+◌, [], drop, sum_by, take}
use Rattle.certificate_law.specs.Names.{Asks, behind, map_stated}
use Rattle.certificate_walk.{specs.Names.map_lines, proofs.Names.Leads}
use Rattle.cert_check.proofs.maps.maps_fault.Given as goal

abbrev pub invariant-loop-map : goal.invariant-loop-map
invariant-loop-map g l = record {
  counted : l.at + sum_by map_lines (drop l.map-index l.maps) ≡ l.before + sum_by map_lines l.maps;
  walked : Leads (Asks g.row.P l.condition) l.before (behind (map_stated l.parts) [] l.maps) l.at (behind (map_stated l.parts) (take l.map-index l.maps) (drop l.map-index l.maps));
}
