use Rattle.std.{proofs.Common.{List, [], take}, specs.List.AllZip}
use Rattle.report_law.specs.Names.{Classes, IsMapPart}
use Rattle.job_report.specs.Jobs.{AreAllListed}
use Rattle.job_report.proofs.maps.map_parts.Given as goal

abbrev pub invariant-loop-map : goal.invariant-loop-map
invariant-loop-map g l = (all : List Classes) → AreAllListed {p = g.row.P} g.B.Basis.classes l.known all
    → AllZip (IsMapPart g.B.Basis.keeps (record { prime = g.row.P; complexes = l.complexes; maps = [] }) all) (take l.map-index l.maps) l.parts.items
