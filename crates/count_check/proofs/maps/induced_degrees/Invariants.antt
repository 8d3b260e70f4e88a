use Rattle.std.{proofs.Common.{◌≡◌, take}, specs.List.filter}
use Rattle.report_law.specs.Names.{degrees}
use Rattle.count_check.specs.Columns.{is_induced}
use Rattle.count_check.proofs.maps.induced_degrees.Given as goal

abbrev pub invariant-loop-q : goal.invariant-loop-q
invariant-loop-q l = l.found.items ≡ filter (is_induced l.from l.to) (take l.q (degrees l.from))
