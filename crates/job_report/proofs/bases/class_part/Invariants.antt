use Rattle.std.proofs.Common.{◌≡◌, take}
use Rattle.complex_index.specs.Names.{level}
use Rattle.cohomology.specs.Names.{chains_at}
use Rattle.job_report.proofs.bases.class_part.Given as goal

abbrev pub invariant-loop-class : goal.invariant-loop-class
invariant-loop-class g l = l.chains.items ≡ chains_at {p = g.row.P} (level l.index l.n) (take l.class-index l.classes)
