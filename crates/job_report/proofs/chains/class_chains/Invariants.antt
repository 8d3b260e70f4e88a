use Rattle.std.proofs.Common.{◌≡◌, take}
use Rattle.complex_index.specs.Names.{level}
use Rattle.cohomology.specs.Names.{chains_at}
use Rattle.job_report.proofs.chains.class_chains.Given as goal

abbrev pub invariant-loop-i : goal.invariant-loop-i
invariant-loop-i g l = l.chains.items ≡ chains_at {p = g.row.P} (level l.index l.n) (take l.i (g.B.Basis.classes l.basis l.n))
