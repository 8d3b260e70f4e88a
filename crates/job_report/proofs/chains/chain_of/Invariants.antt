use Rattle.std.proofs.Common.{◌≡◌, take}
use Rattle.simplicial_law.specs.Names.{terms_of}
use Rattle.complex_index.specs.Names.{level}
use Rattle.job_report.proofs.chains.chain_of.Given as goal

abbrev pub invariant-loop-place : goal.invariant-loop-place
invariant-loop-place g l = l.terms.items ≡ terms_of (level l.index l.n) (take l.place-index l.place-items)
