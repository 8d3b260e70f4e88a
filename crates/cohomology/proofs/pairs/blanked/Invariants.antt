use Rattle.cohomology.specs.Names.{AreBlanked}
use Rattle.cohomology.proofs.pairs.blanked.Given as goal

abbrev pub invariant-loop-row : goal.invariant-loop-row
invariant-loop-row g l = AreBlanked l.marks l.yielded l.kept.items
