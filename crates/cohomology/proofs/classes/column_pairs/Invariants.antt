use Rattle.cohomology.specs.Names.{IsColumnRow}
use Rattle.cohomology.proofs.classes.column_pairs.Given as goal

abbrev pub invariant-loop-at : goal.invariant-loop-at
invariant-loop-at g l = IsColumnRow l.table l.i l.at l.pairs.items
