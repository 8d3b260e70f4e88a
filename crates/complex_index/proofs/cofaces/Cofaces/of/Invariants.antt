use Rattle.std.proofs.Common.{take}
use Rattle.complex_index.{specs.Names.lists_of, proofs.Bounds.AreParts}
use Rattle.complex_index.proofs.cofaces.Cofaces.of.Given as goal

abbrev pub invariant-loop-list : goal.invariant-loop-list
invariant-loop-list l = AreParts l.bounds.items l.items.items (lists_of (take l.list-index l.lists))
