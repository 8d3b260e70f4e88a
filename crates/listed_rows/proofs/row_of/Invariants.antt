use Rattle.std.proofs.Common.{take}
use Rattle.complex_index.specs.Names.{level}
use Rattle.listed_rows.specs.ListedChains.{IsRowOfChain}
use Rattle.listed_rows.proofs.row_of.Given as goal

abbrev pub invariant-loop-term : goal.invariant-loop-term
invariant-loop-term g l = IsRowOfChain (level l.index l.n) (take l.term-index l.chain) l.row
