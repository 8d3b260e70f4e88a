use Rattle.std.proofs.Common.{take}
use Rattle.complex_index.specs.Names.{level}
use Rattle.may_steenrod.specs.{Cochains.cochain_in, Fronts.AddsFronts}
use Rattle.may_steenrod.proofs.product.product_pairs.Given as goal

abbrev pub invariant-loop-entry : goal.invariant-loop-entry
invariant-loop-entry g l =
    AddsFronts g.row.P (level l.beta.index.now l.alpha.degree) (level l.beta.index.now l.degree) (cochain_in l.beta.index.now l.beta.cochain.now.degree l.beta.cochain.now.row) (take l.entry-index l.alpha.row) l.pairs.items
