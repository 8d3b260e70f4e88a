use Rattle.complex_index.specs.Names.{level}
use Rattle.may_steenrod.{specs.Cochains.cochain_in, proofs.FrontLemmas.IsAdded}
use Rattle.may_steenrod.proofs.product.add_front.Given as goal

abbrev pub invariant-loop-place : goal.invariant-loop-place
invariant-loop-place g l = IsAdded g.row.P (level l.beta.index.now l.degree) (cochain_in l.beta.index.now l.beta.cochain.now.degree l.beta.cochain.now.row) l.front l.value l.initial.pairs.items l.pairs.items l.place
