use Rattle.facet_list.proofs.MarkLemmas.{AreFree}
use Rattle.facet_list.proofs.maximal.maximal_facets.Given as goal

abbrev pub invariant-loop-n : goal.invariant-loop-n
invariant-loop-n l = AreFree l.index l.n l.found.keys
