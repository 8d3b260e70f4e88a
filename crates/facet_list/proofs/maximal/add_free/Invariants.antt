use Rattle.facet_list.specs.Covered.{AddsBelow}
use Rattle.facet_list.proofs.maximal.add_free.Given as goal

abbrev pub invariant-loop-place : goal.invariant-loop-place
invariant-loop-place l = AddsBelow l.index l.n l.place l.fn.found.keys l.found.keys
