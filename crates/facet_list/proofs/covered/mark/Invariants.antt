use Rattle.std.proofs.Common.{take}
use Rattle.facet_list.specs.Covered.{AreMarked}
use Rattle.facet_list.proofs.covered.mark.Given as goal

abbrev pub invariant-loop-place : goal.invariant-loop-place
invariant-loop-place l = AreMarked l.fn.covered (take l.place-index l.places) l.covered
