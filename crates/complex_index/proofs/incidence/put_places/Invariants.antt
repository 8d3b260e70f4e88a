use Rattle.complex_index.proofs.FacePlaces.{IsAdding}
use Rattle.complex_index.proofs.incidence.put_places.Given as goal

abbrev pub invariant-loop-at : goal.invariant-loop-at
invariant-loop-at l = IsAdding l.lower l.simplex l.at l.fn.places.items l.places.items
