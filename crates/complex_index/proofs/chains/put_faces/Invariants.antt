use Rattle.std.proofs.Common.{◌≡◌, ◌++◌, false, drop}
use Rattle.complex_index.specs.Names.{signed_places}
use Rattle.complex_index.proofs.chains.put_faces.Given as goal

abbrev pub invariant-loop-place : goal.invariant-loop-place
invariant-loop-place g l = l.pairs.items ++ signed_places g.row.P l.value l.odd (drop l.place-index l.places) ≡ l.fn.pairs.items ++ signed_places g.row.P l.value false l.places
