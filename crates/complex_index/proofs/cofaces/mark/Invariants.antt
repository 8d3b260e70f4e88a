use Rattle.std.proofs.Common.{◌≡◌, ◌++◌, ℕ, false, drop}
use Rattle.complex_index.specs.Names.{marks, list_at}
use Rattle.complex_index.proofs.cofaces.mark.Given as goal

abbrev pub invariant-loop-place : goal.invariant-loop-place
invariant-loop-place l = (x : ℕ) → list_at l.above x ++ marks x l.y l.odd (drop l.place-index l.places) ≡ list_at l.fn.above x ++ marks x l.y false l.places
