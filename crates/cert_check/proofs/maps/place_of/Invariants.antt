use Rattle.block_check.proofs.NameLemmas.{IsBehind}
use Rattle.cert_check.proofs.maps.place_of.Given as goal

abbrev pub invariant-loop-place : goal.invariant-loop-place
invariant-loop-place l = IsBehind l.parts l.name l.place
