use Rattle.std.proofs.Common.{◌<◌, take, ℕ}
use Rattle.linear_law.specs.Names.{Each}
use Rattle.complex_index.proofs.maps.past_all.Given as goal

abbrev pub invariant-loop-send : goal.invariant-loop-send
invariant-loop-send l = Each (λ (t : ℕ × ℕ). t.0 < l.past) (take l.send-index l.sends)
