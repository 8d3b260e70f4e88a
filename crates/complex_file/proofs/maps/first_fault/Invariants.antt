-- The sends before a place have no fault, so the first fault is that of the rest behind them.
use Rattle.std.proofs.Common.{◌≡◌, drop}
use Rattle.complex_file.specs.Names.{first_send_fault}
use Rattle.complex_file.proofs.maps.first_fault.Given as goal

abbrev pub invariant-loop-at : goal.invariant-loop-at
invariant-loop-at l = first_send_fault l.from l.to l.fn.sends 0 l.list ≡ first_send_fault l.from l.to l.sends l.at (drop l.at l.list)
