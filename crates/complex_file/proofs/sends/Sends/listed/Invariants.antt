-- What is listed, and the sends that are left, are all the sends.
use Rattle.std.proofs.Common.{◌≡◌, ◌++◌}
use Rattle.complex_file.specs.Names.{sends_in}
use Rattle.complex_file.proofs.sends.Sends.listed.Given as goal

abbrev pub invariant-loop-from : goal.invariant-loop-from
invariant-loop-from l = l.sends.items ++ sends_in l.from-iterator ≡ l.self
