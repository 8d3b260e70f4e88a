use Rattle.std.proofs.Common.{◌≡◌, ◌++◌, drop}
use Rattle.term_total.specs.Names.{plan}
use Rattle.term_total.proofs.plan.plan.Given as goal

abbrev pub invariant-loop-part : goal.invariant-loop-part
invariant-loop-part l = l.rows.items ++ plan l.p (drop l.part-index l.parts) ≡ plan l.p l.parts
