use Rattle.std.proofs.Common.{take}
use Rattle.linear_law.specs.Names.{Each}
use Rattle.term_total.specs.Names.{Addend, IsReady, IsThere, Keeps}
use Rattle.term_total.proofs.parts.store_addends.Given as goal

abbrev pub invariant-loop-addend : goal.invariant-loop-addend
invariant-loop-addend g l = Each (λ (y : Addend). Each (IsReady g.row.P (IsThere l.table)) y.operations) (take l.addend-index l.addends) × Keeps l.fn.table l.table
