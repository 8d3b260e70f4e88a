use Rattle.std.proofs.Common.{◌≡◌, drop}
use Rattle.may_elements.specs.Stored.{AreLiveParts, stored_at}
use Rattle.may_elements.proofs.elements.MayTable.part.Given as goal

abbrev pub invariant-loop-entry : goal.invariant-loop-entry
invariant-loop-entry g l = stored_at l.d l.q (drop l.entry-index l.entry-items) ≡ stored_at l.d l.q l.fn.self × AreLiveParts g.row.P (drop l.entry-index l.entry-items)
