use Rattle.std.proofs.Common.{ℕ, take}
use Rattle.cohomology.{proofs.Below.AllZip, specs.Names.IsLeadOf}
use Rattle.complex_index.specs.declared.indexed.Cochain.{Cochain}
use Rattle.cohomology.proofs.classes.leads_of.Given as goal

abbrev pub invariant-loop-class : goal.invariant-loop-class
invariant-loop-class g l = AllZip (λ (c : Cochain g.row.P) (s : ℕ). IsLeadOf c.row s) (take l.class-index l.classes) l.leads.items
