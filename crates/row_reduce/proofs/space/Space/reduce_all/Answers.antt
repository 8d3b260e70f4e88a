use Rattle.std.proofs.Common.{List, ℕ, subst}
use Rattle.fp_field.proofs.ServedLemmas.{served_field}
use Rattle.row_reduce.{specs.Names.IsEchelonOf, proofs.EliminationLemmas.eliminated_space}
use Rattle.row_reduce.proofs.space.Space.reduce_all.Goals as goal

pub invariant_of-self : goal.invariant_of-self
invariant_of-self g c =
    let p = g.row.P in
    let found = c.in_ok-echelon.field-0 in
    subst (λ (rs : List (List (ℕ × ℕ))). IsEchelonOf p rs found.echelon.items) c.as_slice-2.ensures.value
    (eliminated_space p (served_field p c.requires.prime) c.as_slice-2.result.now found.echelon.items found.relations.items c.in_ok-echelon.ensures)
