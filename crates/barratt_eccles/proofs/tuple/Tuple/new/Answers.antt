use Rattle.std.proofs.Common.{arith, sym, ap, ◌∙◌, ◌≡◌, length, vec_len, ◌==◌, refl, subst, None, All, List, ℕ}
use Rattle.operad_law.specs.Permutations.{IsPerm}
use Rattle.barratt_eccles.{proofs.RefusalLemmas.{no_fault, not_empty}, specs.Refusals.{equal_neighbours_from, other_length_from}}
use Rattle.table_reduction_law.specs.Names.{tuple_arity}
use Rattle.barratt_eccles.proofs.tuple.Tuple.new.Goals as goal

pub invariant_of-result : goal.invariant_of-result
invariant_of-result c =
    let w = c.args.entries.items in
    let perms : All IsPerm w = subst (All IsPerm) c.as_slice.ensures.value (c.in_default.ensures.permutations refl) in
    let lengths : other_length_from (tuple_arity w) 0 w ≡ None = ap (λ (v : List (List ℕ)). other_length_from (tuple_arity v) 0 v) (sym c.as_slice.ensures.value) ∙ sym c.other_length.ensures.place ∙ c.in_default.is in
    let apart : equal_neighbours_from 0 w ≡ None = ap (equal_neighbours_from 0) (sym c.as_slice-2.ensures.value) ∙ sym c.equal_neighbours.ensures ∙ c.in_default-equal_neighbours.is in
    let size : vec_len c.args.entries ≡ length w = c.args.entries.ok.0 in
    no_fault w (not_empty w (ap (λ (n : ℕ). n == 0) (sym size) ∙ sym c.is_empty.ensures ∙ c.if-is_empty.false)) (omega arith) lengths perms apart
