use Rattle.std.{proofs.Common.{◌≡◌, drop, map, flat_map, fold}, specs.BTreeSet.insert_key, specs.Ordering.nat_cmp}
use Rattle.term_total.specs.Names.{row_elements, Addend}
use Rattle.term_total.proofs.elements.add_row.Given as goal

abbrev pub invariant-loop-addend : goal.invariant-loop-addend
invariant-loop-addend l =
    fold (insert_key nat_cmp) l.degrees.keys (flat_map (λ (y : Addend). map (λ x. x.element) y.operations) (drop l.addend-index l.addend-items)) ≡ fold (insert_key nat_cmp) l.fn.degrees.keys (row_elements l.row)
