use Rattle.std.{proofs.Common.{◌≡◌, drop, map, fold}, specs.BTreeSet.insert_key, specs.Ordering.nat_cmp}
use Rattle.term_total.proofs.elements.add_operations.Given as goal

abbrev pub invariant-loop-operation : goal.invariant-loop-operation
invariant-loop-operation l =
    fold (insert_key nat_cmp) l.degrees.keys (map (λ x. x.element) (drop l.operation-index l.operations)) ≡ fold (insert_key nat_cmp) l.fn.degrees.keys (map (λ x. x.element) l.operations)
