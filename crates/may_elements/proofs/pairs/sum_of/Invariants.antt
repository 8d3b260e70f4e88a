use Rattle.std.proofs.Common.{◌≡◌, ◌≤◌, ◌+◌, ◌^◌, List, length, ℕ, ℤ, ◌+ℤ◌}
use Rattle.signed_sum.specs.Names.{total, value_at, weight_of}
use Rattle.may_elements.proofs.pairs.sum_of.Given as goal

abbrev pub invariant-loop-list : goal.invariant-loop-list
invariant-loop-list l =
    ((phi : List ℕ → ℤ) → value_at phi l.sum +ℤ total phi l.list-iterator.rest.items ≡ total phi l.fn.lists.items)
    × (weight_of l.sum + length l.list-iterator.rest.items ≤ 10 ^ 18)
