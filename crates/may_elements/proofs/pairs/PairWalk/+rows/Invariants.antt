use Rattle.std.proofs.Common.{◌≡◌, ◌+◌, ◌*◌, suc, length}
use Rattle.may_elements.specs.{Live.is_left_out, Pairs.AddsBelow}
use Rattle.may_elements.proofs.pairs.PairWalk.+rows.Given as goal

abbrev pub decreases-add_from : goal.decreases-add_from
decreases-add_from l = 4 * (length l.left.now + l.pairs * suc l.wanted.p)

abbrev pub decreases-add_pair : goal.decreases-add_pair
decreases-add_pair l = 4 * (l.pairs * suc l.wanted.p + l.wanted.p) + 1

abbrev pub decreases-add_pairs : goal.decreases-add_pairs
decreases-add_pairs l = 4 * (l.pairs * suc l.wanted.p + l.wanted.p) + 2

abbrev pub decreases-add_value : goal.decreases-add_value
decreases-add_value l = 4 * (length l.rest.now + l.pairs * suc l.wanted.p) + 3

abbrev pub invariant-add_pairs-loop-exponent : goal.invariant-add_pairs-loop-exponent
invariant-add_pairs-loop-exponent l =
    AddsBelow (is_left_out l.wanted.live_for) l.wanted.p l.pairs l.exponent l.fn.self.used.items l.fn.self.values.items l.fn.self.lists.items l.self.lists.items
    × (l.self.used.items ≡ l.fn.self.used.items) × (l.self.values.items ≡ l.fn.self.values.items)
