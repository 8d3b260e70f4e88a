use Rattle.std.proofs.Common.{◌≢◌, length, ◌-◌, ◌<◌, ◌≤◌, take, get_or, Less, ℤ}
use Rattle.operad_law.specs.Places.{IsAbove}
use Rattle.operad_law.proofs.formal_sum.place_of.Given as goal

-- what is passed over on the left is smaller, and what is left out on the right is not
abbrev pub invariant-loop-low : goal.invariant-loop-low
invariant-loop-low g l = record {
  ordered : l.low ≤ l.high;
  within : l.high ≤ length l.terms;
  above : IsAbove g.B.Ord.cmp l.item (take l.low l.terms);
  stops : (d : g.row.B.Denot × ℤ) → l.high < length l.terms → g.B.Ord.cmp (get_or l.terms l.high d).0 l.item ≢ Less;
}

abbrev pub decreases-loop-low : goal.decreases-loop-low
decreases-loop-low g l = l.high - l.low
