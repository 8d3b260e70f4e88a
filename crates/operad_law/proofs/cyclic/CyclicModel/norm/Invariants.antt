use Rattle.std.proofs.Common.{◌≡◌, ◌≤◌, IsTrue}
use Rattle.signed_sum.specs.Names.{weight_of, IsSign, power_sum, after_turns}
use Rattle.operad_law.proofs.Unique.{summed}
use Rattle.operad_law.proofs.cyclic.CyclicModel.norm.Given as goal

-- the powers so far are summed up, and the element is the next one
abbrev pub invariant-loop-power : goal.invariant-loop-power
invariant-loop-power g l = record {
  valid : g.Self.SignedBasis.is_valid l.element;
  fits : IsTrue (g.Self.CyclicModel.fits l.element);
  next : after_turns g.Self.CyclicModel.turn l._power l.self ≡ (l.element, l.sign);
  signed : IsSign l.sign;
  so_far : l.sum ≡ summed g.Self.Ord.cmp (power_sum g.Self.CyclicModel.turn l._power l.self);
  light : weight_of l.sum ≤ l._power;
}
