use Rattle.std.proofs.{Common.{ap, w64}, lemmas.Int.to_z-of_z}
use Rattle.signed_sum.specs.Names.{IsSign, difference}
use Rattle.operad_law.proofs.TurnSums.{IsSameSum-summed, difference-sum, fits_sign}
use Rattle.operad_law.proofs.cyclic.CyclicModel.t.Goals as goal

pub returns : goal.returns
returns g c =
    let is_sign : IsSign c.in_ok-next.sign = rw (ap (λ v. v.1) c.in_ok-next.ensures) (g.met.Self.CyclicModel.turn_sign c.args.self.now c.degree-degree.ensures.valid c.requires) in
    IsSameSum-summed g.Self.Ord.cmp g.met.Self.SignedBasis.equal_is_same c.add_small-2.new.sum (difference g.Self.CyclicModel.turn c.args.self.now)
    (difference-sum g.Self.Ord.cmp g.Self.CyclicModel.turn c.args.self.now c.in_ok-whole.whole c.in_ok-next.next c.in_ok-next.sign c.new-sum.result c.add_small.new.sum c.add_small-2.new.sum
    c.in_ok-whole.ensures c.in_ok-next.ensures c.new-sum.ensures c.in_ok-add_small.ensures
    (rw (to_z-of_z w64 c.in_ok-next.sign (fits_sign c.in_ok-next.sign is_sign)) at c.in_ok-add_small-2.ensures))
