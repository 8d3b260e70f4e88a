use Rattle.std.proofs.Common.{◌≡◌, ap, ◌∙◌, w64, to_z, arith}
use Rattle.signed_sum.{specs.Names.{IsSign, power_sum}, proofs.Names.pair_turn-sign}
use Rattle.operad_law.proofs.{Unique.summed, TurnSums.{IsSameSum-summed, power-next, product_of_signs, after_turns-next, weight-next}}
use Rattle.operad_law.proofs.cyclic.CyclicModel.norm.Goals as goal

pub loop-power-preserved : goal.loop-power-preserved
loop-power-preserved g c =
    let inv = c.loop-power.invariant in
    let turn = g.Self.CyclicModel.turn in
    let element = c.loop-power.element in
    let sign = to_z w64 c.loop-power.sign-bits in
    let now_next = c.in_ok-next.ensures in
    let step_sign : IsSign c.in_ok-next.step = rw (ap (λ v. v.1) now_next) (g.met.Self.CyclicModel.turn_sign element inv.valid inv.fits) in
    let product = product_of_signs sign c.in_ok-next.step inv.signed step_sign in
    record {
      valid = rw (ap (λ v. v.0) now_next) (g.met.Self.CyclicModel.turn_valid element inv.valid inv.fits);
      fits = rw (ap (λ v. v.0) now_next) (g.met.Self.CyclicModel.turn_fits element inv.valid inv.fits);
      next = after_turns-next turn c.loop-power._power c.args.self.now element c.in_ok-next.next sign c.in_ok-next.step _ inv.next now_next product;
      signed = rw product (pair_turn-sign sign c.in_ok-next.step inv.signed step_sign);
      so_far = power-next g.Self.Ord.cmp turn c.loop-power._power c.args.self.now element sign c.loop-power.sum c.add_small.new.sum inv.next inv.so_far c.in_ok-add_small.ensures;
      light = weight-next g.Self.Ord.cmp c.loop-power._power element sign c.loop-power.sum c.add_small.new.sum inv.signed inv.light c.in_ok-add_small.ensures;
    }

pub returns : goal.returns
returns g c =
    let end : c.loop-power._power ≡ g.row.P = omega arith in
    IsSameSum-summed g.Self.Ord.cmp g.met.Self.SignedBasis.equal_is_same c.loop-power.sum (power_sum g.Self.CyclicModel.turn g.row.P c.args.self.now)
    (c.loop-power.invariant.so_far ∙ ap (λ n. summed g.Self.Ord.cmp (power_sum g.Self.CyclicModel.turn n c.args.self.now)) end)
