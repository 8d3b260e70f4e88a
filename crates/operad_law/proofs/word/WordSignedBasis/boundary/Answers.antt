use Rattle.std.proofs.Common.{◌≡◌, subst, ℕ, arith}
use Rattle.operad_law.proofs.WordSteps.{SumsTo, all-places, one-place}
use Rattle.operad_law.proofs.word.WordSignedBasis.boundary.Goals as goal

pub loop-place-preserved : goal.loop-place-preserved
loop-place-preserved g c =
    one-place g.row.P c.loop-place.place c.args.self.now c.loop-place.sum c.add_place.new.sum c.loop-place-test.true c.add_place.ensures.valid.within c.loop-place.invariant c.in_ok-add_place.ensures.placed

pub returns : goal.returns
returns g c =
    let end : c.loop-place.place ≡ g.row.P = omega arith in
    all-places g.row.P c.args.self.now c.loop-place.sum (subst (λ (i : ℕ). SumsTo g.row.P i c.args.self.now c.loop-place.sum) end c.loop-place.invariant)
