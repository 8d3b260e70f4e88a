use Rattle.std.proofs.Common.{List, ℕ, ap, sym, subst}
use Rattle.cohomology.proofs.{Below.{Congruent_of, IsRow, value_in}, CoordinateLemmas.primitive_step}
use Rattle.cohomology.proofs.coordinates.primitives.Goals as goal

pub loop-coboundary-init : goal.loop-coboundary-init
loop-coboundary-init g c = (subst (IsRow g.row.P) (sym c.new-sum.ensures) (record { ascends = tt; values = tt }), λ x. Congruent_of (ap (λ (r : List (ℕ × ℕ)). value_in r x) c.new-sum.ensures))

pub loop-coboundary-preserved : goal.loop-coboundary-preserved
loop-coboundary-preserved g c = (
  c.in_ok-add_scaled.ensures.row,
  primitive_step g.row.P c.args.coboundaries.now c.loop-coboundary.coboundary-index c.coboundary-item.result c.args.given.now c.loop-coboundary.sum c.add_scaled.new.self c.at.result c.coboundary-item.is c.loop-coboundary-test.true
      c.at.ensures c.in_ok-add_scaled.ensures.sum c.loop-coboundary.invariant.1,
)
