use Rattle.std.proofs.Common.{◌∙◌, ◌+◌, ◌-◌, ◌/◌, ◌++◌, [], arith, ap, get_or, sym, ℕ, List}
use Rattle.simplicial_law.{specs.Names.simplex_cmp, proofs.Names.exact}
use Rattle.simplex_set.proofs.InPieces.{between_all, between_high, between_low, nowhere}
use Rattle.simplex_set.proofs.flat_lists.FlatLists.place_of.Goals as goal

pub loop-low-init : goal.loop-low-init
loop-low-init c = between_all c.args.self.now (c.args.first.now ++ c.args.rest.now) c.len-high.result c.len-high.ensures

pub loop-low-preserved-in-Less : goal.loop-low-preserved-in-Less
loop-low-preserved-in-Less c =
    let m : ℕ = c.loop-low.low + (c.loop-low.high - c.loop-low.low) / 2 in
    between_low c.args.self.now (c.args.first.now ++ c.args.rest.now) c.loop-low.low c.loop-low.high m c.requires c.loop-low.invariant (omega arith)
    (ap (λ (t : List ℕ). simplex_cmp t (c.args.first.now ++ c.args.rest.now)) (sym c.get.ensures) ∙ sym c.order_to.ensures ∙ c.in-Less.is)

pub loop-low-preserved : goal.loop-low-preserved
loop-low-preserved c =
    let m : ℕ = c.loop-low.low + (c.loop-low.high - c.loop-low.low) / 2 in
    between_high c.args.self.now (c.args.first.now ++ c.args.rest.now) c.loop-low.low c.loop-low.high m c.requires c.loop-low.invariant (omega arith)
    (ap (λ (t : List ℕ). simplex_cmp t (c.args.first.now ++ c.args.rest.now)) (sym c.get.ensures) ∙ sym c.order_to.ensures ∙ c.in-Greater.is)

pub returns-in-Equal : goal.returns-in-Equal
returns-in-Equal c =
    let m : ℕ = c.loop-low.low + (c.loop-low.high - c.loop-low.low) / 2 in (
      omega (arith, c.loop-low.invariant.within),
      exact (get_or c.args.self.now m []) (c.args.first.now ++ c.args.rest.now)
          (ap (λ (t : List ℕ). simplex_cmp t (c.args.first.now ++ c.args.rest.now)) (sym c.get.ensures) ∙ sym c.order_to.ensures ∙ c.in-Equal.is),
    )

pub returns : goal.returns
returns c = nowhere c.args.self.now (c.args.first.now ++ c.args.rest.now) c.loop-low.low c.loop-low.high c.loop-low.invariant c.loop-low-test.false
