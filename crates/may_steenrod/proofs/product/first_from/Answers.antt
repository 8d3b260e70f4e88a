use Rattle.std.proofs.Common.{◌∙◌, ◌+◌, ◌-◌, ◌/◌, arith, ap, sym, ℕ, List}
use Rattle.simplicial_law.specs.Names.{simplex_cmp}
use Rattle.complex_index.specs.Names.{level}
use Rattle.may_steenrod.proofs.BeginningLemmas.{split-first, split-high, split-low}
use Rattle.may_steenrod.proofs.product.first_from.Goals as goal

pub loop-low-preserved-in-Less : goal.loop-low-preserved-in-Less
loop-low-preserved-in-Less c =
    let m : ℕ = c.loop-low.low + (c.loop-low.high - c.loop-low.low) / 2 in
    split-low (level c.args.index.now c.args.n) c.args.vertices.now c.loop-low.low c.loop-low.high m (c.requires.index.in_order c.args.n) c.loop-low.invariant (omega arith)
    (ap (λ (t : List ℕ). simplex_cmp t c.args.vertices.now) (sym c.simplex.ensures) ∙ sym c.compare.ensures ∙ c.in-Less.is)

pub loop-low-preserved : goal.loop-low-preserved
loop-low-preserved c =
    let m : ℕ = c.loop-low.low + (c.loop-low.high - c.loop-low.low) / 2 in
    split-high (level c.args.index.now c.args.n) c.args.vertices.now c.loop-low.low c.loop-low.high m (c.requires.index.in_order c.args.n) c.loop-low.invariant (omega arith) (omega arith)
    (λ e. c.in_default.not-Less (c.compare.ensures ∙ ap (λ (t : List ℕ). simplex_cmp t c.args.vertices.now) c.simplex.ensures ∙ e))

pub returns : goal.returns
returns c = split-first (level c.args.index.now c.args.n) c.args.vertices.now c.loop-low.low c.loop-low.high c.loop-low.invariant c.loop-low-test.false
