use Rattle.std.proofs.Common.{◌∙◌, ◌-◌, ◌≤◌, ◌<◌, ℕ, ap, arith, length, lit<, map, subst, sym, take_all}
use Rattle.simplicial_law.specs.Names.{terms_of}
use Rattle.sparse_rows.specs.Rows.{IsBelow}
use Rattle.complex_index.specs.Names.{level}
use Rattle.cohomology.specs.{declared.data.Coboundary.Coboundary, Names.coboundaries_in}
use Rattle.report_law.specs.Names.{ArePrimitives}
use Rattle.job_report.proofs.ColumnLemmas.{primitive-placed, primitives-are, primitives-more}
use Rattle.job_report.proofs.depth.CohomologyDepth.primitives.Goals as goal

pub chain_of-requires : goal.chain_of-requires
chain_of-requires g c =
    let p : ℕ = g.row.P in
    let n : ℕ = c.args.n in (
      lit< tt,
      subst (λ (m : ℕ). IsBelow (length (level c.args.index.now m)) c.below.result.now.row) (sym c.saturating_sub.ensures)
          (primitive-placed p c.args.index.now n (coboundaries_in {p = p} c.args.self.now n) c.loop-t.t c.below.result.now c.below.ensures (c.requires.coboundaries n).placed.each).inside,
    )

pub loop-t-preserved : goal.loop-t-preserved
loop-t-preserved g c =
    let p : ℕ = g.row.P in
    let n : ℕ = c.args.n in
    let levels = c.args.index.now in
    let bs = coboundaries_in {p = p} c.args.self.now n in
    let inside : c.loop-t.t < length bs = omega arith in
    primitives-more p (level levels (n - 1)) bs c.loop-t.t c.below.result.now c.in_ok-chain_of.field-0 c.loop-t.chains.items _ inside c.below.ensures c.loop-t.invariant
    (c.in_ok-chain_of.ensures ∙ ap (λ (m : ℕ). terms_of (level levels m) c.below.result.now.row) c.saturating_sub.ensures) c.in_ok-push.ensures.items

pub returns : goal.returns
returns g c = λ t facets is.
    let p : ℕ = g.row.P in
    let n : ℕ = c.args.n in
    let bs = coboundaries_in {p = p} c.args.self.now n in
    let done : length bs ≤ c.loop-t.t = omega arith in
    subst (ArePrimitives facets n p)
    (sym (c.from.ensures ∙ c.loop-t.invariant ∙ ap (map (λ (b : Coboundary p). terms_of (level c.args.index.now (n - 1)) b.primitive.row)) (take_all c.loop-t.t bs done)))
    (primitives-are facets c.args.index.now p is n bs (c.requires.coboundaries n))
