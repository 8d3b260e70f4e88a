use Rattle.std.proofs.Common.{◌+◌, ◌≤◌, ◌∙◌, ap, sym, arith}
use Rattle.surjection_law.specs.Names.{arity}
use Rattle.interval_cut.{specs.Names.cut_of, proofs.NeighbourLemmas.live_step}
use Rattle.interval_cut.proofs.cuts.Cuts.live.Goals as goal

pub loop-k-preserved : goal.loop-k-preserved
loop-k-preserved c =
    let inside : c.loop-k.k + 1 ≤ arity c.args.self.now.values = omega (arith, c.loop-k-test.true, c.self.invariant.most, ap (λ w. arity w.values) c.self.view_is) in
    live_step c.args.q (arity c.args.self.now.values) c.loop-k.k c.args.self.now.values (cut_of c.args.self.now) c.face.result.now inside c.face.ensures (sym c.if-not-is_simplex.ensures) ∙ c.loop-k.invariant
