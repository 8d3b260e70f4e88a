use Rattle.std.proofs.Common.{◌≡◌, length, pos}
use Rattle.surjection_law.specs.Names.{arity}
use Rattle.interval_cut.specs.Names.{IsPartOfSum, live_top, signed_product}
use Rattle.interval_cut.proofs.live.evaluate_live.Given as goal

abbrev pub invariant-loop-cuts : goal.invariant-loop-cuts
invariant-loop-cuts g l =
    IsPartOfSum g.row.P
    (signed_product (arity l.fn.cuts.walk.values) l.mask (λ f. pos (g.V.Values.value_of l.alpha f)) (λ f. pos (g.V.Values.value_of l.gamma f)) l.fn.cuts.walk.values l.simplex)
    l.fn.cuts.walk.values (live_top l.fn.cuts.degree l.fn.cuts.walk.values) l.sum l.cuts.walk
    × (l.cuts.degree ≡ l.fn.cuts.degree)

abbrev pub decreases-loop-cuts : goal.decreases-loop-cuts
decreases-loop-cuts g l = length l.cuts.walk.left
