use Rattle.std.proofs.Common.{refl}
use Rattle.cohomology.proofs.CoboundaryLemmas.{coboundaries_more}
use Rattle.cohomology.proofs.data.coboundaries_from.Goals as goal

pub loop-row-preserved : goal.loop-row-preserved
loop-row-preserved g c =
    coboundaries_more c.args.degree c.loop-row.yielded c.loop-row.coboundaries.items c.push.new.self.items c.in-Some.row _ c.in_ok-push.ensures.items c.loop-row.invariant
    (record { pivot = refl; row = refl; degree = refl; row_below = refl; degree_below = refl })
