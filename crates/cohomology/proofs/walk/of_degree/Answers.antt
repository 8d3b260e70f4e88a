use Rattle.std.proofs.Common.{refl}
use Rattle.cohomology.proofs.WalkLemmas.{cochain_more}
use Rattle.cohomology.proofs.walk.of_degree.Goals as goal

pub loop-row-preserved : goal.loop-row-preserved
loop-row-preserved g c = cochain_more c.args.degree c.loop-row.cochains.items _ _ _ c.in_ok-push.ensures.items refl c.loop-row.invariant.0 c.loop-row.invariant.1
