use Rattle.sample_torus.proofs.TorusLemmas.{triangles_more}
use Rattle.sample_torus.proofs.family.triangles.Goals as goal

pub loop-i-preserved : goal.loop-i-preserved
loop-i-preserved c =
    triangles_more c.args.m c.loop-i.i c.loop-i.facets.items c.push.new.self.items c.push-in-loop-i.new.self.items _ _ c.loop-i.invariant c.in_ok-push.ensures.items c.in_ok-push-2.ensures.items c.in_ok-triangle.ensures c.in_ok-triangle-2.ensures
