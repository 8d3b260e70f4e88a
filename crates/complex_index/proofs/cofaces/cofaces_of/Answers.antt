use Rattle.std.proofs.Common.{arith}
use Rattle.complex_index.proofs.FacePlaces.{all_above}
use Rattle.complex_index.proofs.cofaces.cofaces_of.Goals as goal

pub returns-clause-above : goal.returns-clause-above
returns-clause-above c = all_above c.of.result c.loop-y.all.items c.deref.result.now c.args.faces.now c.loop-y.y (omega (arith, c.len-y-end.ensures)) c.deref.ensures.value c.loop-y.invariant.above c.of.ensures
