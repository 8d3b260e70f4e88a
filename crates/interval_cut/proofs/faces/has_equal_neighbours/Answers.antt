use Rattle.std.proofs.Common.{sym, ◌∙◌, arith}
use Rattle.interval_cut.proofs.NeighbourLemmas.{neighbours_none}
use Rattle.interval_cut.proofs.faces.has_equal_neighbours.Goals as goal

pub returns : goal.returns
returns c = sym (neighbours_none c.args.face.now c.loop-i.i (omega (arith, c.loop-i-test.false))) ∙ c.loop-i.invariant.1
