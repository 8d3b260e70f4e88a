use Rattle.std.proofs.Common.{arith, sym, ◌∙◌, ◌+◌}
use Rattle.surjection.proofs.RefusalLemmas.{neighbours-end}
use Rattle.surjection.proofs.surj.equal_neighbours.Goals as goal

pub returns : goal.returns
returns c = sym (neighbours-end c.args.values.now c.loop-i.i (c.loop-i.i + 1) (omega arith)) ∙ c.loop-i.invariant.0
