use Rattle.std.proofs.Common.{◌≡◌, take}
use Rattle.complex_file.specs.Names.{ascending}
use Rattle.sample_torus.proofs.family.triangle.Given as goal

abbrev pub invariant-loop-v : goal.invariant-loop-v
invariant-loop-v l = l.set.keys ≡ ascending (take l.v-index l.vertices)
