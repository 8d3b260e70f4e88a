use Rattle.std.proofs.Common.{◌≡◌, flat_map}
use Rattle.signed_sum.specs.Names.{numbers_from}
use Rattle.sample_torus.specs.Torus.{triangles_at}
use Rattle.sample_torus.proofs.family.triangles.Given as goal

abbrev pub invariant-loop-i : goal.invariant-loop-i
invariant-loop-i l = l.facets.items ≡ flat_map (triangles_at l.m) (numbers_from 0 l.i)
