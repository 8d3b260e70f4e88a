use Rattle.std.proofs.Common.{◌≡◌, map, take}
use Rattle.interval_cut_law.specs.Names.{vertex_at}
use Rattle.interval_cut.proofs.values.write_vertices.Given as goal

abbrev pub invariant-loop-i : goal.invariant-loop-i
invariant-loop-i l = take l.i l.vertices ≡ map (λ m. vertex_at l.simplex m) (take l.i l.face)
