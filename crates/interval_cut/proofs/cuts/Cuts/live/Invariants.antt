use Rattle.std.proofs.Common.{◌≡◌, ◌+◌, ◌-◌}
use Rattle.signed_sum.specs.Names.{numbers_from}
use Rattle.surjection_law.specs.Names.{arity}
use Rattle.interval_cut_law.specs.Names.{cut_faces, is_live}
use Rattle.interval_cut.specs.Names.{cut_of}
use Rattle.interval_cut.proofs.cuts.Cuts.live.Given as goal

abbrev pub invariant-loop-k : goal.invariant-loop-k
invariant-loop-k l =
    is_live l.q (cut_faces (numbers_from (l.k + 1) (arity l.self.values - l.k)) l.self.values (cut_of l.self))
    ≡ is_live l.q (cut_faces (numbers_from 1 (arity l.self.values)) l.self.values (cut_of l.self))
