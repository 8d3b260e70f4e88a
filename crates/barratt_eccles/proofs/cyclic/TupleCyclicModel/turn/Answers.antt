use Rattle.operad_law.proofs.PermLemmas.{length-cycle_power}
use Rattle.barratt_eccles.specs.CycleLaws.{own_turn}
use Rattle.barratt_eccles.proofs.cyclic.TupleCyclicModel.turn.Goals as goal

pub permuted_entries-requires : goal.permuted_entries-requires
permuted_entries-requires g c =
    rw (c.in_ok-cycle.ensures, length-cycle_power c.arity.result 1, c.arity.ensures, c.as_slice-entries.ensures.same) c.as_slice-entries.ensures.generator.entries

pub from_entries-requires : goal.from_entries-requires
from_entries-requires g c =
    rw (c.in_ok-turned.ensures, c.in_ok-cycle.ensures, c.arity.ensures, c.as_slice-entries.ensures.same) (own_turn c.args.self.now c.as_slice-entries.ensures.generator)
