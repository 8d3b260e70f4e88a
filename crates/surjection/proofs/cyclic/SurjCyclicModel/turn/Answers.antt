use Rattle.surjection.specs.Names.{own_turn}
use Rattle.surjection.proofs.cyclic.SurjCyclicModel.turn.Goals as goal

pub from_values-requires : goal.from_values-requires
from_values-requires g c =
    rw (c.in_ok-cycled_values.ensures, c.as_slice.ensures.same, c.greatest_value-most.ensures) (own_turn c.args.self.now c.as_slice.ensures.surjection)
