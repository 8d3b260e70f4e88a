use Rattle.surjection.specs.Names.{act_valid}
use Rattle.surjection.proofs.symmetric.SurjSymmetric.act.Goals as goal

pub from_values-requires : goal.from_values-requires
from_values-requires c =
    rw (c.in_ok-permuted_values.ensures, c.as_slice.ensures.same)
    (act_valid c.args.tau.now c.args.self.now c.as_slice.ensures.surjection c.len-length.ensures.permutation c.requires)
