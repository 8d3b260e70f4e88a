use Rattle.barratt_eccles.specs.ActionLaws.{act_valid}
use Rattle.barratt_eccles.proofs.symmetric.TupleSymmetric.act.Goals as goal

pub from_entries-requires : goal.from_entries-requires
from_entries-requires c =
    rw (c.in_ok-permuted_entries.ensures, c.as_slice.ensures.same)
    (act_valid c.args.tau.now c.args.self.now c.as_slice.ensures.generator c.len-length.ensures.permutation c.requires)
