use Rattle.std.proofs.Common.{◌+◌, ◌*◌, length}
use Rattle.table_reduction.specs.Walks.{entry_count}
use Rattle.table_reduction.proofs.walk.Walk.+rows.Given as goal

abbrev pub decreases-add_from : goal.decreases-add_from
decreases-add_from l = 2 * (length l.left.now + entry_count l.later.now)

abbrev pub decreases-add_value : goal.decreases-add_value
decreases-add_value l = 2 * (length l.rest.now + entry_count l.later.now) + 1
