use Rattle.std.proofs.Common.{◌∷◌, []}
use Rattle.certificate_law.specs.Names.{Asks, operation_column, with_stands}
use Rattle.certificate_walk.proofs.Names.{walk_first}
use Rattle.column_check.proofs.operations.column_fault.Goals as goal

pub returns : goal.returns
returns g c =
    let y = c.args.column.now in
    walk_first (Asks g.row.P 6) c.args.before (operation_column c.args.listing.now.part.now c.args.part.now c.args.k y) (with_stands y.primitive ∷ []) c.in_ok-is_operation.field-0 c.ask_column.result c.in_ok-is_operation.ensures (tt, tt) c.ask_column.ensures
