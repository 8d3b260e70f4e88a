use Rattle.std.proofs.Common.{◌∷◌, []}
use Rattle.certificate_law.specs.Names.{Asks, induced_column, with_stands}
use Rattle.certificate_walk.proofs.Names.{walk_first}
use Rattle.column_check.proofs.induced.column_fault.Goals as goal

pub returns-clause-walk : goal.returns-clause-walk
returns-clause-walk g c = λ m is.
    let y = c.args.column.now in
    walk_first (Asks g.row.P 7) c.args.before (induced_column c.args.from.now.part.now c.args.to.now.part.now m c.args.part.now c.args.k y) (with_stands y.primitive ∷ []) c.in_ok-is_right.is_right c.ask_column.result (c.in_ok-is_right.ensures m is) (tt, tt) c.ask_column.ensures
