use Rattle.std.proofs.Common.{◌∷◌, []}
use Rattle.certificate_law.specs.Names.{Asks, product_column, with_stands}
use Rattle.certificate_walk.proofs.Names.{walk_first}
use Rattle.column_check.proofs.products.column_fault.Goals as goal

pub returns : goal.returns
returns g c = λ k.
    let y = c.args.column.now in
    walk_first (Asks g.row.P 6) c.args.before (product_column c.args.listing.now.part.now c.args.part.now k y) (with_stands y.primitive ∷ []) c.in_ok-is_product.field-0 c.ask_column.result c.in_ok-is_product.ensures (tt, tt) c.ask_column.ensures
