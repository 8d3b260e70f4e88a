use Rattle.std.proofs.Common.{drop}
use Rattle.certificate_law.specs.Names.{Asks, numbered, product_stated}
use Rattle.certificate_walk.proofs.Names.{Leads}
use Rattle.column_check.proofs.products.products_fault.Given as goal

abbrev pub invariant-loop-part : goal.invariant-loop-part
invariant-loop-part g l =
    let c = l.listing.part.now in
    Leads (Asks g.row.P 6) l.before (numbered (product_stated c) 0 c.products) l.at (numbered (product_stated c) l.part-index (drop l.part-index c.products))
