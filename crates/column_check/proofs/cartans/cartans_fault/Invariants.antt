use Rattle.std.proofs.Common.{drop}
use Rattle.certificate_law.specs.Names.{Asks, cartan_stated, numbered}
use Rattle.certificate_walk.proofs.Names.{Leads}
use Rattle.column_check.proofs.cartans.cartans_fault.Given as goal

abbrev pub invariant-loop-part : goal.invariant-loop-part
invariant-loop-part g l =
    let c = l.listing.part.now in
    Leads (Asks g.row.P 8) l.before (numbered (cartan_stated c) 0 c.cartans) l.at (numbered (cartan_stated c) l.part-index (drop l.part-index c.cartans))
