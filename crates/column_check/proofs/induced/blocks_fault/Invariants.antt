use Rattle.std.proofs.Common.{drop}
use Rattle.certificate_law.specs.Names.{Asks, induced_stated, numbered}
use Rattle.certificate_walk.proofs.Names.{Leads}
use Rattle.column_check.proofs.induced.blocks_fault.Given as goal

abbrev pub invariant-loop-block : goal.invariant-loop-block
invariant-loop-block g l =
    let line = induced_stated l.from.part.now l.to.part.now l.part in
    Leads (Asks g.row.P 7) l.before (numbered line 0 l.part.induced) l.at (numbered line l.block-index (drop l.block-index l.part.induced))
