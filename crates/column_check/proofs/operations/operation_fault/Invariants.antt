use Rattle.std.proofs.Common.{◌+◌, drop}
use Rattle.certificate_law.specs.Names.{Asks, numbered, operation_column, with_stands}
use Rattle.certificate_walk.proofs.Names.{Leads}
use Rattle.column_check.proofs.WalkLemmas.{columned}
use Rattle.column_check.proofs.operations.operation_fault.Given as goal

abbrev pub invariant-loop-k : goal.invariant-loop-k
invariant-loop-k g l =
    let line = columned (operation_column l.listing.part.now l.part) (λ y. with_stands y.primitive) in
    Leads (Asks g.row.P 6) (l.before + 1) (numbered line 0 l.part.columns) l.at (numbered line l.k (drop l.k l.part.columns))
