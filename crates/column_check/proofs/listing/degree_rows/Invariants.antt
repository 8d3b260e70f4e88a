use Rattle.std.{proofs.Common.take, specs.List.AllZip}
use Rattle.column_check.specs.Listings.{IsRowOfClass}
use Rattle.column_check.proofs.listing.degree_rows.Given as goal

abbrev pub invariant-loop-class : goal.invariant-loop-class
invariant-loop-class g l = AllZip (IsRowOfClass g.row.P l.index l.n) (take l.class-index l.classes) l.rows.items
