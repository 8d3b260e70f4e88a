use Rattle.std.proofs.Common.{map}
use Rattle.column_check.proofs.ListingLemmas.{AreRowsUpTo}
use Rattle.column_check.proofs.listing.class_rows.Given as goal

abbrev pub invariant-loop-n : goal.invariant-loop-n
invariant-loop-n g l = AreRowsUpTo g.row.P l.index (map (λ d. d.classes) l.degrees) l.n l.rows.items
