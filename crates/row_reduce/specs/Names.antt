-- The definitions that others cite, passed on from one place. Declares nothing.
pub use Rattle.row_reduce.specs.declared.Class.{Class}
pub use Rattle.row_reduce.specs.declared.EchelonRow.{EchelonRow}
pub use Rattle.row_reduce.specs.declared.Stored.{Stored}
pub use Rattle.row_reduce.specs.declared.eliminating.Eliminated.{Eliminated}
pub use Rattle.row_reduce.specs.Entries.{entries_of, run_from, zipped}
pub use Rattle.row_reduce.specs.Pivots.{IsLeadIn, IsMarkedIn}
pub use Rattle.row_reduce.specs.Stored.{IsClear, IsLoaded, IsReducedTo, IsRest, IsStoredFrom, Owns, StoredFits, added_row, stored_place}
pub use Rattle.row_reduce.specs.Walk.{AreNumbered, AreRows, IsFrom, IsReached, IsSkippable, IsSolved, IsVectorRow, Reached, SkipsFit, added_from, combined, image_of, images_of, kernel_of}
pub use Rattle.row_reduce.specs.Expansion.{AreOlder, Expanding, HistoryFits, IsExpanded, IsVectorOf, IsVectorOfClass, weighted}
pub use Rattle.row_reduce.specs.Triangular.{AreTriangular, IsSolvedStored, stored_row}
pub use Rattle.row_reduce.specs.Echelon.{AreEchelon, IsEchelonFrom, IsEchelonRow, IsMadeFrom, IsSolvedWhole, cleared, combination_of, pivot_of, row_of}
pub use Rattle.row_reduce.specs.Elimination.{Everywhere, Gives, IsClearedBy, IsEliminated, IsGiven, IsMonic, end_of, end_of_row}
pub use Rattle.row_reduce.specs.Space.{AreOwnFrom, IsEchelonOf, IsKernelOf, IsOwnRow, IsRemainder, IsSpannedBy, Spanned}
