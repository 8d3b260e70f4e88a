-- What a walk of one degree is given, and what it tells.
use Rattle.std.specs.{Prelude.{Bool, Option, ℕ, ◌+◌, List, map, length}, List.AllZip}
use Rattle.linear_law.specs.Names.{Each}
use Rattle.simplicial_law.specs.Names.{IsCoboundaryRow}
use Rattle.sparse_rows.specs.Rows.{IsBelow, value_in}
use Rattle.complex_index.specs.Names.{level}
use Rattle.row_reduce.specs.{Names.IsEchelonFrom, declared.EchelonRow.EchelonRow, declared.Stored.Stored}
use Rattle.cohomology.specs.{declared.data.Coboundary.Coboundary, Data.{AreRelativeCoboundaries, IsCoboundaryFrom}, Pairs.{AreBlanked, AreJoined, IsMarkTable}}

-- the coboundary rows of degree n, empty at the simplices of the subcomplex; these places and those of the pivots are skipped
pub record AreRowsOf (p : ℕ) (full sub : List (List (List ℕ))) (n : ℕ) (pivots : List (Option ℕ)) (rows : List (List (ℕ × ℕ))) (skip : List Bool) : Type 0 where
  pub given : List (List (ℕ × ℕ))
  pub are : AllZip (IsCoboundaryRow p (level full (n + 1))) (map value_in given) (level full n)
  pub inside : Each (IsBelow (length (level full (n + 1)))) given
  pub marks : List Bool
  pub table : IsMarkTable full sub n marks
  pub blank : AreBlanked marks given rows
  pub join : AreJoined pivots marks skip

-- the reduced echelon list of the stored rows is the canonical coboundaries of degree n + 1, with their primitives
abbrev pub TellCoboundaries : (p : ℕ) → List (List (List ℕ)) → List (List (List ℕ)) → ℕ → List (Stored p) → List (Option ℕ) → Type 0
TellCoboundaries p full sub n stored pivots =
    (echelon : List (EchelonRow p)) (coboundaries : List (Coboundary p)) → IsEchelonFrom p stored pivots echelon → AllZip (IsCoboundaryFrom n) echelon coboundaries →
    AreRelativeCoboundaries p full sub (n + 1) coboundaries
