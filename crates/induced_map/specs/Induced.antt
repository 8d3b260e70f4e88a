-- The matrices that a map of complexes induces, and what they carry.
use Rattle.std.specs.Prelude.{ℕ, Bool, List, length}
use Rattle.linear_law.specs.Names.{matrix_times}
use Rattle.simplicial_law.specs.Names.{Cochain as SimplexCochain, HasCoordinates, IsCocycle}
use Rattle.steenrod_law.specs.Names.{IsSimplicial, pull_back}
use Rattle.complex_index.specs.{declared.indexed.Cochain.Cochain, Names.IsIndexOf}
use Rattle.cohomology.specs.{declared.basis.Column.Column, Names.{cochain_in, cochains_at}}
use Rattle.report_law.specs.Names.{Classes, IsInducedBlock}
use Rattle.op_matrix.specs.Columns.{AreListedAs, IsColumnFor, listed_columns, values_of}

-- f is a simplicial map from each complex with the levels `from` to each with the levels `to`, of which there is one
pub record IsMapIn (f : ℕ → ℕ) (from to : List (List (List ℕ))) : Type 0 where
  pub target : List (List ℕ)
  pub is_target : IsIndexOf target to
  pub simplicial : (facets others : List (List ℕ)) → IsIndexOf facets from → IsIndexOf others to → IsSimplicial f facets others

-- c is the column of the pull-back of the cochain z of degree q
pub record IsPulledColumn {p : ℕ} (detailed : Bool) (f : ℕ → ℕ) (from to : List (List (List ℕ))) (classes : ℕ → List (Cochain p)) (q : ℕ) (z : Cochain p) (c : Column p) : Type 0 where
  pub is_column : (facets : List (List ℕ)) → IsIndexOf facets from → IsColumnFor detailed facets from q (classes q) (pull_back f (cochain_in to q z.row)) c

-- The matrix of f in degree q, for the classes of its source and of its target. For every cocycle w of the target the
-- pull-back is a cocycle of the source, and its coordinates are the matrix times those of w.
pub record IsInducedMatrix {p : ℕ} (detailed : Bool) (f : ℕ → ℕ) (from to : List (List (List ℕ))) (source target : ℕ → List (Cochain p)) (q : ℕ) (columns : List (Column p)) : Type 0 where
  pub listed : (facets : List (List ℕ)) (sources targets : Classes) → IsIndexOf facets from → AreListedAs from source sources → AreListedAs to target targets →
      IsInducedBlock detailed f facets p sources targets q (listed_columns from q columns)
  pub carries : (facets others : List (List ℕ)) (w : SimplexCochain) (cs : List ℕ) → IsIndexOf facets from → IsIndexOf others to → IsCocycle others q p w →
      HasCoordinates others q p (cochains_at to q (target q)) w cs →
      IsCocycle facets q p (pull_back f w)
      × HasCoordinates facets q p (cochains_at from q (source q)) (pull_back f w) (matrix_times p (length (source q)) (values_of columns) cs)
