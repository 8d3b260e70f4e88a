-- What a sample shows.
use Rattle.std.specs.Prelude.{◌≡◌, ℕ, ◌≤◌, ◌<◌, ◌^◌, List, [], ◌∷◌, None, length}
use Rattle.linear_law.specs.Names.{Each, IsAscending}
use Rattle.simplicial_law.specs.ListedSimplices.{simplices}
use Rattle.report.specs.declared.complex.ComplexPart.{ComplexPart}
use Rattle.report_law.specs.Names.{AreSizes, addends, passing_sum}
use Rattle.term_total.specs.Names.{sum_of}
use Rattle.count_check.specs.Columns.{AreFew}
use Rattle.sample_torus.specs.declared.sizes.Sample.{Sample}

-- The sizes of the complex with these facets, and its counted terms, which are at most 10^8.
pub record IsSample (p : ℕ) (facets : List (List ℕ)) (s : Sample) : Type 0 where
  pub are : AreSizes p facets s.sizes
  pub within : passing_sum p (10 ^ 8) (s.sizes ∷ []) ≡ None
  pub terms : s.terms ≡ sum_of (addends p (s.sizes ∷ []))

-- the complex can be indexed, and what is listed of it can be counted
pub record CanBeSized (facets : List (List ℕ)) (c : ComplexPart) : Type 0 where
  pub ascending : Each IsAscending facets
  pub short : Each (λ f. length f ≤ 16) facets
  pub small : length (simplices facets) < 2 ^ 32
  pub low : length c.degrees ≤ 16
  pub few : AreFew c.degrees
