-- What the counted terms are taken of.
use Rattle.std.specs.Prelude.{ℕ, ◌≤◌, List, length, map}
use Rattle.linear_law.specs.Names.{Each, IsAscending}
use Rattle.complex_index.specs.Names.{IsIndexOf}
use Rattle.report.specs.declared.{complex.ComplexPart.ComplexPart, plan.Sizes.Sizes}
use Rattle.report_law.specs.Names.{sizes_of}
use Rattle.count_check.specs.Columns.{AreFew}

-- The levels index the complex, whose facets are ascending, and no more degrees are listed than a complex has.
pub record IsIndexed (levels : List (List (List ℕ))) (c : ComplexPart) : Type 0 where
  pub index : IsIndexOf c.facets levels
  pub ascending : Each IsAscending c.facets
  pub low : length c.degrees ≤ 16

-- so it is, and few classes are listed
pub record IsCountable (levels : List (List (List ℕ))) (c : ComplexPart) : Type 0 where
  pub indexed : IsIndexed levels c
  pub few : AreFew c.degrees

-- the sizes of the complexes
abbrev pub job_sizes : List ComplexPart → List Sizes
job_sizes cs = map (λ c. sizes_of c.facets c) cs
