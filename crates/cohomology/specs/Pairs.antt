-- A complex and a subcomplex by their levels, and tables by place. Where the subcomplex has no level, relative notions are those of the complex.
use Rattle.std.specs.Prelude.{Bool, Option, ◌≡◌, ℕ, ◌<◌, ◌⊎◌, ◌↔◌, List, [], length, get_or}
use Rattle.linear_law.specs.Names.{Among}
use Rattle.complex_index.specs.Names.{IsComplexIndex, IsIndexOf, level}
use Rattle.relative_law.specs.Names.{IsSubcomplex}
use Rattle.row_reduce.specs.Names.{IsLeadIn, IsMarkedIn}

-- the levels are those of a complex and of a subcomplex
pub record IsPairIndexOf (facets parts : List (List ℕ)) (full sub : List (List (List ℕ))) : Type 0 where
  pub full_index : IsIndexOf facets full
  pub sub_index : IsIndexOf parts sub
  pub inside : IsSubcomplex parts facets

-- the levels are those of some complex and of some subcomplex
pub record IsPairIndex (full sub : List (List (List ℕ))) : Type 0 where
  pub facets : List (List ℕ)
  pub parts : List (List ℕ)
  pub index : IsPairIndexOf facets parts full sub

-- if the levels `full` are those of a complex, the levels `sub` are those of a subcomplex
abbrev pub IsSubIndex : List (List (List ℕ)) → List (List (List ℕ)) → Type 0
IsSubIndex full sub = IsComplexIndex full → IsPairIndex full sub

-- The table has a number for each simplex of degree n of the complex, which is not 0 exactly at those of the subcomplex.
pub record IsMarkTable (full sub : List (List (List ℕ))) (n : ℕ) (marks : List Bool) : Type 0 where
  pub whole : length marks ≡ length (level full n)
  pub marked : (x : ℕ) → x < length (level full n) → IsMarkedIn marks x ↔ Among (get_or (level full n) x []) (level sub n)

-- the rows are empty at the marked places, and as given elsewhere
pub record AreBlanked (marks : List Bool) (rows kept : List (List (ℕ × ℕ))) : Type 0 where
  pub whole : length kept ≡ length rows
  pub marked : (x : ℕ) → x < length kept → IsMarkedIn marks x → get_or kept x [] ≡ []
  pub others : (x : ℕ) → x < length kept → (IsMarkedIn marks x → ⊥) → get_or kept x [] ≡ get_or rows x []

-- the places with a number that is not 0 are those of either table
pub record AreJoined (pivots : List (Option ℕ)) (marks table : List Bool) : Type 0 where
  pub whole : length table ≡ length pivots
  pub places : (x : ℕ) → x < length pivots → IsMarkedIn table x ↔ (IsLeadIn pivots x ⊎ IsMarkedIn marks x)
