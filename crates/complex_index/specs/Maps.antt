-- Maps of complexes, and pull-backs of cochains by place.
use Rattle.std.specs.Prelude.{◌≡◌, ℕ, ◌<◌, ◌==◌, cond, fold, List, [], length, get_or}
use Rattle.linear_law.specs.Names.{Congruent}
use Rattle.simplicial_law.specs.Names.{cochain_of, terms_of}
use Rattle.steenrod_law.specs.Names.{pull_back}
use Rattle.sparse_rows.specs.Rows.{IsBelow, value_in}
use Rattle.complex_index.specs.Levels.{level}

-- the vertex to which v is sent, by the last pair that sends it; 0 where there is none
abbrev pub image_of : List (ℕ × ℕ) → ℕ → ℕ
image_of sends v = fold (λ w s. cond (s.0 == v) s.1 w) 0 sends

-- The row is the pull-back along f of the cochain of degree n with the row `high`: at each simplex of
-- the source it has the value of the pull-back, and nothing at other places.
pub record IsPullBackOf (p : ℕ) (f : ℕ → ℕ) (from to : List (List (List ℕ))) (n : ℕ) (high row : List (ℕ × ℕ)) : Type 0 where
  pub inside : IsBelow (length (level from n)) row
  pub values : (k : ℕ) → k < length (level from n) →
      Congruent p (value_in row k) (pull_back f (cochain_of (terms_of (level to n) high)) (get_or (level from n) k []))
