-- Faces of a simplex on some of its places.
use Rattle.std.specs.Prelude.{◌≡◌, ◌<◌, ◌≤◌, ◌++◌, ℕ, List, [], drop, get_or, length, map, take}
use Rattle.interval_cut_law.specs.Names.{vertex_at}
use Rattle.complex_index.specs.Names.{level}
use Rattle.may_steenrod.specs.declared.chosen.Face.{Face}

-- The face has the first k vertices of the simplex s, and behind them those at the last of the chosen places, without the first `rest`.
pub record IsChosen (levels : List (List (List ℕ))) (s places : List ℕ) (k : ℕ) (face : Face) : Type 0 where
  pub few : face.rest ≤ length places
  pub inside : face.place < length (level levels face.degree)
  pub is : get_or (level levels face.degree) face.place [] ≡ take k s ++ map (vertex_at s) (drop face.rest places)
