-- The simplices of a complex by their number of vertices.
use Rattle.std.specs.Prelude.{◌≡◌, ℕ, ◌≤◌, ◌<◌, ◌⊎◌, List, [], length, get_or}
use Rattle.linear_law.specs.Names.{Among, Each}
use Rattle.simplicial_law.specs.Names.{of_degree}

-- n is the greatest length
pub record IsLargest (ks : List (List ℕ)) (n : ℕ) : Type 0 where
  pub bound : Each (λ s. length s ≤ n) ks
  pub top : (n ≡ 0) ⊎ ((s : List ℕ) × (Among s ks × (length s ≡ n)))

-- the lists ks by degree, up to the greatest
pub record AreLevelsOf (ks : List (List ℕ)) (ls : List (List (List ℕ))) : Type 0 where
  pub levels : (n : ℕ) → n < length ls → get_or ls n [] ≡ of_degree n ks
  pub largest : IsLargest ks (length ls)
