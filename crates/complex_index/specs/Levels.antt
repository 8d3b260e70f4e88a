-- The simplices of a complex by degree and place.
use Rattle.std.specs.{Prelude.{◌≡◌, ℕ, ◌+◌, ◌^◌, ◌<◌, ◌≤◌, List, [], map, length, get_or}, List.Sorted.IsStrictlySortedBy}
use Rattle.complex_index.specs.{declared.cofaces.Coface.Coface, declared.levels.Level.Level, Incidence.{ArePlacesOf, above_at}}
use Rattle.linear_law.specs.Names.{Among, Each, ListsAll}
use Rattle.simplicial_law.specs.Names.{IsInOrder, IsSimplex, faces, simplex_cmp}

-- the simplices of degree n, none past the last level
abbrev pub level : List (List (List ℕ)) → ℕ → List (List ℕ)
level ls n = get_or ls n []

-- The levels are the simplices of the complex: each level has the simplices of its degree, in order
-- and each once, and the last degree with a simplex is the last level.
pub record IsIndexOf (facets : List (List ℕ)) (ls : List (List (List ℕ))) : Type 0 where
  pub lists : (n : ℕ) → ListsAll (IsSimplex facets n) (level ls n)
  pub in_order : (n : ℕ) → IsInOrder (level ls n)
  pub inhabited : (n : ℕ) → n < length ls → 0 < length (level ls n)

-- the levels are the simplices of some complex
pub record IsComplexIndex (ls : List (List (List ℕ))) : Type 0 where
  pub facets : List (List ℕ)
  pub index : IsIndexOf facets ls

-- Levels of simplices: in each the simplices of its degree, in order, with their faces in the level below.
pub record AreLevels (ls : List (List (List ℕ))) : Type 0 where
  pub ordered : (n : ℕ) → IsStrictlySortedBy simplex_cmp (level ls n)
  pub sizes : (n : ℕ) → Each (λ s. length s ≡ n + 1) (level ls n)
  pub small : (n : ℕ) → length (level ls n) < 2 ^ 32
  pub present : (n : ℕ) → Each (λ s. Each (λ t. Among t (level ls n)) (faces s)) (level ls (n + 1))

-- ---- what the code keeps

abbrev pub lists : List Level → List (List (List ℕ))
lists ls = map (λ (l : Level). l.simplices) ls

abbrev pub faces_at : List Level → ℕ → List (List ℕ)
faces_at ls n = get_or (map (λ (l : Level). l.faces) ls) n []

abbrev pub cofaces_at : List Level → ℕ → List (List Coface)
cofaces_at ls n = get_or (map (λ (l : Level). l.cofaces) ls) n []

-- the places of the faces of each upper simplex, and the upper simplices that stand above each lower one
pub record Fits (lower upper pss : List (List ℕ)) (above : List (List Coface)) : Type 0 where
  pub places : ArePlacesOf lower upper pss
  pub len : length above ≡ length lower
  pub cofaces : (x : ℕ) → get_or above x [] ≡ above_at x 0 pss

-- the levels with the simplices all
pub record IsIndexed (all : List (List (List ℕ))) (ls : List Level) : Type 0 where
  pub same : lists ls ≡ all
  pub fits : (n : ℕ) → n + 1 < length ls → Fits (level all n) (level all (n + 1)) (faces_at ls (n + 1)) (cofaces_at ls (n + 1))

-- what an index keeps
pub record IsIndex (ls : List Level) : Type 0 where
  pub complex : IsComplexIndex (lists ls)
  pub levels : AreLevels (lists ls)
  pub indexed : IsIndexed (lists ls) ls
  pub few : length ls ≤ 16
