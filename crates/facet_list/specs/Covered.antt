-- Which simplices of a complex are faces of others.
use Rattle.std.specs.{Prelude.{◌≡◌, ◌⊎◌, ℕ, ◌+◌, ◌<◌, Bool, true, false, List, [], length, get_or}, List.Sorted.IsStrictlySortedBy}
use Rattle.linear_law.specs.Names.{Among}
use Rattle.simplicial_law.specs.Names.{faces, simplex_cmp}
use Rattle.complex_index.specs.Names.{level}

-- s is a face of one of the simplices
abbrev pub IsFaceIn : List (List ℕ) → List ℕ → Type 0
IsFaceIn upper s = (t : List ℕ) × Among t upper × Among s (faces t)

-- the marks after those at the places
pub record AreMarked (old : List Bool) (places : List ℕ) (new : List Bool) : Type 0 where
  pub len : length new ≡ length old
  pub at : (x : ℕ) → get_or new x false ≡ true → (get_or old x false ≡ true) ⊎ Among x places
  pub kept : (x : ℕ) → get_or old x false ≡ true → get_or new x false ≡ true
  pub put : (x : ℕ) → Among x places → get_or new x false ≡ true

-- the simplices of the lower list that are faces of one in the upper list are marked, and no others
pub record Covers (lower upper : List (List ℕ)) (marks : List Bool) : Type 0 where
  pub len : length marks ≡ length lower
  pub at : (x : ℕ) → get_or marks x false ≡ true → IsFaceIn upper (get_or lower x [])
  pub all : (x : ℕ) → x < length lower → IsFaceIn upper (get_or lower x []) → get_or marks x false ≡ true

-- a simplex of degree n that is a face of no other
pub record IsFree (levels : List (List (List ℕ))) (n : ℕ) (s : List ℕ) : Type 0 where
  pub here : Among s (level levels n)
  pub no_face : IsFaceIn (level levels (n + 1)) s → ⊥

-- the first x simplices of degree n that are faces of no other are added to the simplices in order
pub record AddsBelow (levels : List (List (List ℕ))) (n x : ℕ) (old new : List (List ℕ)) : Type 0 where
  pub in_order : IsStrictlySortedBy simplex_cmp old → IsStrictlySortedBy simplex_cmp new
  pub at : (s : List ℕ) → Among s new → Among s old ⊎ IsFree levels n s
  pub kept : (s : List ℕ) → Among s old → Among s new
  pub put : (y : ℕ) → y < x → IsFree levels n (get_or (level levels n) y []) → Among (get_or (level levels n) y []) new

-- all of them
pub record AddsFree (levels : List (List (List ℕ))) (n : ℕ) (old new : List (List ℕ)) : Type 0 where
  pub in_order : IsStrictlySortedBy simplex_cmp old → IsStrictlySortedBy simplex_cmp new
  pub at : (s : List ℕ) → Among s new → Among s old ⊎ IsFree levels n s
  pub kept : (s : List ℕ) → Among s old → Among s new
  pub put : (s : List ℕ) → IsFree levels n s → Among s new
