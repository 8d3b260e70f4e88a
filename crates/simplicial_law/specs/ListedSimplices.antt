-- The simplices of a complex as one list, in order and each once.
use Rattle.std.specs.Prelude.{ℕ, ◌+◌, ◌==◌, List, [], ◌∷◌, ◌++◌, map, length, fold}
use Rattle.std.specs.List.{filter}
use Rattle.std.specs.declared.cmp.Ordering.{Ordering}
use Rattle.std.specs.Ordering.{nat_cmp}
use Rattle.std.specs.Cmp.Lexicographic.{slice_cmp}
use Rattle.std.specs.BTreeSet.{insert_key}
use Rattle.std.specs.List.Sorted.{IsStrictlySortedBy}
use Rattle.linear_law.specs.Names.{Among, Each, IsAscending, ListsAll}
use Rattle.simplicial_law.specs.Simplices.{IsInOrder, IsSimplex}

-- the order of simplices
abbrev pub simplex_cmp : List ℕ → List ℕ → Ordering
simplex_cmp = slice_cmp nat_cmp

-- the non-empty sublists of a list
abbrev pub sublists : List ℕ → List (List ℕ)
sublists [] = []
sublists (v ∷ vs) = (v ∷ []) ∷ (map (λ t. v ∷ t) (sublists vs) ++ sublists vs)

-- the simplices ks with those of one more facet, in order and each once
unfoldable pub with_facet : List (List ℕ) → List ℕ → List (List ℕ)
with_facet ks facet = fold (insert_key simplex_cmp) ks (sublists facet)

-- the simplices of a complex: the non-empty sublists of its facets, in order and each once
unfoldable pub simplices : List (List ℕ) → List (List ℕ)
simplices facets = fold with_facet [] facets

-- those with n + 1 vertices
abbrev pub of_degree : ℕ → List (List ℕ) → List (List ℕ)
of_degree n ks = filter (λ s. length s == n + 1) ks

-- in order, each once, and with each list its non-empty sublists
pub record IsClosed (ks : List (List ℕ)) : Type 0 where
  pub ordered : IsStrictlySortedBy simplex_cmp ks
  pub faces : (s t : List ℕ) → Among s ks → Among t (sublists s) → Among t ks

-- The list of the simplices of a complex with ascending facets has exactly its simplices, in order
-- and each once, and so have its parts of one degree.
pub record ListedSimplicesLaw : Type 0 where
  pub sound : (facets : List (List ℕ)) (s : List ℕ) → Each IsAscending facets → Among s (simplices facets) →
      (n : ℕ) × IsSimplex facets n s
  pub whole : (facets : List (List ℕ)) (n : ℕ) (s : List ℕ) → Each IsAscending facets → IsSimplex facets n s →
      Among s (simplices facets)
  pub in_order : (facets : List (List ℕ)) → IsInOrder (simplices facets)
  pub of_one_degree : (facets : List (List ℕ)) (n : ℕ) → Each IsAscending facets →
      ListsAll (IsSimplex facets n) (of_degree n (simplices facets))
  pub degree_in_order : (facets : List (List ℕ)) (n : ℕ) → IsInOrder (of_degree n (simplices facets))
