-- Listed chains, and the rows of cochains at the simplices of one degree.
use Rattle.std.specs.{Prelude.{◌≡◌, ℕ, ◌<◌, List, [], length, get_or, Some, None}, declared.option.Option.Option}
use Rattle.linear_law.specs.Names.{Congruent}
use Rattle.simplicial_law.specs.Names.{Chain, Cochain, coboundary, cochain_of, terms_of}
use Rattle.sparse_rows.specs.Rows.{IsBelow, value_in}
use Rattle.complex_index.specs.Names.{IsIndexOf, level}
use Rattle.certificate_law.specs.Names.{IsOn, IsOnBelow}

-- the row has the values of the cochain z at the simplices `here`, and nothing at other places
pub record HasValues (p : ℕ) (here : List (List ℕ)) (z : Cochain) (row : List (ℕ × ℕ)) : Type 0 where
  pub inside : IsBelow (length here) row
  pub values : (k : ℕ) → k < length here → Congruent p (value_in row k) (z (get_or here k []))

-- the terms of the row are those of the chain
pub record IsRowOfChain (here : List (List ℕ)) (chain : Chain) (row : List (ℕ × ℕ)) : Type 0 where
  pub inside : IsBelow (length here) row
  pub terms : terms_of here row ≡ chain

-- The row of a chain of degree n; there is none where a term stands on no simplex of that degree.
abbrev pub IsRowIn : List (List (List ℕ)) → ℕ → Chain → Option (List (ℕ × ℕ)) → Type 0
IsRowIn levels n chain None = (facets : List (List ℕ)) → IsIndexOf facets levels → IsOn facets n chain → ⊥
IsRowIn levels n chain (Some row) = IsRowOfChain (level levels n) chain row

-- the row has the values of the coboundary of the chain, whose terms stand on simplices of one degree less
pub record IsCoboundaryRow (p : ℕ) (levels : List (List (List ℕ))) (n : ℕ) (chain : Chain) (row : List (ℕ × ℕ)) : Type 0 where
  pub on : (facets : List (List ℕ)) → IsIndexOf facets levels → IsOnBelow facets n chain
  pub values : HasValues p (level levels n) (coboundary p (cochain_of chain)) row

-- The row in degree n of the coboundary of a chain; there is none where a term stands on no simplex of one degree less.
abbrev pub IsCoboundaryRowIn : ℕ → List (List (List ℕ)) → ℕ → Chain → Option (List (ℕ × ℕ)) → Type 0
IsCoboundaryRowIn p levels n chain None = (facets : List (List ℕ)) → IsIndexOf facets levels → IsOnBelow facets n chain → ⊥
IsCoboundaryRowIn p levels n chain (Some row) = IsCoboundaryRow p levels n chain row
