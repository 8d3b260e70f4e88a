-- Cochains by degree, as rows by place, and the classes of a complex and of a pair.
use Rattle.std.specs.Prelude.{Option, ◌≡◌, ℕ, ◌^◌, ◌<◌, zero, suc, List, [], ◌∷◌, map, length}
use Rattle.linear_law.specs.Names.{Each}
use Rattle.simplicial_law.specs.Names.{Chain, Cochain as SimplexCochain, IsCanonicalBasis, cochain_of, terms_of, cochain_at}
use Rattle.sparse_rows.specs.Rows.{IsBelow, IsRow}
use Rattle.complex_index.specs.{Names.{IsIndexOf, level}, declared.indexed.Cochain.Cochain}
use Rattle.row_reduce.specs.{Names.{AreTriangular, stored_row, IsLeadIn}, declared.Stored.Stored}
use Rattle.relative_law.specs.Names.{IsRelativeCoboundary, IsCanonicalRelativeBasis, AreRelativeBoundPlaces}
use Rattle.cohomology.specs.Pairs.{IsPairIndexOf}

-- the cochain of degree n with this row
abbrev pub cochain_in : List (List (List ℕ)) → ℕ → List (ℕ × ℕ) → SimplexCochain
cochain_in levels n row = cochain_of (terms_of (level levels n) row)

-- the terms of each class of one degree: the simplices `here` at its places, with its values
abbrev pub chains_at : {p : ℕ} → List (List ℕ) → List (Cochain p) → List Chain
chains_at here classes = map (λ c. terms_of here c.row) classes

-- a cochain of degree n: a row, at places of simplices of this degree
pub record IsPlaced (p : ℕ) (levels : List (List (List ℕ))) (n : ℕ) (c : Cochain p) : Type 0 where
  pub degree : c.degree ≡ n
  pub row_is : IsRow p c.row
  pub inside : IsBelow (length (level levels n)) c.row

-- what holds of the data of each degree, from n on
abbrev pub EachFrom : {D : Type 0} → (ℕ → D → Type 0) → ℕ → List D → Type 0
EachFrom P n [] = Unit {0}
EachFrom P n (d ∷ ds) = P n d × EachFrom P (suc n) ds

-- the canonical classes of degree n of each complex with these levels
pub record AreCanonicalIn (p : ℕ) (levels : List (List (List ℕ))) (n : ℕ) (classes : List (Cochain p)) : Type 0 where
  pub placed : Each (IsPlaced p levels n) classes
  pub basis : (facets : List (List ℕ)) → IsIndexOf facets levels → IsCanonicalBasis facets n p (chains_at (level levels n) classes)

-- the canonical relative classes of degree n of each pair with these levels
pub record AreRelativeIn (p : ℕ) (full sub : List (List (List ℕ))) (n : ℕ) (classes : List (Cochain p)) : Type 0 where
  pub placed : Each (IsPlaced p full n) classes
  pub few : length classes < 2 ^ 32
  pub basis : (facets parts : List (List ℕ)) → IsPairIndexOf facets parts full sub → IsCanonicalRelativeBasis facets parts n p (chains_at (level full n) classes)

-- what the data of degree n have of something, none past the last degree
abbrev pub in_degree : {D X : Type 0} → (D → List X) → List D → ℕ → List X
in_degree f [] n = []
in_degree f (d ∷ ds) zero = f d
in_degree f (d ∷ ds) (suc n) = in_degree f ds n

-- ---- what a walk keeps

-- The table has a number for each simplex of degree n, which is not 0 exactly at the pivots of the relative coboundaries.
pub record IsPivotTable (p : ℕ) (full sub : List (List (List ℕ))) (n : ℕ) (pivots : List (Option ℕ)) : Type 0 where
  pub few : length (level full n) < 2 ^ 32
  pub whole : length pivots ≡ length (level full n)
  pub places : (facets parts : List (List ℕ)) → IsPairIndexOf facets parts full sub → AreRelativeBoundPlaces facets parts n p (level full n) (IsLeadIn pivots)

-- triangular rows of relative coboundaries of degree n, one for each pivot, which the table names
pub record AreStoredBounds (p : ℕ) (full sub : List (List (List ℕ))) (n : ℕ) (stored : List (Stored p)) (pivots : List (Option ℕ)) : Type 0 where
  pub triangular : AreTriangular p (length (level full n)) stored pivots
  pub members : (facets parts : List (List ℕ)) → IsPairIndexOf facets parts full sub → Each (λ (s : Stored p). IsRelativeCoboundary facets parts n p (cochain_at (level full n) (stored_row s))) stored

-- what the walks below degree n tell of its coboundaries
pub record IsReachedIn (p : ℕ) (full sub : List (List (List ℕ))) (n : ℕ) (pivots : List (Option ℕ)) (stored : List (Stored p)) : Type 0 where
  pub table : IsPivotTable p full sub n pivots
  pub bounds : AreStoredBounds p full sub n stored pivots
