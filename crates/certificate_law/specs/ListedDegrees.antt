-- Listed cochains and classes of a complex: least simplices, degrees and counts, which are tested without eliminating anything.
use Rattle.std.specs.Prelude.{◌≡◌, ℕ, ◌+◌, List, map, length}
use Rattle.linear_law.specs.Names.{Each, IsLead}
use Rattle.simplicial_law.specs.{Names.{IsSimplex, Precedes, Chain, Cochain, coboundary, cochain_of, of_degree}, ListedSimplices.simplices}

-- s is the least simplex of degree n at which z is not zero
abbrev pub IsLeastSimplex : List (List ℕ) → ℕ → ℕ → Cochain → List ℕ → Type 0
IsLeastSimplex facets n p z s = IsLead p (IsSimplex facets n) Precedes z s

-- z is not zero, and its least simplex is that of none of the others
pub record HasNewLeast (facets : List (List ℕ)) (n p : ℕ) (others : List Cochain) (z : Cochain) : Type 0 where
  pub simplex : List ℕ
  pub least : IsLeastSimplex facets n p z simplex
  pub new : Each (λ y. IsLeastSimplex facets n p y simplex → ⊥) others

-- a simplex of one degree less than n; in degree 0 there is none
pub record IsOneBelow (facets : List (List ℕ)) (n : ℕ) (s : List ℕ) : Type 0 where
  pub degree : ℕ
  pub one_less : n ≡ degree + 1
  pub simplex : IsSimplex facets degree s

-- each term of the chain stands on a simplex of degree n
abbrev pub IsOn : List (List ℕ) → ℕ → Chain → Type 0
IsOn facets n chain = Each (λ t. IsSimplex facets n t.1) chain

-- each term of the chain stands on a simplex of one degree less; in degree 0 there is no term
abbrev pub IsOnBelow : List (List ℕ) → ℕ → Chain → Type 0
IsOnBelow facets n chain = Each (λ t. IsOneBelow facets n t.1) chain

abbrev pub coboundaries_of : ℕ → List Chain → List Cochain
coboundaries_of p below = map (λ y. coboundary p (cochain_of y)) below

-- the number of simplices of degree n
abbrev pub simplex_count : List (List ℕ) → ℕ → ℕ
simplex_count facets n = length (of_degree n (simplices facets))

-- The number of simplices of degree n is that of the cochains listed below and of the classes of degree n, and of
-- the cochains listed below of the next degree.
abbrev pub IsCounted : List (List ℕ) → ℕ → List Chain → List Chain → List Chain → Type 0
IsCounted facets n below classes next = simplex_count facets n ≡ length below + length classes + length next
