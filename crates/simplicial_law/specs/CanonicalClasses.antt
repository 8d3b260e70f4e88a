-- The canonical classes of a complex as they are printed, and the basis of cohomology that they are.
use Rattle.std.specs.Prelude.{ℕ, ◌<◌, ◌*◌, List, [], map, length, get_or}
use Rattle.std.specs.List.{AllZip}
use Rattle.linear_law.specs.Names.{sum_over, Among, Each, IsPivot}
use Rattle.simplicial_law.specs.Simplices.{IsInOrder, IsSimplex, Precedes}
use Rattle.simplicial_law.specs.Cochains.{Chain, Cochain, IsBasisModulo, IsCoboundary, IsCocycle, unit_cochain}
use Rattle.simplicial_law.specs.Canonical.{IsCanonicalModulo}

-- the cochain with these terms: at a simplex, the sum of the coefficients that stand with it
abbrev pub cochain_of : Chain → Cochain
cochain_of terms s = sum_over (λ t. t.0 * unit_cochain t.1 s) terms

-- Terms as they are printed: coefficients from 1 to p - 1, with simplices of degree n in order.
pub record AreTerms (facets : List (List ℕ)) (n p : ℕ) (terms : Chain) : Type 0 where
  pub coefficients : Each (λ t. (0 < t.0) × (t.0 < p)) terms
  pub simplices : Each (λ t. IsSimplex facets n t.1) terms
  pub in_order : IsInOrder (map (λ t. t.1) terms)

-- These are the canonical classes of the cocycles Z modulo the coboundaries B, in degree n: one for each simplex
-- that is a pivot of the cocycles and not of the coboundaries, in the order of these simplices.
pub record AreCanonicalModulo (facets : List (List ℕ)) (n p : ℕ) (Z B : Cochain → Type 0) (classes : List Chain) : Type 0 where
  pub pivots : List (List ℕ)
  pub in_order : IsInOrder pivots
  pub all : (s : List ℕ) → IsPivot p (IsSimplex facets n) Precedes Z s →
      (IsPivot p (IsSimplex facets n) Precedes B s → ⊥) → Among s pivots
  pub canonical : AllZip (λ s terms. IsCanonicalModulo facets n p Z B s (cochain_of terms)) pivots classes
  pub terms : Each (AreTerms facets n p) classes

-- they are canonical, and a basis
pub record IsCanonicalBasisModulo (facets : List (List ℕ)) (n p : ℕ) (Z B : Cochain → Type 0) (classes : List Chain) : Type 0 where
  pub canonical : AreCanonicalModulo facets n p Z B classes
  pub basis : IsBasisModulo p Z B (map cochain_of classes)

-- the canonical classes of degree n
abbrev pub AreCanonicalClasses : List (List ℕ) → ℕ → ℕ → List Chain → Type 0
AreCanonicalClasses facets n p classes = AreCanonicalModulo facets n p (IsCocycle facets n p) (IsCoboundary facets n p) classes

-- the canonical classes of degree n, which are a basis of cohomology
abbrev pub IsCanonicalBasis : List (List ℕ) → ℕ → ℕ → List Chain → Type 0
IsCanonicalBasis facets n p classes = IsCanonicalBasisModulo facets n p (IsCocycle facets n p) (IsCoboundary facets n p) classes

-- a basis for each degree that has a simplex, from 0 on
pub record AreCanonicalBases (facets : List (List ℕ)) (p : ℕ) (degrees : List (List Chain)) : Type 0 where
  pub each : (n : ℕ) → n < length degrees → IsCanonicalBasis facets n p (get_or degrees n [])
  pub inhabited : (n : ℕ) → n < length degrees → (s : List ℕ) × IsSimplex facets n s
  pub whole : (n : ℕ) (s : List ℕ) → IsSimplex facets n s → n < length degrees
