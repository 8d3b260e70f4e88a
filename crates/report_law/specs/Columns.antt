-- Printed chains, columns and verdicts: coordinates, canonical primitives and cycles. Where `detailed` is true the chains
-- under columns and verdicts are told too.
use Rattle.std.specs.{Prelude.{◌≡◌, IsTrue, Bool, ℕ, ◌+◌, ◌<◌, zero, suc, List, [], map, length, get_or}, List.AllZip}
use Rattle.linear_law.specs.Names.{negated, Among, Each, combination}
use Rattle.simplicial_law.specs.Names.{IsInOrder, AgreesOnSimplices, Chain, Cochain, HasCoordinates, IsCoboundary, IsCanonicalClass, IsCanonicalCoboundary, IsCanonicalPrimitive, IsCoboundaryPivot, canonical_cycle, AreTerms, cochain_of}
use Rattle.report_law.specs.Types.{CartanAnswer, Yes, No}

-- ---- primitives

-- the terms are the canonical primitive of the coboundary z of degree n. In degree 0 both are zero
abbrev pub IsPrimitive : List (List ℕ) → ℕ → ℕ → Cochain → Chain → Type 0
IsPrimitive facets zero p z terms = AgreesOnSimplices facets 0 p z (λ s. 0) × (terms ≡ [])
IsPrimitive facets (suc n) p z terms = IsCanonicalPrimitive facets n p z (cochain_of terms) × AreTerms facets n p terms

-- These are the pivots of the coboundaries of degree n, in order.
pub record ArePivots (facets : List (List ℕ)) (n p : ℕ) (pivots : List (List ℕ)) : Type 0 where
  pub in_order : IsInOrder pivots
  pub each : Each (IsCoboundaryPivot facets n p) pivots
  pub all : (s : List ℕ) → IsCoboundaryPivot facets n p s → Among s pivots

-- the terms are the canonical primitive of the canonical coboundary of degree n at the pivot s
pub record IsPrimitiveAt (facets : List (List ℕ)) (n p : ℕ) (s : List ℕ) (terms : Chain) : Type 0 where
  pub bound : Cochain
  pub canonical : IsCanonicalCoboundary facets n p s bound
  pub primitive : IsPrimitive facets n p bound terms

-- These are the canonical primitives of degree n - 1: one for each pivot of the coboundaries of degree n, in order.
pub record ArePrimitives (facets : List (List ℕ)) (n p : ℕ) (below : List Chain) : Type 0 where
  pub pivots : List (List ℕ)
  pub are : ArePivots facets n p pivots
  pub primitives : AllZip (IsPrimitiveAt facets n p) pivots below

-- ---- columns

-- z less the combination of the classes with these coefficients
abbrev pub rest_of : ℕ → List Cochain → Cochain → List ℕ → Cochain
rest_of p zs z values s = z s + negated p (combination values zs s)

-- A column for the cochain z of degree n: the values are its coordinates for the classes, and the terms are the
-- canonical primitive of the rest.
pub record IsColumn (detailed : Bool) (facets : List (List ℕ)) (n p : ℕ) (zs : List Cochain) (z : Cochain) (values : List ℕ) (primitive : Chain) : Type 0 where
  pub coordinates : HasCoordinates facets n p zs z values
  pub rest : IsTrue detailed → IsPrimitive facets n p (rest_of p zs z values) primitive

-- ---- verdicts

-- the value at the place i of the list is not 0, and those before it are 0
pub record IsFirstValue (values : List ℕ) (i value : ℕ) : Type 0 where
  pub inside : i < length values
  pub here : get_or values i 0 ≡ value
  pub nonzero : 0 < value
  pub before : (k : ℕ) → k < i → get_or values k 0 ≡ 0

-- The terms are the canonical cycle of degree n at s: s, less each pivot of the coboundaries times the value at s of
-- its canonical coboundary.
pub record IsCycleAt (facets : List (List ℕ)) (n p : ℕ) (s : List ℕ) (terms : Chain) : Type 0 where
  pub pivots : List (List ℕ)
  pub are : ArePivots facets n p pivots
  pub bound : List ℕ → Cochain
  pub canonical : Each (λ t. IsCanonicalCoboundary facets n p t (bound t)) pivots
  pub same : AgreesOnSimplices facets n p (cochain_of terms) (cochain_of (canonical_cycle p bound pivots s))
  pub terms_are : AreTerms facets n p terms

-- the terms are the canonical cycle of the canonical class z
pub record IsCycleOf (facets : List (List ℕ)) (n p : ℕ) (z : Cochain) (terms : Chain) : Type 0 where
  pub pivot : List ℕ
  pub class : IsCanonicalClass facets n p pivot z
  pub cycle_at : IsCycleAt facets n p pivot terms

-- Why the cochain d of degree n is no coboundary: the value is its first coordinate for the classes that is not 0,
-- and the terms are the canonical cycle of this class.
pub record IsObstruction (detailed : Bool) (facets : List (List ℕ)) (n p : ℕ) (classes : List Chain) (d : Cochain) (value : ℕ) (cycle : Chain) : Type 0 where
  pub values : List ℕ
  pub coordinates : HasCoordinates facets n p (map cochain_of classes) d values
  pub place : ℕ
  pub first : IsFirstValue values place value
  pub cycle_of : IsTrue detailed → IsCycleOf facets n p (cochain_of (get_or classes place [])) cycle

-- The answer for the difference d of degree n: yes, with its canonical primitive, where d is a coboundary; or no, with
-- what shows that it is none.
abbrev pub IsAnswer : Bool → List (List ℕ) → ℕ → ℕ → List Chain → Cochain → CartanAnswer → Type 0
IsAnswer detailed facets n p classes d (Yes primitive) = IsCoboundary facets n p d × (IsTrue detailed → IsPrimitive facets n p d primitive)
IsAnswer detailed facets n p classes d (No value cycle) = IsObstruction detailed facets n p classes d value cycle
