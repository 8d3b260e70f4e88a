-- Cycles that are dual to the classes. A chain stands as a row of its coefficients by place.
use Rattle.std.specs.Prelude.{◌≡◌, ℕ, List, [], ◌<◌, ◌⊎◌, ◌^◌, length, get_or, slice_get, Some}
use Rattle.linear_law.specs.Names.{Congruent, Among, Each, unit_vector, paired}
use Rattle.simplicial_law.specs.Names.{IsInOrder, AgreesOnSimplices, Cochain as SimplexCochain, IsCoboundary, pairing, unit_cochain, IsCanonicalClass, IsCanonicalCoboundary, IsCoboundaryPivot, canonical_cycle, cochain_of, terms_of}
use Rattle.cycle_table.specs.Tables.{column}
use Rattle.sparse_rows.specs.Rows.{IsBelow, IsFirst, value_in}
use Rattle.complex_index.specs.{Names.{IsIndexOf, level}, declared.indexed.Cochain.Cochain}
use Rattle.relative_law.specs.Names.{IsRelativeCoboundary, IsCanonicalRelativeClass, IsCanonicalRelativeCoboundary, IsRelativeCoboundaryPivot}
use Rattle.cohomology.specs.{declared.classes.DegreeClasses.DegreeClasses, Pairs.IsPairIndexOf, Classes.{AreCanonicalIn, AreRelativeIn, IsPlaced, cochain_in, in_degree}}

-- These are the pivots of the relative coboundaries of degree n, each once.
pub record ArePivots (facets parts : List (List ℕ)) (n p : ℕ) (pivots : List (List ℕ)) : Type 0 where
  pub in_order : IsInOrder pivots
  pub each : Each (IsRelativeCoboundaryPivot facets parts n p) pivots
  pub all : (s : List ℕ) → IsRelativeCoboundaryPivot facets parts n p s → Among s pivots

-- y is the canonical cycle of the class at the place i, for a pair: it pairs to 0 with each relative coboundary, and to 1
-- with its own class and to 0 with the others.
pub record IsRelativeCycle (p : ℕ) (full sub : List (List (List ℕ))) (n : ℕ) (classes : List (Cochain p)) (i : ℕ) (y : Cochain p) : Type 0 where
  pub placed : IsPlaced p full n y
  pub chain : (facets parts : List (List ℕ)) → IsPairIndexOf facets parts full sub → (class : Cochain p) (s : List ℕ) (pivots : List (List ℕ)) (bound : List ℕ → SimplexCochain) →
      slice_get classes i ≡ Some class → IsCanonicalRelativeClass facets parts n p s (cochain_in full n class.row) →
      ArePivots facets parts n p pivots → Each (λ t. IsCanonicalRelativeCoboundary facets parts n p t (bound t)) pivots →
      AgreesOnSimplices facets n p (cochain_in full n y.row) (cochain_of (canonical_cycle p bound pivots s))
  pub coboundaries : (facets parts : List (List ℕ)) → IsPairIndexOf facets parts full sub → (f : SimplexCochain) → IsRelativeCoboundary facets parts n p f →
      Congruent p (pairing f (terms_of (level full n) y.row)) 0
  pub classes_at : (facets parts : List (List ℕ)) → IsPairIndexOf facets parts full sub → (j : ℕ) (class : Cochain p) → slice_get classes j ≡ Some class →
      Congruent p (pairing (cochain_in full n class.row) (terms_of (level full n) y.row)) (unit_vector i j)

-- the same for a complex
pub record IsCanonicalCycle (p : ℕ) (levels : List (List (List ℕ))) (n : ℕ) (classes : List (Cochain p)) (i : ℕ) (y : Cochain p) : Type 0 where
  pub placed : IsPlaced p levels n y
  pub chain : (facets : List (List ℕ)) → IsIndexOf facets levels → (class : Cochain p) (s : List ℕ) (pivots : List (List ℕ)) (bound : List ℕ → SimplexCochain) →
      slice_get classes i ≡ Some class → IsCanonicalClass facets n p s (cochain_in levels n class.row) →
      IsInOrder pivots → Each (IsCoboundaryPivot facets n p) pivots → ((t : List ℕ) → IsCoboundaryPivot facets n p t → Among t pivots) →
      Each (λ t. IsCanonicalCoboundary facets n p t (bound t)) pivots →
      AgreesOnSimplices facets n p (cochain_in levels n y.row) (cochain_of (canonical_cycle p bound pivots s))
  pub coboundaries : (facets : List (List ℕ)) → IsIndexOf facets levels → (f : SimplexCochain) → IsCoboundary facets n p f →
      Congruent p (pairing f (terms_of (level levels n) y.row)) 0
  pub classes_at : (facets : List (List ℕ)) → IsIndexOf facets levels → (j : ℕ) (class : Cochain p) → slice_get classes j ≡ Some class →
      Congruent p (pairing (cochain_in levels n class.row) (terms_of (level levels n) y.row)) (unit_vector i j)

-- ---- what the code keeps

-- the least place of the row, and 0 where it is empty
abbrev pub IsLeadOf : List (ℕ × ℕ) → ℕ → Type 0
IsLeadOf row k = (row ≡ []) ⊎ IsFirst row k

-- the values of a cochain by place
abbrev pub at_places : List (List ℕ) → SimplexCochain → ℕ → ℕ
at_places here f x = f (get_or here x [])

-- The columns of the table of degree n are cycles that are dual to the canonical relative classes: each pairs to 0 with the relative
-- coboundaries, and to 1 with its class and to 0 with the others; and outside the pivots of the relative coboundaries it is not 0 at the pivot of its class alone.
pub record IsDualTable (facets parts : List (List ℕ)) (p n : ℕ) (here : List (List ℕ)) (classes : List (Cochain p)) (table : List (List (ℕ × ℕ))) : Type 0 where
  pub coboundaries : (i : ℕ) → i < length classes → (f : SimplexCochain) → IsRelativeCoboundary facets parts n p f → Congruent p (paired (length here) (at_places here f) (column table i)) 0
  pub dual : (i j : ℕ) (class : Cochain p) → i < length classes → slice_get classes j ≡ Some class → Congruent p (paired (length here) (at_places here (cochain_of (terms_of here class.row))) (column table i)) (unit_vector i j)
  pub decide : (k : ℕ) → k < length here → IsRelativeCoboundaryPivot facets parts n p (get_or here k []) ⊎ (IsRelativeCoboundaryPivot facets parts n p (get_or here k []) → ⊥)
  pub free : (i k : ℕ) (class : Cochain p) (s : List ℕ) → slice_get classes i ≡ Some class → IsCanonicalRelativeClass facets parts n p s (cochain_of (terms_of here class.row)) → k < length here →
      (IsRelativeCoboundaryPivot facets parts n p (get_or here k []) → ⊥) → Congruent p (column table i k) (unit_cochain s (get_or here k []))

-- the canonical relative classes of degree n, and the table of their cycles
pub record AreDualClasses (p : ℕ) (full sub : List (List (List ℕ))) (n : ℕ) (classes : List (Cochain p)) (table : List (List (ℕ × ℕ))) : Type 0 where
  pub relative : AreRelativeIn p full sub n classes
  pub whole : length table ≡ length (level full n)
  pub few : length table < 2 ^ 32
  pub cycles : (facets parts : List (List ℕ)) → IsPairIndexOf facets parts full sub → IsDualTable facets parts p n (level full n) classes table

-- the classes of degree n, none past the last degree, and the table of their cycles
abbrev pub classes_in : {p : ℕ} → List (DegreeClasses p) → ℕ → List (Cochain p)
classes_in degrees n = in_degree (λ d. d.classes.items) degrees n

abbrev pub table_in : {p : ℕ} → List (DegreeClasses p) → ℕ → List (List (ℕ × ℕ))
table_in degrees n = in_degree (λ d. d.table.items) degrees n

-- these are the canonical relative classes of the pair in each degree, with their cycles; past the dimension there are none
pub record AreClassesOfPair (p : ℕ) (full sub : List (List (List ℕ))) (degrees : List (DegreeClasses p)) : Type 0 where
  pub each : (n : ℕ) → AreDualClasses p full sub n (classes_in degrees n) (table_in degrees n)

-- these are the canonical classes of the complex in each degree, and as classes of the pair with no subcomplex they have their cycles
pub record AreClassesOf (p : ℕ) (levels : List (List (List ℕ))) (degrees : List (DegreeClasses p)) : Type 0 where
  pub canonical : (n : ℕ) → AreCanonicalIn p levels n (classes_in degrees n)
  pub pair : AreClassesOfPair p levels [] degrees

-- the classes and the places of each degree can be counted in 32 bits
pub record AreFewClasses {p : ℕ} (degrees : List (DegreeClasses p)) : Type 0 where
  pub classes : (n : ℕ) → length (classes_in degrees n) < 2 ^ 32
  pub places : (n : ℕ) → length (table_in degrees n) < 2 ^ 32

-- the values of the row at the first `count` positions
pub record IsSpread (row : List (ℕ × ℕ)) (count : ℕ) (values : List ℕ) : Type 0 where
  pub whole : length values ≡ count
  pub each : (i : ℕ) → i < count → (get_or values i 0 ≡ value_in row i)

-- the places below k at which the i-th column is not 0, with its values there
pub record IsColumnRow (table : List (List (ℕ × ℕ))) (i k : ℕ) (pairs : List (ℕ × ℕ)) : Type 0 where
  pub inside : IsBelow k pairs
  pub values : (x : ℕ) → x < k → value_in pairs x ≡ column table i x
