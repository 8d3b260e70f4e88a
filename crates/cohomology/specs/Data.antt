-- The canonical data of a complex and of a pair by degree: classes, coboundaries and primitives, as rows by place.
use Rattle.std.specs.{Prelude.{◌≡◌, ℕ, ◌+◌, ◌-◌, ◌^◌, ◌<◌, List, [], map, length, get_or, Vec}, declared.alloc.Global.Global}
use Rattle.linear_law.specs.Names.{Among, Each, IsAscending}
use Rattle.simplicial_law.specs.Names.{IsCanonicalCoboundary, IsCanonicalPrimitive, IsCoboundaryPivot}
use Rattle.complex_index.specs.Names.{IsIndexOf, level}
use Rattle.row_reduce.specs.declared.EchelonRow.{EchelonRow}
use Rattle.relative_law.specs.Names.{IsCanonicalRelativeCoboundary, IsCanonicalRelativePrimitive, IsRelativeCoboundaryPivot}
use Rattle.cohomology.specs.{declared.classes.DegreeClasses.DegreeClasses, declared.data.Coboundary.Coboundary, Pairs.IsPairIndexOf, Classes.{IsPlaced, cochain_in, in_degree}, Cycles.{AreClassesOf, AreClassesOfPair}}

-- the simplex at which the coboundary has its pivot
abbrev pub pivot_in : {p : ℕ} → List (List ℕ) → Coboundary p → List ℕ
pivot_in here b = get_or here b.pivot []

-- b is the canonical coboundary of degree n at its pivot, with its canonical primitive
pub record IsCoboundaryOf (facets : List (List ℕ)) (p : ℕ) (levels : List (List (List ℕ))) (n : ℕ) (b : Coboundary p) : Type 0 where
  pub coboundary : IsCanonicalCoboundary facets n p (pivot_in (level levels n) b) (cochain_in levels n b.cochain.row)
  pub primitive : IsCanonicalPrimitive facets (n - 1) p (cochain_in levels n b.cochain.row) (cochain_in levels (n - 1) b.primitive.row)

-- the same with relative cochains
pub record IsRelativeCoboundaryOf (facets parts : List (List ℕ)) (p : ℕ) (full : List (List (List ℕ))) (n : ℕ) (b : Coboundary p) : Type 0 where
  pub coboundary : IsCanonicalRelativeCoboundary facets parts n p (pivot_in (level full n) b) (cochain_in full n b.cochain.row)
  pub primitive : IsCanonicalRelativePrimitive facets parts (n - 1) p (cochain_in full n b.cochain.row) (cochain_in full (n - 1) b.primitive.row)

-- a coboundary of degree n and a primitive one degree below, with a pivot in range
pub record IsPlacedCoboundary (p : ℕ) (levels : List (List (List ℕ))) (n : ℕ) (b : Coboundary p) : Type 0 where
  pub pivot : b.pivot < length (level levels n)
  pub cochain : IsPlaced p levels n b.cochain
  pub primitive : IsPlaced p levels (n - 1) b.primitive

-- coboundaries and primitives of degrees n and n - 1, in the order of their pivots
pub record ArePlacedCoboundaries (p : ℕ) (levels : List (List (List ℕ))) (n : ℕ) (coboundaries : List (Coboundary p)) : Type 0 where
  pub each : Each (IsPlacedCoboundary p levels n) coboundaries
  pub ascends : IsAscending (map (λ b. b.pivot) coboundaries)

-- These are the canonical coboundaries of degree n of each complex with these levels: one for each pivot of the coboundaries, in order.
pub record AreCoboundaries (p : ℕ) (levels : List (List (List ℕ))) (n : ℕ) (coboundaries : List (Coboundary p)) : Type 0 where
  pub placed : ArePlacedCoboundaries p levels n coboundaries
  pub each : (facets : List (List ℕ)) → IsIndexOf facets levels → Each (IsCoboundaryOf facets p levels n) coboundaries
  pub all : (facets : List (List ℕ)) (s : List ℕ) → IsIndexOf facets levels → IsCoboundaryPivot facets n p s → Among s (map (pivot_in (level levels n)) coboundaries)

-- the same for each pair with these levels
pub record AreRelativeCoboundaries (p : ℕ) (full sub : List (List (List ℕ))) (n : ℕ) (coboundaries : List (Coboundary p)) : Type 0 where
  pub placed : ArePlacedCoboundaries p full n coboundaries
  pub each : (facets parts : List (List ℕ)) → IsPairIndexOf facets parts full sub → Each (IsRelativeCoboundaryOf facets parts p full n) coboundaries
  pub all : (facets parts : List (List ℕ)) (s : List ℕ) → IsPairIndexOf facets parts full sub → IsRelativeCoboundaryPivot facets parts n p s → Among s (map (pivot_in (level full n)) coboundaries)

-- what a complex or a pair has of canonical data, by degree
pub record CohomologyData (p : ℕ) : Type 0 where
  pub light : List (DegreeClasses p)
  pub bounds : List (Vec (Coboundary p) Global)

-- the coboundaries of degree n, none past the dimension
abbrev pub bounds_in : {p : ℕ} → List (Vec (Coboundary p) Global) → ℕ → List (Coboundary p)
bounds_in bounds n = in_degree (λ v. v.items) bounds n

abbrev pub coboundaries_in : {p : ℕ} → CohomologyData p → ℕ → List (Coboundary p)
coboundaries_in d n = bounds_in d.bounds n

-- these are the canonical data of the pair in each degree; past the dimension there are none
pub record IsCohomologyOfPair (p : ℕ) (full sub : List (List (List ℕ))) (d : CohomologyData p) : Type 0 where
  pub classes : AreClassesOfPair p full sub d.light
  pub coboundaries : (n : ℕ) → AreRelativeCoboundaries p full sub n (coboundaries_in d n)

-- these are the canonical data of the complex in each degree, which are those of the pair with no subcomplex
pub record IsCohomologyOf (p : ℕ) (levels : List (List (List ℕ))) (d : CohomologyData p) : Type 0 where
  pub classes : AreClassesOf p levels d.light
  pub coboundaries : (n : ℕ) → AreCoboundaries p levels n (coboundaries_in d n)
  pub pair : IsCohomologyOfPair p levels [] d

-- the coboundaries of each degree can be counted in 32 bits
pub record AreFewCoboundaries {p : ℕ} (bounds : List (Vec (Coboundary p) Global)) : Type 0 where
  pub each : (n : ℕ) → length (bounds_in bounds n) < 2 ^ 32

-- ---- what the code makes

-- the coboundary of degree n + 1 of an echelon row of the coboundary rows of degree n
pub record IsCoboundaryFrom {p : ℕ} (n : ℕ) (e : EchelonRow p) (b : Coboundary p) : Type 0 where
  pub pivot : b.pivot ≡ e.pivot
  pub row : b.cochain.row ≡ e.row
  pub degree : b.cochain.degree ≡ n + 1
  pub row_below : b.primitive.row ≡ e.combination
  pub degree_below : b.primitive.degree ≡ n
