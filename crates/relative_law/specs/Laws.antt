-- The laws of relative cohomology.
use Rattle.std.specs.Prelude.{ℕ, ◌+◌, ◌<◌, List, [], get_or, length, map, ◌↔◌}
use Rattle.std.specs.List.{AllZip}
use Rattle.linear_law.specs.Names.{Congruent, IsField, ImageVector, IsImage, KernelVector, Among, Each, ListsAll, row_combination, AgreesOn, Skips, Walked, image_place, IsCanonical}
use Rattle.simplicial_law.specs.Names.{IsInOrder, IsSimplex, Chain, Cochain, HasCoordinates, IsCoboundary, IsCocycle, IsCohomologyBasis, AreDualCycles, IsCanonicalCoboundary, IsCanonicalPrimitive, IsCoboundaryPivot, IsCocyclePivot, pairings, IsCanonicalBasis, IsRowOf, cochain_at, terms_of}
use Rattle.relative_law.specs.Pairs.{HasRelativeCoordinates, IsRelativeBasis, IsRelativeCoboundary, IsRelativeCocycle, IsSubcomplex}
use Rattle.relative_law.specs.RelativeClasses.{IsCanonicalRelativeBasis, IsCanonicalRelativeCoboundary, IsCanonicalRelativePrimitive, IsRelativeCoboundaryPivot, IsRelativeCocyclePivot}
use Rattle.relative_law.specs.RelativeElimination.{AreRelativeBoundPlaces, AreSkippedPlaces, IsRelativeCoboundaryRow}

-- Where the subcomplex has no facet, the relative notions are those of the complex.
pub record AbsoluteLaw : Type 0 where
  pub cocycles : (facets : List (List ℕ)) (n p : ℕ) (z : Cochain) → IsRelativeCocycle facets [] n p z ↔ IsCocycle facets n p z
  pub coboundaries : (facets : List (List ℕ)) (n p : ℕ) (z : Cochain) → IsRelativeCoboundary facets [] n p z ↔ IsCoboundary facets n p z
  pub coordinates : (facets : List (List ℕ)) (n p : ℕ) (zs : List Cochain) (z : Cochain) (cs : List ℕ) →
      HasRelativeCoordinates facets [] n p zs z cs ↔ HasCoordinates facets n p zs z cs
  pub bases : (facets : List (List ℕ)) (n p : ℕ) (zs : List Cochain) → IsRelativeBasis facets [] n p zs ↔ IsCohomologyBasis facets n p zs
  pub cocycle_pivots : (facets : List (List ℕ)) (n p : ℕ) (s : List ℕ) → IsRelativeCocyclePivot facets [] n p s ↔ IsCocyclePivot facets n p s
  pub coboundary_pivots : (facets : List (List ℕ)) (n p : ℕ) (s : List ℕ) → IsRelativeCoboundaryPivot facets [] n p s ↔ IsCoboundaryPivot facets n p s
  pub canonical_coboundaries : (facets : List (List ℕ)) (n p : ℕ) (t : List ℕ) (b : Cochain) →
      IsCanonicalRelativeCoboundary facets [] n p t b ↔ IsCanonicalCoboundary facets n p t b
  pub canonical_primitives : (facets : List (List ℕ)) (n p : ℕ) (z y : Cochain) → IsCanonicalRelativePrimitive facets [] n p z y ↔ IsCanonicalPrimitive facets n p z y
  pub canonical_bases : (facets : List (List ℕ)) (n p : ℕ) (classes : List Chain) → IsCanonicalRelativeBasis facets [] n p classes ↔ IsCanonicalBasis facets n p classes

-- In a degree in which the complex has no simplex, nothing is a basis.
pub record NoSimplexLaw : Type 0 where
  pub relative : (facets sub : List (List ℕ)) (n p : ℕ) → ((s : List ℕ) → IsSimplex facets n s → ⊥) → IsRelativeBasis facets sub n p []
  pub absolute : (facets : List (List ℕ)) (n p : ℕ) → ((s : List ℕ) → IsSimplex facets n s → ⊥) → IsCohomologyBasis facets n p []

-- The relative coordinates of a relative cocycle are its pairings with cycles that are dual to the basis.
abbrev pub RelativeDualLaw : Type 0
RelativeDualLaw =
    (facets sub : List (List ℕ)) (n p : ℕ) (zs : List Cochain) (ys : List Chain) (z : Cochain) → IsField p →
    IsRelativeBasis facets sub n p zs → AreDualCycles p (IsRelativeCoboundary facets sub n p) zs ys →
    IsRelativeCocycle facets sub n p z → HasRelativeCoordinates facets sub n p zs z (pairings p z ys)

-- What walks of the rows of relative cochains tell. In degree 0 no simplex is a pivot of the relative coboundaries. The places of the images are those of the pivots of the relative
-- coboundaries one degree up. Where these and the places of the subcomplex are skipped, the vectors of the kernel are
-- the canonical relative classes, and a basis of relative cohomology; and a canonical vector of the image is a
-- canonical relative coboundary, and what goes to it and is 0 at the places of the kernel and at the skipped ones is
-- its canonical primitive.
pub record RelativeBasisLaw : Type 0 where
  pub vertices : (facets sub : List (List ℕ)) (p : ℕ) (s : List ℕ) → IsRelativeCoboundaryPivot facets sub 0 p s → ⊥
  pub bounds : (facets sub : List (List ℕ)) (n p : ℕ) (here above : List (List ℕ)) → IsField p → IsSubcomplex sub facets →
      ListsAll (IsSimplex facets n) here → ListsAll (IsSimplex facets (n + 1)) above → IsInOrder above →
      (rows : List (ℕ → ℕ)) → AllZip (IsRelativeCoboundaryRow p sub above) rows here →
      (skipped : List ℕ) (kernel : List KernelVector) (images : List (ImageVector ℕ)) →
      Walked p (length here) (length above) (row_combination rows) (λ x. Among x skipped) 0 kernel images →
      AreRelativeBoundPlaces facets sub (n + 1) p above (λ x. Among x (map image_place images))
  pub classes : (facets sub : List (List ℕ)) (n p : ℕ) (here above : List (List ℕ)) → IsField p → IsSubcomplex sub facets →
      ListsAll (IsSimplex facets n) here → ListsAll (IsSimplex facets (n + 1)) above → IsInOrder here →
      (rows : List (ℕ → ℕ)) → AllZip (IsRelativeCoboundaryRow p sub above) rows here →
      (skipped : List ℕ) → AreSkippedPlaces facets sub n p here (λ x. Among x skipped) →
      (kernel : List KernelVector) (images : List (ImageVector ℕ)) →
      Walked p (length here) (length above) (row_combination rows) (λ x. Among x skipped) 0 kernel images →
      (vectors : List (List (ℕ × ℕ))) → AllZip (IsRowOf p (length here)) kernel vectors →
      IsCanonicalRelativeBasis facets sub n p (map (terms_of here) vectors)
  pub primitives : (facets sub : List (List ℕ)) (n p : ℕ) (here above : List (List ℕ)) → IsField p → IsSubcomplex sub facets →
      ListsAll (IsSimplex facets n) here → ListsAll (IsSimplex facets (n + 1)) above → IsInOrder here → IsInOrder above →
      (rows : List (ℕ → ℕ)) → AllZip (IsRelativeCoboundaryRow p sub above) rows here →
      (skipped : List ℕ) → AreSkippedPlaces facets sub n p here (λ x. Among x skipped) →
      (kernel : List KernelVector) (images : List (ImageVector ℕ)) →
      Walked p (length here) (length above) (row_combination rows) (λ x. Among x skipped) 0 kernel images →
      (y : ℕ) (row from : ℕ → ℕ) → IsCanonical p (λ y. y < length above) (λ a b. a < b) (IsImage p (λ y. y < length above) (row_combination rows)) y row →
      AgreesOn p (λ y. y < length above) (row_combination rows from) row → Each (λ k. Congruent p (from k.place) 0) kernel → Skips p (λ x. Among x skipped) from →
      IsCanonicalRelativeCoboundary facets sub (n + 1) p (get_or above y []) (cochain_at above row)
      × IsCanonicalRelativePrimitive facets sub n p (cochain_at above row) (cochain_at here from)
