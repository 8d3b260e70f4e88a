-- The complexes and maps of a job, with the index and the basis that stand for each complex.
use Rattle.std.specs.Prelude.{◌≡◌, ℕ, ◌≤◌, ◌<◌, ◌^◌, List, [], get_or, length, slice_get, None, Some, ℤ}
use Rattle.linear_law.specs.Names.{Each, IsAscending}
use Rattle.simplicial_law.specs.ListedSimplices.{simplices}
use Rattle.report_law.specs.{Types.{ComplexBlock, MapBlock, Sizes}, Names.{Classes, AreSizes}}
use Rattle.complex_file.specs.Names.{facets_at, map_fault}
use Rattle.complex_index.specs.{declared.indexed.Cochain.Cochain, Names.IsIndexOf}
use Rattle.job_report.specs.{declared.known.Known.Known, Listed.level_counts}
use Rattle.class_matrices.specs.Names.{class_counts, listed_classes}
use Rattle.line_difference.specs.Elements.{AreStored}
use Rattle.may_elements.specs.Stored.{Parts}

-- ascending facets of 1 to 16 vertices, with fewer than 2^32 simplices in all
pub record CanBeIndexed (facets : List (List ℕ)) : Type 0 where
  pub ascending : Each IsAscending facets
  pub some : Each (λ f. 0 < length f) facets
  pub short : Each (λ f. length f ≤ 16) facets
  pub few : length (simplices facets) < 2 ^ 32

-- the index and the basis of a complex
abbrev pub IsKnown : {B : Type 0} → (List (List (List ℕ)) → B → Type 0) → ComplexBlock → Known B → Type 0
IsKnown is_of block x = IsIndexOf block.facets x.index × is_of x.index x.basis

-- z has the numbers of simplices and of classes by degree; there are at most 16 degrees
pub record IsSize {p : ℕ} {B : Type 0} (classes : B → ℕ → List (Cochain p)) (x : Known B) (z : Sizes) : Type 0 where
  pub simplices : z.simplices ≡ level_counts x.index
  pub ranks : z.ranks ≡ class_counts {p = p} x.index (classes x.basis)
  pub few : length x.index ≤ 16

-- whichever complex the first stands for, the second does
abbrev pub IsDeeper : {A B : Type 0} → (List (List (List ℕ)) → A → Type 0) → (List (List (List ℕ)) → B → Type 0) → Known A → Known B → Type 0
IsDeeper of_first of_second x y = (block : ComplexBlock) → IsKnown of_first block x → IsKnown of_second block y

-- the May elements of the live blocks and lines of a complex are stored
abbrev pub HasStored : ℕ → Parts → ComplexBlock → Type 0
HasStored p table block = (z : Sizes) → AreSizes p block.facets z → AreStored p table z.ranks

-- the classes by degree of each complex
abbrev pub AreAllListed : {p : ℕ} {B : Type 0} → (B → ℕ → List (Cochain p)) → List (Known B) → List Classes → Type 0
AreAllListed {p} {B} classes known all = (k : ℕ) (x : Known B) → slice_get known k ≡ Some x → get_or all k [] ≡ listed_classes {p = p} x.index (classes x.basis)

-- a map between two of the complexes, without a fault
pub record IsFreeMap (complexes : List ComplexBlock) (m : MapBlock) : Type 0 where
  pub from : m.from < length complexes
  pub to : m.to < length complexes
  pub free : map_fault (facets_at complexes m.from) (facets_at complexes m.to) m.sends ≡ None
