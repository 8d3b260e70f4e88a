-- Elimination that keeps nothing reduced: a triangular list of images, each with a lead of its own,
-- and the vectors of the kernel.
use Rattle.std.specs.Prelude.{◌≡◌, ℕ, ◌+◌, ◌<◌, ◌≤◌, ◌⊎◌, List, length, map}
use Rattle.linear_law.specs.Congruence.{Congruent}
use Rattle.linear_law.specs.Lists.{Among, Each, IsApart, IsAscending}
use Rattle.linear_law.specs.ReducedBases.{AgreesOn, IsReduced, IsReducedBasis}
use Rattle.linear_law.specs.Elimination.{ImageVector, KernelVector}
use Rattle.linear_law.specs.Pivots.{IsLead}

-- t is the least place below n at which w is not zero
abbrev pub LeadsAt : ℕ → ℕ → (ℕ → ℕ) → ℕ → Type 0
LeadsAt p n w t = IsLead p (λ y. y < n) (λ a b. a < b) w t

-- v is zero before low
pub record StartsAt (p low : ℕ) (v : ℕ → ℕ) : Type 0 where
  pub before : (x : ℕ) → x < low → Congruent p (v x) 0

-- v is zero at these places
pub record Skips (p : ℕ) (skipped : ℕ → Type 0) (v : ℕ → ℕ) : Type 0 where
  pub at : (x : ℕ) → skipped x → Congruent p (v x) 0

abbrev pub kernel_place : KernelVector → ℕ
kernel_place k = k.place

abbrev pub image_place : ImageVector ℕ → ℕ
image_place i = i.place

-- The places from the last down to `low` are walked, but for the skipped ones. `L` takes vectors with
-- `count` places to vectors with `width` places. Each vector of the kernel is 1 at its place and 0 at
-- the other places of the kernel, and each lead of the kernel is a place of it or skipped. Each image
-- has a lead of its own, and each lead of what `L` gives is one of these.
pub record Walked (p count width : ℕ) (L : (ℕ → ℕ) → ℕ → ℕ) (skipped : ℕ → Type 0) (low : ℕ) (kernel : List KernelVector) (images : List (ImageVector ℕ)) : Type 0 where
  pub kernel_places : Each (λ k. (low ≤ k.place) × (k.place < count)) kernel
  pub kernel_ascends : IsAscending (map kernel_place kernel)
  pub kernel_zero : Each (λ k. AgreesOn p (λ y. y < width) (L k.vector) (λ y. 0)) kernel
  pub kernel_starts : Each (λ k. StartsAt p k.place k.vector) kernel
  pub kernel_reduced : IsReduced p kernel_place (λ k. k.vector) kernel
  pub kernel_skips : Each (λ k. Skips p skipped k.vector) kernel
  pub kernel_whole : (v : ℕ → ℕ) → AgreesOn p (λ y. y < width) (L v) (λ y. 0) → (x : ℕ) → low ≤ x → LeadsAt p count v x → Among x (map kernel_place kernel) ⊎ skipped x
  pub image_from : Each (λ i. AgreesOn p (λ y. y < width) (L i.from) i.row) images
  pub image_leads : Each (λ i. LeadsAt p width i.row i.place) images
  pub image_apart : IsApart (map image_place images)
  pub image_starts : Each (λ i. StartsAt p low i.from) images
  pub image_skips : Each (λ i. Skips p skipped i.from) images
  pub apart : Each (λ i. Each (λ k. Congruent p (i.from k.place) 0) kernel) images
  pub image_whole : (v : ℕ → ℕ) → StartsAt p low v → (t : ℕ) → LeadsAt p width (L v) t → Among t (map image_place images)

-- A walk down to `low` that skips no place: each place walked gives a vector of the kernel or an image.
pub record CountedWalk (p count width : ℕ) (L : (ℕ → ℕ) → ℕ → ℕ) (low : ℕ) : Type 0 where
  pub kernel : List KernelVector
  pub images : List (ImageVector ℕ)
  pub walked : Walked p count width L (λ x. ⊥) low kernel images
  pub counted : low + length kernel + length images ≡ count

-- a vector with a place
pub record PlacedVector : Type 0 where
  pub place : ℕ
  pub vector : ℕ → ℕ

abbrev pub place_of : PlacedVector → ℕ
place_of r = r.place

-- a basis of M in reduced form with these leads
pub record HasReducedBasis (p n : ℕ) (M : (ℕ → ℕ) → Type 0) (leads : List ℕ) : Type 0 where
  pub rows : List PlacedVector
  pub places : map place_of rows ≡ leads
  pub starts : Each (λ r. LeadsAt p n r.vector r.place) rows
  pub basis : IsReducedBasis p (λ y. y < n) M place_of (λ r. r.vector) rows
