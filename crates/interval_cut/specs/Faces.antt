-- The faces of a cut, written one after the other.
use Rattle.std.specs.Prelude.{◌≡◌, ℕ, ◌+◌, ◌<◌, ◌≤◌, List, [], ◌∷◌, ◌++◌, drop, length, slice_index, take}
use Rattle.signed_sum.specs.Names.{numbers_from}
use Rattle.linear_law.specs.Names.{Each}
use Rattle.interval_cut_law.specs.Names.{IsCutFrom, cut_face}

-- the places of the faces of the values ks, one after the other
abbrev pub flat_faces : List ℕ → List ℕ → List ℕ → List ℕ
flat_faces [] u p = []
flat_faces (k ∷ ks) u p = cut_face k u 0 p ++ flat_faces ks u p

-- The faces 1 to r stand in `places`, one after the other; face k begins at the (k - 1)-th start and ends at the k-th
pub record IsFaceTable (u p : List ℕ) (r : ℕ) (places starts : List ℕ) : Type 0 where
  pub start : (k : ℕ) → k ≤ r → slice_index starts k ≡ length (flat_faces (numbers_from 1 k) u p)
  pub written : take (length (flat_faces (numbers_from 1 r) u p)) places ≡ flat_faces (numbers_from 1 r) u p

-- face k is written up to its i-th interval, which begins at a: `done` is what stands before the place `next`
pub record IsPartOfFace (k : ℕ) (u p : List ℕ) (at i a next : ℕ) (old done : List ℕ) : Type 0 where
  pub rest : IsCutFrom (drop i u) a (drop i p)
  pub long : next + length (cut_face k (drop i u) a (drop i p)) ≡ at + length (cut_face k u 0 p)
  pub written : done ++ cut_face k (drop i u) a (drop i p) ≡ old ++ cut_face k u 0 p

-- the faces 1 to k are written, up to the place `next`
pub record IsPartOfTable (u p : List ℕ) (k next : ℕ) (places starts : List ℕ) : Type 0 where
  pub start : (j : ℕ) → j ≤ k → slice_index starts j ≡ length (flat_faces (numbers_from 1 j) u p)
  pub here : next ≡ length (flat_faces (numbers_from 1 k) u p)
  pub written : take next places ≡ flat_faces (numbers_from 1 k) u p

-- the faces 1 to r of some cut of places below n stand in `places`
pub record HasFaces (r n : ℕ) (places starts : List ℕ) : Type 0 where
  pub values : List ℕ
  pub points : List ℕ
  pub cut : IsCutFrom values 0 points
  pub below : Each (λ b. b < n) points
  pub table : IsFaceTable values points r places starts
  pub room : r + 1 ≤ length starts
