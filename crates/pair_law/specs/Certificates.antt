-- What shows that a sequence of matrices is exact: a kernel list, and a preimage of each of its vectors.
use Rattle.std.specs.Prelude.{◌≡◌, ℕ, ◌<◌, List, [], get_or, length, map}
use Rattle.std.specs.List.{AllZip}
use Rattle.linear_law.specs.Names.{AgreesOn, Among, Congruent, Each, ImageVector, IsAscending, IsCanonical, IsField, IsInKernel, IsPivot, KernelVector, Walked, copies, matrix_times, row_combination}
use Rattle.pair_law.specs.Sequences.{IsVector}

-- the columns of a matrix with so many rows and columns
pub record IsMatrix (rows size : ℕ) (columns : List (List ℕ)) : Type 0 where
  pub wide : length columns ≡ size
  pub high : Each (λ c. length c ≡ rows) columns

-- the value at a place, 0 past the end
abbrev pub entry : List ℕ → ℕ → ℕ
entry v x = get_or v x 0

-- the matrix with these columns, of so many rows, sends the vector w to 0
abbrev pub IsSentToZero : ℕ → ℕ → List (List ℕ) → (ℕ → ℕ) → Type 0
IsSentToZero p rows columns w = IsInKernel p (λ y. y < rows) (row_combination (map entry columns)) w

-- x is a pivot of the vectors with `size` places that the matrix sends to 0
abbrev pub IsKernelPivot : ℕ → ℕ → ℕ → List (List ℕ) → ℕ → Type 0
IsKernelPivot p size rows columns x = IsPivot p (λ x. x < size) (λ a b. a < b) (IsSentToZero p rows columns) x

-- v is the canonical vector at the pivot x: it is 1 there, and 0 at the other pivots
pub record IsKernelVector (p size rows : ℕ) (columns : List (List ℕ)) (x : ℕ) (v : List ℕ) : Type 0 where
  pub vector : IsVector p size v
  pub canonical : IsCanonical p (λ x. x < size) (λ a b. a < b) (IsSentToZero p rows columns) x (entry v)

-- the kernel list of a matrix, which is the reduced echelon list of the vectors that it sends to 0: the canonical vectors at all pivots, in order
pub record IsKernelList (p size rows : ℕ) (columns kernel : List (List ℕ)) : Type 0 where
  pub pivots : List ℕ
  pub in_order : IsAscending pivots
  pub all : (x : ℕ) → IsKernelPivot p size rows columns x → Among x pivots
  pub vectors : AllZip (IsKernelVector p size rows columns) pivots kernel

-- u is the preimage of the vector v: the matrix takes it to v, and it is 0 at the pivots of the kernel of the matrix.
pub record IsPreimage (p before size : ℕ) (columns : List (List ℕ)) (v u : List ℕ) : Type 0 where
  pub vector : IsVector p before u
  pub given : matrix_times p size columns u ≡ v
  pub reduced : (x : ℕ) → IsKernelPivot p before size columns x → Congruent p (entry u x) 0

-- A matrix has one kernel list, and a vector has one preimage. Where each vector of the kernel list of the outgoing
-- matrix has a preimage, each vector that the outgoing matrix sends to 0 is one that the incoming matrix gives. A walk
-- over the columns finds the vectors of the kernel list, and what goes to a vector and is 0 at their places is its preimage.
pub record CertificateLaw : Type 0 where
  pub one_list : (p size rows : ℕ) (columns kernel kernel' : List (List ℕ)) → IsField p → IsMatrix rows size columns →
      IsKernelList p size rows columns kernel → IsKernelList p size rows columns kernel' → kernel ≡ kernel'
  pub one_preimage : (p size rows : ℕ) (columns : List (List ℕ)) (v u u' : List ℕ) → IsField p → IsMatrix rows size columns →
      IsPreimage p size rows columns v u → IsPreimage p size rows columns v u' → u ≡ u'
  pub shows : (p before size after : ℕ) (incoming outgoing kernel preimages : List (List ℕ)) → IsField p → IsMatrix size before incoming → IsMatrix after size outgoing →
      IsKernelList p size after outgoing kernel → AllZip (IsPreimage p before size incoming) kernel preimages →
      (v : List ℕ) → IsVector p size v → matrix_times p after outgoing v ≡ copies after 0 → (u : List ℕ) × IsVector p before u × (matrix_times p size incoming u ≡ v)
  pub walked_list : (p size rows : ℕ) (columns : List (List ℕ)) (kernel : List KernelVector) (images : List (ImageVector ℕ)) (vectors : List (List ℕ)) → IsField p →
      IsMatrix rows size columns → Walked p size rows (row_combination (map entry columns)) (λ x. Among x []) 0 kernel images →
      AllZip (λ (k : KernelVector) v. IsVector p size v × AgreesOn p (λ x. x < size) (entry v) k.vector) kernel vectors → IsKernelList p size rows columns vectors
  pub walked_preimage : (p size rows : ℕ) (columns : List (List ℕ)) (kernel : List KernelVector) (images : List (ImageVector ℕ)) (v u : List ℕ) → IsField p →
      IsMatrix rows size columns → Walked p size rows (row_combination (map entry columns)) (λ x. Among x []) 0 kernel images → IsVector p size u →
      matrix_times p rows columns u ≡ v → Each (λ k. Congruent p (entry u k.place) 0) kernel → IsPreimage p size rows columns v u
