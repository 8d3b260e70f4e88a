-- Coordinates of classes of vectors, and the matrices that carry them.
use Rattle.std.specs.Prelude.{◌≡◌, ℕ, ◌+◌, ◌*◌, ◌%◌, ◌<◌, List, [], ◌∷◌, length}
use Rattle.std.specs.List.{AllZip}
use Rattle.linear_law.specs.Congruence.{negated}
use Rattle.linear_law.specs.Lists.{Each, copies}
use Rattle.linear_law.specs.ReducedBases.{combination}

-- These are coordinates of the class of z modulo what has B: z minus their combination of the vectors zs has B.
pub record IsCoordinates {X : Type 0} (p : ℕ) (B : (X → ℕ) → Type 0) (zs : List (X → ℕ)) (z : X → ℕ) (cs : List ℕ) : Type 0 where
  pub count : length cs ≡ length zs
  pub small : Each (λ c. c < p) cs
  pub rest : B (λ x. z x + negated p (combination cs zs x))

-- c times the first list plus the second, place by place, modulo p
abbrev pub plus_scaled : ℕ → ℕ → List ℕ → List ℕ → List ℕ
plus_scaled p c [] ys = []
plus_scaled p c (x ∷ xs) [] = []
plus_scaled p c (x ∷ xs) (y ∷ ys) = ((c * x + y) % p) ∷ plus_scaled p c xs ys

-- a matrix with h rows, given by its columns, times the list of coefficients, modulo p
abbrev pub matrix_times : ℕ → ℕ → List (List ℕ) → List ℕ → List ℕ
matrix_times p h [] cs = copies h 0
matrix_times p h (column ∷ columns) [] = copies h 0
matrix_times p h (column ∷ columns) (c ∷ cs) = plus_scaled p c column (matrix_times p h columns cs)

-- the matrix of a map F from the vectors zs to the vectors us modulo what has B: its columns are the coordinates of what F gives of each of zs
abbrev pub IsMatrixOf : {X Y : Type 0} → ℕ → ((Y → ℕ) → Type 0) → ((X → ℕ) → Y → ℕ) → List (X → ℕ) → List (Y → ℕ) → List (List ℕ) → Type 0
IsMatrixOf p B F zs us columns = AllZip (λ column z. IsCoordinates p B us (F z) column) columns zs

-- The matrices of F carry coordinates, for vectors that have M modulo what has B, and for values modulo what has B': they take those of each z to those of F z.
abbrev pub CarriesCoordinates : {X Y : Type 0} → ℕ → ((X → ℕ) → Type 0) → ((X → ℕ) → Type 0) → ((Y → ℕ) → Type 0) → ((X → ℕ) → Y → ℕ) → Type 0
CarriesCoordinates {X} {Y} p M B B' F = (zs : List (X → ℕ)) (us : List (Y → ℕ)) (columns : List (List ℕ)) → Each M zs → IsMatrixOf p B' F zs us columns →
    (z : X → ℕ) (cs : List ℕ) → IsCoordinates p B zs z cs → IsCoordinates p B' us (F z) (matrix_times p (length us) columns cs)

-- So for a relation R, where the columns are the coordinates of vectors in R to those of zs: they take those of each z to those of each b in R to it.
abbrev pub CarriesRelated : {X Y : Type 0} → ℕ → ((X → ℕ) → Type 0) → ((X → ℕ) → Type 0) → ((Y → ℕ) → Type 0) → ((X → ℕ) → (Y → ℕ) → Type 0) → Type 0
CarriesRelated {X} {Y} p M B B' R = (zs : List (X → ℕ)) (bs us : List (Y → ℕ)) (columns : List (List ℕ)) → Each M zs → AllZip R zs bs →
    AllZip (λ column b. IsCoordinates p B' us b column) columns bs →
    (z : X → ℕ) (b : Y → ℕ) (cs : List ℕ) → IsCoordinates p B zs z cs → R z b → IsCoordinates p B' us b (matrix_times p (length us) columns cs)
