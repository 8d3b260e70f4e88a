-- The maps of the cohomology sequence of a pair, their matrices, and exactness.
use Rattle.std.specs.Prelude.{◌≡◌, ℕ, ◌+◌, ◌<◌, cond, List, length}
use Rattle.linear_law.specs.Names.{negated, Among, Each, copies, IsMatrixOf, matrix_times}
use Rattle.simplicial_law.specs.Names.{Cochain, IsCoboundary, coboundary}
use Rattle.relative_law.specs.Names.{IsRelativeCoboundary, is_covered}

-- the cochain of the subcomplex, extended by 0
abbrev pub extended_by_zero : List (List ℕ) → Cochain → Cochain
extended_by_zero sub w s = cond (is_covered sub s) (w s) 0

-- what the connecting map takes a cocycle of the subcomplex to, one degree up: the coboundary of its extension by 0
abbrev pub connecting : ℕ → List (List ℕ) → Cochain → Cochain
connecting p sub w = coboundary p (extended_by_zero sub w)

-- f takes each vertex of the complex to itself
abbrev pub KeepsVertices : (ℕ → ℕ) → List (List ℕ) → Type 0
KeepsVertices f facets = (v : ℕ) (facet : List ℕ) → Among facet facets → Among v facet → f v ≡ v

-- Exactness at the cocycles Z modulo the coboundaries B, between maps F from cocycles Y and G to cochains modulo C:
-- G takes what F gives to coboundaries, and a cocycle that G takes to a coboundary differs by a coboundary from one that F gives.
pub record IsExactAt (p : ℕ) (Y Z B C : Cochain → Type 0) (F G : Cochain → Cochain) : Type 0 where
  pub goes : (y : Cochain) → Y y → C (G (F y))
  pub comes : (z : Cochain) → Z z → C (G z) → (y : Cochain) × Y y × B (λ s. z s + negated p (F y s))

-- The matrix from relative cohomology with the basis zs to the cohomology of the complex with the basis us: the same cochains.
abbrev pub IsIntoMatrix : List (List ℕ) → ℕ → ℕ → List Cochain → List Cochain → List (List ℕ) → Type 0
IsIntoMatrix facets n p zs us columns = IsMatrixOf p (IsCoboundary facets n p) (λ z. z) zs us columns

-- from the cohomology of the complex with the basis us to that of the subcomplex with the basis ws: the same cochains
abbrev pub IsRestrictionMatrix : List (List ℕ) → ℕ → ℕ → List Cochain → List Cochain → List (List ℕ) → Type 0
IsRestrictionMatrix sub n p us ws columns = IsMatrixOf p (IsCoboundary sub n p) (λ u. u) us ws columns

-- from the cohomology of the subcomplex in degree n with the basis ws to relative cohomology in degree n + 1 with the basis zs
abbrev pub IsConnectingMatrix : List (List ℕ) → List (List ℕ) → ℕ → ℕ → List Cochain → List Cochain → List (List ℕ) → Type 0
IsConnectingMatrix facets sub n p ws zs columns = IsMatrixOf p (IsRelativeCoboundary facets sub (n + 1) p) (connecting p sub) ws zs columns

-- a list of so many residues
pub record IsVector (p size : ℕ) (v : List ℕ) : Type 0 where
  pub count : length v ≡ size
  pub small : Each (λ c. c < p) v

-- Exactness at a group of dimension `size`, where one matrix comes in from a group of dimension `before` and
-- one goes out to a group of dimension `after`: the vectors that the outgoing matrix sends to 0 are exactly
-- those that the incoming matrix gives. A map from a zero group has no columns, and a map to a zero group
-- has no rows.
pub record IsExact (p before size after : ℕ) (incoming outgoing : List (List ℕ)) : Type 0 where
  pub given_to_zero : (u : List ℕ) → IsVector p before u → matrix_times p after outgoing (matrix_times p size incoming u) ≡ copies after 0
  pub zero_is_given : (v : List ℕ) → IsVector p size v → matrix_times p after outgoing v ≡ copies after 0 →
      (u : List ℕ) × IsVector p before u × (matrix_times p size incoming u ≡ v)
