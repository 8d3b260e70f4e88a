-- Boundaries of chains, and the pairs of a place and a value that the code makes.
use Rattle.std.specs.Prelude.{ℕ, ◌+◌, ◌-◌, ◌*◌, ◌%◌, ◌<◌, Bool, false, not, cond, List, [], ◌∷◌, ◌++◌, map, length, get_or}
use Rattle.linear_law.specs.Names.{Congruent, negated, sum_over}
use Rattle.simplicial_law.specs.Names.{Chain, boundary, coboundary, pairing, unit_cochain, cochain_of, terms_of}
use Rattle.sparse_rows.specs.Rows.{IsBelow, value_in}
use Rattle.complex_index.specs.{declared.cofaces.Coface.Coface, Levels.level}

-- the coefficient of the simplex t in the boundary of a chain
abbrev pub boundary_coefficient : ℕ → Chain → List ℕ → ℕ
boundary_coefficient p terms t = sum_over (λ c. c.0 * pairing (unit_cochain t) (boundary p c.1)) terms

-- The row is the coboundary of the cochain of degree n with the row `low`: at each simplex one degree
-- above it has the value of the coboundary, and nothing at other places.
pub record IsCoboundaryOf (p : ℕ) (ls : List (List (List ℕ))) (n : ℕ) (low row : List (ℕ × ℕ)) : Type 0 where
  pub inside : IsBelow (length (level ls (n + 1))) row
  pub values : (k : ℕ) → k < length (level ls (n + 1)) →
      Congruent p (value_in row k) (coboundary p (cochain_of (terms_of (level ls n) low)) (get_or (level ls (n + 1)) k []))

-- The row is the boundary of the chain of degree n with the row `high`: at each simplex one degree
-- below it has the coefficient in the boundary, and nothing at other places.
pub record IsBoundaryOf (p : ℕ) (ls : List (List (List ℕ))) (n : ℕ) (high row : List (ℕ × ℕ)) : Type 0 where
  pub inside : IsBelow (length (level ls (n - 1))) row
  pub values : (k : ℕ) → k < length (level ls (n - 1)) →
      Congruent p (value_in row k) (boundary_coefficient p (terms_of (level ls n) high) (get_or (level ls (n - 1)) k []))

-- ---- what the code makes

-- a, or minus a
abbrev pub signed_value : ℕ → ℕ → Bool → ℕ
signed_value p a odd = cond odd (negated p a % p) a

abbrev pub pair_of : ℕ → ℕ → Coface → ℕ × ℕ
pair_of p a c = (c.place, signed_value p a c.odd)

-- the pairs of a coboundary: for each pair of the row the simplices above
abbrev pub spread : ℕ → List (List Coface) → List (ℕ × ℕ) → List (ℕ × ℕ)
spread p above [] = []
spread p above (e ∷ es) = map (pair_of p e.1) (get_or above e.0 []) ++ spread p above es

abbrev pub signed_places : ℕ → ℕ → Bool → List ℕ → List (ℕ × ℕ)
signed_places p a odd [] = []
signed_places p a odd (x ∷ xs) = (x, signed_value p a odd) ∷ signed_places p a (not odd) xs

-- the pairs of a boundary: for each pair of the row the faces, whose places are listed
abbrev pub shrunk : ℕ → List (List ℕ) → List (ℕ × ℕ) → List (ℕ × ℕ)
shrunk p faces [] = []
shrunk p faces (e ∷ es) = signed_places p e.1 false (get_or faces e.0 []) ++ shrunk p faces es
