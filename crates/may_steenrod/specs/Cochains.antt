-- Cochains of a complex, as rows by place.
use Rattle.std.specs.Prelude.{◌≡◌, ◌≢◌, ◌<◌, ℕ, List, [], length, get_or, suc, IsTrue}
use Rattle.fp_field.specs.Served.{served}
use Rattle.linear_law.specs.Names.{IsAscending}
use Rattle.sparse_rows.specs.Rows.{IsBelow, value_in}
use Rattle.simplicial_law.specs.Names.{AgreesOnSimplices, Cochain as SimplexCochain, IsCocycle, cochain_of, terms_of}
use Rattle.complex_index.specs.Names.{IsIndexOf, level}

-- the cochain of degree n with this row
abbrev pub cochain_in : List (List (List ℕ)) → ℕ → List (ℕ × ℕ) → SimplexCochain
cochain_in levels n row = cochain_of (terms_of (level levels n) row)

-- the row has, at the places of simplices of degree n, the values of the cochain b, and nothing at other places
pub record HasValues (p : ℕ) (levels : List (List (List ℕ))) (n : ℕ) (b : SimplexCochain) (row : List (ℕ × ℕ)) : Type 0 where
  pub inside : IsBelow (length (level levels n)) row
  pub values : (facets : List (List ℕ)) → IsIndexOf facets levels → AgreesOnSimplices facets n p (cochain_in levels n row) b

-- the cochain with the row is a cocycle of each complex with these levels
abbrev pub IsClosed : ℕ → List (List (List ℕ)) → ℕ → List (ℕ × ℕ) → Type 0
IsClosed p levels n row = (facets : List (List ℕ)) → IsIndexOf facets levels → IsCocycle facets n p (cochain_in levels n row)

-- what is known of the cochain with a row at places of simplices of degree n of a complex: its values, and that
-- it is 0 on lists that are no simplices of degree n
pub record IsOn (p : ℕ) (levels : List (List (List ℕ))) (n : ℕ) (row : List (ℕ × ℕ)) : Type 0 where
  pub prime : IsTrue (served p)
  pub small : (f : List ℕ) → cochain_in levels n row f < p
  pub ascending : (f : List ℕ) → (IsAscending f → ⊥) → cochain_in levels n row f ≡ 0
  pub long : (f : List ℕ) → (length f ≡ suc n → ⊥) → cochain_in levels n row f ≡ 0
  pub here : (x : ℕ) → x < length (level levels n) → cochain_in levels n row (get_or (level levels n) x []) ≡ value_in row x
  pub elsewhere : (f : List ℕ) → ((x : ℕ) → x < length (level levels n) → get_or (level levels n) x [] ≢ f) → cochain_in levels n row f ≡ 0

-- the row has the first i of the values, by place
pub record IsRowOfFirst (vs : List ℕ) (i : ℕ) (row : List (ℕ × ℕ)) : Type 0 where
  pub below : IsBelow i row
  pub values : (k : ℕ) → k < i → value_in row k ≡ get_or vs k 0
