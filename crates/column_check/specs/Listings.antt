-- A listed complex with its classes as rows, and what is tested of listed cochains.
use Rattle.std.specs.{Prelude.{◌≡◌, ℕ, ◌≤◌, true, List, get_or, length, Some, None}, declared.option.Option.Option, List.AllZip}
use Rattle.linear_law.specs.Names.{Congruent}
use Rattle.simplicial_law.specs.Names.{IsSimplex, AgreesOnSimplices, Chain, Cochain as SimplexCochain, coboundary, pairing, cochain_of, terms_of}
use Rattle.sparse_rows.specs.Rows.{IsBelow}
use Rattle.complex_index.specs.{declared.indexed.Cochain.Cochain, Names.{list_at, IsIndexOf, level}}
use Rattle.may_steenrod.specs.Cochains.{cochain_in}
use Rattle.certificate_law.specs.{Types.{ComplexPart, MapPart}, Names.{column_sum, IsOn, IsOnBelow, sent_by}}
use Rattle.report_law.specs.Names.{boundary_coefficient, listed, classes_in, classes_of}
use Rattle.report_text_law.specs.Names.{is_chain}
use Rattle.line_difference.specs.Differences.{IsPlacedIn}
use Rattle.column_check.specs.declared.listing.Listing.{Listing}

-- a well-formed chain on simplices of degree n of a complex with these levels
pub record IsListedOn (p : ℕ) (levels : List (List (List ℕ))) (n : ℕ) (chain : Chain) : Type 0 where
  pub formed : is_chain p chain ≡ true
  pub facets : List (List ℕ)
  pub index : IsIndexOf facets levels
  pub on : IsOn facets n chain

-- z is the cochain of a class of degree n
pub record IsRowOfClass (p : ℕ) (levels : List (List (List ℕ))) (n : ℕ) (class : Chain) (z : Cochain p) : Type 0 where
  pub placed : IsPlacedIn p levels n z
  pub terms : terms_of (level levels n) z.row ≡ class

-- the index is that of the listed complex, and there are its classes of each degree, of which there are at most 16
pub record IsListing {p : ℕ} (l : Listing p) : Type 0 where
  pub index : IsIndexOf l.part.now.facets l.index.now
  pub degrees : length l.classes.items ≡ length l.part.now.degrees
  pub few : length l.part.now.degrees ≤ 16
  pub classes : (n : ℕ) → AllZip (IsRowOfClass p l.index.now n) (classes_in (classes_of l.part.now) n) (list_at l.classes.items n)

-- ---- what is tested

-- the cochain z of degree n is the coboundary of the listed cochain
pub record IsBoundOf (facets : List (List ℕ)) (n p : ℕ) (z : SimplexCochain) (primitive : Chain) : Type 0 where
  pub on : IsOnBelow facets n primitive
  pub same : AgreesOnSimplices facets n p z (coboundary p (cochain_of primitive))

-- the cochain z of degree n is the sum of the values times the listed classes, plus the coboundary of the listed cochain
pub record IsColumnSum (c : ComplexPart) (n p : ℕ) (z : SimplexCochain) (values : List ℕ) (primitive : Chain) : Type 0 where
  pub on : IsOnBelow c.facets n primitive
  pub same : AgreesOnSimplices c.facets n p z (column_sum p (listed c n) values primitive)

-- the row of that sum
pub record IsSumRow (c : ComplexPart) (levels : List (List (List ℕ))) (n p : ℕ) (values : List ℕ) (primitive : Chain) (row : List (ℕ × ℕ)) : Type 0 where
  pub on : IsOnBelow c.facets n primitive
  pub inside : IsBelow (length (level levels n)) row
  pub same : AgreesOnSimplices c.facets n p (cochain_in levels n row) (column_sum p (listed c n) values primitive)

-- the row of the sum; there is none where a term stands on no simplex of one degree less
abbrev pub IsSumRowIn : ComplexPart → List (List (List ℕ)) → ℕ → ℕ → List ℕ → Chain → Option (List (ℕ × ℕ)) → Type 0
IsSumRowIn c levels n p values primitive None = IsOnBelow c.facets n primitive → ⊥
IsSumRowIn c levels n p values primitive (Some row) = IsSumRow c levels n p values primitive row

-- the boundary of the chain is zero
pub record IsClosedChain (facets : List (List ℕ)) (p : ℕ) (chain : Chain) : Type 0 where
  pub closed : (m : ℕ) (s : List ℕ) → IsSimplex facets m s → Congruent p (boundary_coefficient p chain s) 0

-- the chain is a cycle of degree n with which the cochain z pairs to the value
pub record PairsWithCycle (facets : List (List ℕ)) (n p : ℕ) (z : SimplexCochain) (value : ℕ) (cycle : Chain) : Type 0 where
  pub on : IsOn facets n cycle
  pub closed : IsClosedChain facets p cycle
  pub pairs : Congruent p (pairing z cycle) value

-- the images of the vertices, in order, are those of the map
abbrev pub HasImagesOf : List ℕ → MapPart → Type 0
HasImagesOf images m = (v : ℕ) → get_or images v 0 ≡ sent_by m v
