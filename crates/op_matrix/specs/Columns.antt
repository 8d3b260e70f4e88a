-- Columns of coordinates for the canonical classes of a complex, as a report lists them.
use Rattle.std.specs.{Prelude.{◌≡◌, ℕ, ◌-◌, Bool, List, [], map, Some, None}, declared.option.Option.Option}
use Rattle.simplicial_law.specs.Names.{Chain, Cochain as SimplexCochain, terms_of}
use Rattle.complex_index.specs.{declared.indexed.Cochain.Cochain, Names.level}
use Rattle.cohomology.specs.{declared.basis.Column.Column, Names.{chains_at, cochains_at}}
use Rattle.report.specs.declared.columns.Column.{Column as ListedColumn}
use Rattle.report_law.specs.Names.{IsColumn, Classes, classes_in}

-- the classes of each degree, as a report lists them
pub record AreListedAs {p : ℕ} (levels : List (List (List ℕ))) (classes : ℕ → List (Cochain p)) (listed : Classes) : Type 0 where
  pub each : (n : ℕ) → classes_in listed n ≡ chains_at (level levels n) (classes n)

-- the terms of a primitive of degree n - 1; none where none is kept
abbrev pub primitive_terms : {p : ℕ} → List (List (List ℕ)) → ℕ → Option (Cochain p) → Chain
primitive_terms levels n None = []
primitive_terms levels n (Some y) = terms_of (level levels (n - 1)) y.row

-- columns of degree n, as a report lists them
abbrev pub listed_column : {p : ℕ} → List (List (List ℕ)) → ℕ → Column p → ListedColumn
listed_column levels n c = record { values = c.values.items; primitive = primitive_terms levels n c.primitive }

abbrev pub listed_columns : {p : ℕ} → List (List (List ℕ)) → ℕ → List (Column p) → List ListedColumn
listed_columns {p} levels n cs = map (λ (c : Column p). listed_column levels n c) cs

-- the coordinates alone
abbrev pub values_of : {p : ℕ} → List (Column p) → List (List ℕ)
values_of {p} cs = map (λ (c : Column p). c.values.items) cs

-- c is the column of the cochain z of degree n
abbrev pub IsColumnFor : {p : ℕ} → Bool → List (List ℕ) → List (List (List ℕ)) → ℕ → List (Cochain p) → SimplexCochain → Column p → Type 0
IsColumnFor {p} detailed facets levels n classes z c = IsColumn detailed facets n p (cochains_at levels n classes) z c.values.items (primitive_terms levels n c.primitive)
