-- Classes, columns and blocks that are kept by place, as a report lists them.
use Rattle.std.specs.{Prelude.{◌≡◌, ℕ, Bool, IfSome, IsTrue, List, length, map}, declared.option.Option.Option}
use Rattle.signed_sum.specs.Names.{numbers_from}
use Rattle.sparse_rows.specs.Rows.{IsBelow}
use Rattle.complex_index.specs.{declared.indexed.Cochain.Cochain, Names.level}
use Rattle.cohomology.specs.{declared.basis.Column.Column, Names.chains_at}
use Rattle.report.specs.declared.columns.Column.{Column as ListedColumn}
use Rattle.report_law.specs.Names.{Classes}
use Rattle.op_matrix.specs.Columns.{primitive_terms}

-- how many simplices each degree of a complex has
abbrev pub level_counts : List (List (List ℕ)) → List ℕ
level_counts levels = map (λ n. length (level levels n)) (numbers_from 0 (length levels))

-- the places of a cochain of degree n, if there is one, are those of simplices
abbrev pub IsInside : {p : ℕ} → List (List (List ℕ)) → ℕ → Option (Cochain p) → Type 0
IsInside {p} levels n kept = IfSome kept (λ (y : Cochain p). IsBelow (length (level levels n)) y.row)

-- d lists the column c of degree n: its values, and where primitives are listed the terms of its primitive
pub record IsListedColumn {p : ℕ} (detailed : Bool) (levels : List (List (List ℕ))) (n : ℕ) (c : Column p) (d : ListedColumn) : Type 0 where
  pub values : d.values ≡ c.values.items
  pub primitive : IsTrue detailed → d.primitive ≡ primitive_terms levels n c.primitive
