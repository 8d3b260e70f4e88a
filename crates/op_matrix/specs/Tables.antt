-- The matrices of operations and of products, and what they carry.
use Rattle.std.specs.Prelude.{ℕ, ◌+◌, Bool, List, length}
use Rattle.linear_law.specs.Names.{matrix_times}
use Rattle.simplicial_law.specs.Names.{Cochain as SimplexCochain, HasCoordinates, IsCocycle}
use Rattle.steenrod_law.specs.Names.{coefficient_products, cup_product}
use Rattle.complex_index.specs.{declared.indexed.Cochain.Cochain, Names.IsIndexOf}
use Rattle.cohomology.specs.{declared.basis.Column.Column, Names.{cochain_in, cochains_at}}
use Rattle.report.specs.declared.plan.{Block.Block, Product.Product}
use Rattle.report_law.specs.Names.{IsOperation, Classes, IsOperationBlock, IsProductBlock}
use Rattle.op_matrix.specs.Columns.{AreListedAs, IsColumnFor, listed_columns, values_of}

-- The matrix of an operation on the classes of each complex with these levels. For every cocycle z, whichever representative
-- of its class it is, the operation on z is a cocycle, and its coordinates are the matrix times those of z.
pub record IsOperationMatrix {p : ℕ} (detailed : Bool) (levels : List (List (List ℕ))) (classes : ℕ → List (Cochain p)) (block : Block) (columns : List (Column p)) : Type 0 where
  pub listed : (facets : List (List ℕ)) (all : Classes) → IsIndexOf facets levels → AreListedAs levels classes all →
      IsOperationBlock detailed facets p all block (listed_columns levels block.to columns)
  pub carries : (facets : List (List ℕ)) (z b : SimplexCochain) (cs : List ℕ) → IsIndexOf facets levels → IsCocycle facets block.from p z →
      HasCoordinates facets block.from p (cochains_at levels block.from (classes block.from)) z cs → IsOperation facets p block.op block.from z b →
      IsCocycle facets block.to p b
      × HasCoordinates facets block.to p (cochains_at levels block.to (classes block.to)) b (matrix_times p (length (classes block.to)) (values_of columns) cs)

-- The matrix of the products of two degrees: a column for each pair of classes. For all cocycles z and w the product is a
-- cocycle, and its coordinates are the matrix times the products of their coordinates.
pub record IsProductMatrix {p : ℕ} (detailed : Bool) (levels : List (List (List ℕ))) (classes : ℕ → List (Cochain p)) (product : Product) (columns : List (Column p)) : Type 0 where
  pub listed : (facets : List (List ℕ)) (all : Classes) → IsIndexOf facets levels → AreListedAs levels classes all →
      IsProductBlock detailed facets p all product (listed_columns levels (product.a + product.b) columns)
  pub carries : (facets : List (List ℕ)) (z w : SimplexCochain) (cs ds : List ℕ) → IsIndexOf facets levels → IsCocycle facets product.a p z → IsCocycle facets product.b p w →
      HasCoordinates facets product.a p (cochains_at levels product.a (classes product.a)) z cs →
      HasCoordinates facets product.b p (cochains_at levels product.b (classes product.b)) w ds →
      IsCocycle facets (product.a + product.b) p (cup_product p product.a product.b z w)
      × HasCoordinates facets (product.a + product.b) p (cochains_at levels (product.a + product.b) (classes (product.a + product.b))) (cup_product p product.a product.b z w)
      (matrix_times p (length (classes (product.a + product.b))) (values_of columns) (coefficient_products cs ds))

-- ---- one column

-- c is the column of the operation on the class z
pub record IsResultColumn {p : ℕ} (detailed : Bool) (levels : List (List (List ℕ))) (classes : ℕ → List (Cochain p)) (block : Block) (z : Cochain p) (c : Column p) : Type 0 where
  pub result : SimplexCochain
  pub is_result : (facets : List (List ℕ)) → IsIndexOf facets levels → IsOperation facets p block.op block.from (cochain_in levels block.from z.row) result
  pub is_column : (facets : List (List ℕ)) → IsIndexOf facets levels → IsColumnFor detailed facets levels block.to (classes block.to) result c

-- c is the column of the product of a pair of classes
pub record IsPairColumn {p : ℕ} (detailed : Bool) (levels : List (List (List ℕ))) (classes : ℕ → List (Cochain p)) (product : Product) (pair : Cochain p × Cochain p) (c : Column p) : Type 0 where
  pub is_column : (facets : List (List ℕ)) → IsIndexOf facets levels →
      IsColumnFor detailed facets levels (product.a + product.b) (classes (product.a + product.b))
      (cup_product p product.a product.b (cochain_in levels product.a pair.0.row) (cochain_in levels product.b pair.1.row)) c
