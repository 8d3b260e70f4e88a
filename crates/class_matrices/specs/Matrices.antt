-- The matrices of a complex, and those that are found among them.
use Rattle.std.specs.Prelude.{◌≡◌, ◌≢◌, ◌⊎◌, ℕ, Bool, IsSome, List, [], map, ℤ}
use Rattle.linear_law.specs.Names.{Among, Each}
use Rattle.complex_index.specs.declared.indexed.Cochain.{Cochain}
use Rattle.may_elements.specs.Stored.{stored_at}
use Rattle.report_law.specs.Names.{blocks, products, complex_elements}
use Rattle.op_matrix.specs.Tables.{IsOperationMatrix, IsProductMatrix}
use Rattle.class_matrices.specs.declared.matrices.{Matrices.Matrices, OperationMatrix.OperationMatrix, ProductMatrix.ProductMatrix}

-- m is the matrix of its product, or of its block, on the classes of each complex with these levels
abbrev pub IsProductOf : {p : ℕ} → Bool → List (List (List ℕ)) → (ℕ → List (Cochain p)) → ProductMatrix p → Type 0
IsProductOf detailed levels classes m = IsProductMatrix detailed levels classes m.product m.columns.items

abbrev pub IsOperationOf : {p : ℕ} → Bool → List (List (List ℕ)) → (ℕ → List (Cochain p)) → OperationMatrix p → Type 0
IsOperationOf detailed levels classes m = IsOperationMatrix detailed levels classes m.block m.columns.items

-- the matrices of all live products and blocks
pub record AreMatrices {p : ℕ} (detailed : Bool) (levels : List (List (List ℕ))) (classes : ℕ → List (Cochain p)) (ranks : List ℕ) (m : Matrices p) : Type 0 where
  pub products : map (λ (x : ProductMatrix p). x.product) m.products.items ≡ products ranks
  pub product_matrices : Each (IsProductOf detailed levels classes) m.products.items
  pub blocks : map (λ (x : OperationMatrix p). x.block) m.operations.items ≡ blocks p ranks
  pub operation_matrices : Each (IsOperationOf detailed levels classes) m.operations.items

-- the items of one of these with the heading h; none where there is none with it
abbrev pub IsFound : {M H X : Type 0} → (M → H) → (M → List X) → List M → H → List X → Type 0
IsFound {M} heading items ms h found = ((m : M) × Among m ms × (heading m ≡ h) × (found ≡ items m)) ⊎ (Each (λ m. heading m ≢ h) ms × (found ≡ []))
