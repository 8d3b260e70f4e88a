-- The parts of a report, over the levels and the classes of a complex.
use Rattle.std.specs.Prelude.{◌≡◌, ℕ, ◌-◌, Bool, IsSome, IsTrue, List, [], ℤ}
use Rattle.linear_law.specs.Names.{Each}
use Rattle.simplicial_law.specs.Names.{AreCanonicalClasses}
use Rattle.complex_index.specs.{declared.indexed.Cochain.Cochain, Names.{IsIndexOf, level}}
use Rattle.cohomology.specs.Names.{chains_at}
use Rattle.may_elements.specs.Stored.{stored_at}
use Rattle.report_law.specs.{Types.{CartanAnswer, Yes, No, CartanPart, OperationPart, ProductPart, DegreePart, InducedPart, Block, Line, Product}, Names.{ArePrimitives, block_of, line_of, product_of, IsCartanPart, IsInducedPart, IsOperationPart, IsProductPart, complex_elements}}
use Rattle.cartan_check.specs.declared.{Verdict.Verdict, Verdict.TheVariants.{Yes as Primitive, No as Cycle}}
use Rattle.class_matrices.specs.Names.{listed_classes}
use Rattle.job_report.specs.Listed.{IsInside}

-- d lists the degree n: its classes, and where primitives are kept those below it
pub record IsListedDegree {p : ℕ} (detailed : Bool) (levels : List (List (List ℕ))) (classes : ℕ → List (Cochain p)) (n : ℕ) (d : DegreePart) : Type 0 where
  pub listed : d.classes ≡ chains_at (level levels n) (classes n)
  pub below : IsTrue detailed → (facets : List (List ℕ)) → IsIndexOf facets levels → ArePrimitives facets n p d.below

-- d lists the canonical classes of degree n of each complex with these levels
abbrev pub IsClassPart : ℕ → List (List (List ℕ)) → ℕ → DegreePart → Type 0
IsClassPart p levels n d = (facets : List (List ℕ)) → IsIndexOf facets levels → AreCanonicalClasses facets n p d.classes

-- x has the heading h, and is what it is to be of each complex with these levels
pub record IsPartFor {H X : Type 0} (heading : X → H) (levels : List (List (List ℕ))) (Is : List (List ℕ) → X → Type 0) (h : H) (x : X) : Type 0 where
  pub headed : heading x ≡ h
  pub part : (facets : List (List ℕ)) → IsIndexOf facets levels → Is facets x

module _ {p : ℕ} (detailed : Bool) (levels : List (List (List ℕ))) (classes : ℕ → List (Cochain p)) where
  abbrev pub IsListedProduct : Product → ProductPart → Type 0
  IsListedProduct = IsPartFor product_of levels (λ facets x. IsProductPart detailed facets p (listed_classes levels classes) x)

  abbrev pub IsListedOperation : Block → OperationPart → Type 0
  IsListedOperation = IsPartFor block_of levels (λ facets o. IsOperationPart detailed facets p (listed_classes levels classes) o)

  abbrev pub IsListedLine : Line → CartanPart → Type 0
  IsListedLine = IsPartFor line_of levels (λ facets l. IsCartanPart detailed facets p (listed_classes levels classes) l)

-- the matrix in degree q of a map f from a complex with the levels `from` to one with the levels `to`
abbrev pub IsListedInduced : {p : ℕ} → Bool → (ℕ → ℕ) → List (List (List ℕ)) → List (List (List ℕ)) → (ℕ → List (Cochain p)) → (ℕ → List (Cochain p)) → ℕ → InducedPart → Type 0
IsListedInduced {p} detailed f from to source target =
    IsPartFor (λ x. x.q) from (λ facets x. IsInducedPart detailed f facets p (listed_classes from source) (listed_classes to target) x)

-- two answers that agree in what is listed
abbrev pub IsSameAnswer : Bool → CartanAnswer → CartanAnswer → Type 0
IsSameAnswer detailed (Yes x) (Yes y) = IsTrue detailed → y ≡ x
IsSameAnswer detailed (No v x) (No w y) = (w ≡ v) × (IsTrue detailed → y ≡ x)
IsSameAnswer detailed _ _ = ⊥

-- the chain of a verdict in degree n, if there is one, is at places of simplices
abbrev pub IsInsideVerdict : {p : ℕ} → List (List (List ℕ)) → ℕ → Verdict p → Type 0
IsInsideVerdict levels n (Primitive primitive) = IsInside levels (n - 1) primitive
IsInsideVerdict levels n (Cycle value cycle) = IsInside levels n cycle
