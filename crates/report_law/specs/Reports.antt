-- The report of a job in a form. What the form does not print is free.
use Rattle.std.specs.{Prelude.{◌≡◌, IsTrue, Bool, ℕ, ◌<◌, List, [], map, length, get_or}, List.AllZip}
use Rattle.linear_law.specs.Names.{Among, Each, IsAscending}
use Rattle.simplicial_law.specs.Names.{IsInOrder}
use Rattle.complex_file.specs.Names.{Spelled, facets_at, image, name_at}
use Rattle.report_law.specs.{Types.{ComplexBlock, MapBlock, Sent, CartanPart, OperationPart, ProductPart, ComplexPart, Form, Report, InducedPart, MapPart}, Columns.ArePrimitives, Live.{blocks, induced_degrees, lines, products}, Matrices.{AreClasses, Classes, IsInducedBlock, IsOperationBlock, IsProductBlock, IsVerdict, classes_in, ranks}, Parts.{below_in, block_of, classes_of, line_of, number_pairs, numbers_of, product_of, unnumbered}}
use Rattle.report.specs.Names.{has_details, has_tables}

-- ---- a complex

-- each vertex of f is one of g
abbrev pub IsWithin : List ℕ → List ℕ → Type 0
IsWithin f g = Each (λ v. Among v g) f

-- f is a facet that lies in no other
pub record IsMaximal (facets : List (List ℕ)) (f : List ℕ) : Type 0 where
  pub given : Among f facets
  pub alone : (g : List ℕ) → Among g facets → IsWithin f g → g ≡ f

-- The facets that lie in no other, each once, ascending as lists.
pub record AreMaximalFacets (facets listed : List (List ℕ)) : Type 0 where
  pub in_order : IsInOrder listed
  pub each : Each (IsMaximal facets) listed
  pub all : (f : List ℕ) → IsMaximal facets f → Among f listed

-- A block of products: its columns, with the numbers of their classes.
pub record IsProductPart (detailed : Bool) (facets : List (List ℕ)) (p : ℕ) (classes : Classes) (x : ProductPart) : Type 0 where
  pub numbers : map numbers_of x.columns ≡ number_pairs (length (classes_in classes x.a)) (length (classes_in classes x.b))
  pub block : IsProductBlock detailed facets p classes (product_of x) (map unnumbered x.columns)

abbrev pub IsOperationPart : Bool → List (List ℕ) → ℕ → Classes → OperationPart → Type 0
IsOperationPart detailed facets p classes o = IsOperationBlock detailed facets p classes (block_of o) o.columns

abbrev pub IsCartanPart : Bool → List (List ℕ) → ℕ → Classes → CartanPart → Type 0
IsCartanPart detailed facets p classes l = IsVerdict detailed facets p classes (line_of l) l.answer

-- The live products, operations and Cartan lines, in their order, with their matrices and verdicts.
pub record AreTables (detailed : Bool) (facets : List (List ℕ)) (p : ℕ) (classes : Classes) (c : ComplexPart) : Type 0 where
  pub products : map product_of c.products ≡ products (ranks classes)
  pub product_parts : Each (IsProductPart detailed facets p classes) c.products
  pub operations : map block_of c.operations ≡ blocks p (ranks classes)
  pub operation_parts : Each (IsOperationPart detailed facets p classes) c.operations
  pub cartans : map line_of c.cartans ≡ lines p (ranks classes)
  pub cartan_parts : Each (IsCartanPart detailed facets p classes) c.cartans

-- What is listed of a complex: its name, and for each degree that has a simplex, from 0 on, its canonical classes. Where
-- `tabled` is true it has the tables too; where `detailed` is, the maximal facets, the canonical primitives of the canonical
-- coboundaries, and the chains of the tables.
pub record IsComplexPart (tabled detailed : Bool) (p : ℕ) (block : ComplexBlock) (c : ComplexPart) : Type 0 where
  pub name : c.name ≡ block.name
  pub classes : AreClasses block.facets p (classes_of c)
  pub tables : IsTrue tabled → AreTables detailed block.facets p (classes_of c) c
  pub facets : IsTrue detailed → AreMaximalFacets block.facets c.facets
  pub below : IsTrue detailed → (n : ℕ) → n < length c.degrees → ArePrimitives block.facets n p (below_in c n)

-- ---- a map

-- the sends, ascending by the vertex that is sent
pub record AreOrderedSends (sends listed : List Sent) : Type 0 where
  pub ascending : IsAscending (map (λ s. s.from) listed)
  pub each : Each (λ s. Among s sends) listed
  pub all : Each (λ s. Among s listed) sends

abbrev pub IsInducedPart : Bool → (ℕ → ℕ) → List (List ℕ) → ℕ → Classes → Classes → InducedPart → Type 0
IsInducedPart detailed f facets p from to x = IsInducedBlock detailed f facets p from to x.q x.columns

-- What is listed of a map, where the complexes have these classes: the names, and the matrices of the degrees in which
-- both its complexes have classes. Where `detailed` is true it has the sends, and the chains under the columns.
pub record IsMapPart (detailed : Bool) (job : Spelled) (classes : List Classes) (block : MapBlock) (m : MapPart) : Type 0 where
  pub name : m.name ≡ block.name
  pub from_name : m.from ≡ name_at job.complexes block.from
  pub to_name : m.to ≡ name_at job.complexes block.to
  pub sends : IsTrue detailed → AreOrderedSends block.sends m.sends
  pub induced : map (λ x. x.q) m.induced ≡ induced_degrees (ranks (get_or classes block.from [])) (ranks (get_or classes block.to []))
  pub induced_parts : Each (IsInducedPart detailed (image block.sends) (facets_at job.complexes block.from) job.prime
      (get_or classes block.from []) (get_or classes block.to [])) m.induced

-- ---- a job

-- The report of a job: what is listed of its complexes and of its maps, in the order of the file.
pub record IsReportOf (form : Form) (job : Spelled) (report : Report) : Type 0 where
  pub prime : report.prime ≡ job.prime
  pub complexes : AllZip (IsComplexPart (has_tables form) (has_details form) job.prime) job.complexes report.complexes
  pub maps : IsTrue (has_tables form) → AllZip (IsMapPart (has_details form) job (map classes_of report.complexes)) job.maps report.maps
