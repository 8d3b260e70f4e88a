-- Verdicts on Cartan lines.
use Rattle.std.specs.{Prelude.{◌≡◌, ℕ, Bool, List, [], Some, None, is_some}, declared.option.Option.Option}
use Rattle.simplicial_law.specs.Names.{Chain, terms_of}
use Rattle.complex_index.specs.{declared.indexed.Cochain.Cochain, Names.{IsIndexOf, level}}
use Rattle.cohomology.specs.{declared.basis.Column.Column, Names.{IsColumnOf, chains_at, cochain_in}}
use Rattle.report.specs.declared.{columns.CartanAnswer.CartanAnswer, columns.CartanAnswer.TheVariants.{Yes as ListedYes, No as ListedNo}, plan.Line.Line}
use Rattle.report_law.specs.Names.{IsAnswer, Classes, IsVerdict, line_degree}
use Rattle.op_matrix.specs.Columns.{AreListedAs, primitive_terms}
use Rattle.cartan_check.specs.declared.{Verdict.Verdict, Verdict.TheVariants.{Yes, No}}

-- the terms of a cycle of degree n; none where none is kept
abbrev pub cycle_terms : {p : ℕ} → List (List (List ℕ)) → ℕ → Option (Cochain p) → Chain
cycle_terms levels n None = []
cycle_terms levels n (Some y) = terms_of (level levels n) y.row

-- a verdict in degree n, as a report lists it
abbrev pub listed_answer : {p : ℕ} → List (List (List ℕ)) → ℕ → Verdict p → CartanAnswer
listed_answer levels n (Yes primitive) = ListedYes (primitive_terms levels n primitive)
listed_answer levels n (No value cycle) = ListedNo value (cycle_terms levels n cycle)

-- the primitive or the cycle is there exactly where these are kept
abbrev pub HasChain : {p : ℕ} → Bool → Verdict p → Type 0
HasChain keeps (Yes primitive) = is_some primitive ≡ keeps
HasChain keeps (No value cycle) = is_some cycle ≡ keeps

-- the verdict on a line for the classes of each complex with these levels
pub record IsVerdictOf {p : ℕ} (detailed : Bool) (levels : List (List (List ℕ))) (classes : ℕ → List (Cochain p)) (line : Line) (verdict : Verdict p) : Type 0 where
  pub listed : (facets : List (List ℕ)) (all : Classes) → IsIndexOf facets levels → AreListedAs levels classes all →
      IsVerdict detailed facets p all line (listed_answer levels (line_degree p line) verdict)
  pub kept : HasChain detailed verdict

-- the verdict is that for each cochain z of degree n that has this column
pub record IsVerdictFor {p : ℕ} (keeps : Bool) (levels : List (List (List ℕ))) (n : ℕ) (classes : List (Cochain p)) (column : Column p) (verdict : Verdict p) : Type 0 where
  pub answer : (facets : List (List ℕ)) (z : Cochain p) → IsIndexOf facets levels → z.degree ≡ n → IsColumnOf p keeps levels classes z column.values.items column.primitive →
      IsAnswer keeps facets n p (chains_at (level levels n) classes) (cochain_in levels n z.row) (listed_answer levels n verdict)
  pub kept : (z : Cochain p) → IsColumnOf p keeps levels classes z column.values.items column.primitive → HasChain keeps verdict
