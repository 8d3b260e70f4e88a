-- The laws of reports.
use Rattle.std.specs.Prelude.{◌≡◌, Bool, ℕ, ◌+◌, true, List, IsTrue}
use Rattle.fp_field.specs.Served.{served}
use Rattle.linear_law.specs.Names.{Each, IsAscending}
use Rattle.simplicial_law.specs.Names.{AgreesOnSimplices, Cochain}
use Rattle.complex_file.specs.{Names.Spelled, Jobs.is_job}
use Rattle.report_law.specs.{Types.{ComplexBlock, ComplexPart, Form, Certificate, Report, Op, Sizes}, Differences.{IsCartanDifference, IsOperation}, Headline.Headline, Live.{cartan_op, is_defined, target_degree}, Reports.{IsComplexPart, IsReportOf}, Terms.{AreSizes, IsWithinLimit, PassesLimit, sizes_of}}
use Rattle.report.specs.Names.{outline}

-- The headline holds of the report of each job, in each form.
abbrev pub HeadlineLaw : Type 0
HeadlineLaw = (form : Form) (job : Spelled) (report : Report) → is_job job.prime job.complexes job.maps ≡ true →
    IsReportOf form job report → Headline form job report

-- The report of a job with all that a certificate prints is its report in each form.
abbrev pub FormsLaw : Type 0
FormsLaw = (form : Form) (job : Spelled) (report : Report) → IsReportOf Certificate job report → IsReportOf form job report

-- An operation that is defined has a result on each cochain, and a Cartan line of an operation that is defined has a
-- difference. On the simplices of its degree each is one.
pub record OperationLaw : Type 0 where
  pub operation : (facets : List (List ℕ)) (p : ℕ) (op : Op) (q : ℕ) (a : Cochain) → IsTrue (served p) → is_defined p q op ≡ true →
      (b : Cochain) × IsOperation facets p op q a b
  pub same_operation : (facets : List (List ℕ)) (p : ℕ) (op : Op) (q : ℕ) (a b c : Cochain) → IsTrue (served p) → is_defined p q op ≡ true →
      IsOperation facets p op q a b → IsOperation facets p op q a c → AgreesOnSimplices facets (target_degree p q op) p b c
  pub difference : (facets : List (List ℕ)) (p a b n : ℕ) (x y : Cochain) → IsTrue (served p) →
      is_defined p (a + b) (cartan_op p n) ≡ true → (d : Cochain) × IsCartanDifference facets p a b n x y d
  pub same_difference : (facets : List (List ℕ)) (p a b n : ℕ) (x y d e : Cochain) → IsTrue (served p) →
      is_defined p (a + b) (cartan_op p n) ≡ true → IsCartanDifference facets p a b n x y d → IsCartanDifference facets p a b n x y e →
      AgreesOnSimplices facets (target_degree p (a + b) (cartan_op p n)) p d e

-- In each form a job has one report, up to what the form does not print; with all that a certificate prints it has one.
pub record OneReportLaw : Type 0 where
  pub outline : (form : Form) (job : Spelled) (r s : Report) → is_job job.prime job.complexes job.maps ≡ true →
      IsReportOf form job r → IsReportOf form job s → outline form r ≡ outline form s
  pub certificate : (job : Spelled) (r s : Report) → is_job job.prime job.complexes job.maps ≡ true →
      IsReportOf Certificate job r → IsReportOf Certificate job s → r ≡ s

-- A complex has one list of sizes, and those of what is listed of it are its sizes.
pub record SizesLaw : Type 0 where
  pub one : (p : ℕ) (facets : List (List ℕ)) (z w : Sizes) → IsTrue (served p) → Each IsAscending facets → AreSizes p facets z → AreSizes p facets w → z ≡ w
  pub listed : (tabled detailed : Bool) (p : ℕ) (block : ComplexBlock) (c : ComplexPart) → IsComplexPart tabled detailed p block c →
      AreSizes p block.facets (sizes_of block.facets c)

-- The counted terms of a job pass a limit with one sum, or not at all.
pub record LimitLaw : Type 0 where
  pub one : (job : Spelled) (limit m n : ℕ) → is_job job.prime job.complexes job.maps ≡ true → PassesLimit job limit m → PassesLimit job limit n → m ≡ n
  pub not_both : (job : Spelled) (limit n : ℕ) → is_job job.prime job.complexes job.maps ≡ true → PassesLimit job limit n → IsWithinLimit job limit → ⊥
