-- The report of a point at 2.
use Rattle.std.specs.Prelude.{[], ◌∷◌, codes}
use Rattle.complex_file.specs.Names.{Spelled}
use Rattle.report_law.specs.{Types.{Yes, ComplexPart, Certificate, Report}, Reports.IsReportOf}
use Rattle.report.specs.declared.columns.OpWord.TheVariants.{Sq}

-- one complex with the one vertex 0
abbrev pub point_job : Spelled
point_job = record { prime = 2; complexes = record { name = codes "pt"; facets = (0 ∷ []) ∷ [] } ∷ []; maps = [] }

-- the class is 1 at the vertex; its product with itself and its Sq^0 are the class, and the Cartan difference is 0
abbrev pub point_part : ComplexPart
point_part = record {
  name = codes "pt";
  facets = (0 ∷ []) ∷ [];
  degrees = record { below = []; classes = ((1, 0 ∷ []) ∷ []) ∷ [] } ∷ [];
  products = record { a = 0; b = 0; columns = record { i = 1; j = 1; values = 1 ∷ []; primitive = [] } ∷ [] } ∷ [];
  operations = record { word = Sq; number = 0; from = 0; to = 0; columns = record { values = 1 ∷ []; primitive = [] } ∷ [] } ∷ [];
  cartans = record { a = 0; i = 1; b = 0; j = 1; n = 0; answer = Yes [] } ∷ [];
}

abbrev pub point_report : Report
point_report = record { prime = 2; complexes = point_part ∷ []; maps = [] }

abbrev pub PointRow : Type 0
PointRow = IsReportOf Certificate point_job point_report
