-- Worked texts: reports, and the lines in which they are printed.
use Rattle.std.specs.Prelude.{◌≡◌, ℕ, List, [], ◌∷◌, codes, flat_map}
use Rattle.report_text_law.specs.{Types.{Yes, CartanPart, Column, OpWord, OperationPart, PairColumn, ProductPart, ComplexPart, DegreePart, Report, Certificate, Short}, Spelling.ended, Text.text_of}
use Rattle.report.specs.declared.columns.OpWord.TheVariants.{Sq, Power, BocksteinPower}

-- columns, blocks and verdicts without their chains

abbrev pair : ℕ → ℕ → List ℕ → PairColumn
pair i j vs = record { i = i; j = j; values = vs; primitive = [] }

abbrev product : ℕ → ℕ → List PairColumn → ProductPart
product a b cs = record { a = a; b = b; columns = cs }

-- of two degrees with one class each
abbrev single : ℕ → ℕ → ProductPart
single a b = product a b (pair 1 1 (1 ∷ []) ∷ [])

abbrev column : List ℕ → Column
column vs = record { values = vs; primitive = [] }

abbrev operation : OpWord → ℕ → ℕ → ℕ → List Column → OperationPart
operation w k q n cs = record { word = w; number = k; from = q; to = n; columns = cs }

abbrev yes : ℕ → ℕ → ℕ → ℕ → ℕ → CartanPart
yes a i b j n = record { a = a; i = i; b = b; j = j; n = n; answer = Yes [] }

abbrev degree : List (List (ℕ × List ℕ)) → List (List (ℕ × List ℕ)) → DegreePart
degree bs cs = record { below = bs; classes = cs }

-- the report of one complex without maps
abbrev report : ℕ → ComplexPart → Report
report p c = record { prime = p; complexes = c ∷ []; maps = [] }

-- a circle at 3
abbrev pub circle : Report
circle = report 3 (record {
  name = codes "circle";
  facets = (0 ∷ 1 ∷ []) ∷ (0 ∷ 2 ∷ []) ∷ (1 ∷ 2 ∷ []) ∷ [];
  degrees = degree [] (((1, 0 ∷ []) ∷ (1, 1 ∷ []) ∷ (1, 2 ∷ []) ∷ []) ∷ [])
      ∷ degree (((1, 1 ∷ []) ∷ []) ∷ ((1, 2 ∷ []) ∷ []) ∷ []) (((1, 1 ∷ 2 ∷ []) ∷ []) ∷ [])
      ∷ [];
  products = single 0 0 ∷ single 0 1 ∷ single 1 0 ∷ [];
  operations = operation Power 0 0 0 (column (1 ∷ []) ∷ []) ∷ operation Power 0 1 1 (column (1 ∷ []) ∷ [])
      ∷ [];
  cartans = yes 0 1 0 1 0 ∷ yes 0 1 1 1 0 ∷ yes 1 1 0 1 0 ∷ [];
})

abbrev pub circle_lines : List (List ℕ)
circle_lines =
    codes "comch certificate 1" ∷ codes "prime 3" ∷ codes "complex circle"
    ∷ codes "facet 0 1" ∷ codes "facet 0 2" ∷ codes "facet 1 2"
    ∷ codes "degree 0 rank 1" ∷ codes "class 1:0 1:1 1:2"
    ∷ codes "degree 1 rank 1" ∷ codes "below 1:1" ∷ codes "below 1:2" ∷ codes "class 1:1.2"
    ∷ codes "product 0 0" ∷ codes "column 1 1 is 1" ∷ codes "with 0"
    ∷ codes "product 0 1" ∷ codes "column 1 1 is 1" ∷ codes "with 0"
    ∷ codes "product 1 0" ∷ codes "column 1 1 is 1" ∷ codes "with 0"
    ∷ codes "operation P 0 from 0 to 0" ∷ codes "column 1 is 1" ∷ codes "with 0"
    ∷ codes "operation P 0 from 1 to 1" ∷ codes "column 1 is 1" ∷ codes "with 0"
    ∷ codes "cartan 0 1 0 1 0 yes" ∷ codes "with 0"
    ∷ codes "cartan 0 1 1 1 0 yes" ∷ codes "with 0"
    ∷ codes "cartan 1 1 0 1 0 yes" ∷ codes "with 0"
    ∷ codes "end" ∷ codes "done"
    ∷ []

-- the projective plane at 2
abbrev pub plane : Report
plane = report 2 (record {
  name = codes "rp2";
  facets = [];
  degrees = degree [] (((1, 1 ∷ []) ∷ (1, 2 ∷ []) ∷ (1, 3 ∷ []) ∷ (1, 4 ∷ []) ∷ (1, 5 ∷ []) ∷ (1, 6 ∷ []) ∷ []) ∷ [])
      ∷ degree [] (((1, 2 ∷ 3 ∷ []) ∷ (1, 2 ∷ 4 ∷ []) ∷ (1, 3 ∷ 5 ∷ []) ∷ (1, 4 ∷ 6 ∷ []) ∷ (1, 5 ∷ 6 ∷ []) ∷ []) ∷ [])
      ∷ degree [] (((1, 4 ∷ 5 ∷ 6 ∷ []) ∷ []) ∷ [])
      ∷ [];
  products = single 0 0 ∷ single 0 1 ∷ single 0 2 ∷ single 1 0 ∷ single 1 1 ∷ single 2 0 ∷ [];
  operations = operation Sq 0 0 0 (column (1 ∷ []) ∷ []) ∷ operation Sq 0 1 1 (column (1 ∷ []) ∷ [])
      ∷ operation Sq 1 1 2 (column (1 ∷ []) ∷ []) ∷ operation Sq 0 2 2 (column (1 ∷ []) ∷ [])
      ∷ [];
  cartans = yes 0 1 0 1 0 ∷ yes 0 1 1 1 0 ∷ yes 0 1 1 1 1 ∷ yes 0 1 2 1 0 ∷ yes 1 1 0 1 0 ∷ yes 1 1 0 1 1 ∷ yes 1 1 1 1 0 ∷ yes 2 1 0 1 0 ∷ [];
})

abbrev pub plane_lines : List (List ℕ)
plane_lines =
    codes "comch report 1" ∷ codes "prime 2" ∷ codes "complex rp2"
    ∷ codes "degree 0 rank 1" ∷ codes "class 1:1 1:2 1:3 1:4 1:5 1:6"
    ∷ codes "degree 1 rank 1" ∷ codes "class 1:2.3 1:2.4 1:3.5 1:4.6 1:5.6"
    ∷ codes "degree 2 rank 1" ∷ codes "class 1:4.5.6"
    ∷ codes "product 0 0" ∷ codes "column 1 1 is 1"
    ∷ codes "product 0 1" ∷ codes "column 1 1 is 1"
    ∷ codes "product 0 2" ∷ codes "column 1 1 is 1"
    ∷ codes "product 1 0" ∷ codes "column 1 1 is 1"
    ∷ codes "product 1 1" ∷ codes "column 1 1 is 1"
    ∷ codes "product 2 0" ∷ codes "column 1 1 is 1"
    ∷ codes "operation Sq 0 from 0 to 0" ∷ codes "column 1 is 1"
    ∷ codes "operation Sq 0 from 1 to 1" ∷ codes "column 1 is 1"
    ∷ codes "operation Sq 1 from 1 to 2" ∷ codes "column 1 is 1"
    ∷ codes "operation Sq 0 from 2 to 2" ∷ codes "column 1 is 1"
    ∷ codes "cartan 0 1 0 1 0 yes" ∷ codes "cartan 0 1 1 1 0 yes" ∷ codes "cartan 0 1 1 1 1 yes" ∷ codes "cartan 0 1 2 1 0 yes"
    ∷ codes "cartan 1 1 0 1 0 yes" ∷ codes "cartan 1 1 0 1 1 yes" ∷ codes "cartan 1 1 1 1 0 yes" ∷ codes "cartan 2 1 0 1 0 yes"
    ∷ codes "end" ∷ codes "done"
    ∷ []

-- a torus at 3
abbrev pub torus : Report
torus = report 3 (record {
  name = codes "torus";
  facets = [];
  degrees = degree [] (((1, 0 ∷ []) ∷ (1, 1 ∷ []) ∷ (1, 2 ∷ []) ∷ (1, 3 ∷ []) ∷ (1, 4 ∷ []) ∷ (1, 5 ∷ []) ∷ (1, 6 ∷ []) ∷ []) ∷ [])
      ∷ degree [] (((1, 1 ∷ 2 ∷ []) ∷ (1, 1 ∷ 6 ∷ []) ∷ (2, 2 ∷ 4 ∷ []) ∷ (2, 2 ∷ 5 ∷ []) ∷ (2, 3 ∷ 5 ∷ []) ∷ (1, 5 ∷ 6 ∷ []) ∷ []) ∷ ((1, 1 ∷ 4 ∷ []) ∷ (1, 2 ∷ 4 ∷ []) ∷ (1, 2 ∷ 5 ∷ []) ∷ (1, 3 ∷ 4 ∷ []) ∷ (1, 3 ∷ 5 ∷ []) ∷ (1, 3 ∷ 6 ∷ []) ∷ []) ∷ [])
      ∷ degree [] (((1, 3 ∷ 5 ∷ 6 ∷ []) ∷ []) ∷ [])
      ∷ [];
  products = single 0 0
      ∷ product 0 1 (pair 1 1 (1 ∷ 0 ∷ []) ∷ pair 1 2 (0 ∷ 1 ∷ []) ∷ [])
      ∷ single 0 2
      ∷ product 1 0 (pair 1 1 (1 ∷ 0 ∷ []) ∷ pair 2 1 (0 ∷ 1 ∷ []) ∷ [])
      ∷ product 1 1 (pair 1 1 (0 ∷ []) ∷ pair 1 2 (2 ∷ []) ∷ pair 2 1 (1 ∷ []) ∷ pair 2 2 (0 ∷ []) ∷ [])
      ∷ single 2 0 ∷ [];
  operations = operation Power 0 0 0 (column (1 ∷ []) ∷ [])
      ∷ operation Power 0 1 1 (column (1 ∷ 0 ∷ []) ∷ column (0 ∷ 1 ∷ []) ∷ [])
      ∷ operation BocksteinPower 0 1 2 (column (0 ∷ []) ∷ column (0 ∷ []) ∷ [])
      ∷ operation Power 0 2 2 (column (1 ∷ []) ∷ [])
      ∷ [];
  cartans = yes 0 1 0 1 0 ∷ yes 0 1 1 1 0 ∷ yes 0 1 1 2 0 ∷ yes 0 1 2 1 0 ∷ yes 1 1 0 1 0 ∷ yes 1 2 0 1 0 ∷ yes 1 1 1 1 0 ∷ yes 1 1 1 2 0 ∷ yes 1 2 1 1 0 ∷ yes 1 2 1 2 0 ∷ yes 2 1 0 1 0 ∷ [];
})

abbrev pub torus_lines : List (List ℕ)
torus_lines =
    codes "comch report 1" ∷ codes "prime 3" ∷ codes "complex torus"
    ∷ codes "degree 0 rank 1" ∷ codes "class 1:0 1:1 1:2 1:3 1:4 1:5 1:6"
    ∷ codes "degree 1 rank 2" ∷ codes "class 1:1.2 1:1.6 2:2.4 2:2.5 2:3.5 1:5.6" ∷ codes "class 1:1.4 1:2.4 1:2.5 1:3.4 1:3.5 1:3.6"
    ∷ codes "degree 2 rank 1" ∷ codes "class 1:3.5.6"
    ∷ codes "product 0 0" ∷ codes "column 1 1 is 1"
    ∷ codes "product 0 1" ∷ codes "column 1 1 is 1 0" ∷ codes "column 1 2 is 0 1"
    ∷ codes "product 0 2" ∷ codes "column 1 1 is 1"
    ∷ codes "product 1 0" ∷ codes "column 1 1 is 1 0" ∷ codes "column 2 1 is 0 1"
    ∷ codes "product 1 1" ∷ codes "column 1 1 is 0" ∷ codes "column 1 2 is 2" ∷ codes "column 2 1 is 1" ∷ codes "column 2 2 is 0"
    ∷ codes "product 2 0" ∷ codes "column 1 1 is 1"
    ∷ codes "operation P 0 from 0 to 0" ∷ codes "column 1 is 1"
    ∷ codes "operation P 0 from 1 to 1" ∷ codes "column 1 is 1 0" ∷ codes "column 2 is 0 1"
    ∷ codes "operation bP 0 from 1 to 2" ∷ codes "column 1 is 0" ∷ codes "column 2 is 0"
    ∷ codes "operation P 0 from 2 to 2" ∷ codes "column 1 is 1"
    ∷ codes "cartan 0 1 0 1 0 yes" ∷ codes "cartan 0 1 1 1 0 yes" ∷ codes "cartan 0 1 1 2 0 yes" ∷ codes "cartan 0 1 2 1 0 yes"
    ∷ codes "cartan 1 1 0 1 0 yes" ∷ codes "cartan 1 2 0 1 0 yes" ∷ codes "cartan 1 1 1 1 0 yes" ∷ codes "cartan 1 1 1 2 0 yes"
    ∷ codes "cartan 1 2 1 1 0 yes" ∷ codes "cartan 1 2 1 2 0 yes" ∷ codes "cartan 2 1 0 1 0 yes"
    ∷ codes "end" ∷ codes "done"
    ∷ []

-- a Moore complex at 3
abbrev pub moore : Report
moore = report 3 (record {
  name = codes "moore";
  facets = [];
  degrees = degree [] (((1, 0 ∷ []) ∷ (1, 1 ∷ []) ∷ (1, 2 ∷ []) ∷ (1, 3 ∷ []) ∷ (1, 4 ∷ []) ∷ (1, 5 ∷ []) ∷ (1, 6 ∷ []) ∷ (1, 7 ∷ []) ∷ (1, 8 ∷ []) ∷ (1, 9 ∷ []) ∷ (1, 10 ∷ []) ∷ (1, 11 ∷ []) ∷ (1, 12 ∷ []) ∷ []) ∷ [])
      ∷ degree [] (((1, 1 ∷ 2 ∷ []) ∷ (2, 2 ∷ 4 ∷ []) ∷ (2, 2 ∷ 7 ∷ []) ∷ (2, 2 ∷ 10 ∷ []) ∷ (1, 4 ∷ 5 ∷ []) ∷ (2, 5 ∷ 12 ∷ []) ∷ (2, 6 ∷ 12 ∷ []) ∷ (1, 7 ∷ 8 ∷ []) ∷ (2, 7 ∷ 12 ∷ []) ∷ (1, 8 ∷ 12 ∷ []) ∷ (1, 9 ∷ 12 ∷ []) ∷ (1, 10 ∷ 11 ∷ []) ∷ (1, 10 ∷ 12 ∷ []) ∷ []) ∷ [])
      ∷ degree [] (((1, 10 ∷ 11 ∷ 12 ∷ []) ∷ []) ∷ [])
      ∷ [];
  products = single 0 0 ∷ single 0 1 ∷ single 0 2 ∷ single 1 0
      ∷ product 1 1 (pair 1 1 (0 ∷ []) ∷ [])
      ∷ single 2 0 ∷ [];
  operations = operation Power 0 0 0 (column (1 ∷ []) ∷ []) ∷ operation Power 0 1 1 (column (1 ∷ []) ∷ [])
      ∷ operation BocksteinPower 0 1 2 (column (1 ∷ []) ∷ []) ∷ operation Power 0 2 2 (column (1 ∷ []) ∷ [])
      ∷ [];
  cartans = yes 0 1 0 1 0 ∷ yes 0 1 1 1 0 ∷ yes 0 1 2 1 0 ∷ yes 1 1 0 1 0 ∷ yes 1 1 1 1 0 ∷ yes 2 1 0 1 0 ∷ [];
})

abbrev pub moore_lines : List (List ℕ)
moore_lines =
    codes "comch report 1" ∷ codes "prime 3" ∷ codes "complex moore"
    ∷ codes "degree 0 rank 1" ∷ codes "class 1:0 1:1 1:2 1:3 1:4 1:5 1:6 1:7 1:8 1:9 1:10 1:11 1:12"
    ∷ codes "degree 1 rank 1" ∷ codes "class 1:1.2 2:2.4 2:2.7 2:2.10 1:4.5 2:5.12 2:6.12 1:7.8 2:7.12 1:8.12 1:9.12 1:10.11 1:10.12"
    ∷ codes "degree 2 rank 1" ∷ codes "class 1:10.11.12"
    ∷ codes "product 0 0" ∷ codes "column 1 1 is 1"
    ∷ codes "product 0 1" ∷ codes "column 1 1 is 1"
    ∷ codes "product 0 2" ∷ codes "column 1 1 is 1"
    ∷ codes "product 1 0" ∷ codes "column 1 1 is 1"
    ∷ codes "product 1 1" ∷ codes "column 1 1 is 0"
    ∷ codes "product 2 0" ∷ codes "column 1 1 is 1"
    ∷ codes "operation P 0 from 0 to 0" ∷ codes "column 1 is 1"
    ∷ codes "operation P 0 from 1 to 1" ∷ codes "column 1 is 1"
    ∷ codes "operation bP 0 from 1 to 2" ∷ codes "column 1 is 1"
    ∷ codes "operation P 0 from 2 to 2" ∷ codes "column 1 is 1"
    ∷ codes "cartan 0 1 0 1 0 yes" ∷ codes "cartan 0 1 1 1 0 yes" ∷ codes "cartan 0 1 2 1 0 yes" ∷ codes "cartan 1 1 0 1 0 yes"
    ∷ codes "cartan 1 1 1 1 0 yes" ∷ codes "cartan 2 1 0 1 0 yes"
    ∷ codes "end" ∷ codes "done"
    ∷ []

-- two points at 5
abbrev pub points : Report
points = report 5 (record {
  name = codes "two";
  facets = [];
  degrees = degree [] (((1, 0 ∷ []) ∷ []) ∷ ((1, 1 ∷ []) ∷ []) ∷ [])
      ∷ [];
  products = product 0 0 (pair 1 1 (1 ∷ 0 ∷ []) ∷ pair 1 2 (0 ∷ 0 ∷ []) ∷ pair 2 1 (0 ∷ 0 ∷ []) ∷ pair 2 2 (0 ∷ 1 ∷ []) ∷ [])
      ∷ [];
  operations = operation Power 0 0 0 (column (1 ∷ 0 ∷ []) ∷ column (0 ∷ 1 ∷ []) ∷ [])
      ∷ [];
  cartans = yes 0 1 0 1 0 ∷ yes 0 1 0 2 0 ∷ yes 0 2 0 1 0 ∷ yes 0 2 0 2 0 ∷ [];
})

abbrev pub points_lines : List (List ℕ)
points_lines =
    codes "comch report 1" ∷ codes "prime 5" ∷ codes "complex two"
    ∷ codes "degree 0 rank 2" ∷ codes "class 1:0" ∷ codes "class 1:1"
    ∷ codes "product 0 0" ∷ codes "column 1 1 is 1 0" ∷ codes "column 1 2 is 0 0" ∷ codes "column 2 1 is 0 0" ∷ codes "column 2 2 is 0 1"
    ∷ codes "operation P 0 from 0 to 0" ∷ codes "column 1 is 1 0" ∷ codes "column 2 is 0 1"
    ∷ codes "cartan 0 1 0 1 0 yes" ∷ codes "cartan 0 1 0 2 0 yes" ∷ codes "cartan 0 2 0 1 0 yes" ∷ codes "cartan 0 2 0 2 0 yes"
    ∷ codes "end" ∷ codes "done"
    ∷ []

pub record WorkedTexts : Type 0 where
  pub of_circle : text_of Certificate circle ≡ flat_map ended circle_lines
  pub of_plane : text_of Short plane ≡ flat_map ended plane_lines
  pub of_torus : text_of Short torus ≡ flat_map ended torus_lines
  pub of_moore : text_of Short moore ≡ flat_map ended moore_lines
  pub of_points : text_of Short points ≡ flat_map ended points_lines
