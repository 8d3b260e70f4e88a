-- The laws of certificates.
use Rattle.std.specs.Prelude.{◌≡◌, ℕ, ◌+◌, ◌<◌, ◌^◌, true, map, length}
use Rattle.linear_law.specs.Names.{Each}
use Rattle.complex_file.specs.{Names.Spelled, Jobs.is_job}
use Rattle.certificate_law.specs.{Types.{CartanAnswer, Yes, No, CartanPart, Certificate, Report, MapPart, TextLine as Line, below_line, cartan_no, cartan_yes, class_line, column_line, complex_line, cycle_line, done_line, end_line, facet_line, heading_line, map_line, prime_line, with_line, degree_line, induced_line, operation_line, pair_line, product_line}, Certifies.{Certifies, FailsFirst}, Parts.{complex_named, itself, sent_by}, Stated.{Stated, stated, heading, prime_is, complex_opens, facet_stands, degree_opens, below_stands, class_stands, product_opens, product_column, operation_opens, operation_column, cartan_stands, with_stands, cycle_stands, complex_ends, map_opens, send_stands, induced_opens, induced_column, map_ends, finish}}
use Rattle.report_law.specs.Names.{ComplexPromise, InducedPromise, IsReportOf, IsWithinLimit}
use Rattle.report_text_law.specs.{Names.{certificate_lines, send_of}, WellFormed.is_well_formed}

-- A report that certifies has no failure, and no report has two first failures.
pub record FirstFailureLaw : Type 0 where
  pub none : (r : Report) (condition line : ℕ) → Certifies r → FailsFirst r condition line → ⊥
  pub condition : (r : Report) (c d k l : ℕ) → FailsFirst r c k → FailsFirst r d l → c ≡ d
  pub line : (r : Report) (c k l : ℕ) → FailsFirst r c k → FailsFirst r c l → k ≡ l

-- What is shown of a map between two complexes: its induced matrices, and how they go with the matrices of operations.
abbrev pub MapShown : Report → MapPart → Type 0
MapShown r m = InducedPromise (sent_by m) (complex_named r.complexes m.from).facets (complex_named r.complexes m.to).facets r.prime
    (complex_named r.complexes m.from) (complex_named r.complexes m.to) m

-- Where a report certifies, all that the headline promises holds of what it lists, of the complexes that its facets give
-- and of its maps: the printed classes are bases of cohomology, whichever they are; the printed matrices carry the
-- coordinates of every cocycle; and the Cartan answers are right, which the chains under them show.
pub record CertifiedLaw : Type 0 where
  pub complexes : (r : Report) → is_well_formed r ≡ true → Certifies r → Each (λ c. ComplexPromise Certificate r.prime (itself c) c) r.complexes
  pub maps : (r : Report) → is_well_formed r ≡ true → Certifies r → Each (MapShown r) r.maps

abbrev pub verdict_said : CartanPart → CartanAnswer → Line
verdict_said x (Yes primitive) = cartan_yes x.a x.i x.b x.j x.n
verdict_said x (No value cycle) = cartan_no x.a x.i x.b x.j x.n value

-- the line of a certificate that is meant
abbrev pub line_said : Stated → Line
line_said heading = heading_line
line_said (prime_is p) = prime_line p
line_said (complex_opens before c) = complex_line c.name
line_said (facet_stands before f) = facet_line f
line_said (degree_opens c n d) = degree_line n (length d.classes)
line_said (below_stands c n before y) = below_line y
line_said (class_stands c n before z) = class_line z
line_said (product_opens c k x) = product_line x.a x.b
line_said (product_column c x k y) = pair_line y.i y.j y.values
line_said (operation_opens c k x) = operation_line x.word x.number x.from x.to
line_said (operation_column c x k y) = column_line (k + 1) y.values
line_said (cartan_stands c k x) = verdict_said x x.answer
line_said (with_stands chain) = with_line chain
line_said (cycle_stands chain) = cycle_line chain
line_said (complex_ends c) = end_line
line_said (map_opens cs before m) = map_line m.name m.from m.to
line_said (send_stands from to before s) = send_of s
line_said (induced_opens from to k x) = induced_line x.q
line_said (induced_column from to m x k y) = column_line (k + 1) y.values
line_said (map_ends from to m) = end_line
line_said (finish cs) = done_line

-- What the conditions are asked of are the lines of the certificate, in their order: so the number of a line at which
-- a condition fails is its number in the text.
abbrev pub StatedLinesLaw : Type 0
StatedLinesLaw = (r : Report) → map line_said (stated r) ≡ certificate_lines r.prime r.complexes r.maps

-- The certificate of a job certifies, where the counted terms are within the limit.
abbrev pub CompleteLaw : Type 0
CompleteLaw = (job : Spelled) (r : Report) → is_job job.prime job.complexes job.maps ≡ true → IsReportOf Certificate job r → IsWithinLimit job (10 ^ 12) → Certifies r

-- The certificate of a job is well formed: so its text spells it, and is read back.
abbrev pub WellFormedLaw : Type 0
WellFormedLaw = (job : Spelled) (r : Report) → is_job job.prime job.complexes job.maps ≡ true → IsReportOf Certificate job r → is_well_formed r ≡ true

-- The certificate of a job has fewer lines than a number of 64 bits can count.
abbrev pub FewLinesLaw : Type 0
FewLinesLaw = (job : Spelled) (r : Report) → is_job job.prime job.complexes job.maps ≡ true → IsReportOf Certificate job r → length (certificate_lines r.prime r.complexes r.maps) < 2 ^ 64
