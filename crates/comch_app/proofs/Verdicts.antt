-- What the answer of `check` shows, and that it never says no to what `certify` writes.
use Rattle.std.{proofs.Common.{◌≡◌, ℕ, zero, suc, ◌+◌, ◌<◌, ◌≤◌, ◌^◌, Bool, true, false, refl, sym, ◌∙◌, ap, subst, arith, List, [], ◌∷◌, length, Some, None, IfSome, nat_lt, if◌then◌else◌, le-ltb, ltb-false, length-append}, specs.declared.option.Option.Option, proofs.lemmas.List.length-map}
use Rattle.complex_file.proofs.JobLemmas.{spelled_job}
use Rattle.report.specs.declared.{form.Form.TheVariants.Certificate, job.Report.Report}
use Rattle.report_text_law.{proofs.Refusals.one_report, specs.declared.line.Line.Line, specs.Names.{Spells, certificate_lines, ended, joined, printed, shown, words}, specs.declared.line.Line.TheVariants.{Below as below_line, CartanNo as cartan_no, CartanYes as cartan_yes, Class as class_line, Column as column_line, Complex as complex_line, Cycle as cycle_line, Degree as degree_line, Done as done_line, End as end_line, Facet as facet_line, Heading as heading_line, Induced as induced_line, Map as map_line, Operation as operation_line, Pair as pair_line, Prime as prime_line, Product as product_line, Send as send_line, With as with_line}, specs.Text.text_of}
use Rattle.report_law.specs.Names.{IsWithinLimit, addends, first_past, printed_count}
use Rattle.certificate_law.{specs.Names.{Certifies, FailsFirst, line_said, stated}, proofs.CertifiedParts.certified_law, proofs.Failures.first_failure_law, proofs.JobLaw.complete_law, proofs.Limits.more_allowed, proofs.StatedLines.stated_lines_law, proofs.WrittenJobs.well_formed_law}
use Rattle.comch_io.specs.Causes.{Rose}
use Rattle.comch_app.{specs.Names.{AtFault, Ends, EndsRead, CheckAnswers, IsCertified, IsNo, IsRefuted, IsShown, Status, Done, No, BadWords, InputRefused, TooManyTerms, OutOfMemory, ReadFault, WriteFault}, proofs.Endings.told_ends}

-- ---- how many lines a text has

ended_long : (line : List ℕ) → 1 ≤ length (ended line)
ended_long line = let e = length-append line (10 ∷ []) in omega (arith, e)

-- each kind of line stands in a certificate
line_long : (l : Line) → 1 ≤ length (shown Certificate l)
line_long heading_line = ended_long (joined 32 (words Certificate heading_line))
line_long (prime_line p) = ended_long (joined 32 (words Certificate (prime_line p)))
line_long (complex_line n) = ended_long (joined 32 (words Certificate (complex_line n)))
line_long (facet_line vs) = ended_long (joined 32 (words Certificate (facet_line vs)))
line_long (degree_line n h) = ended_long (joined 32 (words Certificate (degree_line n h)))
line_long (below_line ts) = ended_long (joined 32 (words Certificate (below_line ts)))
line_long (class_line ts) = ended_long (joined 32 (words Certificate (class_line ts)))
line_long (product_line a b) = ended_long (joined 32 (words Certificate (product_line a b)))
line_long (pair_line i j vs) = ended_long (joined 32 (words Certificate (pair_line i j vs)))
line_long (with_line ts) = ended_long (joined 32 (words Certificate (with_line ts)))
line_long (operation_line w k q n) = ended_long (joined 32 (words Certificate (operation_line w k q n)))
line_long (column_line j vs) = ended_long (joined 32 (words Certificate (column_line j vs)))
line_long (cartan_yes a i b j n) = ended_long (joined 32 (words Certificate (cartan_yes a i b j n)))
line_long (cartan_no a i b j n v) = ended_long (joined 32 (words Certificate (cartan_no a i b j n v)))
line_long (cycle_line ts) = ended_long (joined 32 (words Certificate (cycle_line ts)))
line_long end_line = ended_long (joined 32 (words Certificate end_line))
line_long (map_line n f t) = ended_long (joined 32 (words Certificate (map_line n f t)))
line_long (send_line v w) = ended_long (joined 32 (words Certificate (send_line v w)))
line_long (induced_line q) = ended_long (joined 32 (words Certificate (induced_line q)))
line_long done_line = ended_long (joined 32 (words Certificate done_line))

lines_long : (ls : List Line) → length ls ≤ length (printed Certificate ls)
lines_long [] = omega arith
lines_long (l ∷ ls) = let e = length-append (shown Certificate l) (printed Certificate ls) in let h = line_long l in let k = lines_long ls in omega (arith, e, h, k)

pub few_lines : (text : List ℕ) (r : Report) → length text ≤ 33554432 → Spells text r → length (stated r) < 2 ^ 64
unfolding text_of
few_lines text r short h =
    let a = length-map (stated r) line_said in
    let b = ap length (stated_lines_law r) in
    let c = lines_long (certificate_lines r.prime r.complexes r.maps) in
    let d = ap length h.same in
    omega (arith, a, b, c, d, short)

-- ---- soundness

pub shows : (text : List ℕ) (r : Report) → Spells text r → Certifies r → IsShown text
shows text r spells certifies = record {
  report = r;
  spells = spells;
  certifies = certifies;
  complexes = certified_law.complexes r spells.well_formed certifies;
  maps = certified_law.maps r spells.well_formed certifies;
}

pub refutes : (text : List ℕ) (r : Report) (condition line : ℕ) → Spells text r → FailsFirst r condition line → IsRefuted text condition line
refutes text r zero line spells fails = absurd (fails.fails.fails tt)
refutes text r (suc before) line spells fails = (r, spells, fails)

-- ---- completeness

written_spells : (text : List ℕ) → IsCertified text → (r : Report) × Spells text r × Certifies r
written_spells text h =
    let job = h.written.0 in
    let within = h.written.2.0 in
    let of = h.written.2.1 in
    let kept = spelled_job h.bytes job h.written.1 in
    let limit : IsWithinLimit job (10 ^ 12) = record { sizes = within.sizes; are = within.are; within = more_allowed h.limit (10 ^ 12) 0 (addends job.prime within.sizes) h.allowed within.within } in
    (of.report, record { well_formed = well_formed_law job of.report kept of.of_job; same = of.text_is }, complete_law job of.report kept of.of_job limit)

pub never_no : (text : List ℕ) (condition line : ℕ) → IsCertified text → IsRefuted text condition line → ⊥
never_no text zero line h refused = let w = written_spells text h in refused.none w.0 w.1
never_no text (suc before) line h (r, spells, fails) =
    let w = written_spells text h in
    let same = one_report w.0 r w.1.well_formed spells.well_formed (sym w.1.same ∙ spells.same) in
    first_failure_law.none r (suc before) line (subst Certifies same w.2) fails

ends_no : (r : Status) (failed : Type 0) (bytes : List ℕ) (old new : Option (List ℕ)) → Ends (AtFault failed (CheckAnswers bytes)) old new r → IsCertified bytes → IsNo r → ⊥
ends_no Done failed bytes old new e h is_no = is_no
ends_no (No condition line) failed bytes old new (text, a, appends) h is_no = never_no bytes condition line h a.1
ends_no BadWords failed bytes old new e h is_no = is_no
ends_no (InputRefused kind line) failed bytes old new e h is_no = is_no
ends_no (TooManyTerms count limit) failed bytes old new e h is_no = is_no
ends_no OutOfMemory failed bytes old new e h is_no = is_no
ends_no ReadFault failed bytes old new e h is_no = is_no
ends_no WriteFault failed bytes old new e h is_no = is_no

pub complete_of : (left left_now : Option (List ℕ)) (given given_now faults faults_now : ℕ) (old new : Option (List ℕ)) (r : Status) → EndsRead CheckAnswers left left_now given given_now faults faults_now old new r
    → IfSome left (λ bytes. IsCertified bytes → IsNo r → ⊥)
complete_of None left_now given given_now faults faults_now old new r h = tt
complete_of (Some bytes) left_now given given_now faults faults_now old new r h = ends_no r (Rose faults faults_now) bytes old new (told_ends CheckAnswers bytes left_now given given_now faults faults_now old new r h)
