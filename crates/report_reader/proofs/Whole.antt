-- The end of a text, and the whole text.
use Rattle.std.{proofs.Common.{◌≡◌, ◌∙◌, ℕ, ◌+◌, ◌<◌, List, length, ap, refl, sym, subst, arith, inl, inr, Some, None, Ok, Err, true, false, IsErr, IsErrAnd, Result, ◌==◌, eq-eqb}, specs.declared.option.Option.Option, proofs.lemmas.Bool.cases_eq}
use Rattle.report.specs.declared.{job.Report.Report, map.MapPart.MapPart}
use Rattle.report_text_law.{specs.Names.{or_refused, read_from, read_text, pieces, ◌>>=◌, move}, specs.declared.line.Line.TheVariants.Done, specs.declared.state.Finding.Finding, specs.declared.state.State.State, specs.declared.state.State.TheVariants.{AtStart, Finished}, specs.declared.line.Line.Line, proofs.Refusals.reading_law}
use Rattle.report_reader.{specs.Names.{Follows, IsReading, Place, ReadsReport, Refuses, reading, done_only, ReadRefused, ReportRefused, OutOfMemory}, proofs.Lines.nothing_behind, proofs.Steps.{at, failed}}

-- bytes stand behind the last line
pub refused_behind : (f : Finding) (ms : List MapPart) (old mid : Place) (e : ReadRefused) → old.line ≡ Some Done → mid ≡ at old None → (length mid.text == 0) ≡ false → e ≡ ReportRefused (mid.number + 1) → Refuses (done_only (Finished f ms)) old e
refused_behind f ms old mid e was is some made =
    subst (Refuses (done_only (Finished f ms)) old) (sym made) (
    ap (λ (o : Option Line). or_refused old.number (o >>= done_only (Finished f ms)) (λ t. read_from (old.number + 1) t (pieces old.text))) was
    ∙ nothing_behind (old.number + 1) f ms old.text (let n = zero_not (length mid.text) some in let same : length mid.text ≡ length old.text = ap (λ (p : Place). length p.text) is in omega (arith, n, same))
    ∙ ap (λ (p : Place). Err (p.number + 1)) (sym is))
  where
    zero_not : (n : ℕ) → (n == 0) ≡ false → 0 < n
    zero_not n e = elim (cases_eq n 0) [ inl q ↦ let t = eq-eqb n 0 q in cc | inr o ↦ omega (arith, o) ]

pub report_behind : (a b : Line → Option State) (start old : Place) (r : Result Report ReadRefused) → reading a start ≡ reading b old → ReadsReport b old r → ReadsReport a start r
report_behind a b start old (Ok r) so_far h = so_far ∙ h
report_behind a b start old (Err e) so_far h = failed a b start old e so_far h

pub report_refused : (a : Line → Option State) (start : Place) (e : ReadRefused) (whole : Result Report ReadRefused) → Refuses a start e → IsErr whole × IsErrAnd whole (λ d. d ≡ e) → ReadsReport a start whole
report_refused a start e (Ok r) h k = let n : false ≡ true = k.0 in cc
report_refused a start e (Err d) h k = subst (λ (u : ReadRefused). Refuses a start u) (sym k.1) h

-- the first line
pub first_line : (text : List ℕ) (start first : Place) → start ≡ record { number = 0; line = None; text = text } → Follows 0 start first → read_text text ≡ reading (move AtStart) first
first_line text start first e f = ap (λ (p : Place). read_from (p.number + 1) AtStart (pieces p.text)) (sym e) ∙ f.same AtStart (record { at_prime = refl; unfinished = refl })

pub is_reading : (text : List ℕ) (first : Place) (r : Result Report ReadRefused) → read_text text ≡ reading (move AtStart) first → ReadsReport (move AtStart) first r → IsReading text r
is_reading text first (Ok r) e h = reading_law.sound text r (e ∙ h)
is_reading text first (Err (ReportRefused n)) e h = reading_law.refused text n (e ∙ h)
is_reading text first (Err OutOfMemory) e h = tt
