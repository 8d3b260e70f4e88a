-- The text of a line without its last byte.
use Rattle.std.proofs.{Common.{◌≡◌, ◌∙◌, ℕ, ◌-◌, ◌≤◌, List, [], ◌∷◌, length, take, ap, arith, length-append}, Math.Seq.take-append_seam}
use Rattle.report.specs.declared.form.Form.TheVariants.{Certificate}
use Rattle.report_text_law.{specs.Names.{spelled, ended, shown}, specs.declared.line.Line.Line, proofs.Texts.shown_spelled}

front : (s : List ℕ) → take (length (ended s) - 1) (ended s) ≡ s
front s =
    let e : length (ended s) - 1 ≡ length s = omega (arith, length-append s (10 ∷ [])) in
    ap (λ (n : ℕ). take n (ended s)) e ∙ take-append_seam s (10 ∷ [])

pub spelled_front : (l : Line) (text : List ℕ) → text ≡ shown Certificate l → (1 ≤ length text) × (take (length text - 1) text ≡ spelled l)
spelled_front l text e =
    let whole = e ∙ shown_spelled l in
    let len = ap length whole in
    let one : 1 ≤ length text = omega (arith, len, length-append (spelled l) (10 ∷ [])) in
    (one, ap (λ (t : List ℕ). take (length t - 1) t) whole ∙ front (spelled l))
