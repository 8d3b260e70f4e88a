use Rattle.std.proofs.Common.{◌∙◌, ℕ, []}
use Rattle.report_text_law.specs.{Names.move, declared.state.State.TheVariants.{AtPrime, AtStart, Between}}
use Rattle.report_reader.proofs.{Steps.{failed, progress, refusal}, Whole.{first_line, is_reading, report_behind, report_refused}}
use Rattle.report_reader.proofs.read.read_report.Goals as goal

pub returns-in_err-heading : goal.returns-in_err-heading
returns-in_err-heading c =
    is_reading c.args.text.now c.next_line.new.self c.from_residual-in_err-heading.result (first_line c.args.text.now _ _ c.new-reader.ensures c.in_ok-next_line.ensures)
    (report_refused (move AtStart) c.next_line.new.self c.in_err-heading.field-0.0 c.from_residual-in_err-heading.result
    (refusal (move AtStart) (λ (u : Unit {0}). move AtPrime) c.next_line.new.self c.heading.new.reader c.heading.result c.in_err-heading.field-0.0 c.heading.ensures c.in_err-heading.was) c.from_residual-in_err-heading.ensures)

pub returns-in_err-prime : goal.returns-in_err-prime
returns-in_err-prime c =
    is_reading c.args.text.now c.next_line.new.self c.from_residual-in_err-prime.result (first_line c.args.text.now _ _ c.new-reader.ensures c.in_ok-next_line.ensures)
    (report_refused (move AtStart) c.next_line.new.self c.in_err-prime.field-0.0 c.from_residual-in_err-prime.result
    (failed (move AtStart) (move AtPrime) c.next_line.new.self c.heading.new.reader c.in_err-prime.field-0.0 (progress (move AtStart) (λ (u : Unit {0}). move AtPrime) c.next_line.new.self c.heading.new.reader c.heading.result c.in_ok-heading.field-0 c.heading.ensures c.in_ok-heading.was)
    (refusal (move AtPrime) (λ (p : ℕ). move (Between (record { prime = p; complexes = [] }))) c.heading.new.reader c.prime.new.reader c.prime.result c.in_err-prime.field-0.0 c.prime.ensures c.in_err-prime.was)) c.from_residual-in_err-prime.ensures)

pub returns : goal.returns
returns c =
    is_reading c.args.text.now c.next_line.new.self c.report.result (first_line c.args.text.now _ _ c.new-reader.ensures c.in_ok-next_line.ensures)
    (report_behind (move AtStart) (move (Between (record { prime = c.in_ok-prime.prime; complexes = [] }))) c.next_line.new.self c.prime.new.reader c.report.result
    (progress (move AtStart) (λ (u : Unit {0}). move AtPrime) c.next_line.new.self c.heading.new.reader c.heading.result c.in_ok-heading.field-0 c.heading.ensures c.in_ok-heading.was
    ∙ progress (move AtPrime) (λ (p : ℕ). move (Between (record { prime = p; complexes = [] }))) c.heading.new.reader c.prime.new.reader c.prime.result c.in_ok-prime.prime c.prime.ensures c.in_ok-prime.was) c.report.ensures)
