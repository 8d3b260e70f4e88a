use Rattle.std.proofs.{Common.{List, ℕ, Bor, arith}, lemmas.List.length-map}
use Rattle.complex_file.{specs.Names.texts, proofs.LineLemmas.few_many}
use Rattle.complex_file.proofs.line.line_of_few.Goals as goal

pub returns-in-len4-up : goal.returns-in-len4-up
returns-in-len4-up c =
    few_many c.args.word.now (texts c.args.values.now) (omega (arith, length-map c.args.values.now (λ (w : Bor (List ℕ)). w.now)))
