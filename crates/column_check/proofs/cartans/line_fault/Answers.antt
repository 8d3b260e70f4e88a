use Rattle.std.proofs.Common.{◌∷◌, []}
use Rattle.certificate_law.specs.Names.{Asks, answer_stated, cartan_stands}
use Rattle.certificate_walk.proofs.Names.{walk_first}
use Rattle.column_check.proofs.WalkLemmas.{answer-free}
use Rattle.column_check.proofs.cartans.line_fault.Goals as goal

pub returns : goal.returns
returns g c = λ k.
    let x = c.args.part.now in
    walk_first (Asks g.row.P 8) c.args.before (cartan_stands c.args.listing.now.part.now k x) (answer_stated x.answer ∷ []) c.in_ok-is_answer.field-0 c.ask_column.result c.in_ok-is_answer.ensures (answer-free g.row.P x.answer, tt) c.ask_column.ensures
