use Rattle.std.proofs.Common.{◌↔◌, ◌==◌, IsTrue, sym, subst}
use Rattle.certificate_law.specs.Names.{Asks, complex_ends}
use Rattle.class_check.{specs.declared.question.Question.Question, specs.Questions.condition_of, proofs.WalkLemmas.ends_told}
use Rattle.class_check.proofs.walk.is_ended.Goals as goal

pub returns-in-Below : goal.returns-in-Below
returns-in-Below c = λ p.
    subst (λ (q : Question). IsTrue (c.degrees.result == c.len.result) ↔ Asks p (condition_of q) (complex_ends c.args.part.now)) (sym c.in-Below.is)
    (ends_told c.args.part.now c.args.index.now c.requires.index c.requires.ascending c.degrees.result c.len.result c.degrees.ensures.same c.len.ensures)
