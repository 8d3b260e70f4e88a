use Rattle.std.{proofs.Common.{IfSome, subst, sym}, specs.declared.option.Option.Option}
use Rattle.clap.specs.Words.{found_of}
use Rattle.comch_app.{specs.Names.{given_in, Request, IsAnswerable}, proofs.ElementAnswers.answerable}
use Rattle.comch_app.proofs.words.request_of.Goals as goal

pub returns-in-Ok-clause-known : goal.returns-in-Ok-clause-known
returns-in-Ok-clause-known c = subst (λ (o : Option Request). IfSome o IsAnswerable) (sym c.request_in.ensures) (answerable (given_in (found_of c.in-Ok.matches)))
