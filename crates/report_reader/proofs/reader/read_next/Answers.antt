use Rattle.report_reader.proofs.Lines.{follows_none, follows_some}
use Rattle.report_reader.proofs.reader.read_next.Goals as goal

pub returns-in_ok-well_formed-in-Some : goal.returns-in_ok-well_formed-in-Some
returns-in_ok-well_formed-in-Some c = λ n. follows_some c.args.prime n c.args.text.now c.in-Some.bytes.now c.in-Some.behind.now _ c.in-Some.ensures c.in_ok-well_formed-in-Some.ensures

pub returns-in-None : goal.returns-in-None
returns-in-None c = λ n. follows_none c.args.prime n c.args.text.now c.in-None.ensures
