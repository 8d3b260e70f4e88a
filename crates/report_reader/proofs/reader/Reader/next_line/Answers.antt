use Rattle.report_reader.proofs.Lines.{follows_line, room_on}
use Rattle.report_reader.proofs.reader.Reader.next_line.Goals as goal

pub returns : goal.returns
returns c = follows_line c.args.prime c.self.inside.number c.self.inside.line c.self.inside.text.now c.args.self.now _ c.self.view_is (c.in_ok-line.ensures c.self.inside.number)

pub invariant_of-self : goal.invariant_of-self
invariant_of-self c = room_on c.args.prime c.self.inside.number c.self.inside.line c.self.inside.text.now c.in_ok-line.text.now c.args.self.now c.self.view_is c.requires c.in_ok-line.line (c.in_ok-line.ensures c.self.inside.number)
