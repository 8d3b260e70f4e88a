use Rattle.report_reader.proofs.Sections.{class_read}
use Rattle.report_reader.proofs.degree.class.Goals as goal

pub returns-in-Some-Class : goal.returns-in-Some-Class
returns-in-Some-Class c = class_read c.args.prime c.args.rank c.args.count c.args.reader.now c.take.new.self c.next_line.new.self c.in-Some-Class.chain c.if-count-rank.false (let a = c.take.ensures.line in let b = c.in-Some-Class.is in let d = c.in-Some-Class.field-0-is in cc) c.take.ensures.left c.in_ok-next_line-in-Some-Class.ensures
