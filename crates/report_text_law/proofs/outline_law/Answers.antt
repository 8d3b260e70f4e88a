use Rattle.report_text_law.proofs.Outlines.{outline_law}
use Rattle.report_text_law.proofs.outline_law.Goals as goal

pub returns : goal.returns
returns c = outline_law
