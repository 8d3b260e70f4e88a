use Rattle.report_law.proofs.Forms.{forms_law}
use Rattle.report_law.proofs.forms_law.Goals as goal

pub returns : goal.returns
returns c = forms_law
