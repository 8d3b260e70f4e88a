use Rattle.complex_file.proofs.{FaultLines.text_fault, FaultTable.line_table}
use Rattle.complex_file.proofs.laws.first_fault.Goals as goal

pub returns : goal.returns
returns c = record { line = line_table; text = text_fault }
