use Rattle.std.proofs.Common.{arith, rules}
use Rattle.comch_io.proofs.reading.read_piece.Goals as goal

pub returns-in-Err-clause-piece : goal.returns-in-Err-clause-piece
returns-in-Err-clause-piece g c = (search rules, omega (arith, c.in-Err.ensures.given))
