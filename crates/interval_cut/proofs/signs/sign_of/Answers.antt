use Rattle.std.proofs.Common.{sym, arith, pos}
use Rattle.signed_sum.proofs.Names.{signed-parity}
use Rattle.interval_cut.proofs.signs.sign_of.Goals as goal

pub returns-then-exponent-eq0 : goal.returns-then-exponent-eq0
returns-then-exponent-eq0 c = sym (signed-parity c.args.exponent 0 (pos 1) (omega arith))

pub returns-else-exponent-eq0 : goal.returns-else-exponent-eq0
returns-else-exponent-eq0 c = sym (signed-parity c.args.exponent 1 (pos 1) (omega arith))
