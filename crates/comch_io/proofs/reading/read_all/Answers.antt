use Rattle.std.proofs.Common.{ℕ, ap, length, arith, refl, rules}
use Rattle.comch_io.proofs.KnownBytesLemmas.{piece_gave}
use Rattle.comch_io.proofs.reading.read_all.Goals as goal

pub returns-in-Err-clause-gave : goal.returns-in-Err-clause-gave
returns-in-Err-clause-gave g c =
    piece_gave c.args.limit _ _ _ _ _ _ _ c.loop-all.all c.read_piece.new.all c.in-Err.end c.loop-all.invariant.taken
    (omega (arith, ap (length {A = ℕ}) c.as_slice.ensures)) c.in-Err.ensures.piece

pub loop-all-init : goal.loop-all-init
loop-all-init g c = record {
  taken = (search rules, omega (arith, ap (length {A = ℕ}) c.new-all.ensures));
  within = search rules;
  kept = refl;
}
