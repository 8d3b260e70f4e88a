use Rattle.std.proofs.Common.{arith}
use Rattle.interval_cut.proofs.FaceLemmas.{numbers_step}
use Rattle.interval_cut.proofs.faces.write_numbers.Goals as goal

pub loop-k-preserved : goal.loop-k-preserved
loop-k-preserved c =
    numbers_step c.loop-k.places c.args.places.now c.args.at c.loop-k.k c.args.first (omega (arith, c.loop-k.auto.places, c.requires.room, c.loop-k-test.true)) c.loop-k.invariant
