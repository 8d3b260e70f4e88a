use Rattle.std.proofs.Common.{ap, length, arith}
use Rattle.complex_index.proofs.LevelLemmas.{part_is}
use Rattle.complex_index.proofs.indexed.Indexed.count.Goals as goal

pub overflow_cast-result : goal.overflow_cast-result
overflow_cast-result c =
    omega (arith, c.len-2.ensures, ap length (part_is (λ l. l.simplices) c.self.inside.levels.items c.args.n c.index.result.now (omega arith) c.index.ensures), c.self.invariant.levels.small c.args.n)
