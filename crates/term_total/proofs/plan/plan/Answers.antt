use Rattle.std.proofs.Common.{subst, sym}
use Rattle.linear_law.proofs.Names.{each_get_or}
use Rattle.term_total.specs.Names.{IsPart}
use Rattle.term_total.proofs.plan.plan.Goals as goal

pub add_rows-requires-clause-part : goal.add_rows-requires-clause-part
add_rows-requires-clause-part c =
    subst IsPart (sym c.part-item.is) (each_get_or IsPart c.args.parts.now c.loop-part.part-index c.part-item.result c.loop-part-test.true c.requires.parts)
