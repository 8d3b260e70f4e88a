use Rattle.linear_law.proofs.Names.{each_zip}
use Rattle.certificate_law.specs.Names.{degree_stated, numbered}
use Rattle.class_check.proofs.WalkLemmas.{degrees_asked}
use Rattle.class_check.proofs.class_fault.Goals as goal

pub part_fault-requires-clause-ready : goal.part_fault-requires-clause-ready
part_fault-requires-clause-ready g c =
    let part = c.args.part.now in
    each_zip (λ s a b. (a, b)) (numbered (degree_stated part) 0 part.degrees) (degrees_asked g.row.P 2 part c.requires.coboundaries) (degrees_asked g.row.P 3 part c.requires.cocycles)
