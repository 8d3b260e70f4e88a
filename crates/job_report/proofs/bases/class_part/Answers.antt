use Rattle.std.proofs.Common.{◌≤◌, arith, length, lit<}
use Rattle.complex_index.specs.Names.{level}
use Rattle.cohomology.specs.Names.{IsPlaced}
use Rattle.job_report.proofs.{BasisLemmas.classes-listed, ClassLemmas.chains-next, Zips.each-item}
use Rattle.job_report.proofs.bases.class_part.Goals as goal

pub chain_of-requires : goal.chain_of-requires
chain_of-requires g c =
    (lit< tt, (each-item (IsPlaced g.row.P c.args.index.now c.args.n) c.args.classes.now c.loop-class.class-index c.class-item.result c.loop-class-test.true c.class-item.is c.requires.placed).inside)

pub loop-class-preserved : goal.loop-class-preserved
loop-class-preserved g c =
    chains-next {p = g.row.P} (level c.args.index.now c.args.n) c.args.classes.now c.loop-class.class-index c.class-item.result _ _ _ c.loop-class-test.true c.class-item.is
    c.loop-class.invariant c.in_ok-chain_of.ensures c.in_ok-push.ensures.items

pub returns : goal.returns
returns g c =
    let all : length c.args.classes.now ≤ c.loop-class.class-index = omega arith in
    classes-listed g.row.P c.args.index.now c.args.n c.args.classes.now c.loop-class.class-index c.loop-class.chains.items _ c.requires all c.loop-class.invariant c.from.ensures
