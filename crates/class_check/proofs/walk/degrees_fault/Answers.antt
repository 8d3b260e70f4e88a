use Rattle.std.proofs.{Common.{arith, ap}, lemmas.List.Sums.sum_by-drop_more}
use Rattle.certificate_law.specs.Names.{Asks, degree_stated, numbered}
use Rattle.certificate_walk.{specs.Names.degree_lines, proofs.Names.{numbered_end, numbered_more, numbered_stop, walk_passed}}
use Rattle.class_check.{specs.Questions.condition_of, proofs.WalkLemmas.{degree_formed, below_is, formed_at, ready_at}}
use Rattle.class_check.proofs.walk.degrees_fault.Goals as goal

pub overflow_cast-n : goal.overflow_cast-n
overflow_cast-n g c =
    let d = c.index-degrees-n.result in
    let few = (degree_formed g.row.P c.loop-n.n d (formed_at g.row.P c.loop-n.n c.args.degrees.now d c.requires.well_formed c.loop-n-test.true c.index-degrees-n.is)).few in
    omega (arith, few)

pub degree_fault-requires-clause-well_formed : goal.degree_fault-requires-clause-well_formed
degree_fault-requires-clause-well_formed g c = formed_at g.row.P c.loop-n.n c.args.degrees.now c.index-degrees-n.result c.requires.well_formed c.loop-n-test.true c.index-degrees-n.is

pub returns-in_err-at-clause-walk : goal.returns-in_err-at-clause-walk
returns-in_err-at-clause-walk g c = λ part index same ready.
    let n = c.loop-n.n in
    let ds = c.args.degrees.now in
    let d = c.index-degrees-n.result in
    walk_passed (Asks g.row.P (condition_of c.args.question)) c.args.before (numbered (degree_stated part) 0 ds) c.in_err-at.field-0.0 c.from_residual.result c.from_residual.ensures.1
    (numbered_stop (Asks g.row.P (condition_of c.args.question)) (degree_stated part) ds c.args.before c.loop-n.at n d c.in_err-at.field-0.0 c.loop-n-test.true c.index-degrees-n.is
    (c.in_err-at.ensures.walk part index (below_is part ds n d same c.loop-n-test.true c.index-degrees-n.is) (ready_at g.row.P c.args.question part ds n d c.loop-n-test.true c.index-degrees-n.is ready))
    (c.loop-n.invariant.walked part index same ready))

pub loop-n-preserved : goal.loop-n-preserved
loop-n-preserved g c =
    let n = c.loop-n.n in
    let ds = c.args.degrees.now in
    let d = c.index-degrees-n.result in
    record {
      counted = (let s = sum_by-drop_more degree_lines ds n d c.loop-n-test.true in let e = ap degree_lines c.index-degrees-n.is in let l = c.in_ok-at.ensures.lines in let k = c.loop-n.invariant.counted in omega (arith, s, e, l, k));
      walked = λ part index same ready. numbered_more (Asks g.row.P (condition_of c.args.question)) (degree_stated part) ds c.args.before c.loop-n.at c.in_ok-at.at n d c.loop-n-test.true c.index-degrees-n.is
          (c.in_ok-at.ensures.walk part index (below_is part ds n d same c.loop-n-test.true c.index-degrees-n.is) (ready_at g.row.P c.args.question part ds n d c.loop-n-test.true c.index-degrees-n.is ready))
          (c.loop-n.invariant.walked part index same ready);
    }

pub returns-clause-walk : goal.returns-clause-walk
returns-clause-walk g c = λ part index same ready.
    numbered_end (Asks g.row.P (condition_of c.args.question)) (degree_stated part) c.args.degrees.now c.args.before c.loop-n.at c.loop-n.n c.loop-n-test.false (c.loop-n.invariant.walked part index same ready)
