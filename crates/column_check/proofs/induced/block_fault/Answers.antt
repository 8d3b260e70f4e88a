use Rattle.std.proofs.Common.{◌+◌, arith, lit<, Ok, Err}
use Rattle.certificate_law.specs.Names.{Asks, rank_in, induced_column, induced_opens, induced_stated, numbered, with_stands}
use Rattle.certificate_walk.proofs.Names.{walk_passed}
use Rattle.column_check.{specs.Ready.IsColumnReady, proofs.WalkLemmas.{columned, headed, item, loop-end, loop-more, loop-stop}}
use Rattle.column_check.proofs.induced.block_fault.Goals as goal

pub column_fault-requires : goal.column_fault-requires
column_fault-requires g c =
    let x = c.args.part.now in
    let here = item c.as_slice-column-items.result.now x.columns c.loop-k.k c.column-item.result c.as_slice-column-items.ensures c.loop-k-test.true c.column-item.is (IsColumnReady g.row.P (rank_in c.args.from.now.part.now x.q)) c.requires.ready.columns in
    let at = here.0 in
    let counted = c.loop-k.invariant.counted in
    let count = c.requires.ready.count in
    let few = c.requires.ready.few in
    let room = c.requires.room in
    (lit< tt, (lit< tt, (c.requires.prime, (c.requires.from, (c.requires.to, (c.requires.ready.live, (omega (arith, at, count), (omega (arith, at, few), (here.1, omega (arith, at, counted, room))))))))))

pub returns-in_err-at : goal.returns-in_err-at
returns-in_err-at g c = λ m i is.
    let from = c.args.from.now.part.now in
    let to = c.args.to.now.part.now in
    let x = c.args.part.now in
    let line = columned (induced_column from to m x) (λ y. with_stands y.primitive) in
    walk_passed (Asks g.row.P 7) c.args.before (induced_stated from to m i x) c.in_err-at.field-0.0 c.from_residual.result c.from_residual.ensures.1
    (headed (Asks g.row.P 7) c.args.before (induced_opens from to i x) (numbered line 0 x.columns) (Err c.in_err-at.field-0.0) tt
    (loop-stop (Asks g.row.P 7) line c.as_slice-column-items.result.now x.columns c.as_slice-column-items.ensures (c.args.before + 1) c.loop-k.at c.loop-k.k (c.loop-k.invariant.walked m is) c.column-item.result c.loop-k-test.true c.column-item.is c.in_err-at.field-0.0 (c.in_err-at.ensures.walk m is)))

pub loop-k-preserved : goal.loop-k-preserved
loop-k-preserved g c = record {
  counted = let a = c.loop-k.invariant.counted in let b = c.in_ok-at.ensures.lines in omega (arith, a, b);
  walked = λ m is.
      let from = c.args.from.now.part.now in
      let to = c.args.to.now.part.now in
      let x = c.args.part.now in
      let line = columned (induced_column from to m x) (λ y. with_stands y.primitive) in
      loop-more (Asks g.row.P 7) line c.as_slice-column-items.result.now x.columns c.as_slice-column-items.ensures (c.args.before + 1) c.loop-k.at c.loop-k.k (c.loop-k.invariant.walked m is) c.column-item.result c.loop-k-test.true c.column-item.is c.in_ok-at.at (c.in_ok-at.ensures.walk m is);
}

pub returns : goal.returns
returns g c = λ m i is.
    let from = c.args.from.now.part.now in
    let to = c.args.to.now.part.now in
    let x = c.args.part.now in
    let line = columned (induced_column from to m x) (λ y. with_stands y.primitive) in
    headed (Asks g.row.P 7) c.args.before (induced_opens from to i x) (numbered line 0 x.columns) (Ok c.loop-k.at) tt (loop-end (Asks g.row.P 7) line c.as_slice-column-items.result.now x.columns c.as_slice-column-items.ensures (c.args.before + 1) c.loop-k.at c.loop-k.k (c.loop-k.invariant.walked m is) c.loop-k-test.false)
