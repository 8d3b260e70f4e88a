use Rattle.std.proofs.Common.{ap, arith, subst}
use Rattle.table_reduction_law.specs.Names.{tuple_arity, IsTuple}
use Rattle.signed_sum.specs.Names.{weight_of}
use Rattle.table_reduction.proofs.ReductionLemmas.{needed-entries, reduces, rows-distinct}
use Rattle.table_reduction.proofs.reduction.reduce_entries.Goals as goal

pub add_from-requires-clause-rows : goal.add_from-requires-clause-rows
add_from-requires-clause-rows c =
    rows-distinct (tuple_arity c.args.entries.now) c.in-Some.rows.now (subst (IsTuple (tuple_arity c.args.entries.now)) c.in-Some.ensures.cases.0 c.requires.tuple).1

pub add_from-requires-clause-room : goal.add_from-requires-clause-room
add_from-requires-clause-room c =
    let walk = c.new-walk.result in
    let bound = needed-entries c.args.entries.now c.in-Some.rows.now c.in-Some.row.now c.as_slice.result.now walk.used.items walk.values.items
    c.in-Some.ensures.cases.0 c.as_slice.ensures c.new-walk.ensures.used c.new-walk.ensures.values c.requires.wide c.requires.narrow c.requires.short c.requires.tuple in
    omega (arith, bound, ap weight_of c.new-walk.ensures.sum, c.requires.few)

pub returns-clause-sum : goal.returns-clause-sum
returns-clause-sum c =
    let walk = c.new-walk.result in
    reduces c.args.entries.now c.in-Some.rows.now c.in-Some.row.now c.as_slice.result.now walk.used.items walk.values.items walk.sum c.add_from.new.self.sum c.into_sum-2.result (tuple_arity c.args.entries.now)
    c.in-Some.ensures.cases.0 c.as_slice.ensures c.new-walk.ensures.used c.new-walk.ensures.values c.new-walk.ensures.sum c.requires.wide c.requires.tuple c.in_ok-add_from.ensures.sum c.into_sum-2.ensures

pub returns-clause-weight : goal.returns-clause-weight
returns-clause-weight c =
    let walk = c.new-walk.result in
    let bound = needed-entries c.args.entries.now c.in-Some.rows.now c.in-Some.row.now c.as_slice.result.now walk.used.items walk.values.items
    c.in-Some.ensures.cases.0 c.as_slice.ensures c.new-walk.ensures.used c.new-walk.ensures.values c.requires.wide c.requires.narrow c.requires.short c.requires.tuple in
    omega (arith, bound, ap weight_of c.new-walk.ensures.sum, ap weight_of c.into_sum-2.ensures, c.in_ok-add_from.ensures.sum.within)
