use Rattle.std.proofs.Common.{◌<◌, arith, length}
use Rattle.count_check.{specs.LineGroups.group_lines, proofs.PlaceLemmas.{found_here, found_later}}
use Rattle.count_check.proofs.lines.line_at.Goals as goal

pub returns-then-left-size : goal.returns-then-left-size
returns-then-left-size c =
    let inside : c.loop-group.left < length (group_lines c.group-item.result) = (let t = c.if-left-size.true in let e = c.size-size.ensures in omega (arith, t, e)) in
    found_here group_lines c.args.groups.now c.loop-group.group-index c.group-item.result c.args.place c.loop-group.left c.line.result c.loop-group-test.true c.group-item.is c.loop-group.invariant inside c.line.ensures

pub loop-group-preserved : goal.loop-group-preserved
loop-group-preserved c = found_later group_lines c.args.groups.now c.loop-group.group-index c.group-item.result c.args.place c.loop-group.left c.size-size.result c.loop-group-test.true c.group-item.is c.loop-group.invariant c.size-size.ensures c.if-left-size.false
