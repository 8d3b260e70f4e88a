use Rattle.std.proofs.Common.{◌≡◌, ◌++◌, flat_map, take}
use Rattle.linear_law.specs.Names.{Each}
use Rattle.report_law.specs.Names.{degrees}
use Rattle.count_check.specs.LineGroups.{IsSmallGroup, group_lines, pair_lines}
use Rattle.count_check.proofs.lines.add_groups.Given as goal

abbrev pub invariant-loop-b : goal.invariant-loop-b
invariant-loop-b l = record {
  counted : Each IsSmallGroup l.groups.items;
  lines : flat_map group_lines l.groups.items ≡ flat_map group_lines l.fn.groups.items ++ flat_map (pair_lines l.p l.ranks l.a) (take l.b (degrees l.ranks));
}
