use Rattle.std.proofs.Common.{◌≡◌, flat_map, take}
use Rattle.linear_law.specs.Names.{Each}
use Rattle.report_law.specs.Names.{degrees}
use Rattle.count_check.specs.LineGroups.{IsSmallGroup, group_lines, lines_from}
use Rattle.count_check.proofs.lines.line_groups.Given as goal

abbrev pub invariant-loop-a : goal.invariant-loop-a
invariant-loop-a l = record {
  counted : Each IsSmallGroup l.groups.items;
  lines : flat_map group_lines l.groups.items ≡ flat_map (lines_from l.p l.ranks) (take l.a (degrees l.ranks));
}
