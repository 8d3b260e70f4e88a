use Rattle.std.proofs.Common.{◌≡◌, drop, flat_map, slice_get}
use Rattle.count_check.specs.LineGroups.{group_lines}
use Rattle.count_check.proofs.lines.line_at.Given as goal

abbrev pub invariant-loop-group : goal.invariant-loop-group
invariant-loop-group l = slice_get (flat_map group_lines l.groups) l.place ≡ slice_get (flat_map group_lines (drop l.group-index l.groups)) l.left
