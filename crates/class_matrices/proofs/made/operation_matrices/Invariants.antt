use Rattle.std.proofs.Common.{◌≡◌, map, take}
use Rattle.linear_law.specs.Names.{Each}
use Rattle.class_matrices.specs.Names.{IsOperationOf}
use Rattle.class_matrices.proofs.made.operation_matrices.Given as goal

abbrev pub invariant-loop-block : goal.invariant-loop-block
invariant-loop-block g l =
    (map (λ m. m.block) l.matrices.items ≡ take l.block-index l.block-items)
    × Each (IsOperationOf {p = g.row.P} g.B.Basis.keeps l.index (g.B.Basis.classes l.basis)) l.matrices.items
