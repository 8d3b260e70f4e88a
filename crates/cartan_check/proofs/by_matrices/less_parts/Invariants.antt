use Rattle.std.proofs.Common.{◌≡◌, ℕ, List, take}
use Rattle.simplicial_law.specs.Names.{Cochain as SimplexCochain}
use Rattle.report_law.specs.Names.{cartan_pairs, line_degree}
use Rattle.class_matrices.specs.Names.{HasThese, IsSetting}
use Rattle.cartan_check.specs.ByMatrices.{IsLessParts}
use Rattle.cartan_check.proofs.by_matrices.less_parts.Given as goal

abbrev pub invariant-loop-pair : goal.invariant-loop-pair
invariant-loop-pair g l =
    (l.rest.degree ≡ line_degree g.row.P l.fn.line)
    × ((facets : List (List ℕ)) (levels : List (List (List ℕ))) (z w whole : SimplexCochain) → IsSetting {p = g.row.P} g.B.Basis.keeps facets levels (g.B.Basis.classes l.basis) l.matrices
    → HasThese {p = g.row.P} facets levels (g.B.Basis.classes l.basis) z l.x → HasThese {p = g.row.P} facets levels (g.B.Basis.classes l.basis) w l.y → HasThese {p = g.row.P} facets levels (g.B.Basis.classes l.basis) whole l.initial.rest
    → IsLessParts {p = g.row.P} facets levels (g.B.Basis.classes l.basis) l.fn.line z w whole (take l.pair-index (cartan_pairs g.row.P l.fn.line.a l.fn.line.b l.fn.line.n)) l.rest)
