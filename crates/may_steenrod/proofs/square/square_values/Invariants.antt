use Rattle.std.proofs.Common.{◌≡◌, ◌+◌, ℕ, ◌<◌, [], ◌∷◌, length, get_or, pos}
use Rattle.simplicial_law.specs.Names.{CongruentInt}
use Rattle.interval_cut_law.specs.Names.{operation_value}
use Rattle.table_reduction_law.specs.Names.{in_turn}
use Rattle.complex_index.specs.Names.{level}
use Rattle.may_steenrod.proofs.square.square_values.Given as goal

abbrev pub invariant-loop-place : goal.invariant-loop-place
invariant-loop-place g l =
    (length l.values.items ≡ l.place)
    × ((x : ℕ) → x < l.place → CongruentInt g.row.P (pos (get_or l.values.items x 0))
    (operation_value 2 (in_turn 1 2 (l.i + 2)) ((λ f. pos (g.V.Values.value_of l.alpha f)) ∷ (λ f. pos (g.V.Values.value_of l.alpha f)) ∷ []) (get_or (level l.index l.degree) x [])))
