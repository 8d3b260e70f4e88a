use Rattle.std.proofs.Common.{◌+◌, ◌-◌, ℕ, List, pos, ◌*ℤ◌}
use Rattle.simplicial_law.specs.Names.{CongruentInt}
use Rattle.interval_cut.specs.Names.{IsFaceTable, product_from}
use Rattle.interval_cut.proofs.values.product.Given as goal

abbrev pub invariant-loop-k : goal.invariant-loop-k
invariant-loop-k g l =
    (u p : List ℕ) → IsFaceTable u p l.most l.faces.places.items l.faces.starts.items → CongruentInt g.row.P
    (pos l.product *ℤ product_from (l.k + 1) (l.most - l.k) l.left (λ f. pos (g.V.Values.value_of l.alpha f)) (λ f. pos (g.V.Values.value_of l.gamma f)) u p l.simplex)
    (product_from 1 l.most l.mask (λ f. pos (g.V.Values.value_of l.alpha f)) (λ f. pos (g.V.Values.value_of l.gamma f)) u p l.simplex)
