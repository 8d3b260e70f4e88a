-- Lines of many words.
use Rattle.std.proofs.Common.{◌≡◌, ◌≤◌, List, [], ◌∷◌, ℕ, arith, length, refl}
use Rattle.complex_file.specs.Names.{line_of_few, no_line}

pub few_many : (w : List ℕ) (vs : List (List ℕ)) → 4 ≤ length vs → no_line ≡ line_of_few w vs
few_many w [] h = absurd (omega arith)
few_many w (v ∷ []) h = absurd (omega arith)
few_many w (v ∷ u ∷ []) h = absurd (omega arith)
few_many w (v ∷ u ∷ t ∷ []) h = absurd (omega arith)
few_many w (v ∷ u ∷ t ∷ r ∷ rs) h = refl
