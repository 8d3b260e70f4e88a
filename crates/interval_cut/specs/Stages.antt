-- What a walk over cuts shows at each of its stages, where `inner` has all right ends but the last.
use Rattle.std.specs.Prelude.{ℕ, List, [], ◌∷◌, ◌++◌, map, Option, Some, None}
use Rattle.interval_cut_law.specs.Names.{cuts}
use Rattle.interval_cut.specs.{Walking.{CutWalk, lists_after}, declared.stage.Stage.Stage, declared.stage.Stage.TheVariants.{Before, At, Done}}

-- the cut that the walk is at
abbrev pub here_of : Stage → ℕ → List ℕ → Option (List ℕ)
here_of Before top inner = None
here_of At top inner = Some (inner ++ top ∷ [])
here_of Done top inner = None

-- the cuts that are to come
abbrev pub left_of : Stage → List ℕ → ℕ → List ℕ → List (List ℕ)
left_of Before values top inner = cuts values top
left_of At values top inner = map (λ p. p ++ top ∷ []) (lists_after top inner)
left_of Done values top inner = []

abbrev pub shown : List ℕ → ℕ → Stage → List ℕ → CutWalk
shown values top s inner = record { values = values; top = top; here = here_of s top inner; left = left_of s values top inner }

-- P, where the walk is at a cut
abbrev pub OnAt : Stage → Type 0 → Type 0
OnAt Before P = Unit {0}
OnAt At P = P
OnAt Done P = Unit {0}
