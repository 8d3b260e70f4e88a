-- Values at places, as they are kept.
use Rattle.std.specs.Prelude.{ℕ, suc, List, [], ◌∷◌, ◌++◌, length, drop}

-- values at places, pair by pair
abbrev pub zipped : List ℕ → List ℕ → List (ℕ × ℕ)
zipped [] vs = []
zipped (x ∷ xs) [] = []
zipped (x ∷ xs) (v ∷ vs) = (x, v) ∷ zipped xs vs

-- values at places that follow on one another
abbrev pub run_from : ℕ → List ℕ → List (ℕ × ℕ)
run_from first [] = []
run_from first (v ∷ vs) = (first, v) ∷ run_from (suc first) vs

-- the first values stand at the places, and the others from `first` on
abbrev pub entries_of : List ℕ → ℕ → List ℕ → List (ℕ × ℕ)
entries_of places first values = zipped places values ++ run_from first (drop (length places) values)
