-- Lists of one length in one list.
use Rattle.std.specs.Prelude.{ℕ, zero, suc, List, [], ◌∷◌, take, drop}

-- the first `count` pieces of a list, each of `size` numbers
abbrev pub pieces : ℕ → ℕ → List ℕ → List (List ℕ)
pieces size zero xs = []
pieces size (suc count) xs = take size xs ∷ pieces size count (drop size xs)
