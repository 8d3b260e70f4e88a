-- Lists of vertices in the order of simplices.
use Rattle.std.specs.{Prelude.{ℕ, List, [], fold}, BTreeSet.insert_key}
use Rattle.simplicial_law.specs.Names.{simplex_cmp}

-- the lists in order, each once
abbrev pub in_order : List (List ℕ) → List (List ℕ)
in_order ks = fold (insert_key simplex_cmp) [] ks
