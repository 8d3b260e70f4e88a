-- The sends of a map, by the vertex that is sent.
use Rattle.std.specs.{Prelude.{◌≢◌, ℕ, List, [], ◌∷◌, fold}, BTreeMap.insert_entry, Ordering.nat_cmp}
use Rattle.linear_law.specs.Names.{Each}
use Rattle.complex_file.specs.declared.block.Sent.{Sent}

-- no vertex is sent twice
abbrev pub IsOnce : List Sent → Type 0
IsOnce [] = Unit {0}
IsOnce (s ∷ ss) = Each (λ t. t.from ≢ s.from) ss × IsOnce ss

abbrev pub pair_of : Sent → ℕ × ℕ
pair_of s = (s.from, s.to)

abbrev pub sent_of : ℕ × ℕ → Sent
sent_of e = record { from = e.0; to = e.1 }

-- the pairs of a vertex that is sent and its image, as an ordered map has them
abbrev pub entries_of : List Sent → List (ℕ × ℕ)
entries_of sends = fold (λ es s. insert_entry nat_cmp es s.from s.to) [] sends
