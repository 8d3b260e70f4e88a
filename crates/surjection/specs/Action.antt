-- Caesuras, place by place.
use Rattle.std.specs.Prelude.{ℕ, List, drop}
use Rattle.signed_sum.specs.Names.{occurs, entry_at}

-- 1 where the value at a place, from 1, comes again, else 0
abbrev pub comes_again : List ℕ → ℕ → ℕ
comes_again u place = occurs (entry_at u place) (drop place u)
