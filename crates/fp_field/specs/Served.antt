-- The primes that are served.
use Rattle.std.specs.Prelude.{ℕ, Bool, ◌==◌, ◌||◌}

-- p is a prime that the tables have entries for
abbrev pub served : ℕ → Bool
served p = p == 2 || p == 3 || p == 5
