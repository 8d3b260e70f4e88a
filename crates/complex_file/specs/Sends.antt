-- The sends of a map, each vertex once.
use Rattle.std.specs.Prelude.{ℕ, List, map}
use Rattle.complex_file.specs.declared.block.Sent.{Sent}

abbrev pub sends_in : List (ℕ × ℕ) → List Sent
sends_in = map (λ (e : ℕ × ℕ). record { from = e.0; to = e.1 })
