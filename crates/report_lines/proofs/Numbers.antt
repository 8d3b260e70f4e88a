-- Numbers of borrowed words, and numbers that fit.
use Rattle.std.{proofs.Common.{◌≡◌, ℕ, List, [], ◌∷◌, map, ap, refl}, specs.Borrow.Bor}
use Rattle.complex_file.specs.Names.{texts}
use Rattle.report_text_law.specs.Names.{number, numbers}

pub numbers_of_each : (ws : List (Bor (List ℕ))) → map (λ (w : Bor (List ℕ)). number w.now) ws ≡ numbers (texts ws)
numbers_of_each [] = refl
numbers_of_each (w ∷ ws) = ap (λ (ns : List ℕ). number w.now ∷ ns) (numbers_of_each ws)
