use Rattle.std.proofs.Common.{◌≡◌, Bor, ℕ, List, take, map, filter}
use Rattle.complex_file.specs.Names.{is_not_empty}
use Rattle.complex_file.proofs.text.words_of.Given as goal

abbrev pub invariant-loop-piece : goal.invariant-loop-piece
invariant-loop-piece l =
    map (λ (w : Bor (List ℕ)). w.now) l.found.items ≡ filter is_not_empty (map (λ (w : Bor (List ℕ)). w.now) (take l.piece-index l.piece-items))
