use Rattle.std.{proofs.Common.{◌≡◌, Bor, map, take, length, List, ℕ, ◌==◌}, specs.List.filter}
use Rattle.simplex_set.proofs.levels.of_size.Given as goal

abbrev pub invariant-loop-simplex : goal.invariant-loop-simplex
invariant-loop-simplex l = map (λ (s : Bor (List ℕ)). s.now) l.found.items ≡ filter (λ (s : List ℕ). length s == l.size) (take l.simplex-index l.all)
