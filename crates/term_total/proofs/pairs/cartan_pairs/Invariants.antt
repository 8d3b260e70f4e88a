use Rattle.std.{proofs.Common.{◌≡◌, ℕ, ◌-◌, map, ◌&&◌}, specs.List.filter}
use Rattle.signed_sum.specs.Names.{numbers_from}
use Rattle.report_law.specs.Names.{cartan_op, is_defined}
use Rattle.term_total.proofs.pairs.cartan_pairs.Given as goal

abbrev pub invariant-loop-i : goal.invariant-loop-i
invariant-loop-i l = l.found.items ≡ filter (λ (x : ℕ × ℕ). is_defined l.p l.a (cartan_op l.p x.0) && is_defined l.p l.b (cartan_op l.p x.1)) (map (λ i. (i, l.n - i)) (numbers_from 0 l.i))
