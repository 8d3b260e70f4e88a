use Rattle.std.proofs.Common.{◌≡◌, ◌<◌, ℕ, get_or, subst}
use Rattle.cartan_check.proofs.ByMatrixLemmas.{yes-answer}
use Rattle.cartan_check.proofs.by_matrices.verdict_of_values.Goals as goal

pub returns-in-None-clause-answer : goal.returns-in-None-clause-answer
returns-in-None-clause-answer g c = λ facets levels n zs z count h.
    yes-answer g.row.P c.requires facets levels (λ k. zs) n zs z c.args.values.now h (subst (λ (k : ℕ). (i : ℕ) → i < k → get_or c.args.values.now i 0 ≡ 0) count c.in-None.ensures)
