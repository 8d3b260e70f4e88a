use Rattle.std.proofs.Common.{ℕ, List, ap, ◌∙◌}
use Rattle.sparse_rows.{specs.Rows.value_in, proofs.MergeLemmas.put_sum}
use Rattle.may_steenrod.proofs.product.put_value.Goals as goal

pub returns-in_ok-push-clause-sum : goal.returns-in_ok-push-clause-sum
returns-in_ok-push-clause-sum g c = λ k. ap (λ (row : List (ℕ × ℕ)). value_in row k) c.in_ok-push.ensures.items ∙ put_sum c.args.pairs.now.items c.args.place c.args.value k
