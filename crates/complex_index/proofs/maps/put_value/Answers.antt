use Rattle.std.proofs.Common.{ap, ◌∙◌, List, ℕ}
use Rattle.sparse_rows.{specs.Rows.value_in, proofs.MergeLemmas.{put_sum, stay_below}}
use Rattle.complex_index.proofs.maps.put_value.Goals as goal

pub returns-in_ok-push_last-clause-sum : goal.returns-in_ok-push_last-clause-sum
returns-in_ok-push_last-clause-sum g c = λ k. ap (λ (o : List (ℕ × ℕ)). value_in o k) c.in_ok-push_last.ensures.pushed ∙ put_sum c.args.row.now c.args.place c.args.value k

pub returns-else-not-is_zero-clause-below : goal.returns-else-not-is_zero-clause-below
returns-else-not-is_zero-clause-below g c = stay_below c.args.row.now c.args.place c.requires
