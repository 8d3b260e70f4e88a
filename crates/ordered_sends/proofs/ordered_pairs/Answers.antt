use Rattle.std.{proofs.Common.{ℕ, List, []}, specs.BTreeMap.insert_entry, specs.Ordering.nat_cmp}
use Rattle.complex_file.specs.declared.block.Sent.{Sent}
use Rattle.ordered_sends.proofs.SendLemmas.{folded-more}
use Rattle.ordered_sends.proofs.ordered_pairs.Goals as goal

pub loop-sent-preserved : goal.loop-sent-preserved
loop-sent-preserved c =
    folded-more (λ (es : List (ℕ × ℕ)) (s : Sent). insert_entry nat_cmp es s.from s.to) [] c.args.sends.now c.loop-sent.sent-index _ _ _ c.loop-sent-test.true c.loop-sent.invariant c.in_ok-insert.ensures.entries
