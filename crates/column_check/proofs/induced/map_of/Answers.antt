use Rattle.std.proofs.{Common.{◌∙◌, ℕ, List, ap, take_all}, lemmas.Result.IfOk-weaker}
use Rattle.complex_index.specs.Names.{image_of}
use Rattle.column_check.proofs.MapLemmas.{image-turned, turned, turned-more}
use Rattle.column_check.proofs.induced.map_of.Goals as goal

pub loop-sent-preserved : goal.loop-sent-preserved
loop-sent-preserved c = turned-more c.args.sends.now c.loop-sent.sent-index _ c.loop-sent.pairs.items c.insert.new.self.items c.loop-sent-test.true c.in_ok-insert.ensures.items c.loop-sent.invariant

pub returns : goal.returns
returns c =
    let same = c.deref.ensures.value ∙ c.loop-sent.invariant ∙ ap turned (take_all c.loop-sent.sent-index c.args.sends.now c.loop-sent-test.false) in
    IfOk-weaker c.of.result _ _ (λ m h v. h v ∙ ap (λ (es : List (ℕ × ℕ)). image_of es v) same ∙ image-turned c.args.sends.now v) c.of.ensures
