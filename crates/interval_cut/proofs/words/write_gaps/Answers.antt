use Rattle.std.proofs.Common.{◌+◌, ◌-◌, ◌<◌, ℕ, List, [], ◌∷◌, ◌++◌, take, length, arith, ap, ◌∙◌}
use Rattle.signed_sum.specs.Names.{numbers_from}
use Rattle.interval_cut.proofs.{ExponentLemmas.interval, GapLemmas.{gaps_order, gaps_room, gaps_skip, gaps_write, part_of_gaps_moved}, WalkLemmas.length-cut, words.write_gaps.Goals.{then-value-k, else-value-k}}
use Rattle.interval_cut.proofs.words.write_gaps.Goals as goal

pub end_of-end-requires : goal.end_of-end-requires
end_of-end-requires c = (interval c.args.values.now c.args.inner.now c.args.top c.loop-i.i c.requires.cut c.loop-i-test.true).inside

pub overflow_add-all : goal.overflow_add-all
overflow_add-all c =
    let p : List ℕ = c.args.inner.now ++ (c.args.top ∷ []) in
    let inside : c.loop-i.i < length p = let t = c.loop-i-test.true in omega (arith, length-cut c.args.values.now 0 p c.requires.cut) in
    let end = (interval c.args.values.now c.args.inner.now c.args.top c.loop-i.i c.requires.cut c.loop-i-test.true).end in
    let order = gaps_order c.args.k c.args.values.now p c.args.at c.loop-i.i c.loop-i.start c.loop-i.caesura c.loop-i.next _ _ c.loop-i.invariant c.loop-i-test.true inside in
    omega (arith, end, order, c.count_caesuras-all.ensures.small, c.requires.low)

pub overflow_add-all-then-value-k : goal.overflow_add-all-then-value-k
overflow_add-all-then-value-k c =
    let p : List ℕ = c.args.inner.now ++ (c.args.top ∷ []) in
    let inside : c.loop-i.i < length p = let t = c.loop-i-test.true in omega (arith, length-cut c.args.values.now 0 p c.requires.cut) in
    let end = (interval c.args.values.now c.args.inner.now c.args.top c.loop-i.i c.requires.cut c.loop-i-test.true).end in
    let order = gaps_order c.args.k c.args.values.now p c.args.at c.loop-i.i c.loop-i.start c.loop-i.caesura c.loop-i.next _ _ c.loop-i.invariant c.loop-i-test.true inside in
    omega (arith, end, order, c.count_caesuras-all.ensures.small, c.requires.low)

pub write_interval-next-requires-clause-edges : goal.write_interval-next-requires-clause-edges
write_interval-next-requires-clause-edges c =
    let p : List ℕ = c.args.inner.now ++ (c.args.top ∷ []) in
    let inside : c.loop-i.i < length p = let t = c.loop-i-test.true in omega (arith, length-cut c.args.values.now 0 p c.requires.cut) in
    let end = (interval c.args.values.now c.args.inner.now c.args.top c.loop-i.i c.requires.cut c.loop-i-test.true).end in
    let order = gaps_order c.args.k c.args.values.now p c.args.at c.loop-i.i c.loop-i.start c.loop-i.caesura c.loop-i.next _ _ c.loop-i.invariant c.loop-i-test.true inside in
    omega (arith, end, order, c.count_caesuras-all.ensures.small, c.requires.low, c.end_of-end.ensures)

pub write_interval-next-requires-clause-room : goal.write_interval-next-requires-clause-room
write_interval-next-requires-clause-room c =
    let p : List ℕ = c.args.inner.now ++ (c.args.top ∷ []) in
    let inside : c.loop-i.i < length p = let t = c.loop-i-test.true in omega (arith, length-cut c.args.values.now 0 p c.requires.cut) in
    gaps_room c.args.k c.args.values.now p c.args.at c.loop-i.i c.loop-i.start c.loop-i.caesura c.loop-i.next _ _ c.loop-i.invariant c.loop-i-test.true inside c.if-value-k.true
    (c.end_of-end.result - c.loop-i.start) c.comes_again-caesuras.result (length c.loop-i.word) (ap (λ x. x - c.loop-i.start) c.end_of-end.ensures) c.comes_again-caesuras.ensures
    (omega (arith, c.requires.room, c.loop-i.auto.word))

pub loop-i-preserved : goal.loop-i-preserved
loop-i-preserved c =
    let p : List ℕ = c.args.inner.now ++ (c.args.top ∷ []) in
    let inside : c.loop-i.i < length p = let t = c.loop-i-test.true in omega (arith, length-cut c.args.values.now 0 p c.requires.cut) in
    let old : List ℕ = take c.args.at c.args.word.now in
    let done : List ℕ = take c.loop-i.next c.loop-i.word in
    elim c.if-value-k.branch [
      | then-value-k w ↦
          part_of_gaps_moved c.args.k c.args.values.now p c.args.at (c.loop-i.i + 1) old _ c.end_of-end.result (c.loop-i.caesura + c.comes_again-caesuras.result) w.write_interval-next.result c.if-value-k.next
          w.write_interval-next.new.word c.if-value-k.word c.end_of-end.ensures w.next-is w.word-is
          (gaps_write c.args.k c.args.values.now p c.args.at c.loop-i.i c.loop-i.start c.loop-i.caesura c.loop-i.next old done c.loop-i.invariant c.loop-i-test.true inside w.if-value-k.true
          (c.end_of-end.result - c.loop-i.start) c.comes_again-caesuras.result w.write_interval-next.result (take w.write_interval-next.result w.write_interval-next.new.word)
          (ap (λ x. x - c.loop-i.start) c.end_of-end.ensures) c.comes_again-caesuras.ensures w.write_interval-next.ensures.next
          (w.write_interval-next.ensures.written ∙ ap (λ d. done ++ (numbers_from (d + c.loop-i.start + 1) (c.end_of-end.result - c.loop-i.start) ++ numbers_from c.loop-i.caesura c.comes_again-caesuras.result)) c.count_caesuras-all.ensures.count))
      | else-value-k w ↦
          part_of_gaps_moved c.args.k c.args.values.now p c.args.at (c.loop-i.i + 1) old _ c.end_of-end.result (c.loop-i.caesura + c.comes_again-caesuras.result) c.loop-i.next c.if-value-k.next
          c.loop-i.word c.if-value-k.word c.end_of-end.ensures w.next-is w.word-is
          (gaps_skip c.args.k c.args.values.now p c.args.at c.loop-i.i c.loop-i.start c.loop-i.caesura c.loop-i.next old done c.loop-i.invariant c.loop-i-test.true inside w.if-value-k.false
          c.comes_again-caesuras.result c.comes_again-caesuras.ensures)
    ]
