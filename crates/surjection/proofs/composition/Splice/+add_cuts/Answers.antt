use Rattle.std.proofs.Common.{◌≡◌, ◌≤◌, ◌<◌, ◌-◌, ◌++◌, ◌∷◌, [], length, arith, ap, rules, take, vec_len, ◌∙◌, length-append}
use Rattle.surjection.proofs.SumLemmas.{part-end, part-next, part-room, popped, rising-push, rising-weaker}
use Rattle.surjection.proofs.composition.Splice.+add_cuts.Goals as goal

pub add_cut-requires-clause-cut : goal.add_cut-requires-clause-cut
add_cut-requires-clause-cut t c =
    let long = c.requires.long in
    let within = c.requires.within in
    rw c.as_slice.ensures.value (record {
      rising = rising-weaker 0 c.args.from (length c.args.self.now.inner.items - 1) c.args.cut.now.items c.requires.rising (omega arith);
      long = omega (arith, c.if-left-eq0.true, long);
    })

pub add_cuts-requires : goal.add_cuts-requires
add_cuts-requires t c =
    let e : c.push.new.self.items ≡ c.loop-place.cut.items ++ c.loop-place.place ∷ [] = c.in_ok-push.ensures.items in
    let inv = c.loop-place.invariant in
    let long = c.requires.long in
    let low : c.args.from ≤ c.loop-place.place = omega arith in
    let inside : c.loop-place.place < length c.args.self.now.inner.items = omega (arith, c.len-place-end.ensures.value) in
    let e2 : c.push.new.self.items ≡ c.args.cut.now.items ++ c.loop-place.place ∷ [] = e ∙ ap (λ l. l ++ c.loop-place.place ∷ []) inv.0 in
    (omega arith, (c.requires.ready, (rw e2 (rising-push 0 c.args.from c.loop-place.place c.args.cut.now.items c.requires.rising low), (inside, (omega (arith, long, ap length e2, length-append c.args.cut.now.items (c.loop-place.place ∷ [])), part-room c.args.self.now.at c.args.self.now.outer.items c.args.self.now.inner.items c.args.cut.now.items c.args.from c.args.left c.args.sum.now c.loop-place.place (c.args.left - 1) c.loop-place.sum inside (omega arith) c.requires.light inv.1)))))

pub loop-place-preserved : goal.loop-place-preserved
loop-place-preserved t c =
    let inv = c.loop-place.invariant in
    let inside : c.loop-place.place < length c.args.self.now.inner.items = omega (arith, c.len-place-end.ensures.value) in
    let e : c.push.new.self.items ≡ c.loop-place.cut.items ++ c.loop-place.place ∷ [] = c.in_ok-push.ensures.items in
    let e2 : c.push.new.self.items ≡ c.args.cut.now.items ++ c.loop-place.place ∷ [] = e ∙ ap (λ l. l ++ c.loop-place.place ∷ []) inv.0 in
    let vl : vec_len c.add_cuts.new.cut ≡ length c.add_cuts.new.cut.items = search rules in (
      popped c.args.cut.now.items c.add_cuts.new.cut.items c.pop-place.new.self.items c.loop-place.place (c.in_ok-add_cuts.ensures.same ∙ e2) (c.pop-place.ensures.rest ∙ ap (λ n. take (n - 1) c.add_cuts.new.cut.items) vl),
      part-next c.args.self.now.at c.args.self.now.outer.items c.args.self.now.inner.items c.args.cut.now.items c.args.from c.args.left c.args.sum.now c.loop-place.place (c.args.left - 1) c.loop-place.sum _ inside (omega arith) inv.1
          (rw e2 at c.in_ok-add_cuts.ensures.sums),
    )

pub returns-clause-sums : goal.returns-clause-sums
returns-clause-sums t c =
    let some = c.requires.ready.some in
    part-end c.args.self.now.at c.args.self.now.outer.items c.args.self.now.inner.items c.args.cut.now.items c.args.from c.args.left c.args.sum.now c.loop-place.place c.loop-place.sum (omega (arith, c.len-place-end.ensures.value)) some c.loop-place.invariant.1
