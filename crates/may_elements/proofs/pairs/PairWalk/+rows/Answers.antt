use Rattle.std.proofs.{Common.{◌≡◌, ◌∙◌, ◌+◌, ◌∷◌, ◌++◌, [], List, ℕ, ap, arith, inl, inr, length, refl, subst, suc, sym}, lemmas.Result.on_ok_weaker}
use Rattle.operad_law.proofs.PermLemmas.{length-cycle_power}
use Rattle.signed_sum.specs.Names.{cycle_power}
use Rattle.may_elements.{specs.{Live.is_left_out, Pairs.{AddsLists, IsAt, IsCrowded}}, proofs.LiveLemmas.crowded-out, proofs.PairLemmas.{adds-in_last, adds-missing, adds-no_pair, adds-one, adds-pair, adds-pruned_here, adds-steps, at-end, at-pair, at-skipped, at-used, at-written, begun-next, below-more, fewer, is-end, is-free, is-used, no_entry, adds-out}, proofs.pairs.PairWalk.+rows.Goals.{add_pair-then-stands_in-via-then-stands_in, add_pair-then-stands_in-via-else-stands_in+then-ends_with, add_value-then-pairs-eq0+in_ok-add_from, add_value-else-pairs-eq0+in_ok-add_pairs+in_ok-push-2+in_ok-add_from-2}}
use Rattle.may_elements.proofs.pairs.PairWalk.+rows.Goals as goal

pub add_from-end_list-requires : goal.add_from-end_list-requires
add_from-end_list-requires t c =
    let used = c.args.self.now.used.items in
    let values = c.args.self.now.values.items in
    let e : c.args.left.now ≡ [] = no_entry c.args.left.now c.split_first.result c.split_first.ensures.cases c.in_default.not-Some in
    record {
      complete = at-end c.args.wanted.p c.args.pairs used values c.requires.some c.requires.narrow (subst (λ (l : List ℕ). IsAt c.args.wanted.p c.args.pairs l used values) e c.requires.at);
      small = c.requires.small;
    }

pub add_from-returns-then-pairs-eq0-clause-lists : goal.add_from-returns-then-pairs-eq0-clause-lists
add_from-returns-then-pairs-eq0-clause-lists t c =
    let used = c.args.self.now.used.items in
    let values = c.args.self.now.values.items in
    let old = c.args.self.now.lists.items in
    let new = c.end_list.new.self.lists.items in
    let e : c.args.left.now ≡ [] = no_entry c.args.left.now c.split_first.result c.split_first.ensures.cases c.in_default.not-Some in
    let none : c.args.pairs ≡ 0 = omega arith in
    on_ok_weaker c.end_list.result (λ q. subst (λ (l : List ℕ). AddsLists (is_left_out c.args.wanted.live_for) c.args.wanted.p c.args.pairs [] l used values old new) (sym e) (adds-one (is_left_out c.args.wanted.live_for) c.args.wanted.p c.args.pairs used values old new none c.requires.at.begun.plain q)) c.end_list.ensures.lists

pub add_from-returns-in_default-clause-lists : goal.add_from-returns-in_default-clause-lists
add_from-returns-in_default-clause-lists t c =
    let used = c.args.self.now.used.items in
    let values = c.args.self.now.values.items in
    let lists = c.args.self.now.lists.items in
    let e : c.args.left.now ≡ [] = no_entry c.args.left.now c.split_first.result c.split_first.ensures.cases c.in_default.not-Some in
    subst (λ (l : List ℕ). AddsLists (is_left_out c.args.wanted.live_for) c.args.wanted.p c.args.pairs [] l used values lists lists) (sym e) (adds-missing (is_left_out c.args.wanted.live_for) c.args.wanted.p c.args.pairs used values lists (λ z. absurd (omega (arith, z))))

pub add_from-add_from-requires : goal.add_from-add_from-requires
add_from-add_from-requires t c =
    let used = c.args.self.now.used.items in
    let values = c.args.self.now.values.items in
    let x = c.in-Some.value.now in
    let e : c.args.left.now ≡ x ∷ c.in-Some.rest.now = c.in-Some.ensures.cases.0 in
    let o = is-used x x c.as_slice-2.result.now used c.stands_in.result refl c.as_slice-2.ensures.value c.stands_in.ensures c.if-stands_in.true in
    (omega (arith, ap length e), (c.requires.some, (c.requires.narrow, (c.requires.small, at-skipped c.args.wanted.p c.args.pairs x c.in-Some.rest.now used values o (subst (λ (l : List ℕ). IsAt c.args.wanted.p c.args.pairs l used values) e c.requires.at)))))

pub add_from-returns-then-ends_with-clause-lists : goal.add_from-returns-then-ends_with-clause-lists
add_from-returns-then-ends_with-clause-lists t c =
    let used = c.args.self.now.used.items in
    let values = c.args.self.now.values.items in
    let lists = c.args.self.now.lists.items in
    let x = c.in-Some.value.now in
    let o = is-free x x c.as_slice-2.result.now used c.stands_in.result refl c.as_slice-2.ensures.value c.stands_in.ensures c.if-stands_in.false in
    let l = is-end x x c.as_slice-3.result.now values c.ends_with.result _ refl c.as_slice-3.ensures.value c.ends_with.ensures c.if-ends_with.true in
    subst (λ (left : List ℕ). AddsLists (is_left_out c.args.wanted.live_for) c.args.wanted.p c.args.pairs [] left used values lists lists) (sym c.in-Some.ensures.cases.0) (adds-pruned_here (is_left_out c.args.wanted.live_for) c.args.wanted.p c.args.pairs x c.in-Some.rest.now used values lists o l)

pub add_from-add_value-requires : goal.add_from-add_value-requires
add_from-add_value-requires t c =
    let used = c.args.self.now.used.items in
    let values = c.args.self.now.values.items in
    let x = c.in-Some.value.now in
    let e : c.args.left.now ≡ x ∷ c.in-Some.rest.now = c.in-Some.ensures.cases.0 in
    let o = is-free x x c.as_slice-2.result.now used c.stands_in.result refl c.as_slice-2.ensures.value c.stands_in.ensures c.if-stands_in.false in
    let l = is-end x x c.as_slice-3.result.now values c.ends_with.result _ refl c.as_slice-3.ensures.value c.ends_with.ensures c.if-ends_with.false in
    (omega (arith, ap length e), (c.requires.some, (c.requires.narrow, (c.requires.small, (subst (λ (l : List ℕ). IsAt c.args.wanted.p c.args.pairs l used values) e c.requires.at, (o, l))))))

pub add_pair-returns-then-stands_in-clause-lists : goal.add_pair-returns-then-stands_in-clause-lists
add_pair-returns-then-stands_in-clause-lists t c =
    let used = c.args.self.now.used.items in
    let values = c.args.self.now.values.items in
    let x = suc c.args.exponent in
    let v : c.args.exponent + 1 ≡ x = omega arith in
    adds-no_pair (is_left_out c.args.wanted.live_for) c.args.wanted.p c.args.pairs c.args.exponent used values c.args.self.now.lists.items c.requires.below (elim c.then-stands_in.branch [
      | add_pair-then-stands_in-via-then-stands_in w ↦ inl (is-used x _ c.as_slice.result.now used c.stands_in.result v c.as_slice.ensures.value c.stands_in.ensures w.if-stands_in.true)
      | add_pair-then-stands_in-via-else-stands_in+then-ends_with w ↦ inr (
        is-free x _ c.as_slice.result.now used c.stands_in.result v c.as_slice.ensures.value c.stands_in.ensures w.if-stands_in.false,
        is-end x _ w.as_slice-else-stands_in.result.now values w.ends_with.result _ v w.as_slice-else-stands_in.ensures.value w.ends_with.ensures w.if-ends_with.true,
      )
    ])

pub add_pair-add_from-requires : goal.add_pair-add_from-requires
add_pair-add_from-requires t c =
    let e = c.args.exponent in
    let x = suc e in
    let v : e + 1 ≡ x = omega arith in
    let row : c.as_slice-2.result.now ≡ cycle_power c.args.wanted.p x = c.as_slice-2.ensures ∙ c.in_ok-next.ensures ∙ ap (cycle_power c.args.wanted.p) (c.from.ensures ∙ v) in
    let written = c.in_ok-push.ensures.items ∙ ap (λ y. c.args.self.now.values.items ++ (y ∷ [])) v in
    let l = is-end x _ c.as_slice-else-stands_in.result.now c.args.self.now.values.items c.ends_with.result _ v c.as_slice-else-stands_in.ensures.value c.ends_with.ensures c.if-ends_with.false in
    let a = at-pair c.args.wanted.p c.args.pairs e c.as_slice-2.result.now c.args.self.now.used.items c.args.self.now.values.items c.push.new.self.items c.requires.below row written l c.requires.begun in
    (omega (arith, ap length row, length-cycle_power c.args.wanted.p x), (c.requires.some, (c.requires.narrow, (c.requires.small, a))))

pub add_pair-returns-clause-lists : goal.add_pair-returns-clause-lists
add_pair-returns-clause-lists t c =
    let e = c.args.exponent in
    let x = suc e in
    let used = c.args.self.now.used.items in
    let v : e + 1 ≡ x = omega arith in
    let row : c.as_slice-2.result.now ≡ cycle_power c.args.wanted.p x = c.as_slice-2.ensures ∙ c.in_ok-next.ensures ∙ ap (cycle_power c.args.wanted.p) (c.from.ensures ∙ v) in
    let written = c.in_ok-push.ensures.items ∙ ap (λ y. c.args.self.now.values.items ++ (y ∷ [])) v in
    let o = is-free x _ c.as_slice.result.now used c.stands_in.result v c.as_slice.ensures.value c.stands_in.ensures c.if-stands_in.false in
    adds-pair (is_left_out c.args.wanted.live_for) c.args.wanted.p c.args.pairs e c.as_slice-2.result.now used c.args.self.now.values.items c.push.new.self.items c.args.self.now.lists.items c.add_from.new.self.lists.items
    c.requires.below o row written c.in_ok-add_from.ensures.lists

pub add_pairs-loop-exponent-preserved : goal.add_pairs-loop-exponent-preserved
add_pairs-loop-exponent-preserved t c =
    let inv = c.loop-exponent.invariant in (
      below-more (is_left_out c.args.wanted.live_for) c.args.wanted.p c.args.pairs c.loop-exponent.exponent c.args.self.now.used.items c.loop-exponent.self.used.items c.args.self.now.values.items c.loop-exponent.self.values.items
          c.args.self.now.lists.items c.loop-exponent.self.lists.items c.add_pair.new.self.lists.items inv.1 inv.2 inv.0 c.in_ok-add_pair.ensures.lists,
      c.in_ok-add_pair.ensures.used ∙ inv.1,
      c.in_ok-add_pair.ensures.values ∙ inv.2,
    )

pub add_value-add_from-requires : goal.add_value-add_from-requires
add_value-add_from-requires t c =
    (omega arith, (c.requires.some, (c.requires.narrow, (c.requires.small, at-written c.args.wanted.p c.args.pairs c.args.value c.args.rest.now c.args.self.now.used.items c.args.self.now.values.items c.push.new.self.items c.in_ok-push.ensures.items c.requires.apart c.requires.at))))

pub add_value-add_pairs-requires : goal.add_value-add_pairs-requires
add_value-add_pairs-requires t c =
    let a = at-written c.args.wanted.p c.args.pairs c.args.value c.args.rest.now c.args.self.now.used.items c.args.self.now.values.items c.push.new.self.items c.in_ok-push.ensures.items c.requires.apart c.requires.at in
    let fall = fewer c.args.wanted.p c.args.pairs (length c.args.rest.now) (λ z. absurd (omega (arith, z))) in
    (omega (arith, fall), (c.requires.some, (c.requires.narrow, (c.requires.small, begun-next c.args.wanted.p c.args.pairs c.args.self.now.used.items c.push.new.self.items (λ z. absurd (omega (arith, z))) a.begun))))

pub add_value-add_from-requires-else-pairs-eq0 : goal.add_value-add_from-requires-else-pairs-eq0
add_value-add_from-requires-else-pairs-eq0 t c =
    let a = at-used c.args.wanted.p c.args.pairs c.args.value c.args.rest.now c.args.self.now.used.items c.add_pairs.new.self.used.items c.push-else-pairs-eq0.new.self.items c.args.self.now.values.items c.push.new.self.items c.add_pairs.new.self.values.items
    c.in_ok-push.ensures.items c.in_ok-add_pairs.ensures.values c.in_ok-add_pairs.ensures.used c.in_ok-push-2.ensures.items c.requires.apart c.requires.at in
    (omega arith, (c.requires.some, (c.requires.narrow, (c.requires.small, a))))

pub add_value-returns-clause-lists : goal.add_value-returns-clause-lists
add_value-returns-clause-lists t c =
    let old = c.args.self.now.lists.items in
    let used = c.args.self.now.used.items in
    let values = c.args.self.now.values.items in
    let x = c.args.value in
    let rest = c.args.rest.now in
    elim c.if-pairs-eq0.branch [
      | add_value-then-pairs-eq0+in_ok-add_from w ↦
          subst (λ (s : List (List ℕ)). AddsLists (is_left_out c.args.wanted.live_for) c.args.wanted.p c.args.pairs [] (x ∷ rest) used values old s) (ap (λ s. s.lists.items) (sym w.self-is))
          (adds-in_last (is_left_out c.args.wanted.live_for) c.args.wanted.p c.args.pairs x rest used values c.push.new.self.items old w.add_from.new.self.lists.items w.if-pairs-eq0.true c.in_ok-push.ensures.items c.requires.free w.in_ok-add_from.ensures.lists)
      | add_value-else-pairs-eq0+in_ok-add_pairs+in_ok-push-2+in_ok-add_from-2 w ↦
          let first = w.add_pairs.new.self in
          subst (λ (s : List (List ℕ)). AddsLists (is_left_out c.args.wanted.live_for) c.args.wanted.p c.args.pairs [] (x ∷ rest) used values old s) (ap (λ s. s.lists.items) (sym w.self-is))
          (adds-steps (is_left_out c.args.wanted.live_for) c.args.wanted.p c.args.pairs x rest used first.used.items w.push-else-pairs-eq0.new.self.items values c.push.new.self.items first.values.items old first.lists.items w.add_from-else-pairs-eq0.new.self.lists.items
          (λ z. absurd (omega (arith, z))) c.in_ok-push.ensures.items w.in_ok-add_pairs.ensures.values w.in_ok-add_pairs.ensures.used w.in_ok-push-2.ensures.items c.requires.free c.requires.at.row.0 w.in_ok-add_pairs.ensures.lists w.in_ok-add_from-2.ensures.lists)
    ]

pub add_from-returns-then-rejects-clause-lists : goal.add_from-returns-then-rejects-clause-lists
add_from-returns-then-rejects-clause-lists t c =
    let values = c.args.self.now.values.items in
    adds-out (is_left_out c.args.wanted.live_for) c.args.wanted.p c.args.pairs c.args.left.now c.args.self.now.used.items values c.args.self.now.lists.items
    (crowded-out c.args.wanted.p c.args.wanted.live_for values c.requires.at.begun.inside
    (subst (IsCrowded c.args.wanted.live_for) c.as_slice.ensures.value (c.rejects.ensures c.if-rejects.true)))
