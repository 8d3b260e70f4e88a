use Rattle.std.proofs.{Common.{◌≡◌, ◌∙◌, ◌+◌, ◌≤◌, ◌^◌, ◌++◌, List, ℕ, [], ◌∷◌, ap, arith, false, length, sym, subst, All, ◌==◌, ℤ}, lemmas.List.Elements.{All-head, All-tail}}
use Rattle.signed_sum.specs.Names.{IsDistinct, is_degenerate, occurs, weight_of}
use Rattle.table_reduction.{specs.Walks.{AddsLists, entry_count, is_last, needed}, proofs.WalkLemmas.{adds-in_last, adds-pruned, adds-steps, no_rows, occurs-no, plain-more, room-ended, room-last, room-used}, proofs.walk.Walk.+rows.Goals.{add_value-in-Some+in_ok-add_from+in_ok-push-2+in_ok-add_from-2, add_value-in_default+in_ok-add_from-3}}
use Rattle.table_reduction.proofs.walk.Walk.+rows.Goals as goal

pub add_from-returns-then-ends_with-clause-sum : goal.add_from-returns-then-ends_with-clause-sum
add_from-returns-then-ends_with-clause-sum t c =
    let used = c.args.self.now.used.items in
    let values = c.args.self.now.values.items in
    let x = c.in-Some.value.now in
    subst (λ (left : List ℕ). AddsLists c.args.later.now left used values c.args.self.now.sum c.args.self.now.sum) (sym c.in-Some.ensures.cases.0)
    (adds-pruned c.args.later.now x c.in-Some.rest.now used values c.args.self.now.sum
    (occurs-no x used (ap (λ u. occurs x u == 1) (sym c.as_slice.ensures.value) ∙ sym c.stands_in.ensures ∙ c.if-stands_in.false))
    (ap (is_last x) (sym c.as_slice-2.ensures.value) ∙ sym c.ends_with.ensures ∙ c.if-ends_with.true))

pub add_from-add_value-requires : goal.add_from-add_value-requires
add_from-add_value-requires t c =
    let x = c.in-Some.value.now in
    let e : c.args.left.now ≡ x ∷ c.in-Some.rest.now = c.in-Some.ensures.cases.0 in
    let free = occurs-no x c.args.self.now.used.items (ap (λ u. occurs x u == 1) (sym c.as_slice.ensures.value) ∙ sym c.stands_in.ensures ∙ c.if-stands_in.false) in
    let apart = ap (is_last x) (sym c.as_slice-2.ensures.value) ∙ sym c.ends_with.ensures ∙ c.if-ends_with.false in
    let room = subst (λ (left : List ℕ). weight_of c.args.self.now.sum + needed c.args.later.now left c.args.self.now.used.items c.args.self.now.values.items ≤ 10 ^ 18) e c.requires.room in
    (omega (arith, ap length e), (subst IsDistinct e c.requires.row, (c.requires.rows, (free, (apart, (c.requires.plain, room))))))

pub add_value-add_from-requires : goal.add_value-add_from-requires
add_value-add_from-requires t c =
    let e : c.args.later.now ≡ c.in-Some.row.now ∷ c.in-Some.rows.now = c.in-Some.ensures.cases.0 in
    let q : All IsDistinct (c.in-Some.row.now ∷ c.in-Some.rows.now) = subst (All IsDistinct) e c.requires.rows in
    let values = c.args.self.now.values.items in
    let plain : is_degenerate c.push.new.self.items ≡ false = ap is_degenerate c.in_ok-push.ensures.items ∙ plain-more c.args.value values c.requires.plain c.requires.apart in
    let room = room-ended c.args.later.now c.in-Some.rows.now c.in-Some.row.now c.as_slice.result.now c.args.value c.args.rest.now c.args.self.now.used.items values c.push.new.self.items (weight_of c.args.self.now.sum)
    e c.as_slice.ensures c.in_ok-push.ensures.items c.requires.free c.requires.row.0 c.requires.room in
    (omega (arith, ap entry_count e, ap length c.as_slice.ensures), (subst IsDistinct (sym c.as_slice.ensures) (All-head IsDistinct c.in-Some.row.now c.in-Some.rows.now q), (All-tail IsDistinct c.in-Some.row.now c.in-Some.rows.now q, (plain, room))))

pub add_value-add_from-requires-in-Some : goal.add_value-add_from-requires-in-Some
add_value-add_from-requires-in-Some t c =
    let values = c.args.self.now.values.items in
    let first = c.add_from.new.self in
    let plain : is_degenerate first.values.items ≡ false = ap is_degenerate c.in_ok-add_from.ensures.values ∙ ap is_degenerate c.in_ok-push.ensures.items ∙ plain-more c.args.value values c.requires.plain c.requires.apart in
    let room = room-used c.args.later.now c.in-Some.rows.now c.in-Some.row.now c.as_slice.result.now c.args.value c.args.rest.now c.args.self.now.used.items first.used.items c.push-in-Some.new.self.items
    values c.push.new.self.items first.values.items c.args.self.now.sum first.sum
    c.in-Some.ensures.cases.0 c.as_slice.ensures c.in_ok-push.ensures.items c.in_ok-add_from.ensures.values c.in_ok-add_from.ensures.used c.in_ok-push-2.ensures.items
    c.requires.free c.requires.row.0 c.in_ok-add_from.ensures.sum c.requires.room in
    (omega arith, (c.requires.row.1, (c.requires.rows, (plain, room))))

pub add_value-add_from-requires-in_default : goal.add_value-add_from-requires-in_default
add_value-add_from-requires-in_default t c =
    let values = c.args.self.now.values.items in
    let l : c.args.later.now ≡ [] = no_rows c.args.later.now c.split_first.result c.split_first.ensures.cases c.in_default.not-Some in
    let plain : is_degenerate c.push.new.self.items ≡ false = ap is_degenerate c.in_ok-push.ensures.items ∙ plain-more c.args.value values c.requires.plain c.requires.apart in
    let room = room-last c.args.later.now c.args.value c.args.rest.now c.args.self.now.used.items values c.push.new.self.items (weight_of c.args.self.now.sum)
    l c.in_ok-push.ensures.items c.requires.free c.requires.room in
    (omega arith, (c.requires.row.1, (c.requires.rows, (plain, room))))

pub add_value-returns-clause-sum : goal.add_value-returns-clause-sum
add_value-returns-clause-sum t c =
    let later = c.args.later.now in
    let old = c.args.self.now.sum in
    let used = c.args.self.now.used.items in
    let values = c.args.self.now.values.items in
    let x = c.args.value in
    let rest = c.args.rest.now in
    elim c.match-split_first.branch [
      | add_value-in-Some+in_ok-add_from+in_ok-push-2+in_ok-add_from-2 w ↦
          let first = w.add_from.new.self in
          let second = w.add_from-in-Some.new.self in
          let a : AddsLists later (x ∷ rest) used values old second.sum =
          adds-steps later w.in-Some.rows.now w.in-Some.row.now w.as_slice.result.now x rest used first.used.items w.push-in-Some.new.self.items values c.push.new.self.items first.values.items old first.sum second.sum
          w.in-Some.ensures.cases.0 w.as_slice.ensures c.in_ok-push.ensures.items w.in_ok-add_from.ensures.values w.in_ok-add_from.ensures.used w.in_ok-push-2.ensures.items
          c.requires.free c.requires.row.0 w.in_ok-add_from.ensures.sum w.in_ok-add_from-2.ensures.sum in
          subst (λ (s : List (List ℕ × ℤ)). AddsLists later (x ∷ rest) used values old s) (ap (λ s. s.sum) (sym w.self-is)) a
      | add_value-in_default+in_ok-add_from-3 w ↦
          let l : later ≡ [] = no_rows later c.split_first.result c.split_first.ensures.cases w.in_default.not-Some in
          let new = w.add_from-in_default.new.self.sum in
          let a : AddsLists [] rest used (values ++ (x ∷ [])) old new =
          subst (λ (k : List (List ℕ)). AddsLists k rest used (values ++ (x ∷ [])) old new) l (subst (λ (v : List ℕ). AddsLists later rest used v old new) c.in_ok-push.ensures.items w.in_ok-add_from-3.ensures.sum) in
          let b : AddsLists later (x ∷ rest) used values old new = subst (λ (k : List (List ℕ)). AddsLists k (x ∷ rest) used values old new) (sym l) (adds-in_last x rest used values old new c.requires.free a) in
          subst (λ (s : List (List ℕ × ℤ)). AddsLists later (x ∷ rest) used values old s) (ap (λ s. s.sum) (sym w.self-is)) b
    ]
