use Rattle.std.proofs.{Common.{◌≡◌, ◌+◌, ℕ, List, ◌∷◌, [], ◌++◌, take, arith, sym, ap, ◌∙◌, append-nil, append_assoc, take_all}, lemmas.List.take_more}
use Rattle.row_reduce.proofs.space.copy_onto.Goals as goal

pub loop-row-init : goal.loop-row-init
loop-row-init g c = sym (append-nil c.args.list.now.items)

pub loop-row-preserved : goal.loop-row-preserved
loop-row-preserved g c =
    let rows = c.args.rows.now in
    let i = c.loop-row.row-index in
    let row : List (ℕ × ℕ) = c.row-item.result in
    let more : take (i + 1) rows ≡ take i rows ++ (row ∷ []) = take_more rows i row c.loop-row-test.true ∙ ap (λ (r : List (ℕ × ℕ)). take i rows ++ (r ∷ [])) (sym c.row-item.is) in
    c.in_ok-push.ensures.items ∙ ap (λ (r : List (ℕ × ℕ)). c.loop-row.list.items ++ (r ∷ [])) c.in_ok-copy.ensures.same ∙ ap (λ (xs : List (List (ℕ × ℕ))). xs ++ (row ∷ [])) c.loop-row.invariant
    ∙ append_assoc c.args.list.now.items (take i rows) (row ∷ []) ∙ ap (λ (xs : List (List (ℕ × ℕ))). c.args.list.now.items ++ xs) (sym more)

pub returns : goal.returns
returns g c = c.loop-row.invariant ∙ ap (λ (xs : List (List (ℕ × ℕ))). c.args.list.now.items ++ xs) (take_all c.loop-row.row-index c.args.rows.now (omega arith))
