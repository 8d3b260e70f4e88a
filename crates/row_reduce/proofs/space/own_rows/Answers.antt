use Rattle.std.proofs.{Common.{◌≡◌, ◌+◌, ◌∷◌, [], ◌++◌, take, length, List, ℕ, arith, sym, ap, ◌∙◌, subst}, lemmas.List.take_more}
use Rattle.row_reduce.{specs.Names.{AreOwnFrom, IsOwnRow}, proofs.KernelLemmas.own_more}
use Rattle.row_reduce.proofs.space.own_rows.Goals as goal

pub loop-row-preserved : goal.loop-row-preserved
loop-row-preserved g c =
    let p = g.row.P in
    let i = c.loop-row.row-index in
    let rows = c.args.given.now in
    let row : List (ℕ × ℕ) = c.row-item.result in
    let old = c.loop-row.echelon.items in
    let more : take (i + 1) rows ≡ take i rows ++ (row ∷ []) = take_more rows i row c.loop-row-test.true ∙ ap (λ (r : List (ℕ × ℕ)). take i rows ++ (r ∷ [])) (sym c.row-item.is) in
    let at : c.len.result ≡ 0 + length old = omega arith in
    record {
      count = omega (arith, c.in_ok-push.ensures.len, c.loop-row.invariant.count);
      own = subst (λ (rs : List (List (ℕ × ℕ))). AreOwnFrom p 0 rs c.push.new.self.items) (sym more)
          (subst (AreOwnFrom p 0 (take i rows ++ (row ∷ []))) (sym c.in_ok-push.ensures.items)
          (own_more p 0 (take i rows) old row c.in_ok-own.own c.loop-row.invariant.own (subst (λ n. IsOwnRow p n row c.in_ok-own.own) at c.in_ok-own.ensures)));
    }
