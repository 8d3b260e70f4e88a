use Rattle.std.proofs.Common.{ℕ, ◌+◌, List, length, Vec, Global, arith, refl, sym, ◌∙◌, ap, subst}
use Rattle.row_reduce.proofs.{SumLemmas.{Reducing, named, read_at, reducing_past, reducing_step}, reducing.reduce.Goals.{then-not-is_zero+in-Some+in_ok-push, else-not-is_zero}}
use Rattle.row_reduce.proofs.reducing.reduce.Goals as goal

pub loop-at-preserved : goal.loop-at-preserved
loop-at-preserved g c =
    let p = g.row.P in
    let stored = c.args.stored.now in
    let old = c.args.sum.now in
    let sum = c.loop-at.sum in
    let history = c.loop-at.history.items in
    let at = c.loop-at.at in
    let S : List ℕ → List (ℕ × ℕ) → Type 0 = λ sum history. Reducing p stored old sum history (at + 1) in
    elim c.if-not-is_zero.branch [
      | then-not-is_zero+in-Some+in_ok-push w ↦
          let i = w.index-stored-row.result in
          let n = named (length old) stored c.args.pivots.now at w.in-Some.row i c.requires.owns (sym w.row_of.ensures ∙ w.in-Some.is) w.index-stored-row.is in
          subst (λ (x : List ℕ). S x c.if-not-is_zero.history.items) (sym w.sum-is)
          (subst (S w.cancel-by.new.sum) (sym w.in_ok-push.ensures.items ∙ sym (ap (λ (v : Vec (ℕ × ℕ) Global). v.items) w.history-is))
          (reducing_step p stored old sum w.cancel-by.new.sum history at w.in-Some.row w.cancel-by.result i w.index-stored-row.is n.0 n.1 c.loop-at.invariant w.cancel-by.ensures.before w.cancel-by.ensures.sum))
      | else-not-is_zero w ↦
          subst (λ (x : List ℕ). S x c.if-not-is_zero.history.items) (sym w.sum-is)
          (subst (S sum) (sym (ap (λ (v : Vec (ℕ × ℕ) Global). v.items) w.history-is))
          (reducing_past p stored old sum history at (sym (read_at sum at c.index-sum-at.result c.index-sum-at.is (omega arith)) ∙ w.if-not-is_zero.ensures.zero.0 refl) c.loop-at.invariant))
    ]
