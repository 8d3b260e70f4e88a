use Rattle.std.proofs.Common.{ℕ, ◌+◌, set, List, Vec, Global, arith, sym, ap, ◌∙◌, subst}
use native.Mathlib.Nat.{zero-mod}
use Rattle.row_reduce.proofs.{SumLemmas.read_at, StoredLemmas.{Taking, taking_past, taking_start, taking_step}, walking.take_pairs.Goals.{then-value-ne0+in_ok-push, else-value-ne0}}
use Rattle.row_reduce.proofs.walking.take_pairs.Goals as goal

pub loop-at-preserved : goal.loop-at-preserved
loop-at-preserved g c =
    let S : List ℕ → List (ℕ × ℕ) → Type 0 = λ sum rest. Taking g.row.P c.args.sum.now sum rest (c.loop-at.at + 1) in
    let read = read_at c.loop-at.sum c.loop-at.at c.index-sum-at.result c.index-sum-at.is (omega arith) in
    elim c.if-value-ne0.branch [
      | then-value-ne0+in_ok-push w ↦
          let zero = w.new.ensures ∙ zero-mod g.row.P in
          let s = taking_step g.row.P c.args.sum.now c.loop-at.sum c.loop-at.rest.items c.loop-at.at c.index-sum-at.result read (omega arith) (omega arith) c.loop-at.invariant in
          subst (λ (x : List ℕ). S x c.if-value-ne0.rest.items) (sym w.sum-is)
          (subst (λ n. S (set c.loop-at.sum c.loop-at.at n) c.if-value-ne0.rest.items) (sym zero)
          (subst (S (set c.loop-at.sum c.loop-at.at 0)) (sym w.in_ok-push.ensures.items ∙ sym (ap (λ (v : Vec (ℕ × ℕ) Global). v.items) w.rest-is)) s))
      | else-value-ne0 w ↦
          let s = taking_past g.row.P c.args.sum.now c.loop-at.sum c.loop-at.rest.items c.loop-at.at (sym (c.value.ensures.same ∙ read) ∙ w.if-value-ne0.false) c.loop-at.invariant in
          subst (λ (x : List ℕ). S x c.if-value-ne0.rest.items) (sym w.sum-is)
          (subst (S c.loop-at.sum) (sym (ap (λ (v : Vec (ℕ × ℕ) Global). v.items) w.rest-is)) s)
    ]

pub loop-at-init : goal.loop-at-init
loop-at-init g c = subst (λ (rest : List (ℕ × ℕ)). Taking g.row.P c.args.sum.now c.args.sum.now rest c.args.start) (sym c.new-rest.ensures.items) (taking_start g.row.P c.args.sum.now c.args.start c.requires.before)
