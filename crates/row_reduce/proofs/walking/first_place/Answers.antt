use Rattle.std.proofs.Common.{◌≡◌, ℕ, List, ap, sym, ◌∙◌, ◌<◌, ◌≤◌, length, get_or, arith, take_all}
use Rattle.sparse_rows.specs.Rows.{value_in}
use Rattle.row_reduce.proofs.{StoredLemmas.first_step, walking.first_place.Goals.{then-entry-first, else-entry-first}}
use Rattle.row_reduce.proofs.walking.first_place.Goals as goal

pub loop-entry-preserved : goal.loop-entry-preserved
loop-entry-preserved g c =
    let i = c.loop-entry.entry-index in
    let row = c.args.row.now in
    let e : ℕ × ℕ = c.entry-item.result in
    let b : i < length row = c.loop-entry-test.true in
    let is : e ≡ get_or row i e = c.entry-item.is in
    let f = c.if-entry-first.first in
    let low : (f ≤ c.loop-entry.first) × (f ≤ e.0) = elim c.if-entry-first.branch [
      | then-entry-first w ↦ (omega arith, omega arith)
      | else-entry-first w ↦ (omega arith, omega arith)
    ] in
    record {
      inside = omega (arith, low.0, c.loop-entry.invariant.inside);
      before = first_step row i c.loop-entry.first f e is b low.0 low.1 c.loop-entry.invariant.before;
    }

pub returns-clause-before : goal.returns-clause-before
returns-clause-before g c =
    λ y b. ap (λ (r : List (ℕ × ℕ)). value_in r y) (sym (take_all c.loop-entry.entry-index c.args.row.now (omega arith))) ∙ c.loop-entry.invariant.before y b
