use Rattle.std.proofs.Common.{◌≡◌, ◌≤◌, ◌%◌, ℕ, List, length, arith, ◌∙◌, subst, ap, take_all, IfOk}
use Rattle.sparse_rows.specs.Rows.{value_in}
use Rattle.row_reduce.{specs.Names.entries_of, proofs.EntryLemmas.{entries_length, entries_more}}
use Rattle.row_reduce.proofs.entries.Entries.to_row.Goals as goal

pub loop-i-preserved : goal.loop-i-preserved
loop-i-preserved g c =
    let places = c.as_slice-places.result.now in
    let values = c.as_slice-values.result.now in
    let ep = c.as_slice-places.ensures.value in
    let ev = c.as_slice-values.ensures.value in
    let is : entries_of places c.self.inside.first values ≡ c.args.self.now = (λ j. entries_of (ep j) c.self.inside.first (ev j)) ∙ c.self.view_is in
    let b : length places ≤ length values = let p = ap length ep in let v = ap length ev in omega (arith, p, v, c.self.invariant.0) in
    entries_more places c.self.inside.first values c.args.self.now c.loop-i.pairs.items c.push.new.self.items c.loop-i.i c.place_of.result c.index-values-i.result
    is b (omega arith) c.place_of.ensures.alone c.place_of.ensures.run c.index-values-i.is c.loop-i.invariant c.in_ok-push.ensures.items

pub returns-clause-sum : goal.returns-clause-sum
returns-clause-sum g c =
    let places = c.self.inside.places.items in
    let values = c.self.inside.values.items in
    let v = ap length c.as_slice-values.ensures.value in
    let l = entries_length places c.self.inside.first values c.self.invariant.0 in
    let view : length c.args.self.now ≡ length values = subst (λ (es : List (ℕ × ℕ)). length es ≡ length values) c.self.view_is l in
    let all = take_all c.loop-i.i c.args.self.now (omega (arith, view, v)) in
    subst (λ (es : List (ℕ × ℕ)). IfOk c.from_pairs.result (λ r. (k : ℕ) → value_in r k ≡ value_in es k % g.row.P)) (c.as_slice.ensures.value ∙ c.loop-i.invariant ∙ all) c.from_pairs.ensures.sum
