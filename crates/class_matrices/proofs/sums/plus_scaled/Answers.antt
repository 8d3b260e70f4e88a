use Rattle.std.{proofs.Common.{◌≡◌, ◌∙◌, ◌+◌, ◌*◌, ◌%◌, ℕ, ap, ap₂, length, rules, subst, sym, take}, proofs.lemmas.Slice.Zip.{zip_end, zip_turn}, specs.Iterator.Adapters.{zip_first, zip_second}, specs.Slice.Iter.iter_rest}
use Rattle.linear_law.{specs.Names.plus_scaled, proofs.Names.length_push}
use Rattle.class_matrices.proofs.{ListLemmas.shorter, SumLemmas.{plus_scaled-all, plus_scaled-more}}
use Rattle.class_matrices.proofs.sums.plus_scaled.Goals as goal

pub loop-x-preserved : goal.loop-x-preserved
loop-x-preserved g c =
    let p : ℕ = g.row.P in
    let first : iter_rest (zip_first c.into_iter-x-iterator.result) ≡ c.args.first.now = search rules in
    let second : iter_rest (zip_second c.into_iter-x-iterator.result) ≡ c.args.second.now = search rules in
    let t = zip_turn c.args.first.now c.args.second.now c.loop-x.yielded c.into_iter-x-iterator.result c.loop-x.x-iterator c.next.new.self c.next.result first second c.loop-x.yielded_by (c.in-Some.x, c.in-Some.y) c.in-Some.is c.next.ensures.steps in
    subst (λ (k : ℕ). c.push.new.self.items ≡ plus_scaled p c.args.by (take k c.args.first.now) (take k c.args.second.now)) (sym (length_push c.loop-x.yielded (c.in-Some.x, c.in-Some.y)))
    (plus_scaled-more p c.args.by c.args.first.now c.args.second.now (length c.loop-x.yielded) c.loop-x.sum.items c.push.new.self.items c.add.result t.0 t.1 c.loop-x.invariant
    (c.add.ensures ∙ ap₂ (λ (a b : ℕ). (a + b) % p) (c.mul.ensures ∙ ap (λ (x : ℕ). (c.args.by * x) % p) (t.2 0)) (t.3 0)) c.in_ok-push.ensures.items)

pub returns : goal.returns
returns g c =
    let first : iter_rest (zip_first c.into_iter-x-iterator.result) ≡ c.args.first.now = search rules in
    let second : iter_rest (zip_second c.into_iter-x-iterator.result) ≡ c.args.second.now = search rules in
    let t = zip_end c.args.first.now c.args.second.now c.loop-x.yielded c.into_iter-x-iterator.result c.loop-x.x-iterator c.next.new.self c.next.result first second c.loop-x.yielded_by c.in-None.is c.next.ensures.steps in
    c.loop-x.invariant ∙ plus_scaled-all g.row.P c.args.by c.args.first.now c.args.second.now (length c.loop-x.yielded) (shorter (length c.args.first.now) (length c.args.second.now) (length c.loop-x.yielded) t)
