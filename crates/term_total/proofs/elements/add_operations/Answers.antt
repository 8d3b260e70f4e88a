use Rattle.std.{proofs.Common.{◌∙◌, ◌+◌, ap, drop, map, sym, fold}, specs.BTreeSet.insert_key, specs.Ordering.nat_cmp, proofs.lemmas.List.at_drop_more}
use Rattle.term_total.{specs.Names.Applied, proofs.ReadyLemmas.no_applied}
use Rattle.term_total.proofs.elements.add_operations.Goals as goal

pub loop-operation-preserved : goal.loop-operation-preserved
loop-operation-preserved c =
    let xs = c.args.operations.now in
    let i = c.loop-operation.operation-index in
    let keys = c.loop-operation.degrees.keys in
    ap (λ ks. fold (insert_key nat_cmp) ks (map (λ (x : Applied). x.element) (drop (i + 1) xs))) c.in_ok-insert.ensures.keys
    ∙ sym (at_drop_more (λ ys. fold (insert_key nat_cmp) keys (map (λ (x : Applied). x.element) ys)) xs i no_applied c.loop-operation-test.true) ∙ c.loop-operation.invariant
