use Rattle.std.{proofs.Common.{◌∙◌, List, [], ℕ, get_or, ap, sym, arith}, specs.Ordering.nat_cmp, specs.BTreeSet.insert_key, proofs.lemmas.List.Sums.fold_more}
use Rattle.complex_file.proofs.complexes.ascending_of.Goals as goal

pub loop-v-preserved : goal.loop-v-preserved
loop-v-preserved c =
    c.in_ok-insert.ensures.keys
    ∙ ap (λ (ks : List ℕ). insert_key nat_cmp ks (get_or c.args.vertices.now c.loop-v.v-index 0)) c.loop-v.invariant
    ∙ sym (fold_more (insert_key nat_cmp) [] c.args.vertices.now c.loop-v.v-index 0 (omega arith))
