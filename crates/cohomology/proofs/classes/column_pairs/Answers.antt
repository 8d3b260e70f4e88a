use Rattle.std.proofs.Common.{arith, ◌≡◌, ◌∙◌, List, ℕ, [], ap, get_or}
use Rattle.cohomology.proofs.{Below.{get_or_default, value_in}, CycleLemmas.{pairs_put, pairs_start}}
use Rattle.cohomology.proofs.classes.column_pairs.Goals as goal

pub loop-at-init : goal.loop-at-init
loop-at-init g c = pairs_start c.args.table.now c.args.i c.new-pairs.result.items c.new-pairs.ensures.items

pub loop-at-preserved : goal.loop-at-preserved
loop-at-preserved g c =
    let e : c.index-table-at.result ≡ get_or c.args.table.now c.loop-at.at [] = c.index-table-at.is ∙ get_or_default c.args.table.now c.loop-at.at c.index-table-at.result [] (omega arith) in
    pairs_put c.args.table.now c.args.i c.loop-at.at c.at.result c.loop-at.pairs.items c.put_nonzero.new.pairs.items (c.at.ensures ∙ ap (λ (r : List (ℕ × ℕ)). value_in r c.args.i) e) c.loop-at.invariant c.in_ok-put_nonzero.ensures
