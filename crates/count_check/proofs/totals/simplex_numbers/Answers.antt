use Rattle.std.proofs.Common.{◌∙◌, ◌++◌, ◌∷◌, [], sym, ap, ap₂, length, map}
use Rattle.complex_index.specs.Names.{level}
use Rattle.count_check.proofs.{LiveLemmas.{all_taken, map_taken}, TotalLemmas.counts_are}
use Rattle.count_check.proofs.totals.simplex_numbers.Goals as goal

pub loop-n-preserved : goal.loop-n-preserved
loop-n-preserved c =
    let levels = c.args.index.now in
    c.in_ok-push.ensures.items ∙ ap₂ (λ ns n. ns ++ n ∷ []) c.loop-n.invariant c.count.ensures ∙ sym (map_taken (λ n. length (level levels n)) c.args.degrees c.loop-n.n c.loop-n-test.true)

pub returns : goal.returns
returns c = λ facets index ascending.
    let levels = c.args.index.now in
    c.loop-n.invariant ∙ ap (map (λ n. length (level levels n))) (all_taken c.args.degrees c.loop-n.n c.loop-n-test.false) ∙ counts_are facets levels c.args.degrees index ascending
