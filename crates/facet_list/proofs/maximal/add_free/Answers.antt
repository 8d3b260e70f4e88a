use Rattle.std.{proofs.Common.{◌≡◌, ◌+◌, ℕ, List, [], false, true, ◌<◌, ◌∙◌, arith, ap, sym, subst, get_or, length}, specs.BTreeSet.insert_key}
use Rattle.simplicial_law.specs.Names.{simplex_cmp}
use Rattle.complex_index.specs.Names.{level}
use Rattle.facet_list.{specs.Covered.AddsBelow, proofs.MarkLemmas.{added, all_added, left_out, read_mark}, proofs.maximal.add_free.Goals.{then-not-index+in_ok-new+in_ok-insert, else-not-index}}
use Rattle.facet_list.proofs.maximal.add_free.Goals as goal

pub loop-place-preserved : goal.loop-place-preserved
loop-place-preserved c =
    let levels = c.args.index.now in
    let n = c.args.n in
    let x = c.loop-place.place in
    let old = c.args.found.now.keys in
    let found = c.loop-place.found.keys in
    let marks = c.in_ok-covered.covered.items in
    let covers = c.in_ok-covered.ensures in
    let inside : x < length (level levels n) = (let t = c.loop-place-test.true in let e = c.count-place-end.ensures in omega (arith, t, e)) in
    let read : get_or marks x false ≡ c.index.result.now = read_mark marks x c.index.result.now (let e = covers.len in omega (arith, e, inside)) c.index.ensures in
    elim c.if-not-index.branch [
      | then-not-index+in_ok-new+in_ok-insert w ↦
          added levels n x marks old found inside covers c.if-not-index.found.keys (read ∙ w.if-not-index.true)
          (ap (λ f. f.keys) w.found-is ∙ w.in_ok-insert.ensures.keys ∙ ap (λ (s : List ℕ). insert_key simplex_cmp found s) (w.in_ok-new.ensures ∙ w.simplex.ensures)) c.loop-place.invariant
      | else-not-index w ↦
          subst (λ (new : List (List ℕ)). AddsBelow levels n (x + 1) old new) (sym (ap (λ f. f.keys) w.found-is))
          (left_out levels n x marks old found inside covers (read ∙ w.if-not-index.false) c.loop-place.invariant)
    ]

pub returns : goal.returns
returns c = all_added c.args.index.now c.args.n c.loop-place.place c.args.found.now.keys c.loop-place.found.keys (let t = c.loop-place-test.false in let e = c.count-place-end.ensures in omega (arith, t, e)) c.loop-place.invariant
