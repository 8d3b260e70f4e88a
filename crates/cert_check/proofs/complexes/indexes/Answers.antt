use Rattle.std.{proofs.Common.{ℕ, ◌+◌, ◌∙◌, List, [], ◌∷◌, ◌++◌, sym, ap, subst, take, take_all}, specs.List.AllZip, proofs.lemmas.List.take_more}
use Rattle.linear_law.proofs.Names.{zip_push}
use Rattle.complex_file.specs.declared.block.ComplexBlock.{ComplexBlock}
use Rattle.complex_index.specs.Names.{IsIndexOf}
use Rattle.cert_check.proofs.complexes.indexes.Goals as goal

pub loop-block-preserved : goal.loop-block-preserved
loop-block-preserved c =
    let bs = c.args.blocks.now in
    let i = c.loop-block.block-index in
    let b = c.block-item.result in
    let R : List (List (List ℕ)) → ComplexBlock → Type 0 = λ x b. IsIndexOf b.facets x in
    subst (λ (xs : List (List (List (List ℕ)))). AllZip R xs (take (i + 1) bs)) (sym c.in_ok-push.ensures.items)
    (subst (AllZip R (c.loop-block.indexes.items ++ c.in_ok-of.field-0 ∷ [])) (sym (take_more bs i b c.loop-block-test.true ∙ ap (λ x. take i bs ++ x ∷ []) (sym c.block-item.is)))
    (zip_push R c.loop-block.indexes.items (take i bs) c.in_ok-of.field-0 b c.loop-block.invariant c.in_ok-of.ensures))

pub returns : goal.returns
returns c = subst (AllZip (λ x (b : ComplexBlock). IsIndexOf b.facets x) c.loop-block.indexes.items) (take_all c.loop-block.block-index c.args.blocks.now c.loop-block-test.false) c.loop-block.invariant
