use Rattle.std.{proofs.Common.{ℕ, ◌∙◌, sym, ap, subst, List}, specs.List.AllZip}
use Rattle.linear_law.{specs.Names.Each, proofs.Names.each_of_map}
use Rattle.complex_file.specs.declared.block.ComplexBlock.{ComplexBlock}
use Rattle.complex_index.specs.Names.{IsIndexOf}
use Rattle.certificate_law.specs.Names.{itself}
use Rattle.certificate_walk.specs.declared.stop.Stop.TheVariants.{Fails}
use Rattle.cert_check.{specs.Ready.{CanIndex, IsKept}, proofs.ReadyLemmas.{all_can_index, first_fails, kept_all, zip_unmap}}
use Rattle.cert_check.proofs.checked.check_over.Goals as goal

pub indexes-requires : goal.indexes-requires
indexes-requires g c =
    let r = c.args.report.now in
    subst (Each (λ (b : ComplexBlock). CanIndex b.facets)) (sym (c.deref.ensures.value ∙ c.in-Ok.ensures.kept))
    (each_of_map (λ (b : ComplexBlock). CanIndex b.facets) itself r.complexes (all_can_index r c.requires.well_formed ((c.in-Ok.ensures.walk r.prime).1)))

pub conditions-requires-clause-kept : goal.conditions-requires-clause-kept
conditions-requires-clause-kept g c =
    let r = c.args.report.now in
    let R : List (List (List ℕ)) → ComplexBlock → Type 0 = λ x b. IsIndexOf b.facets x in
    subst (λ (xs : List (List (List (List ℕ)))). AllZip (IsKept g.row.P) xs r.complexes) (sym c.deref-in-Ok.ensures.value)
    (kept_all g.row.P r c.in_ok-indexes-in-Ok.indexes.items c.requires.prime_is c.requires.well_formed ((c.in-Ok.ensures.walk r.prime).1)
    (zip_unmap R itself c.in_ok-indexes-in-Ok.indexes.items r.complexes (subst (AllZip R c.in_ok-indexes-in-Ok.indexes.items) (c.deref.ensures.value ∙ c.in-Ok.ensures.kept) c.in_ok-indexes-in-Ok.ensures)))

pub conditions-requires-clause-blocks : goal.conditions-requires-clause-blocks
conditions-requires-clause-blocks g c = (c.in-Ok.ensures.walk c.args.report.now.prime).1

pub returns-in-Err-Fails : goal.returns-in-Err-Fails
returns-in-Err-Fails g c = let r = c.args.report.now in first_fails r _ c.in-Err-Fails.field-0 (c.in-Err-Fails.field-0-is ∙ ap Fails (sym c.in-Err-Fails.line-is)) (c.in-Err-Fails.ensures.walk r.prime)
