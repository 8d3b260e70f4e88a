use Rattle.std.{proofs.Common.{◌≤◌, ◌^◌, ◌∙◌, append-nil, map, subst, sym}, specs.FinMap.nat_cmp-IsAntisymmetric, specs.Ordering.nat_cmp, proofs.lemmas.Cmp.nat_cmp_total, proofs.lemmas.Result.on_ok_weaker}
use Rattle.linear_law.specs.Names.{Each}
use Rattle.table_reduction_law.specs.Names.{candidate_count}
use Rattle.term_total.{specs.Names.{Charges, elements_in}, proofs.ChargeLemmas.charged-small, proofs.KeyLemmas.{each-key, key-each}}
use Rattle.term_total.proofs.elements.charge_elements.Goals as goal

pub candidates_of-requires : goal.candidates_of-requires
candidates_of-requires g c =
    record {
      prime = c.requires.prime;
      low = subst (Each (λ d. d ≤ 60)) (sym (c.deref.ensures.value ∙ c.in-Ok.ensures)) (each-key nat_cmp nat_cmp_total nat_cmp-IsAntisymmetric (λ d. d ≤ 60) (elements_in c.args.rows.now) c.requires.low);
    }

pub returns-clause-charged : goal.returns-clause-charged
returns-clause-charged g c =
    let p = g.row.P in
    let old = c.args.terms.now in
    let ns = map (candidate_count p) c.deref.result.now in
    let degrees = c.deref.ensures.value ∙ c.in-Ok.ensures in
    subst (λ ds. Charges old (map (candidate_count p) ds) c.charge_rows.result c.charge_rows.new.terms) degrees
    (subst (λ ms. Charges old ms c.charge_rows.result c.charge_rows.new.terms) (append-nil ns) (c.charge_rows.ensures.charged ns (c.deref-2.ensures.value ∙ c.in-Ok-candidates_of.ensures)))

pub returns-clause-few : goal.returns-clause-few
returns-clause-few g c =
    let p = g.row.P in
    let old = c.args.terms.now in
    let ns = map (candidate_count p) c.deref.result.now in
    let degrees = c.deref.ensures.value ∙ c.in-Ok.ensures in
    let new = c.charge_rows.new.terms in
    let r = c.charge_rows.result in
    let charged = subst (λ ms. Charges old ms r new) (append-nil ns) (c.charge_rows.ensures.charged ns (c.deref-2.ensures.value ∙ c.in-Ok-candidates_of.ensures)) in
    on_ok_weaker r (λ h. key-each nat_cmp nat_cmp_total nat_cmp-IsAntisymmetric (λ d. candidate_count p d ≤ 10 ^ 12) (elements_in c.args.rows.now) (subst (Each (λ d. candidate_count p d ≤ 10 ^ 12)) degrees h))
    (charged-small (candidate_count p) old new c.deref.result.now r c.charge_rows.ensures.count charged)
