use Rattle.std.proofs.Common.{◌≤◌, ◌^◌, ◌∙◌, List, Err, Ok, [], lit<, map, subst, sym, IsTrue, flat_map, fold, is_some}
use Rattle.std.specs.{BTreeSet.insert_key, Ordering.nat_cmp}
use Rattle.linear_law.specs.Names.{Each}
use Rattle.may_elements.specs.Stored.{stored_at}
use Rattle.table_reduction_law.specs.Names.{candidate_count}
use Rattle.term_total.{specs.Names.{AreReady, CanBeMade, Charges, IsThere, elements_in, row_numbers, uses, Row}, proofs.ElementLemmas.{each-use}, proofs.ReadyLemmas.{plan-low, plan-made}, proofs.TotalLemmas.{all-charged, first-refused, on-ok, total-passes, total-used, total-within}}
use Rattle.term_total.proofs.terms.total.Goals as goal

pub charge_elements-requires : goal.charge_elements-requires
charge_elements-requires g c =
    record { prime = c.requires.prime; low = subst (λ rows. Each (λ d. d ≤ 60) (elements_in rows)) (sym (c.deref.ensures.value ∙ c.in-Ok.ensures)) (plan-low g.row.P c.requires.prime c.args.parts.now c.requires.parts) }

pub store_rows-requires : goal.store_rows-requires
store_rows-requires g c =
    let p = g.row.P in
    let few = subst (λ rows. Each (λ d. candidate_count p d ≤ 10 ^ 12) (elements_in rows)) (c.deref.ensures.value ∙ c.in-Ok.ensures) c.in_ok-charge_elements.ensures.few in
    (lit< tt, (c.requires.prime, subst (Each (AreReady p (λ d q. CanBeMade p d))) (sym (c.deref-2.ensures.value ∙ c.in-Ok.ensures)) (plan-made p c.requires.prime c.args.parts.now c.requires.parts few)))

pub charge_plan-requires : goal.charge_plan-requires
charge_plan-requires g c =
    let Ready = AreReady g.row.P (IsThere c.store_rows.new.table) in
    (lit< tt, (c.requires.prime, subst (Each Ready) (c.deref-2.ensures.value ∙ sym c.deref-3.ensures.value) c.in-Ok-store_rows.ensures.stored))

pub returns-in_err-charge_elements-clause-passes : goal.returns-in_err-charge_elements-clause-passes
returns-in_err-charge_elements-clause-passes g c = λ o k.
    let p = g.row.P in
    let zs = c.args.parts.now in
    let old = c.args.terms.now in
    let now = c.charge_elements.new.terms in
    let f = c.in_err-charge_elements.field-0.0 in
    let first = subst (λ (rs : List Row). Charges old (map (candidate_count p) (fold (insert_key nat_cmp) [] (elements_in rs))) (Err f) now) (c.deref.ensures.value ∙ c.in-Ok.ensures) c.in_err-charge_elements.ensures.charged in
    total-passes p zs old now now c.requires.unused c.from_residual.result o k (first-refused p zs old now now c.from_residual.result f first c.from_residual.ensures)

pub returns-clause-stored : goal.returns-clause-stored
returns-clause-stored g c =
    let p = g.row.P in
    let zs = c.args.parts.now in
    let table = c.store_rows.new.table in
    on-ok c.charge_plan.result (Each (λ u. IsTrue (is_some (stored_at u.0 u.1 table))) (uses p zs))
    (each-use p (IsThere table) zs (subst (Each (AreReady p (IsThere table))) (c.deref-2.ensures.value ∙ c.in-Ok.ensures) c.in-Ok-store_rows.ensures.stored))

pub returns-clause-within : goal.returns-clause-within
returns-clause-within g c =
    let p = g.row.P in
    let zs = c.args.parts.now in
    let old = c.args.terms.now in
    let mid = c.charge_elements.new.terms in
    let new = c.charge_plan.new.terms in
    let u = c.in_ok-charge_elements.field-0 in
    let r = c.charge_plan.result in
    let first = subst (λ (rs : List Row). Charges old (map (candidate_count p) (fold (insert_key nat_cmp) [] (elements_in rs))) (Ok u) mid) (c.deref.ensures.value ∙ c.in-Ok.ensures) c.in_ok-charge_elements.ensures.charged in
    let rest = subst (λ (rs : List Row). Charges mid (flat_map (row_numbers p) rs) r new) (c.deref-3.ensures.value ∙ c.in-Ok.ensures) c.charge_plan.ensures in
    total-within p zs old mid new c.requires.unused r (all-charged p zs old mid new u r first rest)

pub returns-clause-used : goal.returns-clause-used
returns-clause-used g c =
    let p = g.row.P in
    let zs = c.args.parts.now in
    let old = c.args.terms.now in
    let mid = c.charge_elements.new.terms in
    let new = c.charge_plan.new.terms in
    let u = c.in_ok-charge_elements.field-0 in
    let r = c.charge_plan.result in
    let first = subst (λ (rs : List Row). Charges old (map (candidate_count p) (fold (insert_key nat_cmp) [] (elements_in rs))) (Ok u) mid) (c.deref.ensures.value ∙ c.in-Ok.ensures) c.in_ok-charge_elements.ensures.charged in
    let rest = subst (λ (rs : List Row). Charges mid (flat_map (row_numbers p) rs) r new) (c.deref-3.ensures.value ∙ c.in-Ok.ensures) c.charge_plan.ensures in
    total-used p zs old mid new c.requires.unused r (all-charged p zs old mid new u r first rest)

pub returns-clause-passes : goal.returns-clause-passes
returns-clause-passes g c = λ o k.
    let p = g.row.P in
    let zs = c.args.parts.now in
    let old = c.args.terms.now in
    let mid = c.charge_elements.new.terms in
    let new = c.charge_plan.new.terms in
    let u = c.in_ok-charge_elements.field-0 in
    let r = c.charge_plan.result in
    let first = subst (λ (rs : List Row). Charges old (map (candidate_count p) (fold (insert_key nat_cmp) [] (elements_in rs))) (Ok u) mid) (c.deref.ensures.value ∙ c.in-Ok.ensures) c.in_ok-charge_elements.ensures.charged in
    let rest = subst (λ (rs : List Row). Charges mid (flat_map (row_numbers p) rs) r new) (c.deref-3.ensures.value ∙ c.in-Ok.ensures) c.charge_plan.ensures in
    total-passes p zs old mid new c.requires.unused r o k (all-charged p zs old mid new u r first rest)
