-- The total: the May elements, and then the rows.
use Rattle.std.{proofs.Common.{◌≡◌, ℕ, ◌+◌, arith, sym, ◌∙◌, ap, subst, List, [], ◌++◌, map, Result, Ok, Err, None, Some, flat_map, fold, OnOk, append-nil}, specs.BTreeSet.insert_key, specs.Ordering.nat_cmp, specs.Result.{IsErr, IsErrAnd}}
use Rattle.table_reduction_law.specs.Names.{candidate_count}
use Rattle.may_elements.specs.{Counted.{Count, counted}, declared.elements.MayRefused.MayRefused, declared.elements.MayRefused.TheVariants.TooManyTerms, declared.terms.Over.Over}
use Rattle.report.specs.declared.plan.Sizes.{Sizes}
use Rattle.report_law.specs.Names.{addends, elements, first_past, passing_sum}
use Rattle.term_total.{specs.Names.{Charges, elements_in, sum_of, plan, row_numbers}, proofs.ElementLemmas.elements-are, proofs.ChargeLemmas.{IsLeft, all-left, left-err, left-less, left-refused, none-left}, proofs.PlanLemmas.plan-numbers}

-- numbers, and then others
charges-then : (old mid new : Count) (xs ys : List ℕ) (u : Unit) (r : Result Unit MayRefused) → Charges old xs (Ok u) mid → Charges mid ys r new → Charges old (xs ++ ys) r new
charges-then old mid new xs ys u r c d = go r d
  where
    left : IsLeft old mid (xs ++ ys) (ys ++ [])
    left = subst (IsLeft old mid (xs ++ ys)) (sym (append-nil ys)) (left-less old old mid (xs ++ ys) xs ys (all-left old (xs ++ ys)) u c)

    go : (r : Result Unit MayRefused) → Charges mid ys r new → Charges old (xs ++ ys) r new
    go (Ok v) e = none-left old new (xs ++ ys) v (left-less old mid new (xs ++ ys) ys [] left v e)
    go (Err f) e = left-err old mid new (xs ++ ys) ys [] left new f e

module _ (p : ℕ) (zs : List Sizes) (old mid new : Count) where
  -- the candidates of the May elements of all rows
  abbrev first : List ℕ
  first = map (candidate_count p) (fold (insert_key nat_cmp) [] (elements_in (plan p zs)))

  first-is : first ≡ map (candidate_count p) (elements p zs)
  first-is = ap (map (candidate_count p)) (elements-are p zs)

  pub all-charged : (u : Unit) (r : Result Unit MayRefused) → Charges old first (Ok u) mid → Charges mid (flat_map (row_numbers p) (plan p zs)) r new → Charges old (addends p zs) r new
  all-charged u r c d = charges-then old mid new (map (candidate_count p) (elements p zs)) _ u r (subst (λ ns. Charges old ns (Ok u) mid) first-is c) (subst (λ ns. Charges mid ns r new) (plan-numbers p zs) d)

  pub first-refused : (r : Result Unit MayRefused) (e : MayRefused) → Charges old first (Err e) mid → IsErr r × IsErrAnd r (λ f. f ≡ e) → Charges old (addends p zs) r new
  first-refused r e c k = left-refused old old mid (addends p zs) (map (candidate_count p) (elements p zs)) _ (all-left old (addends p zs)) new r e (subst (λ ns. Charges old ns (Err e) mid) first-is c) k

  module _ (unused : old.used ≡ 0) where
    pub total-within : (r : Result Unit MayRefused) → Charges old (addends p zs) r new → OnOk r (passing_sum p old.limit zs ≡ None)
    total-within (Ok u) c = ap (λ (s : ℕ). first_past old.limit s (addends p zs)) (sym unused) ∙ c.0
    total-within (Err e) c = tt

    pub total-used : (r : Result Unit MayRefused) → Charges old (addends p zs) r new → OnOk r (new ≡ counted old.limit (sum_of (addends p zs)))
    total-used (Ok u) c = c.1 ∙ ap (counted old.limit) (let e : old.used + sum_of (addends p zs) ≡ sum_of (addends p zs) = omega (arith, unused) in e)
    total-used (Err e) c = tt

    pub total-passes : (r : Result Unit MayRefused) (o : Over) → r ≡ Err (TooManyTerms o) → Charges old (addends p zs) r new → (passing_sum p old.limit zs ≡ Some o.count) × (o.limit ≡ old.limit)
    total-passes r o e c =
        let d : Charges old (addends p zs) (Err (TooManyTerms o)) new = subst (λ (s : Result Unit MayRefused). Charges old (addends p zs) s new) e c in
        (ap (λ (s : ℕ). first_past old.limit s (addends p zs)) (sym unused) ∙ d.0, d.1)

pub on-ok : (r : Result Unit MayRefused) (P : Type 0) → P → OnOk r P
on-ok (Ok u) P h = h
on-ok (Err e) P h = tt
