-- The terms with marks are those of the definition, and their sum is the composition.
use Rattle.std.proofs.{Common.{◌≡◌, ℕ, suc, ◌+◌, ◌-◌, ◌*◌, ◌≤◌, true, false, cond, eqb, List, [], ◌∷◌, ◌++◌, length, map, refl, sym, ap, ◌∙◌, arith, subst, ℤ, pos, negsuc, All}, lemmas.Int.ints, lemmas.List.length-map, lemmas.List.Elements.{All-head, All-tail, All-weaker}}
use Rattle.signed_sum.{specs.Names.{inversion_count, rearrangement_sign, stands_before, is_degenerate, numbers_from, normalized, value_at}, proofs.Names.{value_at-kept_terms, numbers_from-append}}
use Rattle.surjection_law.specs.Names.{caesura_count, arity, multiplicity}
use Rattle.interval_cut_law.specs.Names.{rising_lists}
use Rattle.operad_law.{specs.FormalSums.IsSameSum, specs.Parity.is_odd, proofs.WordLemmas.signed-odd}
use Rattle.composition_law.{specs.Surjections.{composition, cut_entries, cut_term, cuts_at, grown, lifted, spliced, symbols_of, values_of, with_values, IsRising}, proofs.Cuts.{IsCutOf, each_cut}}
use Rattle.surjection.{specs.Names.{AreComposed, IsSurjection-term, length-values, multiplicity-grown, occurs-k, values-with_values, IsReady, is_odd_order, marked, marked_term, terms_behind, AddsTerms, Mark, Outer, Inner}, proofs.OrderLemmas.spliced-ordered}

values-marked : (c : Mark) (u : List ℕ) → values_of (marked c u) ≡ u
values-marked c [] = refl
values-marked c (x ∷ u) = ap (λ w. x ∷ w) (values-marked c u)

pub values-renamed : (f : ℕ → ℕ) (c : Mark) (u : List ℕ) → values_of (with_values f (marked c u)) ≡ map f u
values-renamed f c u = values-with_values f (marked c u) ∙ ap (map f) (values-marked c u)

pub length-marked : (f : ℕ → ℕ) (c : Mark) (u : List ℕ) → length (with_values f (marked c u)) ≡ length u
length-marked f c u = sym (length-values (with_values f (marked c u))) ∙ ap length (values-renamed f c u) ∙ length-map u f

map-same : {X Y : Type 0} (f g : X → Y) (xs : List X) → All (λ x. f x ≡ g x) xs → map f xs ≡ map g xs
map-same f g [] a = refl
map-same f g (x ∷ xs) a = λ i. All-head (λ x. f x ≡ g x) x xs a i ∷ map-same f g xs (All-tail (λ x. f x ≡ g x) x xs a) i

pub multiplicity-short : (k : ℕ) (u : List ℕ) → multiplicity k u ≤ length u
multiplicity-short k [] = omega arith
multiplicity-short k (x ∷ u) = let h = multiplicity-short k u in elim (eqb k x) as (λ b. cond b (suc (multiplicity k u)) (multiplicity k u) ≤ suc (length u)) [ true ↦ omega (arith, h) | false ↦ omega (arith, h) ]

module _ (k : ℕ) (u v : List ℕ) (c : AreComposed k u v) where
  abbrev outer : List (ℕ × Mark)
  outer = with_values (grown k (arity v)) (marked Outer u)

  abbrev inner : List (ℕ × Mark)
  inner = with_values (lifted k) (marked Inner v)

  pub often : multiplicity k (values_of outer) ≡ multiplicity k u
  often = ap (multiplicity k) (values-renamed (grown k (arity v)) Outer u) ∙ multiplicity-grown k (arity v) u

  pub ready : IsReady k outer inner
  ready =
      let l = length-marked (lifted k) Inner v in
      let s = c.inner.some in
      let t = c.inner.short in
      record {
        some = omega (arith, l, s);
        short = omega (arith, l, t);
        valid = λ cut is plain. IsSurjection-term k u v outer inner c (values-renamed (grown k (arity v)) Outer u) (values-renamed (lifted k) Inner v) cut
            (subst (λ (n : ℕ). IsRising 0 cut (n - 1)) l is.rising) (is.long ∙ often) plain;
      }

  same-term : (cut : List ℕ) → IsRising 0 cut (length v - 1) → length cut + 1 ≡ multiplicity k u → marked_term k outer inner cut ≡ cut_term k u v cut
  same-term cut r m =
      let s = c.inner.some in
      let o = spliced-ordered k (grown k (arity v)) (lifted k) u 0 (caesura_count u) 0 (length v - 1) cut v (omega arith) r (m ∙ sym (multiplicity-grown k (arity v) u)) in
      let w = symbols_of (cut_entries k u v cut) in
      let e : numbers_from 0 (caesura_count u + caesura_count v) ≡ numbers_from 0 (caesura_count u) ++ numbers_from (caesura_count u) (caesura_count v)
      = numbers_from-append 0 (caesura_count u) (caesura_count v) ∙ (let z : 0 + caesura_count u ≡ caesura_count u = omega arith in ap (λ j. numbers_from 0 (caesura_count u) ++ numbers_from j (caesura_count v)) z) in
      let n : 0 * caesura_count u + inversion_count (stands_before w) (numbers_from 0 (caesura_count u) ++ numbers_from (caesura_count u) (caesura_count v)) ≡ inversion_count (stands_before w) (numbers_from 0 (caesura_count u + caesura_count v))
      = omega (arith, ap (inversion_count (stands_before w)) e) in
      let odd : is_odd_order (spliced k 0 inner outer cut) ≡ is_odd (inversion_count (stands_before w) (numbers_from 0 (caesura_count u + caesura_count v)))
      = o.order (omega arith) 0 false ∙ ap is_odd n in
      let sign : cond (is_odd_order (spliced k 0 inner outer cut)) (negsuc 0) (pos 1) ≡ rearrangement_sign (numbers_from 0 (caesura_count u + caesura_count v)) w
      = ap (λ b. cond b (negsuc 0) (pos 1)) odd ∙ sym (signed-odd (inversion_count (stands_before w) (numbers_from 0 (caesura_count u + caesura_count v)))) in
      λ i. (sym o.values i, sign i)

  same-terms : terms_behind k outer inner [] (cuts_at k u v) ≡ map (cut_term k u v) (cuts_at k u v)
  same-terms =
      let m = occurs-k k u v c in
      map-same (λ p. marked_term k outer inner ([] ++ p)) (cut_term k u v) (cuts_at k u v)
      (All-weaker (IsCutOf 0 (length v - 1) (multiplicity k u - 1)) (λ p. marked_term k outer inner ([] ++ p) ≡ cut_term k u v p)
      (λ p q. same-term p q.0 (let w = q.1 in omega arith)) (cuts_at k u v) (each_cut (multiplicity k u - 1) (length v - 1) 0 (length v - 1) (omega arith)))

  same-sum : (sum : List (List ℕ × ℤ)) → AddsTerms (terms_behind k outer inner [] (cuts_at k u v)) [] sum → IsSameSum sum (composition k u v)
  same-sum sum a = record {
    at = λ phi.
        let s = a.sums phi in
        let e = ap (value_at (normalized phi)) same-terms in
        let f = value_at-kept_terms is_degenerate phi (map (cut_term k u v) (cuts_at k u v)) in
        omega (arith, ints, s, e, f);
  }

  pub summed : (outer' inner' : List (ℕ × Mark)) (cut : List ℕ) (m : ℕ) (old sum : List (List ℕ × ℤ)) → outer' ≡ outer → inner' ≡ inner → cut ≡ [] → m ≡ multiplicity k u → old ≡ [] →
      AddsTerms (terms_behind k outer' inner' cut (rising_lists 0 (length inner' - 1 - 0) (m - 1))) old sum → IsSameSum sum (composition k u v)
  summed outer' inner' cut m old sum eo ei ec em es a =
      let l : length inner' - 1 - 0 ≡ length v - 1 = omega (arith, ap length ei, length-marked (lifted k) Inner v) in
      let e : terms_behind k outer' inner' cut (rising_lists 0 (length inner' - 1 - 0) (m - 1)) ≡ terms_behind k outer inner [] (cuts_at k u v) = (λ i. terms_behind k (eo i) (ei i) (ec i) (rising_lists 0 (l i) (em i - 1))) in
      same-sum sum (subst (λ (ts : List (List ℕ × ℤ)). AddsTerms ts [] sum) e (subst (λ (o : List (List ℕ × ℤ)). AddsTerms (terms_behind k outer' inner' cut (rising_lists 0 (length inner' - 1 - 0) (m - 1))) o sum) es a))
