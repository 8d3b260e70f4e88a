-- The facets of a complex, one behind the other.
use Rattle.std.{proofs.Common.{◌≡◌, ◌∙◌, ◌+◌, ◌<◌, ◌≤◌, ◌*◌, ◌-◌, ◌^◌, ◌&&◌, List, [], ◌∷◌, ◌++◌, ℕ, suc, Bool, true, false, cond, refl, sym, ap, subst, arith, length, append-nil, not, nat_lt, option_map, append_assoc, lit<, Ok, Some, None, nat_le, fold, is_none, leb-true, le-leb, ltb-false, ne_eqb}, specs.declared.option.Option.Option, specs.List.list_all, specs.List.Sorted.IsStrictlySortedBy, specs.Ordering.{nat_cmp, match_ordering}, specs.declared.cmp.Ordering.Ordering, specs.declared.cmp.Ordering.TheVariants.{Less, Equal, Greater}, specs.BTreeSet.insert_key, proofs.lemmas.List.Folds.list_all-append, proofs.lemmas.Bool.{and_from, and_parts}, proofs.lemmas.Bool.Decides.nat_tests, proofs.Math.Nat.{mul-le-mul_right, pow-le-pow_right, pow-suc}}
use Rattle.complex_file.{specs.Names.{BlockFault, InputKind, is_digit, is_not_empty, number_after, numbers, with_number, ascending, complex_fault, facet_fault, first_facet_fault, has_repeat, is_ascending, is_complex, is_facet, or_later, with_facet}, specs.Text.number, proofs.RepeatLemmas.{nothing_sorted, repeat_by_length, sorted_vertices}, proofs.Steps.{later_none, fault_free, none_from}}

-- numbers in front of others
abbrev pub with_front : List ℕ → Option (List ℕ) → Option (List ℕ)
with_front front = option_map (λ ns. front ++ ns)

-- ---- a facet more

-- where the facets have no fault and one behind them has none, all have none
free_more : (before : List (List ℕ)) (at : ℕ) (fs : List (List ℕ)) (f : List ℕ) → first_facet_fault before at fs ≡ None → facet_fault (before ++ fs) f ≡ None
    → first_facet_fault before at (fs ++ f ∷ []) ≡ None
free_more before at [] f h g = later_none (facet_fault before f) at None (ap (λ (b : List (List ℕ)). facet_fault b f) (sym (append-nil before)) ∙ g)
free_more before at (e ∷ fs) f h g = free_step (facet_fault before e) at (first_facet_fault (before ++ e ∷ []) (at + 1) fs) (first_facet_fault (before ++ e ∷ []) (at + 1) (fs ++ f ∷ [])) h
    (λ later. free_more (before ++ e ∷ []) (at + 1) fs f later (ap (λ (b : List (List ℕ)). facet_fault b f) (append_assoc before (e ∷ []) fs) ∙ g))
  where
    free_step : (o : Option InputKind) (at : ℕ) (rest more : Option BlockFault) → or_later o at rest ≡ None → (rest ≡ None → more ≡ None) → or_later o at more ≡ None
    free_step None at rest more h later = later h
    free_step (Some k) at rest more h later = absurd cc

-- ---- the list of a facet

all_step : (o : Ordering) (p : ℕ → Bool) (k x : ℕ) (xs more : List ℕ) → (p x && list_all p xs) ≡ true → p k ≡ true → list_all p more ≡ true
    → list_all p (match_ordering o (k ∷ x ∷ xs) (x ∷ xs) (x ∷ more)) ≡ true
all_step Less p k x xs more h pk m = and_from (p k) (p x && list_all p xs) pk h
all_step Equal p k x xs more h pk m = h
all_step Greater p k x xs more h pk m = and_from (p x) (list_all p more) (and_parts (p x) (list_all p xs) h).0 m

all_inserted : (p : ℕ → Bool) (k : ℕ) (ks : List ℕ) → list_all p ks ≡ true → p k ≡ true → list_all p (insert_key nat_cmp ks k) ≡ true
all_inserted p k [] h pk = and_from (p k) true pk refl
all_inserted p k (x ∷ xs) h pk = all_step (nat_cmp k x) p k x xs (insert_key nat_cmp xs k) h pk (all_inserted p k xs (and_parts (p x) (list_all p xs) h).1 pk)

-- what holds of each vertex holds of each in ascending order
all_sorted : (p : ℕ → Bool) (vs ks : List ℕ) → list_all p ks ≡ true → list_all p vs ≡ true → list_all p (fold (insert_key nat_cmp) ks vs) ≡ true
all_sorted p [] ks h g = h
all_sorted p (v ∷ vs) ks h g = let parts = and_parts (p v) (list_all p vs) g in all_sorted p vs (insert_key nat_cmp ks v) (all_inserted p v ks h parts.0) parts.1

less_test : (v w : ℕ) → nat_cmp v w ≡ Less → nat_lt v w ≡ true
less_test v w h = grind (arith, nat_tests)

sorted_ascends : (ks : List ℕ) → IsStrictlySortedBy nat_cmp ks → is_ascending ks ≡ true
unfolding IsStrictlySortedBy
sorted_ascends [] h = refl
sorted_ascends (v ∷ []) h = refl
sorted_ascends (v ∷ w ∷ ws) h = and_from (nat_lt v w) (is_ascending (w ∷ ws)) (less_test v w h.0.0) (sorted_ascends (w ∷ ws) h.1)

pub ascending_ascends : (vs : List ℕ) → is_ascending (ascending vs) ≡ true
ascending_ascends vs = sorted_ascends (ascending vs) (sorted_vertices vs [] nothing_sorted)

-- a list that can be a facet once its vertices ascend
pub record IsVertexList (vs : List ℕ) : Type 0 where
  pub some : 0 < length vs
  pub small : list_all (λ v. nat_le v 999999) vs ≡ true

pub not_empty : (xs : List ℕ) → 0 < length xs → is_not_empty xs ≡ true
not_empty [] h = absurd (omega arith)
not_empty (x ∷ xs) h = ap not (ne_eqb (suc (length xs)) 0 (λ e. absurd (omega arith)))

pub facet_from : (vs : List ℕ) → IsVertexList vs → has_repeat vs ≡ false → is_facet (ascending vs) ≡ true
facet_from vs h once =
    let size : length vs ≤ length (ascending vs) = ltb-false (length (ascending vs)) (length vs) (repeat_by_length vs ∙ once) in
    and_from (is_not_empty (ascending vs)) (is_ascending (ascending vs) && list_all (λ v. nat_le v 999999) (ascending vs))
    (not_empty (ascending vs) (omega (arith, h.some)))
    (and_from (is_ascending (ascending vs)) (list_all (λ v. nat_le v 999999) (ascending vs)) (ascending_ascends vs) (all_sorted (λ v. nat_le v 999999) vs [] refl h.small))

-- a complex with one more facet
pub complex_more : (facets more : List (List ℕ)) (vs : List ℕ) → is_complex facets ≡ true → IsVertexList vs → has_repeat vs ≡ false → with_facet facets (ascending vs) ≡ Ok more → is_complex more ≡ true
complex_more facets more vs h vertices once e =
    let free = fault_free (facet_fault facets (ascending vs)) (facets ++ ascending vs ∷ []) more e in
    let parts = and_parts (list_all is_facet facets) (is_none (complex_fault facets)) h in
    let none : complex_fault facets ≡ None = none_from (complex_fault facets) parts.1 in
    let all : list_all is_facet (facets ++ ascending vs ∷ []) ≡ true =
    list_all-append is_facet facets (ascending vs ∷ []) ∙ and_from (list_all is_facet facets) (is_facet (ascending vs) && true) parts.0 (and_from (is_facet (ascending vs)) true (facet_from vs vertices once) refl) in
    let still : complex_fault (facets ++ ascending vs ∷ []) ≡ None = free_more [] 0 facets (ascending vs) none free.first in
    subst (λ (fs : List (List ℕ)). is_complex fs ≡ true) free.second
    (and_from (list_all is_facet (facets ++ ascending vs ∷ [])) (is_none (complex_fault (facets ++ ascending vs ∷ []))) all (rw still refl))

-- ---- numbers

digit_bound : (b : ℕ) → is_digit b ≡ true → b - 48 ≤ 9
digit_bound b h = let upper : b ≤ 57 = leb-true b 57 (and_parts (nat_le 48 b) (nat_le b 57) h).1 in omega arith

number_bound : (bs : List ℕ) (v n : ℕ) → number_after v bs ≡ Some n → n < (v + 1) * 10 ^ length bs
number_bound [] v n h = let same : v ≡ n = cc in omega (arith, same)
number_bound (b ∷ bs) v n h = bound_step (is_digit b) b bs v n h (λ is. digit_bound b is) (λ e. number_bound bs (v * 10 + (b - 48)) n e)
  where
    bound_step : (t : Bool) (b : ℕ) (bs : List ℕ) (v n : ℕ) → cond t (number_after (v * 10 + (b - 48)) bs) None ≡ Some n → (t ≡ true → b - 48 ≤ 9)
        → (number_after (v * 10 + (b - 48)) bs ≡ Some n → n < (v * 10 + (b - 48) + 1) * 10 ^ length bs) → n < (v + 1) * 10 ^ suc (length bs)
    bound_step false b bs v n h d more = absurd cc
    bound_step true b bs v n h d more =
        let digit : b - 48 ≤ 9 = d refl in
        let less : (v * 10 + (b - 48) + 1) * 10 ^ length bs ≤ (v * 10 + 10) * 10 ^ length bs = mul-le-mul_right (10 ^ length bs) (omega arith) in
        let power : 10 ^ suc (length bs) ≡ 10 ^ length bs * 10 = pow-suc 10 (length bs) in
        rw power (omega (arith, more h, less))

pub number_small : (w : List ℕ) (n : ℕ) → number w ≡ Some n → nat_le n 999999 ≡ true
unfolding number
number_small w n h = small_step (is_not_empty w) (nat_le (length w) 6) h (λ e. leb-true (length w) 6 e) (λ e. number_bound w 0 n e)
  where
    small_step : (a b : Bool) → cond (a && b) (number_after 0 w) None ≡ Some n → (b ≡ true → length w ≤ 6) → (number_after 0 w ≡ Some n → n < (0 + 1) * 10 ^ length w) → nat_le n 999999 ≡ true
    small_step false b h l more = absurd cc
    small_step true false h l more = absurd cc
    small_step true true h l more =
        let power : 10 ^ length w ≤ 10 ^ 6 = pow-le-pow_right (lit< tt) {i = length w} {j = 6} (l refl) in
        le-leb n 999999 (omega (arith, more h, power))

pub numbers_small : (ws : List (List ℕ)) (ns : List ℕ) → numbers ws ≡ Some ns → list_all (λ v. nat_le v 999999) ns ≡ true
numbers_small [] ns h = let same : [] ≡ ns = cc in rw (← same) refl
numbers_small (w ∷ ws) ns h = numbers_step (number w) (numbers ws) ns h (λ n e. number_small w n e) (λ more e. numbers_small ws more e)
  where
    numbers_step : (o : Option ℕ) (os : Option (List ℕ)) (ns : List ℕ) → with_number o os ≡ Some ns → ((n : ℕ) → o ≡ Some n → nat_le n 999999 ≡ true)
        → ((more : List ℕ) → os ≡ Some more → list_all (λ v. nat_le v 999999) more ≡ true) → list_all (λ v. nat_le v 999999) ns ≡ true
    numbers_step None os ns h small all = absurd cc
    numbers_step (Some n) None ns h small all = absurd cc
    numbers_step (Some n) (Some more) ns h small all =
        let same : n ∷ more ≡ ns = cc in rw (← same) (and_from (nat_le n 999999) (list_all (λ v. nat_le v 999999) more) (small n refl) (all more refl))

pub numbers_length : (ws : List (List ℕ)) (ns : List ℕ) → numbers ws ≡ Some ns → length ns ≡ length ws
numbers_length [] ns h = let same : [] ≡ ns = cc in rw (← same) refl
numbers_length (w ∷ ws) ns h = length_step (number w) (numbers ws) ns h (λ more e. numbers_length ws more e)
  where
    length_step : (o : Option ℕ) (os : Option (List ℕ)) (ns : List ℕ) → with_number o os ≡ Some ns → ((more : List ℕ) → os ≡ Some more → length more ≡ length ws) → length ns ≡ suc (length ws)
    length_step None os ns h all = absurd cc
    length_step (Some n) None ns h all = absurd cc
    length_step (Some n) (Some more) ns h all = let same : n ∷ more ≡ ns = cc in rw (← same) (ap suc (all more refl))
