-- What well-formed lines tell: facets ascend, values are below the prime, and chains are terms in order.
use Rattle.std.{proofs.Common.{◌≡◌, ℕ, zero, suc, ◌<◌, ◌&&◌, Bool, true, refl, sym, ◌∙◌, ap, subst, arith, List, [], ◌∷◌, map, nat_lt, ltb-true}, specs.List.list_all, specs.Ordering.is_lt, specs.declared.cmp.Ordering.Ordering, specs.declared.cmp.Ordering.TheVariants.Less, specs.Cmp.Lexicographic.nat_list_cmp_total, proofs.lemmas.Bool.and_parts}
use Rattle.linear_law.{specs.Names.{Each, IsAscending}, proofs.Names.{each_get_or, each_map, each_of_map}}
use Rattle.simplicial_law.specs.Names.{IsInOrder, IsSimplex, Precedes, Chain, AreTerms, simplex_cmp}
use Rattle.complex_file.specs.Names.{is_ascending}
use Rattle.report_law.{specs.Names.AreTermsBelow, proofs.Names.{ascends as ascending-list, each-all}}
use Rattle.certificate_law.specs.{Types.cartan_no, Names.{IsOn, IsOnBelow}}
use Rattle.report_text_law.specs.Names.{are_values, ascends, is_chain, is_line, is_simplex, is_u32, is_term, is_unit, is_vertex, terms_ascend}

same_test : (vs : List ℕ) → ascends vs ≡ is_ascending vs
same_test (v ∷ w ∷ ws) = ap (λ (b : Bool). nat_lt v w && b) (same_test (w ∷ ws))
same_test _ = refl

pub facet_ascends : (f : List ℕ) → is_simplex f ≡ true → IsAscending f
facet_ascends [] h = tt
facet_ascends (v ∷ vs) h = ascending-list (v ∷ vs) (sym (same_test (v ∷ vs)) ∙ (and_parts (list_all is_vertex (v ∷ vs)) (ascends (v ∷ vs)) h).1)

pub values_below : (p : ℕ) (vs : List ℕ) → are_values p vs ≡ true → Each (λ v. v < p) vs
values_below p [] h = tt
values_below p (v ∷ vs) h = let parts = and_parts (nat_lt v p) (are_values p vs) h in (ltb-true v p parts.0, values_below p vs parts.1)

unit_bounds : (p v : ℕ) → is_unit p v ≡ true → (0 < v) × (v < p)
unit_bounds p v h = let parts = and_parts (nat_lt 0 v) (nat_lt v p) h in (ltb-true 0 v parts.0, ltb-true v p parts.1)

last_test : (a b c d e f : Bool) → (a && (b && (c && (d && (e && f))))) ≡ true → f ≡ true
last_test a b c d e f h =
    (and_parts e f (and_parts d (e && f) (and_parts c (d && (e && f)) (and_parts b (c && (d && (e && f))) (and_parts a (b && (c && (d && (e && f)))) h).1).1).1).1).1

-- the value of a no
pub value_bounds : (p a i b j n v : ℕ) → is_line p (cartan_no a i b j n v) ≡ true → (0 < v) × (v < p)
value_bounds p a i b j n v h = unit_bounds p v (last_test (is_u32 a) (is_u32 i) (is_u32 b) (is_u32 j) (is_u32 n) (is_unit p v) h)

-- ---- chains

coefficients : (p : ℕ) (ts : Chain) → list_all (is_term p) ts ≡ true → Each (λ t. (0 < t.0) × (t.0 < p)) ts
coefficients p ts h = each-all (is_term p) (λ t. (0 < t.0) × (t.0 < p)) (λ t k. unit_bounds p t.0 (and_parts (is_unit p t.0) (is_simplex t.1) k).0) ts h

less : (o : Ordering) → is_lt o ≡ true → o ≡ Less
less Less h = refl
less _ h = absurd cc

InOrder : Chain → Type 0
InOrder [] = Unit {0}
InOrder (t ∷ ts) = Each (λ u. Precedes t.1 u.1) ts × InOrder ts

terms_order : (ts : Chain) → terms_ascend ts ≡ true → InOrder ts
unfolding InOrder
terms_order [] h = tt
terms_order (t ∷ []) h = (tt, tt)
terms_order (t ∷ u ∷ us) h =
    let parts = and_parts (is_lt (simplex_cmp t.1 u.1)) (terms_ascend (u ∷ us)) h in
    let first : Precedes t.1 u.1 = less (simplex_cmp t.1 u.1) parts.0 in
    let rest = terms_order (u ∷ us) parts.1 in
    ((first, each_map (λ (w : ℕ × List ℕ) k. nat_list_cmp_total.trans t.1 u.1 w.1 first k) us rest.0), rest)

in_order : (ts : Chain) → InOrder ts → IsInOrder (map (λ t. t.1) ts)
unfolding InOrder
in_order [] h j k b c = absurd (omega (arith, c))
in_order (t ∷ ts) h j zero b c = absurd (omega (arith, b))
in_order (t ∷ ts) h zero (suc k) b c = each_get_or (Precedes t.1) (map (λ (u : ℕ × List ℕ). u.1) ts) k [] (omega (arith, c)) (each_of_map (Precedes t.1) (λ (u : ℕ × List ℕ). u.1) ts h.0)
in_order (t ∷ ts) h (suc j) (suc k) b c = in_order ts h.1 j k (omega (arith, b)) (omega (arith, c))

pub are_terms : (facets : List (List ℕ)) (n p : ℕ) (ts : Chain) → is_chain p ts ≡ true → IsOn facets n ts → AreTerms facets n p ts
are_terms facets n p ts h on =
    let parts = and_parts (list_all (is_term p) ts) (terms_ascend ts) h in
    record { coefficients = coefficients p ts parts.0; simplices = on; in_order = in_order ts (terms_order ts parts.1) }

pub are_terms_below : (facets : List (List ℕ)) (n p : ℕ) (ts : Chain) → is_chain p ts ≡ true → IsOnBelow facets n ts → AreTermsBelow facets n p ts
are_terms_below facets zero p [] h on = refl
are_terms_below facets zero p (t ∷ ts) h on = absurd (let e = on.0.one_less in omega (arith, e))
are_terms_below facets (suc n) p ts h on =
    are_terms facets n p ts h (each_map (λ (t : ℕ × List ℕ) k. let one = k.one_less in let e : k.degree ≡ n = omega (arith, one) in subst (λ (m : ℕ). IsSimplex facets m t.1) e k.simplex) ts on)
