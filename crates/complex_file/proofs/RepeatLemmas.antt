-- Vertices of which some stands twice are more than those in ascending order.
use Rattle.std.{proofs.Common.{◌≡◌, ◌∙◌, ◌≤◌, ◌||◌, List, [], ◌∷◌, ℕ, suc, Bool, true, false, refl, ap, subst, arith, length, nat_lt, nat_eq, fold, lt-ltb, ltb-false}, specs.Cmp.nat_eq_equiv, specs.List.IsDistinct, specs.List.Sorted.IsStrictlySortedBy, specs.Ordering.{eq_by_cmp, nat_cmp, match_ordering}, specs.Set.distinct_count, specs.declared.cmp.Ordering.Ordering, specs.declared.cmp.Ordering.TheVariants.{Less, Equal, Greater}, specs.BTreeSet.insert_key, proofs.lemmas.Cmp.nat_cmp_total, proofs.lemmas.Bool.Decides.nat_tests, proofs.lemmas.Map.Keys.IsDistinct-from_sorted, proofs.lemmas.Map.Made.{distinct_count-le, length-from_keys}}
use Rattle.simplicial_law.proofs.Names.{sorted_inserted}
use Rattle.complex_file.specs.Names.{ascending, has_repeat, has_vertex}

pub nothing_sorted : IsStrictlySortedBy nat_cmp []
unfolding IsStrictlySortedBy
nothing_sorted = tt

pub sorted_vertices : (vs ks : List ℕ) → IsStrictlySortedBy nat_cmp ks → IsStrictlySortedBy nat_cmp (fold (insert_key nat_cmp) ks vs)
sorted_vertices [] ks h = h
sorted_vertices (v ∷ vs) ks h = sorted_vertices vs (insert_key nat_cmp ks v) (sorted_inserted nat_cmp nat_cmp_total v ks h)

or_turned : (a b c : Bool) → (a || (b || c)) ≡ (b || (a || c))
or_turned true true c = refl
or_turned true false c = refl
or_turned false b c = refl

put_step : (o : Ordering) (k x w : ℕ) (xs more : List ℕ) → nat_cmp k x ≡ o → has_vertex more w ≡ (nat_eq w k || has_vertex xs w)
    → has_vertex (match_ordering o (k ∷ x ∷ xs) (x ∷ xs) (x ∷ more)) w ≡ (nat_eq w k || (nat_eq w x || has_vertex xs w))
put_step Less k x w xs more h rest = refl
put_step Equal k x w xs more h rest = twice (nat_eq w k) (nat_eq w x) (has_vertex xs w) (same_test k x w h)
  where
    same_test : (k x w : ℕ) → nat_cmp k x ≡ Equal → nat_eq w k ≡ nat_eq w x
    same_test k x w h = grind (arith, nat_tests)

    twice : (a b c : Bool) → a ≡ b → (b || c) ≡ (a || (b || c))
    twice true b c e = rw (← e) refl
    twice false b c e = refl
put_step Greater k x w xs more h rest = ap (λ (b : Bool). nat_eq w x || b) rest ∙ or_turned (nat_eq w x) (nat_eq w k) (has_vertex xs w)

-- the vertices after one is put in
vertex_put : (ks : List ℕ) (k w : ℕ) → has_vertex (insert_key nat_cmp ks k) w ≡ (nat_eq w k || has_vertex ks w)
vertex_put [] k w = refl
vertex_put (x ∷ xs) k w = put_step (nat_cmp k x) k x w xs (insert_key nat_cmp xs k) refl (vertex_put xs k w)

vertices_put : (vs ks : List ℕ) (w : ℕ) → has_vertex (fold (insert_key nat_cmp) ks vs) w ≡ (has_vertex vs w || has_vertex ks w)
vertices_put [] ks w = refl
vertices_put (v ∷ vs) ks w =
    vertices_put vs (insert_key nat_cmp ks v) w
    ∙ ap (λ (b : Bool). has_vertex vs w || b) (vertex_put ks v w)
    ∙ or_turned (has_vertex vs w) (nat_eq w v) (has_vertex ks w)
    ∙ or_grouped (nat_eq w v) (has_vertex vs w) (has_vertex ks w)
  where
    or_grouped : (a b c : Bool) → (a || (b || c)) ≡ ((a || b) || c)
    or_grouped true b c = refl
    or_grouped false b c = refl

or_false : (b : Bool) → (b || false) ≡ b
or_false true = refl
or_false false = refl

-- in ascending order each vertex stands once
ascending_counts : (vs : List ℕ) → length (ascending vs) ≡ distinct_count nat_eq vs
ascending_counts vs =
    length-from_keys nat_eq_equiv (ascending vs) vs
    (subst (λ (eq : ℕ → ℕ → Bool). IsDistinct eq (ascending vs)) (λ i v w. same_test v w i) (IsDistinct-from_sorted nat_cmp (ascending vs) (sorted_vertices vs [] nothing_sorted)))
    (λ w. vertices_put vs [] w ∙ or_false (has_vertex vs w))
  where
    same_test : (v w : ℕ) → eq_by_cmp nat_cmp v w ≡ nat_eq v w
    same_test v w = grind (arith, nat_tests)

less_next : (m n : ℕ) → nat_lt (suc m) (suc n) ≡ nat_lt m n
less_next m n = grind (arith, nat_tests)

counts_repeat : (vs : List ℕ) → nat_lt (distinct_count nat_eq vs) (length vs) ≡ has_repeat vs
counts_repeat [] = refl
counts_repeat (v ∷ vs) = by_vertex (has_vertex vs v) refl (counts_repeat vs) (distinct_count-le nat_eq vs)
  where
    by_vertex : (b : Bool) → has_vertex vs v ≡ b → nat_lt (distinct_count nat_eq vs) (length vs) ≡ has_repeat vs → distinct_count nat_eq vs ≤ length vs
        → nat_lt (distinct_count nat_eq (v ∷ vs)) (suc (length vs)) ≡ (has_vertex vs v || has_repeat vs)
    by_vertex true e h le = rw e (lt-ltb (distinct_count nat_eq vs) (suc (length vs)) (omega arith))
    by_vertex false e h le = rw e (less_next (distinct_count nat_eq vs) (length vs) ∙ h)

pub repeat_by_length : (vs : List ℕ) → nat_lt (length (ascending vs)) (length vs) ≡ has_repeat vs
repeat_by_length vs = rw (ascending_counts vs) (counts_repeat vs)

pub length_once : (vs : List ℕ) → has_repeat vs ≡ false → length (ascending vs) ≡ length vs
length_once vs once =
    omega (arith, ascending_counts vs, distinct_count-le nat_eq vs, ltb-false (length (ascending vs)) (length vs) (repeat_by_length vs ∙ once))

-- the same of a list that is those vertices in ascending order
pub repeat_tells : (vs facet : List ℕ) (n : ℕ) → facet ≡ ascending vs → n ≡ length vs → nat_lt (length facet) n ≡ has_repeat vs
repeat_tells vs facet n is count = rw (is, count) (repeat_by_length vs)
