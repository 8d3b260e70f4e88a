-- The laws on formal sums, from the laws on sums tested by functions.
use Rattle.std.proofs.{Common.{◌≡◌, ℕ, zero, suc, ◌+◌, ◌≤◌, Bool, cond, ◌==◌, ◌&&◌, ◌||◌, List, [], ◌∷◌, ◌++◌, map, refl, sym, ◌∙◌, ap, arith, inl, inr, ℤ, pos, ◌+ℤ◌, ◌-ℤ◌, flat_map}, lemmas.Int.ints, lemmas.Bool.cases_Bool, lemmas.Bool.Decides.nat_tests}
use Rattle.signed_sum.{proofs.Names.{without_one_terms, without_one-without_one, at_turn, occurs-self, occurs-tail, fun_ext, restricted-gone, restricted-there, total-append, total-map, value_at-kept_terms, value_at-nothing, value_at-sub, value_at-sum, value_at-unit_terms}, specs.Names.{is_degenerate, is_same_list, numbers_from, occurs, unless_empty, IsNormalized, alternating_terms, kept_terms, normalized, power_sum, restricted, total, unit_terms, value_at, without_each, without_one}}
use Rattle.surjection_law.{proofs.BoundaryPlaces.normalized-boundary, specs.Names.{surjection_boundary, without_place, IsOnto, IsRelabelling}}
use Rattle.table_reduction_law.{proofs.DegenerateTuples.reduced-degenerate, proofs.MayBoundary.{boundary, even-lists, may-cong, odd-lists}, proofs.Permutations.{Within, moves-cycle, onto-turned, onto-within, perm-within, place, reduced-moved, relabels, tuple-moved, turned-at, turned-less, uncycle, within-tail}, proofs.PowerPairs.{may_sum, may_tuple_sum, pair_sum, sum_below}, proofs.ReductionBoundary.{boundary-cong, chain-law, face_sum, reduced-walked, reduction_sum, tuple_good, walked}, proofs.ReductionWalks.walk-cong, proofs.TupleActions.{face_sum-degenerate, face_sum-map, vanishes}, specs.Names.{DegenerateTupleLaw, MayRelations, ReductionActionLaw, ReductionBoundaryLaw, TupleActionLaw, TupleBoundaryLaw, cycle, cycle_power, pair_count, leading_entries, may_candidates, may_element, may_tuples, power_pairs, turned, turned_values, reduced_lists, table_reduction, IsTuple, entry_at, is_degenerate_tuple, is_zero_tuple, permuted_tuple, tuple_boundary}}

-- values of formal sums

value_at-kept_unit : {X : Type 0} (gone : X → Bool) (h : X → ℤ) (xs : List X) → value_at h (kept_terms gone (unit_terms xs)) ≡ total (restricted gone h) xs
value_at-kept_unit gone h xs = value_at-kept_terms gone h (unit_terms xs) ∙ value_at-unit_terms (restricted gone h) xs

pub value_at-table_reduction : (h : List ℕ → ℤ) (w : List (List ℕ)) → value_at h (table_reduction w) ≡ reduction_sum w (normalized h)
value_at-table_reduction h w = value_at-kept_unit is_degenerate h (reduced_lists w)

pub value_at-tuple_boundary : (h : List (List ℕ) → ℤ) (w : List (List ℕ)) → value_at h (tuple_boundary w) ≡ face_sum w (restricted is_degenerate_tuple h)
value_at-tuple_boundary h w =
    value_at-kept_terms is_zero_tuple h (alternating_terms (without_each w))
    ∙ sym (without_one_terms w (restricted is_zero_tuple h))
    ∙ ap (without_one w) (fun_ext same)
  where
    same : (v : List (List ℕ)) → restricted is_zero_tuple h v ≡ unless_empty v (restricted is_degenerate_tuple h v)
    same [] = refl
    same (x ∷ v) = refl

total-flat_map : {X Y : Type 0} (f : Y → ℤ) (g : X → List Y) (xs : List X) → total f (flat_map g xs) ≡ total (λ x. total f (g x)) xs
total-flat_map f g [] = refl
total-flat_map f g (x ∷ xs) = total-append f (g x) (flat_map g xs) ∙ ap (λ z. total f (g x) +ℤ z) (total-flat_map f g xs)

pub sum_below-first : (n : ℕ) (f : ℕ → ℤ) → sum_below (suc n) f ≡ f 0 +ℤ sum_below n (λ e. f (suc e))
sum_below-first zero f = omega (arith, ints)
sum_below-first (suc n) f = let a = sum_below-first n f in omega (arith, ints)

total-numbers_from : (a n : ℕ) (f : ℕ → ℤ) → total f (numbers_from a n) ≡ sum_below n (λ e. f (a + e))
total-numbers_from a zero f = refl
total-numbers_from a (suc n) f =
    let e : (λ (e : ℕ). f (suc a + e)) ≡ (λ e. f (a + suc e)) = fun_ext (λ e. let q : suc a + e ≡ a + suc e = omega arith in ap f q) in
    let z : f a ≡ f (a + 0) = (let q : a ≡ a + 0 = omega arith in ap f q) in
    ap (λ y. f a +ℤ y) (total-numbers_from (suc a) n f ∙ ap (sum_below n) e)
    ∙ ap (λ y. y +ℤ sum_below n (λ e. f (a + suc e))) z
    ∙ sym (sum_below-first n (λ e. f (a + e)))

total-power_pairs : (p k : ℕ) (h : List (List ℕ) → ℤ) → total h (power_pairs p k) ≡ pair_sum p k h
total-power_pairs p zero h = omega (arith, ints)
total-power_pairs p (suc k) h =
    let f : ℕ → List (List ℕ) → List (List ℕ) = λ e t. cycle_power p e ∷ cycle_power p (suc e) ∷ t in
    total-flat_map h (λ e. map (f e) (power_pairs p k)) (numbers_from 0 p)
    ∙ ap (λ g. total g (numbers_from 0 p)) (fun_ext (λ e. total-map h (f e) (power_pairs p k) ∙ total-power_pairs p k (λ t. h (f e t))))
    ∙ total-numbers_from 0 p (λ e. pair_sum p k (λ t. h (f e t)))
    ∙ ap (sum_below p) (fun_ext (λ e. let q : 0 + e ≡ e = omega arith in ap (λ j. pair_sum p k (λ t. h (f j t))) q))

pub total-may_tuples : (p d : ℕ) (h : List (List ℕ) → ℤ) → total h (may_tuples p d) ≡ may_tuple_sum p d h
total-may_tuples p d h = total-map h (λ t. leading_entries p d ++ t) (power_pairs p (pair_count d)) ∙ total-power_pairs p (pair_count d) (λ t. h (leading_entries p d ++ t))

pub value_at-may_element : (p d : ℕ) (h : List ℕ → ℤ) → value_at h (may_element p d) ≡ may_sum p d (normalized h)
value_at-may_element p d h =
    value_at-kept_unit is_degenerate h (may_candidates p d)
    ∙ total-flat_map (normalized h) reduced_lists (may_tuples p d)
    ∙ total-may_tuples p d (λ w. reduction_sum w (normalized h))

-- normalized functions

pub normalized-normalized : (h : List ℕ → ℤ) → IsNormalized (normalized h)
normalized-normalized h w e = restricted-gone is_degenerate h w e

-- the table reduction of a degenerate tuple is zero
restricted-reduction : (r : ℕ) (h : List ℕ → ℤ) → 1 ≤ r → (v : List (List ℕ)) → IsTuple r v →
    restricted is_degenerate_tuple (λ v. value_at h (table_reduction v)) v ≡ reduction_sum v (normalized h)
restricted-reduction r h k v t = elim (cases_Bool (is_degenerate_tuple v)) [
  | inl d ↦ restricted-gone is_degenerate_tuple (λ v. value_at h (table_reduction v)) v d ∙ sym (reduced-degenerate r v (normalized h) k t (normalized-normalized h) d)
  | inr d ↦ restricted-there is_degenerate_tuple (λ v. value_at h (table_reduction v)) v d ∙ value_at-table_reduction h v
]

pub reduction_boundary_law : ReductionBoundaryLaw
reduction_boundary_law r w h k t =
    value_at-table_reduction (λ u. value_at h (surjection_boundary u)) w
    ∙ ap (reduction_sum w) (fun_ext (normalized-boundary h))
    ∙ chain-law r w (normalized h) k t
    ∙ sym (boundary-cong r w (restricted is_degenerate_tuple (λ v. value_at h (table_reduction v))) (λ v. reduction_sum v (normalized h)) t (restricted-reduction r h k))
    ∙ sym (value_at-tuple_boundary (λ v. value_at h (table_reduction v)) w)

pub degenerate_tuple_law : DegenerateTupleLaw
degenerate_tuple_law r w h k t d = value_at-table_reduction h w ∙ reduced-degenerate r w (normalized h) k t (normalized-normalized h) d

-- a reduction depends on the lists alone that take each value
reduced-cong : (r : ℕ) (w : List (List ℕ)) (f g : List ℕ → ℤ) → 1 ≤ r → IsTuple r w → ((u : List ℕ) → IsOnto r u → f u ≡ g u) → reduction_sum w f ≡ reduction_sum w g
reduced-cong r w f g k t h = reduced-walked r w f k t ∙ go w t ∙ sym (reduced-walked r w g k t)
  where
    go : (w : List (List ℕ)) → IsTuple r w → walked w f ≡ walked w g
    go [] t = refl
    go (w ∷ ws) t = walk-cong ws w [] f g (tuple_good r w ws t.0 t.1) (λ u a. h u (λ v. a v ∙ t.0.onto v))

-- relabelled lists and tuples

test-moved : (r : ℕ) (t i : ℕ → ℕ) (x y : ℕ) → IsRelabelling r t i → occurs x (numbers_from 1 r) ≡ 1 → occurs y (numbers_from 1 r) ≡ 1 → (t x == t y) ≡ (x == y)
test-moved r t i x y m h k =
    let n : t x ≡ t y → x ≡ y = λ q. sym (m.there_back x h) ∙ ap i q ∙ m.there_back y k in grind (arith, nat_tests, n)

pub is_degenerate-map : (r : ℕ) (t i : ℕ → ℕ) (u : List ℕ) → IsRelabelling r t i → Within r u → is_degenerate (map t u) ≡ is_degenerate u
is_degenerate-map r t i [] m k = refl
is_degenerate-map r t i (x ∷ []) m k = refl
is_degenerate-map r t i (x ∷ y ∷ u) m k =
    λ j. test-moved r t i x y m (k x (occurs-self x (y ∷ u))) (k y (occurs-tail y x (y ∷ u) (occurs-self y u))) j || is_degenerate-map r t i (y ∷ u) m (within-tail r x (y ∷ u) k) j

is_same_list-map : (r : ℕ) (t i : ℕ → ℕ) (u w : List ℕ) → IsRelabelling r t i → Within r u → Within r w → is_same_list (map t u) (map t w) ≡ is_same_list u w
is_same_list-map r t i [] [] m k l = refl
is_same_list-map r t i [] (y ∷ w) m k l = refl
is_same_list-map r t i (x ∷ u) [] m k l = refl
is_same_list-map r t i (x ∷ u) (y ∷ w) m k l =
    λ j. test-moved r t i x y m (k x (occurs-self x u)) (l y (occurs-self y w)) j && is_same_list-map r t i u w m (within-tail r x u k) (within-tail r y w l) j

pub is_degenerate_tuple-map : (r : ℕ) (t i : ℕ → ℕ) (w : List (List ℕ)) → IsRelabelling r t i → IsTuple r w → is_degenerate_tuple (map (λ x. map t x) w) ≡ is_degenerate_tuple w
is_degenerate_tuple-map r t i [] m k = refl
is_degenerate_tuple-map r t i (x ∷ []) m k = refl
is_degenerate_tuple-map r t i (x ∷ y ∷ w) m k =
    λ j. is_same_list-map r t i x y m (perm-within r x k.0) (perm-within r y k.1.0) j || is_degenerate_tuple-map r t i (y ∷ w) m k.1 j

normalized-map : (r : ℕ) (t i : ℕ → ℕ) (h : List ℕ → ℤ) (u : List ℕ) → IsRelabelling r t i → Within r u → normalized h (map t u) ≡ normalized (λ u. h (map t u)) u
normalized-map r t i h u m k = ap (λ b. cond b (pos 0) (h (map t u))) (is_degenerate-map r t i u m k)

pub reduction_action_law : ReductionActionLaw
reduction_action_law r t w h n k l =
    let m = relabels r t k in
    value_at-table_reduction h (permuted_tuple t w)
    ∙ reduced-moved r (entry_at t) (place t) w (normalized h) m l
    ∙ reduced-cong r w (λ u. normalized h (map (entry_at t) u)) (normalized (λ u. h (map (entry_at t) u))) n l
    (λ u o. normalized-map r (entry_at t) (place t) h u m (onto-within r u o))
    ∙ sym (value_at-table_reduction (λ u. h (map (entry_at t) u)) w)

-- tuples

pub tuple_boundary_law : TupleBoundaryLaw
tuple_boundary_law h w =
    let g : List (List ℕ) → ℤ = λ u. unless_empty u (restricted is_degenerate_tuple h u) in
    value_at-tuple_boundary (λ v. value_at h (tuple_boundary v)) w
    ∙ ap (without_one w) (fun_ext inner)
    ∙ without_one-without_one w g
  where
    inner : (v : List (List ℕ)) → unless_empty v (restricted is_degenerate_tuple (λ v. value_at h (tuple_boundary v)) v) ≡ without_one v (λ u. unless_empty u (restricted is_degenerate_tuple h u))
    inner [] = refl
    inner (x ∷ v) = elim (cases_Bool (is_degenerate_tuple (x ∷ v))) [
      | inl d ↦ restricted-gone is_degenerate_tuple (λ v. value_at h (tuple_boundary v)) (x ∷ v) d
          ∙ sym (face_sum-degenerate (x ∷ v) (λ u. unless_empty u (restricted is_degenerate_tuple h u)) (vanishes h) d)
      | inr d ↦ restricted-there is_degenerate_tuple (λ v. value_at h (tuple_boundary v)) (x ∷ v) d ∙ value_at-tuple_boundary h (x ∷ v)
    ]

pub tuple_action_law : TupleActionLaw
tuple_action_law = record {
  tuples = λ r t w k l. tuple-moved r (entry_at t) (place t) w (relabels r t k) l;
  boundary = λ r t w h k l.
      value_at-tuple_boundary h (permuted_tuple t w)
      ∙ face_sum-map (entry_at t) w (restricted is_degenerate_tuple h)
      ∙ boundary-cong r w (λ v. restricted is_degenerate_tuple h (permuted_tuple t v)) (restricted is_degenerate_tuple (λ v. h (permuted_tuple t v))) l
      (λ v q. ap (λ b. cond b (pos 0) (h (permuted_tuple t v))) (is_degenerate_tuple-map r (entry_at t) (place t) v (relabels r t k) q))
      ∙ sym (value_at-tuple_boundary (λ v. h (permuted_tuple t v)) w);
}

-- the relations

may-lists : (p d : ℕ) (f g : List ℕ → ℤ) → 1 ≤ p → ((u : List ℕ) → IsOnto p u → f u ≡ g u) → may_sum p d f ≡ may_sum p d g
may-lists p d f g k h = may-cong p d (λ w. reduction_sum w f) (λ w. reduction_sum w g) (λ w t. reduced-cong p w f g k t h)

is_degenerate-turned : (p e : ℕ) (u : List ℕ) → IsOnto p u → is_degenerate (turned p e u) ≡ is_degenerate u
is_degenerate-turned p zero u o = refl
is_degenerate-turned p (suc e) u o = is_degenerate-map p (cycle p) (uncycle p) (turned p e u) (moves-cycle p) (onto-within p (turned p e u) (onto-turned p e u o)) ∙ is_degenerate-turned p e u o

turned-lists : (p d e : ℕ) (h : List ℕ → ℤ) → 1 ≤ p → may_sum p d (λ u. normalized h (turned p e u)) ≡ value_at (λ u. h (turned p e u)) (may_element p d)
turned-lists p d e h k =
    may-lists p d (λ u. normalized h (turned p e u)) (normalized (λ u. h (turned p e u))) k
    (λ u o. ap (λ b. cond b (pos 0) (h (turned p e u))) (is_degenerate-turned p e u o))
    ∙ sym (value_at-may_element p d (λ u. h (turned p e u)))

boundary-lists : (p d : ℕ) (h : List ℕ → ℤ) → value_at (λ u. value_at h (surjection_boundary u)) (may_element p d) ≡ may_sum p d (λ u. without_place [] u (normalized h))
boundary-lists p d h = value_at-may_element p d (λ u. value_at h (surjection_boundary u)) ∙ ap (may_sum p d) (fun_ext (normalized-boundary h))

plus-one : (p d : ℕ) (f : List ℕ → ℤ) → value_at f (may_element p (d + 1)) ≡ value_at f (may_element p (suc d))
plus-one p d f = let e : d + 1 ≡ suc d = omega arith in ap (λ j. value_at f (may_element p j)) e

turned-total : (p n : ℕ) (h : List ℕ → ℤ) (x : List (List ℕ × ℤ)) → sum_below n (λ e. value_at (λ u. h (turned p e u)) x) ≡ value_at (λ u. value_at h (power_sum (turned_values p) n u)) x
turned-total p zero h x = sym (value_at-nothing x)
turned-total p (suc n) h x =
    let a = turned-total p n h x in
    let b = value_at-sum (at_turn (turned_values p) n h) (λ u. value_at h (power_sum (turned_values p) n u)) x in
    let c = ap (λ f. value_at f x) (fun_ext (turned-at p n h)) in
    omega (arith, ints)

pub may_relations : MayRelations
may_relations = record {
  bottom = λ p h k. boundary-lists p 0 h ∙ boundary p 0 (normalized h) k;
  even = λ p d h k q.
      plus-one p d (λ u. value_at h (surjection_boundary u))
      ∙ boundary-lists p (suc d) h
      ∙ even-lists p d (normalized h) k q
      ∙ (λ i. turned-lists p d 1 h k i -ℤ sym (value_at-may_element p d h) i)
      ∙ sym (ap (λ f. value_at f (may_element p d)) (fun_ext (turned-less p h)) ∙ value_at-sub (λ u. h (map (cycle p) u)) h (may_element p d));
  odd = λ p d h k q.
      plus-one p d (λ u. value_at h (surjection_boundary u))
      ∙ boundary-lists p (suc d) h
      ∙ odd-lists p d (normalized h) k q
      ∙ ap (sum_below p) (fun_ext (λ e. turned-lists p d e h k))
      ∙ turned-total p p h (may_element p d);
}
