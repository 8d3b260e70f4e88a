-- The relations of May elements in lists of values.
use Rattle.std.proofs.Common.{◌≡◌, ℕ, zero, suc, ◌%◌, ◌≤◌, List, [], ◌∷◌, ◌++◌, map, refl, ◌∙◌, ap, ℤ, ◌+ℤ◌, neg_ℤ}
use Rattle.surjection_law.specs.Names.{without_place}
use Rattle.table_reduction_law.{proofs.Permutations.{moves-cycle, reduced-moved, tuple-moved, uncycle}, proofs.PowerPairs.{even-tuples, may_sum, may_tuple_sum, odd-tuples, pairs-cong, power-perm, sum-cong, sum_below, tuple_turned, turned_tuple}, proofs.ReductionBoundary.{chain-law, face_sum, reduction_sum}, specs.Names.{cycle, pair_count, leading_entries, turned, IsTuple}}

pub lead-tuple : (p d : ℕ) → IsTuple p (leading_entries p d)
lead-tuple p zero = (power-perm p 0, tt)
lead-tuple p (suc zero) = (power-perm p 0, (power-perm p 1, tt))
lead-tuple p (suc (suc d)) = lead-tuple p d

pub tuple-append : (r : ℕ) (v w : List (List ℕ)) → IsTuple r v → IsTuple r w → IsTuple r (v ++ w)
tuple-append r [] w h k = k
tuple-append r (x ∷ v) w h k = (h.0, tuple-append r v w h.1 k)

-- each tuple of the element is one of permutations of 1 to p
pub may-cong : (p d : ℕ) (f g : List (List ℕ) → ℤ) → ((w : List (List ℕ)) → IsTuple p w → f w ≡ g w) → may_tuple_sum p d f ≡ may_tuple_sum p d g
may-cong p d f g h = pairs-cong p (pair_count d) (λ t. f (leading_entries p d ++ t)) (λ t. g (leading_entries p d ++ t)) (λ t k. h (leading_entries p d ++ t) (tuple-append p (leading_entries p d) t (lead-tuple p d) k))

turned_by-tuple : (p e : ℕ) (w : List (List ℕ)) → IsTuple p w → IsTuple p (tuple_turned p e w)
turned_by-tuple p zero w k = k
turned_by-tuple p (suc e) w k = tuple-moved p (cycle p) (uncycle p) (tuple_turned p e w) (moves-cycle p) (turned_by-tuple p e w k)

reduced-turned : (p e : ℕ) (w : List (List ℕ)) (h : List ℕ → ℤ) → IsTuple p w → reduction_sum (tuple_turned p e w) h ≡ reduction_sum w (λ u. h (turned p e u))
reduced-turned p zero w h k = refl
reduced-turned p (suc e) w h k =
    reduced-moved p (cycle p) (uncycle p) (tuple_turned p e w) h (moves-cycle p) (turned_by-tuple p e w k)
    ∙ reduced-turned p e w (λ u. h (map (cycle p) u)) k

pub boundary : (p d : ℕ) (h : List ℕ → ℤ) → 1 ≤ p → may_sum p d (λ u. without_place [] u h) ≡ may_tuple_sum p d (λ w. face_sum w (λ v. reduction_sum v h))
boundary p d h k = may-cong p d (λ w. reduction_sum w (λ u. without_place [] u h)) (λ w. face_sum w (λ v. reduction_sum v h)) (λ w t. chain-law p w h k t)

pub even-lists : (p d : ℕ) (h : List ℕ → ℤ) → 1 ≤ p → d % 2 ≡ 0 →
    may_sum p (suc d) (λ u. without_place [] u h) ≡ may_sum p d (λ u. h (map (cycle p) u)) +ℤ neg_ℤ (may_sum p d h)
even-lists p d h k q =
    boundary p (suc d) h k
    ∙ even-tuples p d (λ v. reduction_sum v h) q
    ∙ ap (λ z. z +ℤ neg_ℤ (may_sum p d h))
    (may-cong p d (λ w. reduction_sum (turned_tuple p w) h) (λ w. reduction_sum w (λ u. h (map (cycle p) u))) (λ w t. reduced-moved p (cycle p) (uncycle p) w h (moves-cycle p) t))

pub odd-lists : (p d : ℕ) (h : List ℕ → ℤ) → 1 ≤ p → d % 2 ≡ 1 →
    may_sum p (suc d) (λ u. without_place [] u h) ≡ sum_below p (λ e. may_sum p d (λ u. h (turned p e u)))
odd-lists p d h k q =
    boundary p (suc d) h k
    ∙ odd-tuples p d (λ v. reduction_sum v h) q
    ∙ sum-cong p (λ e. may_tuple_sum p d (λ w. reduction_sum (tuple_turned p e w) h)) (λ e. may_sum p d (λ u. h (turned p e u)))
    (λ e. may-cong p d (λ w. reduction_sum (tuple_turned p e w) h) (λ w. reduction_sum w (λ u. h (turned p e u))) (λ w t. reduced-turned p e w h t))
