-- The operations as maps of relative classes.
use Rattle.std.proofs.Common.{◌≡◌, ℕ, zero, suc, ◌+◌, ◌*◌, Bool, List, [], refl, sym, arith, subst}
use Rattle.fp_field.specs.Element.{sign_power}
use Rattle.linear_law.proofs.Names.{IsLinearOnClasses, multiple_in, Congruent_add, Congruent_from, Congruent_of, Congruent_refl, Congruent_scale, Congruent_trans, add-negated}
use Rattle.linear_law.specs.Names.{IsField, negated}
use Rattle.simplicial_law.proofs.Names.{cocycles}
use Rattle.simplicial_law.specs.Names.{AgreesOnSimplices, Cochain, IsSimplex, coboundary}
use Rattle.steenrod_law.proofs.ClassLaws.{operation-alike}
use Rattle.steenrod_law.proofs.Complexes.{residue_cochain-empty}
use Rattle.steenrod_law.proofs.OperationLaws.{additivity-law, may_operation-closed, orbit-subcomplex, representative-law, scaling-law, staircase-subcomplex, vertices}
use Rattle.steenrod_law.specs.Names.{IsOrbitTable, extended, may_operation, orbit_primitive, orbit_sum, scaled_operation, staircase_primitive, staircase_sum}
use Rattle.table_reduction_law.specs.Names.{may_element}
use Rattle.relative_law.proofs.Spaces.{forget_bound, no_bound_below, relative_coboundaries, zero_bound}
use Rattle.relative_law.specs.Names.{IsRelativeCoboundary, IsRelativeCochain, IsRelativeCocycle, IsSubcomplex}

module _ (p : ℕ) (field : IsField p) where
  -- an operation of 0 is 0
  operation_none : (facets : List (List ℕ)) (d q n : ℕ) (a : Cochain) → AgreesOnSimplices facets q p a (λ s. 0) → AgreesOnSimplices facets n p (may_operation p d q a) (λ s. 0)
  operation_none facets d q n a h = record {
    at = λ s on.
        Congruent_from
        (Congruent_add ((operation-alike p field facets d 1 q n a (λ t. 0 * a t) (record { at = λ t k. Congruent_trans (h.at t k) (Congruent_of (omega arith)) })).at s on)
        (scaling-law p field d q 0 a s (vertices p field facets n s on))) (omega arith);
  }

  module _ (facets sub : List (List ℕ)) (pair : IsSubcomplex sub facets) where
    pub scaled_relative : (d c q n : ℕ) (a : Cochain) → IsRelativeCocycle facets sub q p a → IsRelativeCocycle facets sub n p (scaled_operation p d c q a)
    scaled_relative d c q n a h = record {
      relative = record { at = λ s on. Congruent_from (Congruent_scale c ((operation_none sub d q n a h.relative).at s on)) (omega arith) };
      closed = multiple_in (cocycles facets n p field.large) c (may_operation p d q a) (may_operation-closed p field facets d q n a h.closed);
    }

    from_primitive : (n : ℕ) (y : Cochain) → y [] ≡ 0 → ((m : ℕ) → IsRelativeCochain sub m p y) → IsRelativeCoboundary facets sub n p (coboundary p y)
    from_primitive n y e h = record { below = y; nothing = e; relative = λ m q. h m; same = record { at = λ s on. Congruent_refl (coboundary p y s) } }

    -- the operation of a relative coboundary is one: that of the primitive on the staircase
    bound_above : (d m n : ℕ) (z : Cochain) → IsRelativeCoboundary facets sub (m + 1) p z → IsRelativeCoboundary facets sub n p (may_operation p d (m + 1) z)
    bound_above d m n z h =
        let y : Cochain = h.below in
        (relative_coboundaries facets sub n p field.large pair).alike (may_operation p d (m + 1) z) (coboundary p (staircase_primitive p d m y))
        (record { at = λ s on. Congruent_from (Congruent_add ((operation-alike p field facets d 1 (m + 1) n z (coboundary p y) h.same).at s on) ((representative-law p field facets d m n y).at s on)) (omega arith) })
        (from_primitive n (staircase_primitive p d m y) (residue_cochain-empty p (staircase_sum p m d (may_element p) (extended m y)))
        (λ k. record { at = λ s on. staircase-subcomplex p field sub d m k y (h.relative m refl) s on }))

    operation_bound : (d q n : ℕ) (z : Cochain) → IsRelativeCoboundary facets sub q p z → IsRelativeCoboundary facets sub n p (may_operation p d q z)
    operation_bound d zero n z h = zero_bound facets sub n p (may_operation p d 0 z) (operation_none facets d 0 n z (no_bound_below facets p z (forget_bound facets sub 0 p z h)))
    operation_bound d (suc m) n z h =
        let e : m + 1 ≡ suc m = omega arith in
        subst (λ (j : ℕ). IsRelativeCoboundary facets sub n p (may_operation p d j z)) e (bound_above d m n z (subst (λ (j : ℕ). IsRelativeCoboundary facets sub j p z) (sym e) h))

    module _ (ms : List (List Bool)) (orbits : IsOrbitTable p ms) where
      -- that of a sum is the sum, up to a multiple of the coboundary of the primitive on the words of the table
      operation_plus : (d q n k : ℕ) (v w : Cochain) → IsRelativeCocycle facets sub q p v → IsRelativeCocycle facets sub q p w →
          IsRelativeCoboundary facets sub n p (λ s. may_operation p d q (λ t. v t + k * w t) s + negated p (may_operation p d q v s + k * may_operation p d q w s))
      operation_plus d q n k v w hv hw =
          let u : Cochain = λ t. k * w t in
          let y : Cochain = orbit_primitive p d q ms v u in
          let ru : IsRelativeCochain sub q p u = record { at = λ s on. Congruent_from (Congruent_scale k (hw.relative.at s on)) (omega arith) } in
          let sum = additivity-law p field facets d q n ms v u orbits hv.closed (multiple_in (cocycles facets q p field.large) k w hw.closed) in
          let space = relative_coboundaries facets sub n p field.large pair in
          space.alike (λ s. may_operation p d q (λ t. v t + k * w t) s + negated p (may_operation p d q v s + k * may_operation p d q w s)) (λ s. sign_power p d * coboundary p y s)
          (record {
            at = λ s on.
                let scaled = scaling-law p field d q k w s (vertices p field facets n s on) in
                Congruent_from (Congruent_add (sum.at s on) (Congruent_add scaled (add-negated p (may_operation p d q v s + k * may_operation p d q w s) field.large))) (omega arith);
          })
          (multiple_in space (sign_power p d) (coboundary p y)
          (from_primitive n y (residue_cochain-empty p (orbit_sum p d (may_element p) ms (extended q v) (extended q u)))
          (λ j. record { at = λ s on. orbit-subcomplex p field sub d q j ms v u orbits hv.relative ru s on })))

      pub scaled_map : (d c q n : ℕ) → IsLinearOnClasses p (IsSimplex facets q) (IsSimplex facets n) (IsRelativeCocycle facets sub q p) (IsRelativeCoboundary facets sub q p)
          (IsRelativeCoboundary facets sub n p) (scaled_operation p d c q)
      scaled_map d c q n =
          let space = relative_coboundaries facets sub n p field.large pair in record {
            bound = λ z h. multiple_in space c (may_operation p d q z) (operation_bound d q n z h);
            alike = operation-alike p field facets d c q n;
            plus = λ k v w hv hw. (
                let difference : Cochain = λ s. may_operation p d q (λ t. v t + k * w t) s + negated p (may_operation p d q v s + k * may_operation p d q w s) in
                space.alike (λ s. scaled_operation p d c q (λ t. v t + k * w t) s + negated p (scaled_operation p d c q v s + k * scaled_operation p d c q w s)) (λ s. c * difference s)
                (record { at = λ s on. Congruent_of (omega arith) }) (multiple_in space c difference (operation_plus d q n k v w hv hw)));
          }
