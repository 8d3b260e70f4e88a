-- The laws of the action of permutations on tuples, which the impls cite.
use Rattle.std.{proofs.Common.{◌≡◌, ℕ, zero, suc, ◌+◌, ◌-◌, ◌<◌, ◌≤◌, List, [], ◌∷◌, length, map, get_or, refl, sym, ap, ◌∙◌, inl, inr, arith, subst}, specs.Prelude.ℤ, proofs.lemmas.List.{length-map, map-id}, proofs.lemmas.Simd.map-map}
use Rattle.signed_sum.{specs.Names.{numbers_from, occurs, entry_at, value_at}, proofs.Names.{occurs-01, occurs-self, range-out}}
use Rattle.operad_law.{specs.Permutations.{IsPerm, composed, identity}, proofs.PermLemmas.{entry-identity, entry-map, permutation_of}}
use Rattle.table_reduction_law.{proofs.FormalSums.{is_degenerate_tuple-map, tuple_action_law}, proofs.Permutations.{Within, perm-within, place, relabels, within-tail}, specs.Names.{IsTuple, permuted_tuple, tuple_boundary, tuple_arity, tuple_degree}}
use Rattle.barratt_eccles.specs.Generators.{IsGenerator}

pub act_arity : (t : List ℕ) (w : List (List ℕ)) → IsGenerator w → IsPerm t → length t ≡ tuple_arity w → tuple_arity (permuted_tuple t w) ≡ tuple_arity w
act_arity t [] g p l = refl
act_arity t (x ∷ w) g p l = length-map x (entry_at t)

pub act_degree : (t : List ℕ) (w : List (List ℕ)) → IsGenerator w → IsPerm t → length t ≡ tuple_arity w → tuple_degree (permuted_tuple t w) ≡ tuple_degree w
act_degree t w g p l = ap (λ n. n - 1) (length-map w (λ x. map (entry_at t) x))

pub act_valid : (t : List ℕ) (w : List (List ℕ)) → IsGenerator w → IsPerm t → length t ≡ tuple_arity w → IsGenerator (permuted_tuple t w)
act_valid t w g p l =
    let k = permutation_of (tuple_arity w) t p l in
    let e = act_arity t w g p l in
    let n : length (permuted_tuple t w) ≡ length w = length-map w (λ x. map (entry_at t) x) in
    record {
      some = omega (arith, g.some);
      short = omega (arith, g.short);
      wide = omega (arith, g.wide);
      narrow = omega (arith, g.narrow);
      entries = subst (λ (r : ℕ). IsTuple r (permuted_tuple t w)) (sym e) (tuple_action_law.tuples (tuple_arity w) t w k g.entries);
      plain = is_degenerate_tuple-map (tuple_arity w) (entry_at t) (place t) w (relabels (tuple_arity w) t k) g.entries ∙ g.plain;
    }

pub boundary_act : (phi : List (List ℕ) → ℤ) (t : List ℕ) (w : List (List ℕ)) → IsGenerator w → IsPerm t → length t ≡ tuple_arity w → value_at phi (tuple_boundary (permuted_tuple t w)) ≡ value_at (λ v. phi (permuted_tuple t v)) (tuple_boundary w)
boundary_act phi t w g p l = tuple_action_law.boundary (tuple_arity w) t w phi (permutation_of (tuple_arity w) t p l) g.entries

-- ---- maps that agree on the numbers from 1 to r
pub same-map : (r : ℕ) (f h : ℕ → ℕ) (u : List ℕ) → Within r u → ((v : ℕ) → 1 ≤ v → v ≤ r → f v ≡ h v) → map f u ≡ map h u
same-map r f h [] k q = refl
same-map r f h (x ∷ u) k q =
    let b = range-out x 1 r (k x (occurs-self x u)) in
    let e : f x ≡ h x = q x b.0 (omega (arith, b.1)) in
    λ i. e i ∷ same-map r f h u (within-tail r x u k) q i

same-maps : (r : ℕ) (f h : ℕ → ℕ) (w : List (List ℕ)) → IsTuple r w → ((v : ℕ) → 1 ≤ v → v ≤ r → f v ≡ h v) → map (λ x. map f x) w ≡ map (λ x. map h x) w
same-maps r f h [] t q = refl
same-maps r f h (x ∷ w) t q = λ i. same-map r f h x (perm-within r x t.0) q i ∷ same-maps r f h w t.1 q i

maps-none : (w : List (List ℕ)) → map (λ x. map (λ v. v) x) w ≡ w
maps-none [] = refl
maps-none (x ∷ w) = λ i. map-id x i ∷ maps-none w i

maps-two : (f h : ℕ → ℕ) (w : List (List ℕ)) → map (λ x. map f x) (map (λ x. map h x) w) ≡ map (λ x. map (λ v. f (h v)) x) w
maps-two f h [] = refl
maps-two f h (x ∷ w) = λ i. map-map f h x i ∷ maps-two f h w i

pub act_identity : (w : List (List ℕ)) → IsGenerator w → permuted_tuple (identity (tuple_arity w)) w ≡ w
act_identity w g = same-maps (tuple_arity w) (entry_at (identity (tuple_arity w))) (λ v. v) w g.entries (entry-identity (tuple_arity w)) ∙ maps-none w

pub act_composed : (s t : List ℕ) (w : List (List ℕ)) → IsGenerator w → IsPerm s → IsPerm t → length s ≡ tuple_arity w → length t ≡ tuple_arity w → permuted_tuple s (permuted_tuple t w) ≡ permuted_tuple (composed s t) w
act_composed s t w g p q k l =
    maps-two (entry_at s) (entry_at t) w
    ∙ same-maps (tuple_arity w) (λ v. entry_at s (entry_at t v)) (entry_at (composed s t)) w g.entries
    (λ v a b. sym (entry-map (entry_at s) t v a (omega arith)))
