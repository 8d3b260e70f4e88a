-- The laws of the composition of tuples, which the impl cites.
use Rattle.std.{proofs.Common.{◌≡◌, ℕ, zero, suc, ◌+◌, ◌-◌, ◌<◌, ◌≤◌, Bool, false, List, [], ◌∷◌, length, map, get_or, refl, sym, ◌∙◌, inl, inr, arith, subst}, specs.Prelude.{ℤ, All}, proofs.lemmas.Bool.cases_Bool, proofs.lemmas.List.length-map, proofs.lemmas.List.Elements.{All-nil, All-cons, All-head, All-map, All-tail, All-weaker}}
use Rattle.signed_sum.proofs.Names.{All-kept_terms}
use Rattle.table_reduction_law.{proofs.ReductionBoundary.permutation-length, specs.Names.{IsPermutationOf, IsTuple, is_degenerate_tuple, tuple_arity, tuple_degree}}
use Rattle.barratt_eccles.specs.{Generators.IsGenerator, InsertedLaws.inserted-permutation}
use Rattle.composition_law.{proofs.Paths.each-path, specs.Tuples.{IsWithinLimits, Step, inserted, lattice_paths, path_sign, points_from, step_x, step_y, tuple_along, tuple_composition}}

-- a path of d steps x and e steps y has d + e + 1 points, and none is past the end
record IsPath (d e : ℕ) (s : List Step) : Type 0 where
  size : (i j : ℕ) → length (points_from i j s) ≡ suc (d + e)
  inside : (i j : ℕ) → All (λ (q : ℕ × ℕ). (q.0 ≤ i + d) × (q.1 ≤ j + e)) (points_from i j s)

along_x : (d e : ℕ) (s : List Step) → IsPath d e s → IsPath (suc d) e (step_x ∷ s)
along_x d e s p = record {
  size = λ i j. omega (arith, p.size (suc i) j);
  inside = λ i j. All-cons (λ (q : ℕ × ℕ). (q.0 ≤ i + suc d) × (q.1 ≤ j + e)) (i, j) (points_from (suc i) j s) (omega arith, omega arith)
      (All-weaker (λ (q : ℕ × ℕ). (q.0 ≤ suc i + d) × (q.1 ≤ j + e)) (λ (q : ℕ × ℕ). (q.0 ≤ i + suc d) × (q.1 ≤ j + e)) (λ q k. (omega (arith, k.0), k.1)) (points_from (suc i) j s) (p.inside (suc i) j));
}

along_y : (d e : ℕ) (s : List Step) → IsPath d e s → IsPath d (suc e) (step_y ∷ s)
along_y d e s p = record {
  size = λ i j. omega (arith, p.size i (suc j));
  inside = λ i j. All-cons (λ (q : ℕ × ℕ). (q.0 ≤ i + d) × (q.1 ≤ j + suc e)) (i, j) (points_from i (suc j) s) (omega arith, omega arith)
      (All-weaker (λ (q : ℕ × ℕ). (q.0 ≤ i + d) × (q.1 ≤ suc j + e)) (λ (q : ℕ × ℕ). (q.0 ≤ i + d) × (q.1 ≤ j + suc e)) (λ q k. (k.0, omega (arith, k.1))) (points_from i (suc j) s) (p.inside i (suc j)));
}

are-paths : (d e : ℕ) → All (IsPath d e) (lattice_paths d e)
are-paths = each-path IsPath (record { size = λ i j. refl; inside = λ i j. All-cons (λ (q : ℕ × ℕ). (q.0 ≤ i + 0) × (q.1 ≤ j + 0)) (i, j) [] (omega arith, omega arith) (All-nil (λ (q : ℕ × ℕ). (q.0 ≤ i + 0) × (q.1 ≤ j + 0))) }) along_x along_y

-- ---- the tuple along a path
entry-of : (r : ℕ) (w : List (List ℕ)) (i : ℕ) → IsTuple r w → i < length w → IsPermutationOf r (get_or w i [])
entry-of r [] i t h = absurd (omega arith)
entry-of r (x ∷ w) zero t h = t.0
entry-of r (x ∷ w) (suc i) t h = entry-of r w i t.1 (omega arith)

tuple-from : (r : ℕ) (ps : List (ℕ × ℕ)) (f : ℕ × ℕ → List ℕ) → All (λ q. IsPermutationOf r (f q)) ps → IsTuple r (map f ps)
tuple-from r [] f a = tt
tuple-from r (q ∷ ps) f a = (All-head (λ q. IsPermutationOf r (f q)) q ps a, tuple-from r ps f (All-tail (λ q. IsPermutationOf r (f q)) q ps a))

-- what is known of two tuples that compose
record Compose (k : ℕ) (w v : List (List ℕ)) : Type 0 where
  outer : IsGenerator w
  inner : IsGenerator v
  place : 1 ≤ k
  within : k ≤ tuple_arity w
  limits : IsWithinLimits w v

entries-along : (k : ℕ) (w v : List (List ℕ)) (s : List Step) → Compose k w v → IsPath (tuple_degree w) (tuple_degree v) s → IsTuple (tuple_arity w + tuple_arity v - 1) (tuple_along k w v s)
entries-along k w v s c p =
    let r : ℕ = tuple_arity w + tuple_arity v - 1 in
    let f : ℕ × ℕ → List ℕ = λ q. inserted k (get_or w q.0 []) (get_or v q.1 []) in
    tuple-from r (points_from 0 0 s) f
    (All-weaker (λ (q : ℕ × ℕ). (q.0 ≤ 0 + tuple_degree w) × (q.1 ≤ 0 + tuple_degree v)) (λ (q : ℕ × ℕ). IsPermutationOf r (f q))
    (λ q b. inserted-permutation k (tuple_arity w) (tuple_arity v) (get_or w q.0 []) (get_or v q.1 []) c.place c.within c.inner.wide
    (entry-of (tuple_arity w) w q.0 c.outer.entries (omega (arith, b.0, c.outer.some))) (entry-of (tuple_arity v) v q.1 c.inner.entries (omega (arith, b.1, c.inner.some))))
    (points_from 0 0 s) (p.inside 0 0))

length-along : (k : ℕ) (w v : List (List ℕ)) (s : List Step) → IsPath (tuple_degree w) (tuple_degree v) s → length (tuple_along k w v s) ≡ suc (tuple_degree w + tuple_degree v)
length-along k w v s p = length-map (points_from 0 0 s) (λ q. inserted k (get_or w q.0 []) (get_or v q.1 [])) ∙ p.size 0 0

-- a tuple of permutations of 1 to r that is not empty has the arity r
pub arity-of : (r : ℕ) (w : List (List ℕ)) → IsTuple r w → 1 ≤ length w → tuple_arity w ≡ r
arity-of r [] t h = absurd (omega arith)
arity-of r (x ∷ w) t h = permutation-length r x t.0

-- ---- the terms
terms : (k : ℕ) (w v : List (List ℕ)) (Q : List (List ℕ) → Type 0) → ((s : List Step) → IsPath (tuple_degree w) (tuple_degree v) s → is_degenerate_tuple (tuple_along k w v s) ≡ false → Q (tuple_along k w v s)) → All (λ t. Q t.0) (tuple_composition k w v)
terms k w v Q h =
    let f : List Step → List (List ℕ) × ℤ = λ s. (tuple_along k w v s, path_sign (tuple_degree w) (tuple_degree v) s) in
    let paths = lattice_paths (tuple_degree w) (tuple_degree v) in
    All-kept_terms is_degenerate_tuple Q (map f paths)
    (All-map (λ t. is_degenerate_tuple t.0 ≡ false → Q t.0) f paths
    (All-weaker (IsPath (tuple_degree w) (tuple_degree v)) (λ s. is_degenerate_tuple (tuple_along k w v s) ≡ false → Q (tuple_along k w v s)) h paths (are-paths (tuple_degree w) (tuple_degree v))))

compose : (k : ℕ) (w v : List (List ℕ)) → IsGenerator w → IsGenerator v → 1 ≤ k → k ≤ tuple_arity w → IsWithinLimits w v → Compose k w v
compose k w v g h a b l = record { outer = g; inner = h; place = a; within = b; limits = l }

arity-along : (k : ℕ) (w v : List (List ℕ)) (s : List Step) → Compose k w v → IsPath (tuple_degree w) (tuple_degree v) s → tuple_arity (tuple_along k w v s) ≡ tuple_arity w + tuple_arity v - 1
arity-along k w v s c p = arity-of (tuple_arity w + tuple_arity v - 1) (tuple_along k w v s) (entries-along k w v s c p) (omega (arith, length-along k w v s p))

pub compose_valid : (k : ℕ) (w v : List (List ℕ)) → IsGenerator w → IsGenerator v → 1 ≤ k → k ≤ tuple_arity w → IsWithinLimits w v → All (λ t. IsGenerator t.0) (tuple_composition k w v)
compose_valid k w v g h a b l =
    let c = compose k w v g h a b l in
    terms k w v IsGenerator (λ s p z.
    let e = arity-along k w v s c p in
    let n = length-along k w v s p in
    record {
      some = omega (arith, n);
      short = omega (arith, n, l.short);
      wide = omega (arith, e, g.wide, h.wide);
      narrow = omega (arith, e, l.narrow);
      entries = subst (λ (r : ℕ). IsTuple r (tuple_along k w v s)) (sym e) (entries-along k w v s c p);
      plain = z;
    })

pub compose_arity : (k : ℕ) (w v : List (List ℕ)) → IsGenerator w → IsGenerator v → 1 ≤ k → k ≤ tuple_arity w → IsWithinLimits w v → All (λ t. tuple_arity t.0 + 1 ≡ tuple_arity w + tuple_arity v) (tuple_composition k w v)
compose_arity k w v g h a b l =
    let c = compose k w v g h a b l in
    terms k w v (λ t. tuple_arity t + 1 ≡ tuple_arity w + tuple_arity v) (λ s p z. omega (arith, arity-along k w v s c p, g.wide))

pub compose_degree : (k : ℕ) (w v : List (List ℕ)) → IsGenerator w → IsGenerator v → 1 ≤ k → k ≤ tuple_arity w → IsWithinLimits w v → All (λ t. tuple_degree t.0 ≡ tuple_degree w + tuple_degree v) (tuple_composition k w v)
compose_degree k w v g h a b l =
    terms k w v (λ t. tuple_degree t ≡ tuple_degree w + tuple_degree v) (λ s p z. omega (arith, length-along k w v s p))
