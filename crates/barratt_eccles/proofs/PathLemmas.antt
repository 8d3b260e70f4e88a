-- The sum over the lattice paths, and the walk that adds it up.
use Rattle.std.{proofs.Common.{◌≡◌, ℕ, zero, suc, ◌+◌, ◌-◌, ◌<◌, ◌≤◌, List, [], ◌∷◌, ◌++◌, length, drop, get_or, refl, sym, ap, ◌∙◌, ◌⊎◌, inl, inr, arith, append_assoc, false, true, subst, w64, to_z, of_z, ℤ, pos, neg_ℤ, ◌+ℤ◌, ◌*ℤ◌, nat_abs, length-append, length-drop}, specs.Cmp.Lexicographic.slice_cmp, specs.Ordering.nat_cmp, proofs.lemmas.Int.ints}
use Rattle.signed_sum.{specs.Names.{signed, restricted, value_at, weight_of}, proofs.Names.{mul-add, one-mul, signed-mul, signed-times, fun_ext, restricted-gone, restricted-there}}
use Rattle.operad_law.{specs.FormalSums.{IsSameSum, plus_term}, proofs.ListOrder.{equal_lists, equal_numbers}, proofs.PlusTerm.{value_at-plus_term, weight_of-plus_term}}
use Rattle.table_reduction_law.{proofs.MayBoundary.tuple-append, proofs.ReductionBoundary.permutation-length, specs.Names.{IsPermutationOf, IsTuple, is_degenerate_tuple, tuple_arity, tuple_degree}}
use Rattle.barratt_eccles.{specs.Generators.IsGenerator, specs.CompositionLaws.arity-of, specs.CompositionWalk.{AddsPaths, AddsTuple, IsAtPoint, paths_through}, specs.InsertedLaws.inserted-permutation, proofs.PathCounts.{paths_through-end, paths_through-next}}
use Rattle.composition_law.{specs.Tuples.{IsWithinLimits, inserted, lattice_paths, path_count, tuple_composition, at_end, path_sum}, proofs.Paths.composition-sum}

-- ---- the walk
-- w and v are the entries of the two lists at the point, and `along` has the entries up to it
pub record IsHere (k : ℕ) (outer inner before along : List (List ℕ)) (w v : List ℕ) : Type 0 where
  pub first : w ≡ get_or outer 0 w
  pub second : v ≡ get_or inner 0 v
  pub some : 1 ≤ length outer
  pub more : 1 ≤ length inner
  pub grown : along ≡ before ++ inserted k w v ∷ []

pub AddsPaths-none : (k : ℕ) (outer inner before : List (List ℕ)) (s : ℤ) (old : List (List (List ℕ) × ℤ)) → length outer ≡ 0 → AddsPaths k outer inner before s old old
AddsPaths-none k [] inner before s old e = record { sums = λ phi. omega (arith, ints); grows = omega arith }
AddsPaths-none k (w ∷ outer) inner before s old e = absurd (omega arith)

pub AddsPaths-empty : (k : ℕ) (outer inner before : List (List ℕ)) (s : ℤ) (old : List (List (List ℕ) × ℤ)) → length inner ≡ 0 → AddsPaths k outer inner before s old old
AddsPaths-empty k [] inner before s old e = record { sums = λ phi. omega (arith, ints); grows = omega arith }
AddsPaths-empty k (w ∷ outer) [] before s old e = record { sums = λ phi. omega (arith, ints); grows = omega arith }
AddsPaths-empty k (w ∷ outer) (v ∷ inner) before s old e = absurd (omega arith)

pub AddsPaths-end : (k : ℕ) (outer inner before along : List (List ℕ)) (w v : List ℕ) (s : ℤ) (old new : List (List (List ℕ) × ℤ)) → IsHere k outer inner before along w v → length outer ≡ 1 → length inner ≡ 1 →
    AddsTuple along s old new → AddsPaths k outer inner before s old new
AddsPaths-end k [] inner before along w v s old new l a b t = absurd (omega arith)
AddsPaths-end k (x ∷ y ∷ outer) inner before along w v s old new l a b t = absurd (omega arith)
AddsPaths-end k (x ∷ []) [] before along w v s old new l a b t = absurd (omega arith)
AddsPaths-end k (x ∷ []) (y ∷ z ∷ inner) before along w v s old new l a b t = absurd (omega arith)
AddsPaths-end k (x ∷ []) (y ∷ []) before along w v s old new l a b t = record {
  sums = λ phi.
      let h : List (List ℕ) → ℤ = restricted is_degenerate_tuple phi in
      let q : s *ℤ h along ≡ s *ℤ (h (before ++ inserted k x y ∷ []) +ℤ (pos 0 +ℤ pos 0)) =
      ap (λ c. s *ℤ c) (ap h (l.grown ∙ (λ i. before ++ inserted k (l.first i) (l.second i) ∷ [])) ∙ plus-none (h (before ++ inserted k x y ∷ []))) in
      t.sums phi ∙ ap (λ c. c +ℤ value_at phi old) q;
  grows = omega (arith, t.grows);
}
  where
    plus-none : (c : ℤ) → c ≡ c +ℤ (pos 0 +ℤ pos 0)
    plus-none c = omega (arith, ints)

pub AddsPaths-next : (k : ℕ) (outer inner before along : List (List ℕ)) (w v : List ℕ) (s t : ℤ) (old mid new : List (List (List ℕ) × ℤ)) → IsHere k outer inner before along w v → 3 ≤ length outer + length inner →
    t ≡ signed (length outer - 1) s → AddsPaths k (drop 1 outer) inner along s old mid → AddsPaths k outer (drop 1 inner) along t mid new → AddsPaths k outer inner before s old new
AddsPaths-next k [] inner before along w v s t old mid new l m g p q = absurd (omega (arith, l.some))
AddsPaths-next k (x ∷ outer) [] before along w v s t old mid new l m g p q = absurd (omega (arith, l.more))
AddsPaths-next k (x ∷ outer) (y ∷ inner) before along w v s t old mid new l m g p q = record {
  sums = λ phi.
      let h : List (List ℕ) → ℤ = restricted is_degenerate_tuple phi in
      let c : List ℕ = inserted k x y in
      let n : ℕ = length outer in
      let same : along ≡ before ++ c ∷ [] = l.grown ∙ (λ i. before ++ inserted k (l.first i) (l.second i) ∷ []) in
      let moved : (λ (r : List (List ℕ)). h (along ++ r)) ≡ (λ (r : List (List ℕ)). h (before ++ c ∷ r)) = fun_ext (λ r. ap h (ap (λ u. u ++ r) same ∙ append_assoc before (c ∷ []) r)) in
      let A : ℤ = path_sum k outer (y ∷ inner) (λ r. h (before ++ c ∷ r)) in
      let B : ℤ = path_sum k (x ∷ outer) inner (λ r. h (before ++ c ∷ r)) in
      let p1 : s *ℤ path_sum k outer (y ∷ inner) (λ r. h (along ++ r)) ≡ s *ℤ A = ap (λ f. s *ℤ path_sum k outer (y ∷ inner) f) moved in
      let size : suc n - 1 ≡ n = one-less n in
      let q1 : t *ℤ path_sum k (x ∷ outer) inner (λ r. h (along ++ r)) ≡ s *ℤ signed n B =
      (λ i. g i *ℤ path_sum k (x ∷ outer) inner (moved i))
      ∙ ap (λ j. signed j s *ℤ B) size ∙ signed-times n s B ∙ signed-mul n s B in
      let none : at_end outer inner (h (before ++ c ∷ [])) ≡ pos 0 = not-end outer inner (h (before ++ c ∷ [])) (fewer n (length inner) m) in
      let sum : s *ℤ (at_end outer inner (h (before ++ c ∷ [])) +ℤ (A +ℤ signed n B)) ≡ s *ℤ A +ℤ s *ℤ signed n B =
      ap (λ z. s *ℤ z) (ap (λ z. z +ℤ (A +ℤ signed n B)) none ∙ none-plus (A +ℤ signed n B)) ∙ mul-add s A (signed n B) in
      omega (arith, ints, p.sums phi, q.sums phi, p1, q1, sum);
  grows = omega (arith, p.grows, q.grows, paths_through-next (x ∷ outer) (y ∷ inner) l.some l.more m);
}
  where
    not-end : (outer inner : List (List ℕ)) (z : ℤ) → 1 ≤ length outer + length inner → at_end outer inner z ≡ pos 0
    not-end [] [] z h = absurd (omega arith)
    not-end [] (y ∷ inner) z h = refl
    not-end (x ∷ outer) inner z h = refl

    one-less : (n : ℕ) → suc n - 1 ≡ n
    one-less n = omega arith

    fewer : (n m : ℕ) → 3 ≤ suc n + suc m → 1 ≤ n + m
    fewer n m h = omega arith

    none-plus : (z : ℤ) → pos 0 +ℤ z ≡ z
    none-plus z = omega (arith, ints)

pub AddsPaths-all : (k : ℕ) (outer inner before : List (List ℕ)) (old sum : List (List (List ℕ) × ℤ)) → 1 ≤ length outer → 1 ≤ length inner → before ≡ [] → old ≡ [] → AddsPaths k outer inner before (pos 1) old sum → IsSameSum sum (tuple_composition k outer inner)
AddsPaths-all k outer inner before old sum a b none nothing p = record {
  at = λ phi.
      let h : List (List ℕ) → ℤ = restricted is_degenerate_tuple phi in
      let q : value_at phi sum ≡ pos 1 *ℤ path_sum k outer inner h +ℤ value_at phi [] =
      p.sums phi ∙ (λ i. pos 1 *ℤ path_sum k outer inner (λ r. h (none i ++ r)) +ℤ value_at phi (nothing i)) in
      let one = one-mul (path_sum k outer inner h) in
      let s : value_at phi sum ≡ path_sum k outer inner h = omega (arith, ints, q, one) in
      s ∙ sym (composition-sum k phi outer inner a b);
}

pub AddsPaths-same : (k : ℕ) (o o' i i' b b' : List (List ℕ)) (s s' : ℤ) (old new : List (List (List ℕ) × ℤ)) → o ≡ o' → i ≡ i' → b ≡ b' → s ≡ s' → AddsPaths k o i b s old new → AddsPaths k o' i' b' s' old new
AddsPaths-same k o o' i i' b b' s s' old new eo ei eb es p =
    subst (λ (x : ℤ). AddsPaths k o' i' b' x old new) es
    (subst (λ (x : List (List ℕ)). AddsPaths k o' i' x s old new) eb
    (subst (λ (x : List (List ℕ)). AddsPaths k o' x b s old new) ei
    (subst (λ (x : List (List ℕ)). AddsPaths k x i b s old new) eo p)))

-- ---- signs as 64 bits
pub bits-same : (s : ℤ) → nat_abs s ≤ 1 → to_z w64 (of_z w64 s) ≡ s
bits-same s h = omega (arith, ints)

pub signed-small : (n : ℕ) (s : ℤ) → nat_abs s ≤ 1 → nat_abs (signed n s) ≤ 1
signed-small zero s h = h
signed-small (suc n) s h = omega (arith, ints, signed-small n s h)

-- ---- the weight that the walk needs
pub room-x : {k : ℕ} {outer inner before along : List (List ℕ)} {w v : List ℕ} → IsHere k outer inner before along w v → (o : List (List ℕ)) (old : List (List (List ℕ) × ℤ)) (most : ℕ) → 3 ≤ length outer + length inner → o ≡ drop 1 outer →
    weight_of old + paths_through outer inner ≤ most → weight_of old + paths_through o inner ≤ most
room-x {outer} {inner} l o old most m e h = rw e (omega (arith, paths_through-next outer inner l.some l.more m))

pub room-y : {k : ℕ} {outer inner before along : List (List ℕ)} {w v : List ℕ} → IsHere k outer inner before along w v → (o i : List (List ℕ)) (old mid : List (List (List ℕ) × ℤ)) (most : ℕ) → 3 ≤ length outer + length inner → o ≡ drop 1 outer → i ≡ drop 1 inner →
    weight_of mid ≤ weight_of old + paths_through o inner → weight_of old + paths_through outer inner ≤ most → weight_of mid + paths_through outer i ≤ most
room-y {outer} {inner} l o i old mid most m e f p h =
    let g : weight_of mid ≤ weight_of old + paths_through (drop 1 outer) inner = subst (λ (x : List (List ℕ)). weight_of mid ≤ weight_of old + paths_through x inner) e p in
    rw f (omega (arith, g, paths_through-next outer inner l.some l.more m))

pub room-end : (outer inner : List (List ℕ)) (old : List (List (List ℕ) × ℤ)) (most : ℕ) → length outer ≡ 1 → length inner ≡ 1 → weight_of old + paths_through outer inner ≤ most → weight_of old < most
room-end outer inner old most a b h = omega (arith, paths_through-end outer inner a b)

pub room-start : (outer inner : List (List ℕ)) (sum : List (List (List ℕ) × ℤ)) (most : ℕ) → 1 ≤ length outer → 1 ≤ length inner → sum ≡ [] → path_count outer inner ≤ most → weight_of sum + paths_through outer inner ≤ most
room-start [] inner sum most a b e h = absurd (omega arith)
room-start (w ∷ ws) [] sum most a b e h = absurd (omega arith)
room-start (w ∷ ws) (v ∷ vs) sum most a b e h =
    let d : tuple_degree (w ∷ ws) ≡ length ws = omega arith in
    let c : tuple_degree (v ∷ vs) ≡ length vs = omega arith in
    let p : length (lattice_paths (length ws) (length vs)) ≤ most = subst (λ (n : ℕ). length (lattice_paths n (length vs)) ≤ most) d (subst (λ (n : ℕ). length (lattice_paths (tuple_degree (w ∷ ws)) n) ≤ most) c h) in
    rw e (omega (arith, p))

-- ---- one tuple
pub AddsTuple-none : (w : List (List ℕ)) (s : ℤ) (old : List (List (List ℕ) × ℤ)) → is_degenerate_tuple w ≡ true → AddsTuple w s old old
AddsTuple-none w s old z = record {
  sums = λ phi. let a : s *ℤ restricted is_degenerate_tuple phi w ≡ s *ℤ pos 0 = ap (λ y. s *ℤ y) (restricted-gone is_degenerate_tuple phi w z) in omega (arith, ints, a);
  grows = omega arith;
}

pub AddsTuple-term : (w : List (List ℕ)) (s : ℤ) (old : List (List (List ℕ) × ℤ)) → is_degenerate_tuple w ≡ false → nat_abs s ≤ 1 → AddsTuple w s old (plus_term (slice_cmp (slice_cmp nat_cmp)) old w s)
AddsTuple-term w s old z m = record {
  sums = λ phi.
      let a : s *ℤ phi w ≡ s *ℤ restricted is_degenerate_tuple phi w = ap (λ y. s *ℤ y) (sym (restricted-there is_degenerate_tuple phi w z)) in
      omega (arith, ints, a, value_at-plus_term (slice_cmp (slice_cmp nat_cmp)) (equal_lists (slice_cmp nat_cmp) equal_numbers) phi old w s);
  grows = omega (arith, weight_of-plus_term (slice_cmp (slice_cmp nat_cmp)) old w s);
}

-- ---- points
pub point-start : (k : ℕ) (outer inner : List (List ℕ)) → IsGenerator outer → IsGenerator inner → 1 ≤ k → k ≤ tuple_arity outer → IsWithinLimits outer inner → IsAtPoint k outer inner []
point-start k outer inner g h a b l = record {
  r = tuple_arity outer;
  s = tuple_arity inner;
  place = a;
  within = b;
  some = h.wide;
  narrow = l.narrow;
  outer_entries = g.entries;
  inner_entries = h.entries;
  entries = tt;
  short = omega (arith, l.short, g.some, h.some);
}

first-entry : (r : ℕ) (u : List (List ℕ)) (w : List ℕ) → IsTuple r u → w ≡ get_or u 0 w → 1 ≤ length u → IsPermutationOf r w
first-entry r [] w t e h = absurd (omega arith)
first-entry r (x ∷ u) w t e h = subst (IsPermutationOf r) (sym e) t.0

rest-tuple : (r : ℕ) (u : List (List ℕ)) → IsTuple r u → IsTuple r (drop 1 u)
rest-tuple r [] t = tt
rest-tuple r (x ∷ u) t = t.1

-- the entry at a point, behind those before it
entries-next : {k : ℕ} {outer inner before along : List (List ℕ)} {w v : List ℕ} (p : IsAtPoint k outer inner before) → IsHere k outer inner before along w v → IsTuple (p.r + p.s - 1) along
entries-next {k} {outer} {inner} {before} {along} {w} {v} p l =
    subst (IsTuple (p.r + p.s - 1)) (sym l.grown)
    (tuple-append (p.r + p.s - 1) before (inserted k w v ∷ []) p.entries
    (inserted-permutation k p.r p.s w v p.place p.within p.some (first-entry p.r outer w p.outer_entries l.first l.some) (first-entry p.s inner v p.inner_entries l.second l.more), tt))

size-next : {k : ℕ} {outer inner before along : List (List ℕ)} {w v : List ℕ} → IsHere k outer inner before along w v → length along ≡ length before + 1
size-next {k} {outer} {inner} {before} {along} {w} {v} l = ap length l.grown ∙ length-append before (inserted k w v ∷ [])

pub point-x : {k : ℕ} {outer inner before along : List (List ℕ)} {w v : List ℕ} → IsAtPoint k outer inner before → IsHere k outer inner before along w v → IsAtPoint k (drop 1 outer) inner along
point-x {outer} p l = record {
  r = p.r;
  s = p.s;
  place = p.place;
  within = p.within;
  some = p.some;
  narrow = p.narrow;
  outer_entries = rest-tuple p.r outer p.outer_entries;
  inner_entries = p.inner_entries;
  entries = entries-next p l;
  short = omega (arith, p.short, l.some, size-next l, length-drop 1 outer);
}

pub point-y : {k : ℕ} {outer inner before along : List (List ℕ)} {w v : List ℕ} → IsAtPoint k outer inner before → IsHere k outer inner before along w v → IsAtPoint k outer (drop 1 inner) along
point-y {inner} p l = record {
  r = p.r;
  s = p.s;
  place = p.place;
  within = p.within;
  some = p.some;
  narrow = p.narrow;
  outer_entries = p.outer_entries;
  inner_entries = rest-tuple p.s inner p.inner_entries;
  entries = entries-next p l;
  short = omega (arith, p.short, l.more, size-next l, length-drop 1 inner);
}

pub point-end : {k : ℕ} {outer inner before along : List (List ℕ)} {w v : List ℕ} → IsAtPoint k outer inner before → IsHere k outer inner before along w v → is_degenerate_tuple along ≡ false → IsGenerator along
point-end {along} p l z =
    let n = size-next l in
    let e : tuple_arity along ≡ p.r + p.s - 1 = arity-of (p.r + p.s - 1) along (entries-next p l) (omega (arith, n)) in
    record {
      some = omega (arith, n);
      short = omega (arith, n, p.short, l.some, l.more);
      wide = omega (arith, e, p.place, p.within, p.some);
      narrow = omega (arith, e, p.narrow);
      entries = subst (λ (m : ℕ). IsTuple m along) (sym e) (entries-next p l);
      plain = z;
    }

pub within-entry : (k : ℕ) (outer inner before : List (List ℕ)) (w : List ℕ) → IsAtPoint k outer inner before → w ≡ get_or outer 0 w → 1 ≤ length outer → k ≤ length w
within-entry k outer inner before w p e h = omega (arith, p.within, permutation-length p.r w (first-entry p.r outer w p.outer_entries e h))

-- not both lists have one entry
pub many : {k : ℕ} {outer inner before along : List (List ℕ)} {w v : List ℕ} → IsHere k outer inner before along w v → (length outer ≡ 1 × (length inner ≡ 1 → ⊥)) ⊎ (length outer ≡ 1 → ⊥) → 3 ≤ length outer + length inner
many l e = elim e [ inl f ↦ (let n = f.1 in omega (arith, f.0, n, l.more)) | inr f ↦ omega (arith, f, l.some, l.more) ]
