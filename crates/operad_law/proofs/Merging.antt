-- Two ascending lists of terms merged into one: what is merged so far, and what is left.
use Rattle.std.{proofs.Common.{◌≡◌, ◌≢◌, ◌⊎◌, ℕ, suc, ◌+◌, ◌*◌, ◌≤◌, ◌<◌, ◌^◌, List, [], ◌∷◌, ◌++◌, length, drop, get_or, refl, sym, ap, subst, ◌∙◌, inl, inr, arith, Ordering, Less, Equal, Greater, FitsSigned, w64, to_z, of_z, ℤ, ◌+ℤ◌, ◌*ℤ◌, nat_abs, length-drop}, specs.Cmp.IsTotalOrder, specs.Ordering.ordering_reverse, proofs.Math.Nat.mul-le-mul_left, proofs.Math.Seq.drop-cons, proofs.lemmas.Int.{ints, to_z-of_z}, proofs.lemmas.Bool.cases_Bool, proofs.lemmas.List.drop_all}
use Rattle.signed_sum.{proofs.Names.{add-mul, mul-add, mul_assoc, mul_comm, value_at-append, weight_of-append}, specs.Names.{value_at, weight_of, is_zero}}
use Rattle.operad_law.{specs.FormalSums.{IsBelow, IsAscending, IsNonzero, IsPlusScaled, with_term}, specs.Places.{IsAbove, first_order}, proofs.PlusTerm.{value_at-with_term, weight_of-with_term, IsBelow-less, abs_sum}, proofs.ScaledSums.abs-mul, proofs.TermPlaces.weight_at}

-- `out` is what is merged of `first` and `by` times `other`, and `xs` and `ys` what is left of them
pub record IsMerging {X : Type 0} (cmp : X → X → Ordering) (first other : List (X × ℤ)) (by : ℤ) (out xs ys : List (X × ℤ)) : Type 0 where
  pub sums : (phi : X → ℤ) → value_at phi out +ℤ (value_at phi xs +ℤ by *ℤ value_at phi ys) ≡ value_at phi first +ℤ by *ℤ value_at phi other
  pub grows : weight_of out + (weight_of xs + nat_abs by * weight_of ys) ≤ weight_of first + nat_abs by * weight_of other
  pub nonzero : IsNonzero out
  pub first_up : IsAscending cmp (out ++ xs)
  pub other_up : IsAscending cmp (out ++ ys)

-- ---- the order
front_of : {X : Type 0} (cmp : X → X → Ordering) (y : X) (ls rs : List (X × ℤ)) → IsBelow cmp y (ls ++ rs) → IsBelow cmp y ls
front_of cmp y [] rs b = tt
front_of cmp y (t ∷ ls) rs b = (b.0, front_of cmp y ls rs b.1)

both_below : {X : Type 0} (cmp : X → X → Ordering) (y : X) (ls rs : List (X × ℤ)) → IsBelow cmp y ls → IsBelow cmp y rs → IsBelow cmp y (ls ++ rs)
both_below cmp y [] rs a b = b
both_below cmp y (t ∷ ls) rs a b = (a.0, both_below cmp y ls rs a.1 b)

rest_below : {X : Type 0} (cmp : X → X → Ordering) (y : X) (ls rs : List (X × ℤ)) → IsBelow cmp y (ls ++ rs) → IsBelow cmp y rs
rest_below cmp y [] rs b = b
rest_below cmp y (t ∷ ls) rs b = rest_below cmp y ls rs b.1

rest_up : {X : Type 0} (cmp : X → X → Ordering) (ls rs : List (X × ℤ)) → IsAscending cmp (ls ++ rs) → IsAscending cmp rs
rest_up cmp [] rs a = a
rest_up cmp (t ∷ ls) rs a = rest_up cmp ls rs a.1

above_front : {X : Type 0} (cmp : X → X → Ordering) (ls : List (X × ℤ)) (t : X × ℤ) (rs : List (X × ℤ)) → IsAscending cmp (ls ++ t ∷ rs) → IsAbove cmp t.0 ls
above_front cmp [] t rs a = tt
above_front cmp (u ∷ ls) t rs a = ((rest_below cmp u.0 ls (t ∷ rs) a.0).0, above_front cmp ls t rs a.1)

without_next : {X : Type 0} (cmp : X → X → Ordering) (ls : List (X × ℤ)) (t : X × ℤ) (rs : List (X × ℤ)) → IsAscending cmp (ls ++ t ∷ rs) → IsAscending cmp (ls ++ rs)
without_next cmp [] t rs a = a.1
without_next cmp (u ∷ ls) t rs a = (both_below cmp u.0 ls rs (front_of cmp u.0 ls (t ∷ rs) a.0) (rest_below cmp u.0 ls (t ∷ rs) a.0).1, without_next cmp ls t rs a.1)

below_one : {X : Type 0} (cmp : X → X → Ordering) (y x : X) (c : ℤ) → cmp y x ≡ Less → IsBelow cmp y (with_term x c [])
below_one cmp y x c l = elim (cases_Bool (is_zero c)) [ inl z ↦ rw z tt | inr z ↦ rw z (l, tt) ]

-- a term between an ascending list and what comes after it
between : {X : Type 0} (cmp : X → X → Ordering) (ls rs : List (X × ℤ)) (x : X) (c : ℤ) → IsAscending cmp (ls ++ rs) → IsAbove cmp x ls → IsBelow cmp x rs → IsAscending cmp ((ls ++ with_term x c []) ++ rs)
between cmp [] rs x c a b l = elim (cases_Bool (is_zero c)) [ inl z ↦ rw z a | inr z ↦ rw z (l, a) ]
between cmp (t ∷ ls) rs x c a b l =
    (both_below cmp t.0 (ls ++ with_term x c []) rs (both_below cmp t.0 ls (with_term x c []) (front_of cmp t.0 ls rs a.0) (below_one cmp t.0 x c b.0)) (rest_below cmp t.0 ls rs a.0), between cmp ls rs x c a.1 b.1 l)

nonzero_more : {X : Type 0} (ls : List (X × ℤ)) (x : X) (c : ℤ) → IsNonzero ls → IsNonzero (ls ++ with_term x c [])
nonzero_more [] x c n = elim (cases_Bool (is_zero c)) [ inl z ↦ rw z tt | inr z ↦ rw z (z, tt) ]
nonzero_more (t ∷ ls) x c n = (n.0, nonzero_more ls x c n.1)

-- ---- the value and the weight
value_more : {X : Type 0} (phi : X → ℤ) (ls : List (X × ℤ)) (x : X) (c : ℤ) → value_at phi (ls ++ with_term x c []) ≡ value_at phi ls +ℤ c *ℤ phi x
value_more phi ls x c = omega (arith, ints, value_at-append phi ls (with_term x c []), value_at-with_term phi x c [])

weight_more : {X : Type 0} (ls : List (X × ℤ)) (x : X) (c : ℤ) → weight_of (ls ++ with_term x c []) ≡ weight_of ls + nat_abs c
weight_more ls x c = omega (arith, weight_of-append ls (with_term x c []), weight_of-with_term x c [])

times_first : {X : Type 0} (phi : X → ℤ) (y : X × ℤ) (ys : List (X × ℤ)) (by : ℤ) → by *ℤ value_at phi (y ∷ ys) ≡ (y.1 *ℤ by) *ℤ phi y.0 +ℤ by *ℤ value_at phi ys
times_first phi y ys by =
    mul-add by (y.1 *ℤ phi y.0) (value_at phi ys)
    ∙ ap (λ v. v +ℤ by *ℤ value_at phi ys) (sym (mul_assoc by y.1 (phi y.0)) ∙ ap (λ v. v *ℤ phi y.0) (mul_comm by y.1))

-- ---- a step
less_first : {X : Type 0} (cmp : X → X → Ordering) (o : IsTotalOrder cmp) (x : X × ℤ) (xs ys : List (X × ℤ)) → first_order cmp (x ∷ xs) ys ≡ Less → IsAscending cmp ys → IsBelow cmp x.0 ys
less_first cmp o x xs [] l a = tt
less_first cmp o x xs (y ∷ ys) l a = (l, IsBelow-less cmp o x.0 y.0 ys l a.0)

greater_first : {X : Type 0} (cmp : X → X → Ordering) (o : IsTotalOrder cmp) (y : X × ℤ) (xs ys : List (X × ℤ)) → first_order cmp xs (y ∷ ys) ≡ Greater → IsAscending cmp xs → IsBelow cmp y.0 xs
greater_first cmp o y [] ys l a = tt
greater_first cmp o y (x ∷ xs) ys l a = let k : cmp y.0 x.0 ≡ Less = o.antisymm y.0 x.0 ∙ ap ordering_reverse l in (k, IsBelow-less cmp o y.0 x.0 xs k a.0)

step_first : {X : Type 0} (cmp : X → X → Ordering) (o : IsTotalOrder cmp) (first other : List (X × ℤ)) (by : ℤ) (out : List (X × ℤ)) (x : X × ℤ) (xs ys : List (X × ℤ)) → first_order cmp (x ∷ xs) ys ≡ Less →
    IsMerging cmp first other by out (x ∷ xs) ys → IsMerging cmp first other by (out ++ with_term x.0 x.1 []) xs ys
step_first cmp o first other by out x xs ys l m =
    let above : IsAbove cmp x.0 out = above_front cmp out x xs m.first_up in
    record {
      sums = λ phi. omega (arith, ints, m.sums phi, value_more phi out x.0 x.1);
      grows = omega (arith, m.grows, weight_more out x.0 x.1);
      nonzero = nonzero_more out x.0 x.1 m.nonzero;
      first_up = between cmp out xs x.0 x.1 (without_next cmp out x xs m.first_up) above (rest_up cmp out (x ∷ xs) m.first_up).0;
      other_up = between cmp out ys x.0 x.1 m.other_up above (less_first cmp o x xs ys l (rest_up cmp out ys m.other_up));
    }

step_other : {X : Type 0} (cmp : X → X → Ordering) (o : IsTotalOrder cmp) (first other : List (X × ℤ)) (by : ℤ) (out : List (X × ℤ)) (y : X × ℤ) (xs ys : List (X × ℤ)) → first_order cmp xs (y ∷ ys) ≡ Greater →
    IsMerging cmp first other by out xs (y ∷ ys) → IsMerging cmp first other by (out ++ with_term y.0 (y.1 *ℤ by) []) xs ys
step_other cmp o first other by out y xs ys l m =
    let above : IsAbove cmp y.0 out = above_front cmp out y ys m.other_up in
    record {
      sums = λ phi. omega (arith, ints, m.sums phi, value_more phi out y.0 (y.1 *ℤ by), times_first phi y ys by);
      grows = omega (arith, m.grows, weight_more out y.0 (y.1 *ℤ by), abs-mul y.1 by);
      nonzero = nonzero_more out y.0 (y.1 *ℤ by) m.nonzero;
      first_up = between cmp out xs y.0 (y.1 *ℤ by) m.first_up above (greater_first cmp o y xs ys l (rest_up cmp out xs m.first_up));
      other_up = between cmp out ys y.0 (y.1 *ℤ by) (without_next cmp out y ys m.other_up) above (rest_up cmp out (y ∷ ys) m.other_up).0;
    }

step_both : {X : Type 0} (cmp : X → X → Ordering) (same : (x y : X) → cmp x y ≡ Equal → x ≡ y) (first other : List (X × ℤ)) (by : ℤ) (out : List (X × ℤ)) (x y : X × ℤ) (xs ys : List (X × ℤ)) → cmp x.0 y.0 ≡ Equal →
    IsMerging cmp first other by out (x ∷ xs) (y ∷ ys) → IsMerging cmp first other by (out ++ with_term x.0 (x.1 +ℤ y.1 *ℤ by) []) xs ys
step_both {X = X} cmp same first other by out x y xs ys l m =
    let e : x.0 ≡ y.0 = same x.0 y.0 l in
    let above : IsAbove cmp x.0 out = above_front cmp out x xs m.first_up in
    record {
      sums = λ phi. omega (arith, ints, m.sums phi, value_more phi out x.0 (x.1 +ℤ y.1 *ℤ by), times_first phi y ys by, add-mul x.1 (y.1 *ℤ by) (phi x.0), ap (λ v. (y.1 *ℤ by) *ℤ phi v) e);
      grows = omega (arith, m.grows, weight_more out x.0 (x.1 +ℤ y.1 *ℤ by), abs_sum x.1 (y.1 *ℤ by), abs-mul y.1 by);
      nonzero = nonzero_more out x.0 (x.1 +ℤ y.1 *ℤ by) m.nonzero;
      first_up = between cmp out xs x.0 (x.1 +ℤ y.1 *ℤ by) (without_next cmp out x xs m.first_up) above (rest_up cmp out (x ∷ xs) m.first_up).0;
      other_up = between cmp out ys x.0 (x.1 +ℤ y.1 *ℤ by) (without_next cmp out y ys m.other_up) above (subst (λ (v : X). IsBelow cmp v ys) (sym e) (rest_up cmp out (y ∷ ys) m.other_up).0);
    }

-- ---- at places of the two lists
first_left : {X : Type 0} (cmp : X → X → Ordering) (xs ys : List (X × ℤ)) (r : Ordering) → first_order cmp xs ys ≡ r → r ≢ Greater → 0 < length xs
first_left cmp [] ys r e n = absurd (n (sym e))
first_left cmp (x ∷ xs) ys r e n = omega arith

other_left : {X : Type 0} (cmp : X → X → Ordering) (xs ys : List (X × ℤ)) (r : Ordering) → first_order cmp xs ys ≡ r → r ≢ Less → 0 < length xs + length ys → 0 < length ys
other_left cmp [] ys r e n h = omega arith
other_left cmp (x ∷ xs) [] r e n h = absurd (n (sym e))
other_left cmp (x ∷ xs) (y ∷ ys) r e n h = omega arith

pub first_within : {X : Type 0} (cmp : X → X → Ordering) (first other : List (X × ℤ)) (i j : ℕ) (r : Ordering) → r ≡ first_order cmp (drop i first) (drop j other) → r ≢ Greater → i < length first
first_within cmp first other i j r e n = let h : 0 < length (drop i first) = first_left cmp (drop i first) (drop j other) r (sym e) n in omega (arith, length-drop i first)

pub other_within : {X : Type 0} (cmp : X → X → Ordering) (first other : List (X × ℤ)) (i j : ℕ) (r : Ordering) → r ≡ first_order cmp (drop i first) (drop j other) → r ≢ Less → i ≤ length first → j ≤ length other → i < length first ⊎ j < length other → j < length other
other_within cmp first other i j r e n a b s =
    let h : 0 < length (drop i first) + length (drop j other) = elim s [ inl p ↦ omega (arith, length-drop i first) | inr p ↦ omega (arith, length-drop j other) ] in
    let k : 0 < length (drop j other) = other_left cmp (drop i first) (drop j other) r (sym e) n h in
    omega (arith, length-drop j other)

pub both_within : {X : Type 0} (cmp : X → X → Ordering) (first other : List (X × ℤ)) (i j : ℕ) → Equal ≡ first_order cmp (drop i first) (drop j other) → (i < length first) × (j < length other)
both_within cmp first other i j e =
    let h : 0 < length (drop i first) = first_left cmp (drop i first) (drop j other) Equal (sym e) (λ q. cc q) in
    let k : 0 < length (drop j other) = other_left cmp (drop i first) (drop j other) Equal (sym e) (λ q. cc q) (omega arith) in
    (omega (arith, length-drop i first), omega (arith, length-drop j other))

next_of : {X : Type 0} (xs : List X) (i : ℕ) (t : X) → i < length xs → t ≡ get_or xs i t → drop i xs ≡ t ∷ drop (suc i) xs
next_of xs i t h e = drop-cons xs i t h ∙ ap (λ v. v ∷ drop (suc i) xs) (sym e)

pub order_at_end : {X : Type 0} (cmp : X → X → Ordering) (first other : List (X × ℤ)) (i j : ℕ) → i < length first → length other ≤ j → Less ≡ first_order cmp (drop i first) (drop j other)
order_at_end cmp [] other i j h k = absurd (omega arith)
order_at_end cmp (t ∷ first) other i j h k = rw (drop-cons (t ∷ first) i t h, drop_all j other k) refl

pub more_first : {X : Type 0} (cmp : X → X → Ordering) (o : IsTotalOrder cmp) (first other : List (X × ℤ)) (by : ℤ) (out new : List (X × ℤ)) (i j : ℕ) (t : X × ℤ) → i < length first → t ≡ get_or first i t → Less ≡ first_order cmp (drop i first) (drop j other) →
    IsMerging cmp first other by out (drop i first) (drop j other) → new ≡ out ++ with_term t.0 t.1 [] → IsMerging cmp first other by new (drop (i + 1) first) (drop j other)
more_first cmp o first other by out new i j t h e l m n =
    let s : i + 1 ≡ suc i = omega arith in
    let d : drop i first ≡ t ∷ drop (suc i) first = next_of first i t h e in
    rw (s, n) (step_first cmp o first other by out t (drop (suc i) first) (drop j other) (sym (rw d at l)) (rw d at m))

pub more_other : {X : Type 0} (cmp : X → X → Ordering) (o : IsTotalOrder cmp) (first other : List (X × ℤ)) (by : ℤ) (out new : List (X × ℤ)) (i j : ℕ) (u : X × ℤ) → j < length other → u ≡ get_or other j u → Greater ≡ first_order cmp (drop i first) (drop j other) →
    IsMerging cmp first other by out (drop i first) (drop j other) → new ≡ out ++ with_term u.0 (u.1 *ℤ by) [] → IsMerging cmp first other by new (drop i first) (drop (j + 1) other)
more_other cmp o first other by out new i j u h e l m n =
    let s : j + 1 ≡ suc j = omega arith in
    let d : drop j other ≡ u ∷ drop (suc j) other = next_of other j u h e in
    rw (s, n) (step_other cmp o first other by out u (drop i first) (drop (suc j) other) (sym (rw d at l)) (rw d at m))

pub more_both : {X : Type 0} (cmp : X → X → Ordering) (same : (x y : X) → cmp x y ≡ Equal → x ≡ y) (first other : List (X × ℤ)) (by : ℤ) (out new : List (X × ℤ)) (i j : ℕ) (t u : X × ℤ) → i < length first → t ≡ get_or first i t → j < length other → u ≡ get_or other j u →
    Equal ≡ first_order cmp (drop i first) (drop j other) → IsMerging cmp first other by out (drop i first) (drop j other) → new ≡ out ++ with_term t.0 (t.1 +ℤ u.1 *ℤ by) [] → IsMerging cmp first other by new (drop (i + 1) first) (drop (j + 1) other)
more_both cmp same first other by out new i j t u h e k f l m n =
    let s : i + 1 ≡ suc i = omega arith in
    let r : j + 1 ≡ suc j = omega arith in
    let d : drop i first ≡ t ∷ drop (suc i) first = next_of first i t h e in
    let c : drop j other ≡ u ∷ drop (suc j) other = next_of other j u k f in
    rw (s, r, n) (step_both cmp same first other by out t u (drop (suc i) first) (drop (suc j) other) (sym (rw (d, c) at l)) (rw (d, c) at m))

-- ---- the coefficients as the code computes them
fits_of : (a : ℤ) → nat_abs a ≤ 10 ^ 18 → FitsSigned w64 a
fits_of a h = omega (arith, ints)

pub times_bound : {X : Type 0} (ts : List (X × ℤ)) (j : ℕ) (u : X × ℤ) (by : ℤ) → j < length ts → u ≡ get_or ts j u → nat_abs (u.1 *ℤ by) ≤ nat_abs by * weight_of ts
times_bound ts j u by h e = omega (arith, abs-mul u.1 by, mul-le-mul_left (nat_abs by) (weight_at ts j u h e))

pub times_fits : (a b : ℤ) → FitsSigned w64 a → nat_abs (a *ℤ b) ≤ 10 ^ 18 → FitsSigned w64 (to_z w64 (of_z w64 a) *ℤ b)
times_fits a b f m = rw (to_z-of_z w64 a f) (fits_of (a *ℤ b) m)

pub times_is : (a b : ℤ) → FitsSigned w64 a → nat_abs (a *ℤ b) ≤ 10 ^ 18 → to_z w64 (of_z w64 (to_z w64 (of_z w64 a) *ℤ b)) ≡ a *ℤ b
times_is a b f m = ap (λ v. to_z w64 (of_z w64 (v *ℤ b))) (to_z-of_z w64 a f) ∙ to_z-of_z w64 (a *ℤ b) (fits_of (a *ℤ b) m)

sum_least : (a b : ℤ) → nat_abs a + nat_abs b ≤ 10 ^ 18 → nat_abs (a +ℤ b) ≤ 10 ^ 18
sum_least a b m = omega (arith, abs_sum a b)

pub sum_fits : (a b c : ℤ) → FitsSigned w64 a → c ≡ b → nat_abs a + nat_abs b ≤ 10 ^ 18 → FitsSigned w64 (to_z w64 (of_z w64 a) +ℤ c)
sum_fits a b c f e m = rw (to_z-of_z w64 a f, e) (fits_of (a +ℤ b) (sum_least a b m))

pub sum_is : (a b c : ℤ) → FitsSigned w64 a → c ≡ b → nat_abs a + nat_abs b ≤ 10 ^ 18 → to_z w64 (of_z w64 (to_z w64 (of_z w64 a) +ℤ c)) ≡ a +ℤ b
sum_is a b c f e m = ap (λ v. to_z w64 (of_z w64 (v +ℤ c))) (to_z-of_z w64 a f) ∙ ap (λ v. to_z w64 (of_z w64 (a +ℤ v))) e ∙ to_z-of_z w64 (a +ℤ b) (fits_of (a +ℤ b) (sum_least a b m))

-- ---- the end
merging_done : {X : Type 0} (cmp : X → X → Ordering) (first other : List (X × ℤ)) (by : ℤ) (out : List (X × ℤ)) (i j : ℕ) → length first ≤ i → length other ≤ j → IsMerging cmp first other by out (drop i first) (drop j other) → IsMerging cmp first other by out [] []
merging_done cmp first other by out i j h k m = rw (drop_all i first h, drop_all j other k) at m

pub merged-scaled : {X : Type 0} (cmp : X → X → Ordering) (first other : List (X × ℤ)) (by : ℤ) (out : List (X × ℤ)) (i j : ℕ) → length first ≤ i → length other ≤ j → IsMerging cmp first other by out (drop i first) (drop j other) → IsPlusScaled first other by out
merged-scaled cmp first other by out i j h k m =
    let d : IsMerging cmp first other by out [] [] = merging_done cmp first other by out i j h k m in
    record { sums = λ phi. omega (arith, ints, d.sums phi); grows = omega (arith, d.grows) }
