-- A term added at a place of the list.
use Rattle.std.{proofs.Common.{◌≡◌, ℕ, zero, suc, ◌+◌, ◌≤◌, ◌<◌, ◌≢◌, Bool, true, false, cond, List, [], ◌∷◌, ◌++◌, length, take, drop, set, get_or, get_or-set_same, refl, sym, ap, ◌∙◌, inl, inr, arith, Ordering, Less, Equal, Greater, is_eq, FitsSigned, w64, of_z, ℤ, pos, ◌+ℤ◌, nat_abs, take-append-drop, drop-set-lt, length-set}, proofs.lemmas.Int.ints, proofs.lemmas.Bool.cases_Bool, proofs.Math.Seq.{take-suc, drop-cons}, proofs.lemmas.List.take-set, specs.Cmp.IsTotalOrder, specs.Ordering.ordering_reverse}
use Rattle.signed_sum.{proofs.Names.is_zero-true, specs.Names.{is_zero, weight_of}}
use Rattle.operad_law.{specs.Places.IsAbove, specs.FormalSums.{IsAscending, IsBelow, coefficient_of, with_term, plus_term, plus_first}, proofs.PlusTerm.{plus_term-append, weight_of-with_term}}

IsAbove-push : {X : Type 0} (cmp : X → X → Ordering) (x : X) (ts : List (X × ℤ)) (t : X × ℤ) → IsAbove cmp x ts → cmp t.0 x ≡ Less → IsAbove cmp x (ts ++ t ∷ [])
IsAbove-push cmp x [] t a l = (l, tt)
IsAbove-push cmp x (u ∷ ts) t a l = (a.0, IsAbove-push cmp x ts t a.1 l)

pub IsAbove-more : {X : Type 0} (cmp : X → X → Ordering) (x : X) (ts : List (X × ℤ)) (k : ℕ) (d : X × ℤ) → k < length ts → IsAbove cmp x (take k ts) → cmp (get_or ts k d).0 x ≡ Less → IsAbove cmp x (take (k + 1) ts)
IsAbove-more cmp x ts k d h a l =
    let e : k + 1 ≡ suc k = omega arith in
    rw (e, take-suc ts k d h) (IsAbove-push cmp x (take k ts) (get_or ts k d) a l)

pub plus_term-at : {X : Type 0} (cmp : X → X → Ordering) (x : X) (c : ℤ) (ts : List (X × ℤ)) (k : ℕ) (d : X × ℤ) → k < length ts → IsAbove cmp x (take k ts) → cmp (get_or ts k d).0 x ≡ Equal →
    plus_term cmp ts x c ≡ take k ts ++ with_term (get_or ts k d).0 ((get_or ts k d).1 +ℤ c) (drop (suc k) ts)
plus_term-at cmp x c ts k d h a e =
    ap (λ v. plus_term cmp v x c) (sym (take-append-drop k ts))
    ∙ plus_term-append cmp (take k ts) (drop k ts) x c a
    ∙ ap (λ v. take k ts ++ plus_term cmp v x c) (drop-cons ts k d h)
    ∙ ap (λ o. take k ts ++ plus_first o (get_or ts k d) (drop (suc k) ts) x c (plus_term cmp (drop (suc k) ts) x c)) e

plus_first-greater : {X : Type 0} (o : Ordering) (t : X × ℤ) (ts : List (X × ℤ)) (x : X) (c : ℤ) (rest : List (X × ℤ)) → o ≢ Less → o ≢ Equal → plus_first o t ts x c rest ≡ with_term x c (t ∷ ts)
plus_first-greater Less t ts x c rest l e = absurd (l refl)
plus_first-greater Equal t ts x c rest l e = absurd (e refl)
plus_first-greater Greater t ts x c rest l e = refl

front : {X : Type 0} (cmp : X → X → Ordering) (x : X) (c : ℤ) (ts : List (X × ℤ)) → ((t : X × ℤ) (rest : List (X × ℤ)) → ts ≡ t ∷ rest → (cmp t.0 x ≢ Less) × (cmp t.0 x ≢ Equal)) → plus_term cmp ts x c ≡ with_term x c ts
front cmp x c [] h = refl
front cmp x c (t ∷ ts) h = let f : (cmp t.0 x ≢ Less) × (cmp t.0 x ≢ Equal) = h t ts refl in plus_first-greater (cmp t.0 x) t ts x c (plus_term cmp ts x c) f.0 f.1

head_of : {X : Type 0} (ts : List X) (k : ℕ) (t : X) (rest : List X) → drop k ts ≡ t ∷ rest → (k < length ts) × (get_or ts k t ≡ t)
head_of [] zero t rest e = absurd (cc)
head_of [] (suc k) t rest e = absurd (cc)
head_of (x ∷ ts) zero t rest e = (omega arith, cc)
head_of (x ∷ ts) (suc k) t rest e = let r : (k < length ts) × (get_or ts k t ≡ t) = head_of ts k t rest e in (omega arith, r.1)

pub plus_term-gap : {X : Type 0} (cmp : X → X → Ordering) (x : X) (c : ℤ) (ts : List (X × ℤ)) (k : ℕ) → IsAbove cmp x (take k ts) → ((d : X × ℤ) → k < length ts → (cmp (get_or ts k d).0 x ≢ Less) × (cmp (get_or ts k d).0 x ≢ Equal)) →
    plus_term cmp ts x c ≡ take k ts ++ with_term x c (drop k ts)
plus_term-gap cmp x c ts k a h =
    ap (λ v. plus_term cmp v x c) (sym (take-append-drop k ts))
    ∙ plus_term-append cmp (take k ts) (drop k ts) x c a
    ∙ ap (λ v. take k ts ++ v) (front cmp x c (drop k ts) (λ t rest e. let r : (k < length ts) × (get_or ts k t ≡ t) = head_of ts k t rest e in
    (λ l. (h t r.0).0 (ap (λ v. cmp v.0 x) r.1 ∙ l), λ l. (h t r.0).1 (ap (λ v. cmp v.0 x) r.1 ∙ l))))

pub set_is : {X : Type 0} (ts : List X) (k : ℕ) (v : X) → k < length ts → set ts k v ≡ take k ts ++ v ∷ drop (suc k) ts
set_is ts k v h =
    let n : k < length (set ts k v) = rw length-set h in
    sym (take-append-drop k (set ts k v))
    ∙ ap (λ w. w ++ drop k (set ts k v)) (take-set ts k v)
    ∙ ap (λ w. take k ts ++ w) (drop-cons (set ts k v) k v n ∙ ap (λ w. w ∷ drop (suc k) (set ts k v)) (get_or-set_same ts k v v h) ∙ ap (λ w. v ∷ w) (drop-set-lt (suc k) ts k v (omega arith)))

get_or_any : {X : Type 0} (ts : List X) (k : ℕ) (d e : X) → k < length ts → get_or ts k d ≡ get_or ts k e
get_or_any [] k d e h = absurd (omega arith)
get_or_any (t ∷ ts) zero d e h = refl
get_or_any (t ∷ ts) (suc k) d e h = get_or_any ts k d e (omega arith)

weight_of_one : {X : Type 0} (ts : List (X × ℤ)) (k : ℕ) (d : X × ℤ) → k < length ts → nat_abs (get_or ts k d).1 ≤ weight_of ts
weight_of_one [] k d h = absurd (omega arith)
weight_of_one (t ∷ ts) zero d h = omega arith
weight_of_one (t ∷ ts) (suc k) d h = omega (arith, weight_of_one ts k d (omega arith))

-- a coefficient weighs no more than the sum
pub weight_at : {X : Type 0} (ts : List (X × ℤ)) (k : ℕ) (t : X × ℤ) → k < length ts → t ≡ get_or ts k t → nat_abs t.1 ≤ weight_of ts
weight_at ts k t h e = let m : nat_abs (get_or ts k t).1 ≤ weight_of ts = weight_of_one ts k t h in rw (ap (λ v. nat_abs v.1) e) m

pub changed : {X : Type 0} (ts : List (X × ℤ)) (k : ℕ) (t : X × ℤ) (c s : ℤ) → k < length ts → t ≡ get_or ts k t → s ≡ t.1 +ℤ c → is_zero s ≡ false → (d : X × ℤ) →
    set ts k (t.0, s) ≡ take k ts ++ with_term (get_or ts k d).0 ((get_or ts k d).1 +ℤ c) (drop (suc k) ts)
changed ts k t c s h e f z d =
    let g : get_or ts k d ≡ t = get_or_any ts k d t h ∙ sym e in
    set_is ts k (t.0, s) h
    ∙ ap (λ v. take k ts ++ v) (sym (ap (λ b. cond b (drop (suc k) ts) ((t.0, s) ∷ drop (suc k) ts)) z))
    ∙ ap (λ v. take k ts ++ with_term t.0 v (drop (suc k) ts)) f
    ∙ ap (λ v. take k ts ++ with_term v.0 (v.1 +ℤ c) (drop (suc k) ts)) (sym g)

pub dropped : {X : Type 0} (ts : List (X × ℤ)) (k : ℕ) (t : X × ℤ) (c : ℤ) → k < length ts → t ≡ get_or ts k t → pos 0 ≡ t.1 +ℤ c → (d : X × ℤ) →
    take k ts ++ drop (suc k) ts ≡ take k ts ++ with_term (get_or ts k d).0 ((get_or ts k d).1 +ℤ c) (drop (suc k) ts)
dropped ts k t c h e f d =
    let g : get_or ts k d ≡ t = get_or_any ts k d t h ∙ sym e in
    ap (λ v. take k ts ++ with_term t.0 v (drop (suc k) ts)) f
    ∙ ap (λ v. take k ts ++ with_term v.0 (v.1 +ℤ c) (drop (suc k) ts)) (sym g)

is_eq-true : (o : Ordering) → is_eq o ≡ true → o ≡ Equal
is_eq-true Less e = cc
is_eq-true Equal e = refl
is_eq-true Greater e = cc

-- what a test at a place says of the element there, at any default
pub absent_here : {X : Type 0} (cmp : X → X → Ordering) (x : X) (ts : List (X × ℤ)) (k : ℕ) (t : X × ℤ) (o : Ordering) (b : Bool) → t ≡ get_or ts k t → o ≡ cmp t.0 x → b ≡ is_eq o → b ≡ false → (d : X × ℤ) → k < length ts → cmp (get_or ts k d).0 x ≢ Equal
absent_here cmp x ts k t o b e p q f d h z =
    let g : get_or ts k d ≡ t = get_or_any ts k d t h ∙ sym e in
    let r : o ≡ Equal = p ∙ ap (λ v. cmp v.0 x) (sym g) ∙ z in
    cc (ap is_eq r)

pub equal_here : {X : Type 0} (cmp : X → X → Ordering) (x : X) (ts : List (X × ℤ)) (k : ℕ) (t : X × ℤ) (o : Ordering) (b : Bool) → t ≡ get_or ts k t → o ≡ cmp t.0 x → b ≡ is_eq o → b ≡ true → cmp (get_or ts k t).0 x ≡ Equal
equal_here cmp x ts k t o b e p q f = ap (λ v. cmp v.0 x) (sym e) ∙ sym p ∙ is_eq-true o (sym q ∙ f)

pub nothing_added : {X : Type 0} (ts : List (X × ℤ)) (k : ℕ) (x : X) (c : ℤ) → is_zero c ≡ true → take k ts ++ with_term x c (drop k ts) ≡ ts
nothing_added ts k x c z = rw z (take-append-drop k ts)

pub one_added : {X : Type 0} (ts : List (X × ℤ)) (k : ℕ) (x : X) (c : ℤ) → is_zero c ≡ false → take k ts ++ with_term x c (drop k ts) ≡ take k ts ++ (x, c) ∷ drop k ts
one_added ts k x c z = rw z refl

pub zero_bits : (z : ℤ) → FitsSigned w64 z → of_z w64 z ≡ 0 → is_zero z ≡ true
zero_bits z f e = let k : z ≡ pos 0 = omega (arith, ints) in ap is_zero k

pub nonzero_bits : (z : ℤ) → (of_z w64 z ≡ 0 → ⊥) → is_zero z ≡ false
nonzero_bits z n = elim (cases_Bool (is_zero z)) [ inl t ↦ absurd (n (ap (of_z w64) (is_zero-true z t))) | inr t ↦ t ]

below_at : {X : Type 0} (cmp : X → X → Ordering) (x : X) (ts : List (X × ℤ)) (k : ℕ) (d : X × ℤ) → IsBelow cmp x ts → k < length ts → cmp x (get_or ts k d).0 ≡ Less
below_at cmp x [] k d b h = absurd (omega arith)
below_at cmp x (t ∷ ts) zero d b h = b.0
below_at cmp x (t ∷ ts) (suc k) d b h = below_at cmp x ts k d b.1 (omega arith)

-- in an ascending list, what stands before a smaller element is smaller
pub IsAbove-up_to : {X : Type 0} (cmp : X → X → Ordering) (o : IsTotalOrder cmp) (x : X) (ts : List (X × ℤ)) (k : ℕ) (d : X × ℤ) → IsAscending cmp ts → k < length ts → cmp (get_or ts k d).0 x ≡ Less → IsAbove cmp x (take (suc k) ts)
IsAbove-up_to cmp o x [] k d a h l = absurd (omega arith)
IsAbove-up_to cmp o x (t ∷ ts) zero d a h l = (l, tt)
IsAbove-up_to cmp o x (t ∷ ts) (suc k) d a h l =
    let n : k < length ts = omega arith in
    (o.trans t.0 (get_or ts k d).0 x (below_at cmp t.0 ts k d a.0 n) l, IsAbove-up_to cmp o x ts k d a.1 n l)

-- ---- the weight
pub weight_inserted : {X : Type 0} (ts : List (X × ℤ)) (k : ℕ) (x : X) (c : ℤ) → weight_of (take k ts ++ (x, c) ∷ drop k ts) ≡ weight_of ts + nat_abs c
weight_inserted ts zero x c = omega arith
weight_inserted [] (suc k) x c = omega arith
weight_inserted (t ∷ ts) (suc k) x c = omega (arith, weight_inserted ts k x c)

weight_put : {X : Type 0} (ts : List (X × ℤ)) (k : ℕ) (d : X × ℤ) (x : X) (c : ℤ) → k < length ts → weight_of (take k ts ++ with_term x c (drop (suc k) ts)) + nat_abs (get_or ts k d).1 ≡ weight_of ts + nat_abs c
weight_put [] k d x c h = absurd (omega arith)
weight_put (t ∷ ts) zero d x c h = omega (arith, weight_of-with_term x c ts)
weight_put (t ∷ ts) (suc k) d x c h = omega (arith, weight_put ts k d x c (omega arith))

pub weight_changed : {X : Type 0} (ts new : List (X × ℤ)) (k : ℕ) (t : X × ℤ) (c : ℤ) (w : ℕ) → k < length ts → t ≡ get_or ts k t → new ≡ take k ts ++ with_term (get_or ts k t).0 ((get_or ts k t).1 +ℤ c) (drop (suc k) ts) → w + nat_abs t.1 ≡ weight_of ts + nat_abs (t.1 +ℤ c) → w ≡ weight_of new
weight_changed ts new k t c w h e n v =
    omega (arith, ap weight_of n, v, weight_put ts k t (get_or ts k t).0 ((get_or ts k t).1 +ℤ c) h, ap (λ u. nat_abs u.1) e, ap (λ u. nat_abs (u.1 +ℤ c)) e)

-- ---- the coefficient of an element, at its place
not_less : {X : Type 0} (cmp : X → X → Ordering) (o : IsTotalOrder cmp) (x y u : X) → cmp y u ≡ Less → (r : Ordering) → cmp y x ≡ r → r ≢ Less → cmp u x ≡ Greater
not_less cmp o x y u l Less e n = absurd (n refl)
not_less cmp o x y u l Equal e n = let f : cmp x u ≡ Less = sym (o.congr y x u e) ∙ l in o.antisymm u x ∙ ap ordering_reverse f
not_less cmp o x y u l Greater e n =
    let f : cmp x y ≡ Less = o.antisymm x y ∙ ap ordering_reverse e in
    o.antisymm u x ∙ ap ordering_reverse (o.trans x y u f l)

coefficient-none : {X : Type 0} (cmp : X → X → Ordering) (o : IsTotalOrder cmp) (x y : X) (ts : List (X × ℤ)) → IsBelow cmp y ts → cmp y x ≢ Less → coefficient_of cmp x ts ≡ pos 0
coefficient-none cmp o x y [] b n = refl
coefficient-none cmp o x y (t ∷ ts) b n = rw (not_less cmp o x y t.0 b.0 (cmp y x) refl n, coefficient-none cmp o x y ts b.1 n) refl

-- the first place whose element is not less than x has the coefficient of x, if its element is x
pub coefficient-at : {X : Type 0} (cmp : X → X → Ordering) (o : IsTotalOrder cmp) (x : X) (ts : List (X × ℤ)) (k : ℕ) (d : X × ℤ) → IsAscending cmp ts → k < length ts → IsAbove cmp x (take k ts) → cmp (get_or ts k d).0 x ≢ Less →
    coefficient_of cmp x ts ≡ cond (is_eq (cmp (get_or ts k d).0 x)) (get_or ts k d).1 (pos 0)
coefficient-at cmp o x [] k d a h b n = absurd (omega arith)
coefficient-at cmp o x (t ∷ ts) zero d a h b n = omega (arith, ints, coefficient-none cmp o x t.0 ts a.0 n)
coefficient-at cmp o x (t ∷ ts) (suc k) d a h b n = rw b.0 (omega (arith, ints, coefficient-at cmp o x ts k d a.1 (omega arith) b.1 n))

pub coefficient-end : {X : Type 0} (cmp : X → X → Ordering) (x : X) (ts : List (X × ℤ)) (k : ℕ) → length ts ≤ k → IsAbove cmp x (take k ts) → coefficient_of cmp x ts ≡ pos 0
coefficient-end cmp x [] k h b = refl
coefficient-end cmp x (t ∷ ts) zero h b = absurd (omega arith)
coefficient-end cmp x (t ∷ ts) (suc k) h b = rw b.0 (omega (arith, ints, coefficient-end cmp x ts k (omega arith) b.1))

pub coefficient-here : {X : Type 0} (cmp : X → X → Ordering) (o : IsTotalOrder cmp) (x : X) (ts : List (X × ℤ)) (k : ℕ) (d e : X × ℤ) → IsAscending cmp ts → k < length ts → IsAbove cmp x (take k ts) → cmp (get_or ts k d).0 x ≢ Less →
    is_eq (cmp (get_or ts k d).0 x) ≡ true → (get_or ts k e).1 ≡ coefficient_of cmp x ts
coefficient-here cmp o x ts k d e a h b n q =
    ap (λ v. v.1) (get_or_any ts k e d h) ∙ sym (coefficient-at cmp o x ts k d a h b n ∙ ap (λ t. cond t (get_or ts k d).1 (pos 0)) q)

pub coefficient-missing : {X : Type 0} (cmp : X → X → Ordering) (o : IsTotalOrder cmp) (x : X) (ts : List (X × ℤ)) (k : ℕ) (d : X × ℤ) → IsAscending cmp ts → k < length ts → IsAbove cmp x (take k ts) → cmp (get_or ts k d).0 x ≢ Less →
    is_eq (cmp (get_or ts k d).0 x) ≡ false → coefficient_of cmp x ts ≡ pos 0
coefficient-missing cmp o x ts k d a h b n q = coefficient-at cmp o x ts k d a h b n ∙ ap (λ t. cond t (get_or ts k d).1 (pos 0)) q
