-- The surjections of a May element, and their live cuts.
use Rattle.std.{proofs.Common.{◌≡◌, inl, inr, ℕ, zero, suc, ◌+◌, ◌-◌, ◌*◌, ◌^◌, ◌<◌, ◌≤◌, ◌==◌, arith, eqb-true, lit≤, refl, sym, ◌∙◌, ap, ap₂, subst, List, [], ◌∷◌, Bool, true, false, cond, not, if◌then◌else◌, map, Ordering, Less, Equal, Greater, ℤ, pos, ◌+ℤ◌, ◌*ℤ◌, fold, min, ◌||◌, IsTrue, le-ltb}, specs.BTreeSet.insert_key, specs.List.{AllByRecursion, filter}, specs.Ordering.ordering_reverse, specs.List.Sorted.IsStrictlySortedBy, proofs.lemmas.Bool.false≢true, proofs.lemmas.Cmp.nat_list_cmp_total, proofs.lemmas.Int.ints, proofs.lemmas.List.Kept.IsStrictlySortedBy-filter}
use Rattle.fp_field.{specs.Served.served, proofs.ServedLemmas.{for_served, served_large}}
use Rattle.signed_sum.{specs.Names.{is_same_list, is_zero, kept_terms, restricted, value_at}, proofs.Names.{fun_ext, is_same_list-self, is_same_list-true, value_at-kept_terms, value_at-nothing}}
use Rattle.linear_law.specs.Names.{sum_over, Among}
use Rattle.simplicial_law.{specs.Names.simplex_cmp, proofs.Names.{exact, sorted_same}}
use Rattle.surjection_law.specs.Names.{caesura_count, IsOnto, arity}
use Rattle.surjection.specs.Names.{arity-is}
use Rattle.interval_cut_law.specs.Names.{live_cut_count}
use Rattle.interval_cut.specs.Names.{counted_live, live_top}
use Rattle.operad_law.specs.FormalSums.{IsAscending, IsBelow, IsFormalSum, IsNonzero, IsSameSum}
use Rattle.table_reduction_law.specs.Names.{may_element}
use Rattle.steenrod_law.proofs.{Forms.AreTerms, MayFamily.may_family}
use Rattle.may_elements.specs.{Counted.cut_off, Live.{lacks_live_cut, live_part}}
use Rattle.report_law.specs.Names.{coefficient, may_surjections}
use Rattle.term_total.{specs.Names.{sum_of, live_total}, proofs.ChargeLemmas.cut-plus, proofs.KeyLemmas.{among-filter, filter-among, fold-puts, fold-sorted}}

not-less : (r : Ordering) → r ≡ ordering_reverse r → r ≡ Less → ⊥
not-less Less e l = cc
not-less Equal e l = cc
not-less Greater e l = cc

-- ---- coefficients in formal sums

abbrev one_at : List ℕ → List ℕ → ℤ
one_at u v = cond (is_same_list u v) (pos 1) (pos 0)

apart : (u v : List ℕ) → simplex_cmp u v ≡ Less → is_same_list u v ≡ false
apart u v l = go (is_same_list u v) refl
  where
    go : (t : Bool) → is_same_list u v ≡ t → t ≡ false
    go false e = refl
    go true e =
        let same : u ≡ v = is_same_list-true u v e in
        absurd (not-less (simplex_cmp u u) (nat_list_cmp_total.antisymm u u) (ap (simplex_cmp u) same ∙ l))

step-other : (u : List ℕ) (t : List ℕ × ℤ) (ts : List (List ℕ × ℤ)) → is_same_list u t.0 ≡ false → coefficient u (t ∷ ts) ≡ coefficient u ts
step-other u t ts e = ap (λ b. t.1 *ℤ cond b (pos 1) (pos 0) +ℤ coefficient u ts) e ∙ plus t.1 (coefficient u ts)
  where
    plus : (x y : ℤ) → x *ℤ pos 0 +ℤ y ≡ y
    plus x y = omega (arith, ints)

step-same : (u : List ℕ) (t : List ℕ × ℤ) (ts : List (List ℕ × ℤ)) → is_same_list u t.0 ≡ true → coefficient u ts ≡ pos 0 → coefficient u (t ∷ ts) ≡ t.1
step-same u t ts e z = ap₂ (λ b y. t.1 *ℤ cond b (pos 1) (pos 0) +ℤ y) e z ∙ plus t.1
  where
    plus : (x : ℤ) → x *ℤ pos 1 +ℤ pos 0 ≡ x
    plus x = omega (arith, ints)

none-below : (u : List ℕ) (ts : List (List ℕ × ℤ)) → IsBelow simplex_cmp u ts → coefficient u ts ≡ pos 0
none-below u [] h = refl
none-below u (t ∷ ts) h = step-other u t ts (apart u t.0 h.0) ∙ none-below u ts h.1

below-among : (u v : List ℕ) (ts : List (List ℕ × ℤ)) → IsBelow simplex_cmp u ts → Among v (map (λ t. t.0) ts) → simplex_cmp u v ≡ Less
below-among u v [] h m = elim m [ ]
below-among u v (t ∷ ts) h m = elim m [ inl e ↦ ap (simplex_cmp u) (sym e) ∙ h.0 | inr n ↦ below-among u v ts h.1 n ]

-- the coefficient of an element of a formal sum is not 0
nonzero-among : (u : List ℕ) (ts : List (List ℕ × ℤ)) → IsAscending simplex_cmp ts → IsNonzero ts → Among u (map (λ t. t.0) ts) → is_zero (coefficient u ts) ≡ false
nonzero-among u [] a n m = elim m [ ]
nonzero-among u (t ∷ ts) a n m = elim m [
  | inl e ↦
      let own : is_same_list u t.0 ≡ true = ap (is_same_list u) e ∙ is_same_list-self u in
      let none : coefficient u ts ≡ pos 0 = subst (λ v. coefficient v ts ≡ pos 0) e (none-below t.0 ts a.0) in
      ap is_zero (step-same u t ts own none) ∙ n.0
  | inr r ↦
      let less = below-among t.0 u ts a.0 r in
      let other : is_same_list u t.0 ≡ false = flipped (is_same_list u t.0) (λ e. false≢true (sym (apart t.0 u less) ∙ ap (is_same_list t.0) (is_same_list-true u t.0 e) ∙ is_same_list-self t.0)) in
      ap is_zero (step-other u t ts other) ∙ nonzero-among u ts a.1 n.1 r
]
  where
    flipped : (b : Bool) → (b ≡ true → ⊥) → b ≡ false
    flipped true h = absurd (h refl)
    flipped false h = refl

among-nonzero : (u : List ℕ) (ts : List (List ℕ × ℤ)) → is_zero (coefficient u ts) ≡ false → Among u (map (λ t. t.0) ts)
among-nonzero u [] e = absurd (false≢true (sym e))
among-nonzero u (t ∷ ts) e = go (is_same_list u t.0) refl (among-nonzero u ts)
  where
    go : (b : Bool) → is_same_list u t.0 ≡ b → (is_zero (coefficient u ts) ≡ false → Among u (map (λ s. s.0) ts)) → Among u (map (λ s. s.0) (t ∷ ts))
    go true s h = inl (sym (is_same_list-true u t.0 s))
    go false s h = inr (h (ap is_zero (sym (step-other u t ts s)) ∙ e))

sorted-elements : (ts : List (List ℕ × ℤ)) → IsAscending simplex_cmp ts → IsStrictlySortedBy simplex_cmp (map (λ t. t.0) ts)
unfolding IsStrictlySortedBy
sorted-elements [] a = tt
sorted-elements (t ∷ ts) a = (all ts a.0, sorted-elements ts a.1)
  where
    all : (ss : List (List ℕ × ℤ)) → IsBelow simplex_cmp t.0 ss → AllByRecursion (λ z. simplex_cmp t.0 z ≡ Less) (map (λ s. s.0) ss)
    all [] b = tt
    all (s ∷ ss) b = (b.0, all ss b.1)

not-zero : (b : Bool) → b ≡ false → not b ≡ true
not-zero true e = absurd (false≢true (sym e))
not-zero false e = refl

zero-not : (b : Bool) → not b ≡ true → b ≡ false
zero-not true e = absurd (false≢true e)
zero-not false e = refl

-- the coefficients without what is gone
coefficient-kept : (gone : List ℕ → Bool) (u : List ℕ) (ts : List (List ℕ × ℤ)) → coefficient u (kept_terms gone ts) ≡ (if gone u then pos 0 else coefficient u ts)
coefficient-kept gone u ts = value_at-kept_terms gone (one_at u) ts ∙ ap (λ h. value_at h ts) (fun_ext at) ∙ out (gone u)
  where
    at : (v : List ℕ) → restricted gone (one_at u) v ≡ (if gone u then pos 0 else one_at u v)
    at v = go (is_same_list u v) refl
      where
        none : (a b : Bool) → cond a (pos 0) (pos 0) ≡ (if b then pos 0 else pos 0)
        none true true = refl
        none true false = refl
        none false true = refl
        none false false = refl

        go : (b : Bool) → is_same_list u v ≡ b → restricted gone (one_at u) v ≡ (if gone u then pos 0 else one_at u v)
        go true e = ap (λ w. if gone w then pos 0 else one_at u v) (sym (is_same_list-true u v e))
        go false e = rw e (none (gone v) (gone u))

    out : (b : Bool) → value_at (λ v. if b then pos 0 else one_at u v) ts ≡ (if b then pos 0 else coefficient u ts)
    out true = value_at-nothing ts
    out false = refl

-- the elements of a formal sum that is the May element without what is gone are its surjections without these
pub surjections-are : (gone : List ℕ → Bool) (p d : ℕ) (e : List (List ℕ × ℤ)) → IsFormalSum simplex_cmp e → IsSameSum e (kept_terms gone (may_element p d)) → map (λ t. t.0) e ≡ filter (λ u. not (gone u)) (may_surjections p d)
surjections-are gone p d e f s =
    let may : List (List ℕ × ℤ) = may_element p d in
    let all : List (List ℕ) = fold (insert_key simplex_cmp) [] (map (λ t. t.0) may) in
    let test : List ℕ → Bool = λ u. not (is_zero (coefficient u may)) in
    let there : List ℕ → Bool = λ u. not (gone u) in
    let same : (u : List ℕ) → coefficient u e ≡ (if gone u then pos 0 else coefficient u may) = λ u. s.at (one_at u) ∙ coefficient-kept gone u may in
    sorted_same simplex_cmp nat_list_cmp_total (map (λ t. t.0) e) (filter there (may_surjections p d)) (sorted-elements e f.ascending)
    (IsStrictlySortedBy-filter simplex_cmp there (filter test all) (IsStrictlySortedBy-filter simplex_cmp test all (fold-sorted simplex_cmp nat_list_cmp_total exact (map (λ t. t.0) may) [] none)))
    (λ u m. (
    let z = parts (gone u) (coefficient u may) (ap is_zero (sym (same u)) ∙ nonzero-among u e f.ascending f.nonzero m) in
    filter-among there u (filter test all)
    (filter-among test u all (fold-puts simplex_cmp nat_list_cmp_total exact (map (λ t. t.0) may) [] u (among-nonzero u may z.1)) (not-zero (is_zero (coefficient u may)) z.1)) (not-zero (gone u) z.0)))
    (λ u m. (
    let h = among-filter there u (filter test all) m in
    among-nonzero u e (ap is_zero (same u ∙ ap (λ b. if b then pos 0 else coefficient u may) (zero-not (gone u) h.1)) ∙ zero-not (is_zero (coefficient u may)) (among-filter test u all h.0).1)))
  where
    none : IsStrictlySortedBy simplex_cmp []
    none = sorted-elements [] tt

    parts : (b : Bool) (c : ℤ) → is_zero (if b then pos 0 else c) ≡ false → (b ≡ false) × (is_zero c ≡ false)
    parts true c h = absurd (false≢true (sym h))
    parts false c h = (refl, h)

-- ---- live cuts

cut-one : (p d q : ℕ) (u : List ℕ) → p ≤ 5 → q ≤ 15 → d ≤ p * q → arity u ≡ p → caesura_count u ≡ d → cut_off (counted_live q u) ≡ cut_off (live_cut_count q p u)
cut-one p d q u five few l a c =
    let fits : caesura_count u ≤ arity u * q = subst (λ m. caesura_count u ≤ m * q) (sym a) (omega (arith, c, l)) in
    let top : live_top q u ≤ 255 = let m : p * q ≤ 5 * q = times-left p 5 q five in subst (λ m. m * q - caesura_count u ≤ 255) (sym a) (omega (arith, m)) in
    ap cut_off (ap₂ (λ x y. if x || y then 0 else min (live_cut_count q (arity u) u) (10 ^ 15)) (le-ltb (arity u * q) (caesura_count u) fits) (le-ltb 255 (live_top q u) top))
    ∙ twice (live_cut_count q (arity u) u) ∙ ap (λ m. cut_off (live_cut_count q m u)) a
  where
    twice : (n : ℕ) → cut_off (min n (10 ^ 15)) ≡ cut_off n
    twice n = omega arith

    times-left : (m n k : ℕ) → m ≤ n → m * k ≤ n * k
    times-left m n zero h = omega arith
    times-left m n (suc k) h = let r = times-left m n k h in omega (arith, r)

cut-sum : (f g : List ℕ → ℕ) (us : List (List ℕ)) → ((u : List ℕ) → Among u us → cut_off (f u) ≡ cut_off (g u)) → cut_off (sum_of (map f us)) ≡ cut_off (sum_over g us)
cut-sum f g [] h = refl
cut-sum f g (u ∷ us) h =
    sym (cut-plus (f u) (sum_of (map f us))) ∙ ap₂ (λ x y. cut_off (x + y)) (h u (inl refl)) (cut-sum f g us (λ v m. h v (inr m))) ∙ cut-plus (g u) (sum_over g us)

terms-among : (p d : ℕ) (ts : List (List ℕ × ℤ)) → AreTerms p d ts → (u : List ℕ) → Among u (map (λ t. t.0) ts) → IsOnto p u × (caesura_count u ≡ d)
terms-among p d [] h u m = elim m [ ]
terms-among p d (t ∷ ts) h u m = elim m [
  | inl e ↦ (subst (IsOnto p) e h.0, ap caesura_count (sym e) ∙ h.1)
  | inr n ↦ terms-among p d ts h.2 u n
]

sum-elements : (f : List ℕ → ℕ) (ts : List (List ℕ × ℤ)) → sum_over (λ (t : List ℕ × ℤ). f t.0) ts ≡ sum_of (map f (map (λ t. t.0) ts))
sum-elements f [] = refl
sum-elements f (t ∷ ts) = ap (λ n. f t.0 + n) (sum-elements f ts)

-- what is filtered out counts nothing
sum-there : (f : List ℕ → ℕ) (us : List (List ℕ)) → sum_of (map f (filter (λ u. not (f u == 0)) us)) ≡ sum_of (map f us)
sum-there f [] = refl
sum-there f (u ∷ us) = go (f u == 0) refl (sum-there f us)
  where
    go : (b : Bool) → (f u == 0) ≡ b → sum_of (map f (filter (λ v. not (f v == 0)) us)) ≡ sum_of (map f us)
        → sum_of (map f (cond (not b) (u ∷ filter (λ v. not (f v == 0)) us) (filter (λ v. not (f v == 0)) us))) ≡ f u + sum_of (map f us)
    go true e h = (let z : f u ≡ 0 = eqb-true (f u) 0 e in omega (arith, z, h))
    go false e h = ap (λ n. f u + n) h

-- the live cuts of the elements of a formal sum that is what operations on degree q see of the May element
pub count-is : (p d q : ℕ) (e : List (List ℕ × ℤ)) → IsTrue (served p) → q ≤ 15 → d ≤ p * q → IsFormalSum simplex_cmp e → IsSameSum e (live_part p d q)
    → cut_off (sum_over (λ (t : List ℕ × ℤ). counted_live q t.0) e) ≡ cut_off (live_total p d q)
count-is p d q e prime few l f s =
    let five : p ≤ 5 = for_served (λ n. n ≤ 5) p (lit≤ tt) (lit≤ tt) (lit≤ tt) prime in
    let large : 1 < p = served_large p prime in
    let some : 1 ≤ p = omega arith in
    let may : List (List ℕ × ℤ) = may_element p d in
    let same = surjections-are (lacks_live_cut q) p d e f s in
    ap cut_off (sum-elements (counted_live q) e ∙ ap (λ us. sum_of (map (counted_live q) us)) same ∙ sum-there (counted_live q) (may_surjections p d))
    ∙ cut-sum (counted_live q) (λ u. live_cut_count q p u) (may_surjections p d)
    (λ u m. (
    let z = zero-not (is_zero (coefficient u may)) (among-filter (λ v. not (is_zero (coefficient v may))) u (fold (insert_key simplex_cmp) [] (map (λ t. t.0) may)) m).1 in
    let k = terms-among p d may ((may_family p some).terms d) u (among-nonzero u may z) in
    cut-one p d q u five few l (arity-is p u k.0 some) k.1))
