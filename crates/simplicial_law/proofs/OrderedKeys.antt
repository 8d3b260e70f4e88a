-- The keys of an ordered set.
use Rattle.std.proofs.Common.{◌≡◌, ◌⊎◌, inl, inr, refl, sym, ◌∙◌, ap, ap₂, subst, List, [], ◌∷◌, Bool, true, ◌||◌, Ordering, Less, Equal, Greater}
use Rattle.std.specs.Ordering.{match_ordering, ordering_reverse, is_eq}
use Rattle.std.specs.Cmp.{IsTotalOrder}
use Rattle.std.specs.BTreeSet.{insert_key}
use Rattle.std.specs.List.{AllByRecursion, list_any}
use Rattle.std.specs.List.Sorted.{IsStrictlySortedBy}
use Rattle.linear_law.specs.Names.{Among}

inserted_step : {K : Type 0} (o : Ordering) (t k x : K) (xs more : List K) → (Among t more → Among t xs ⊎ (k ≡ t)) → Among t (match_ordering o (k ∷ x ∷ xs) (x ∷ xs) (x ∷ more)) → Among t (x ∷ xs) ⊎ (k ≡ t)
inserted_step Less t k x xs more h m = elim m [ inl e ↦ inr e | inr n ↦ inl n ]
inserted_step Equal t k x xs more h m = inl m
inserted_step Greater t k x xs more h m = elim m [ inl e ↦ inl (inl e) | inr n ↦ elim (h n) [ inl a ↦ inl (inr a) | inr e ↦ inr e ] ]

pub among_inserted : {K : Type 0} (cmp : K → K → Ordering) (t k : K) (ks : List K) → Among t (insert_key cmp ks k) → Among t ks ⊎ (k ≡ t)
among_inserted cmp t k [] m = elim m [ inl e ↦ inr e | inr n ↦ elim n [ ] ]
among_inserted cmp t k (x ∷ xs) m = inserted_step (cmp k x) t k x xs (insert_key cmp xs k) (among_inserted cmp t k xs) m

kept_step : {K : Type 0} (o : Ordering) (t k x : K) (xs more : List K) → (Among t xs → Among t more) → Among t (x ∷ xs) → Among t (match_ordering o (k ∷ x ∷ xs) (x ∷ xs) (x ∷ more))
kept_step Less t k x xs more h m = inr m
kept_step Equal t k x xs more h m = m
kept_step Greater t k x xs more h m = elim m [ inl e ↦ inl e | inr n ↦ inr (h n) ]

pub insert_keeps : {K : Type 0} (cmp : K → K → Ordering) (t k : K) (ks : List K) → Among t ks → Among t (insert_key cmp ks k)
insert_keeps cmp t k [] m = inr m
insert_keeps cmp t k (x ∷ xs) m = kept_step (cmp k x) t k x xs (insert_key cmp xs k) (insert_keeps cmp t k xs) m

new_step : {K : Type 0} (o : Ordering) (k x : K) (xs more : List K) → (o ≡ Equal → k ≡ x) → Among k more → Among k (match_ordering o (k ∷ x ∷ xs) (x ∷ xs) (x ∷ more))
new_step Less k x xs more f m = inl refl
new_step Equal k x xs more f m = inl (sym (f refl))
new_step Greater k x xs more f m = inr m

pub insert_puts : {K : Type 0} (cmp : K → K → Ordering) (exact : (x y : K) → cmp x y ≡ Equal → x ≡ y) (k : K) (ks : List K) → Among k (insert_key cmp ks k)
insert_puts cmp exact k [] = inl refl
insert_puts cmp exact k (x ∷ xs) = new_step (cmp k x) k x xs (insert_key cmp xs k) (exact k x) (insert_puts cmp exact k xs)

any_step : {K : Type 0} (o : Ordering) (k x : K) (xs : List K) (rest : Bool) → (o ≡ Equal → k ≡ x) → (rest ≡ true → Among k xs) → (is_eq o || rest) ≡ true → Among k (x ∷ xs)
any_step Less k x xs rest f h e = inr (h e)
any_step Equal k x xs rest f h e = inl (sym (f refl))
any_step Greater k x xs rest f h e = inr (h e)

-- what a look-up finds is there
pub among_found : {K : Type 0} (cmp : K → K → Ordering) (exact : (x y : K) → cmp x y ≡ Equal → x ≡ y) (k : K) (ks : List K) → list_any (λ y. is_eq (cmp k y)) ks ≡ true → Among k ks
among_found cmp exact k [] e = cc
among_found cmp exact k (x ∷ xs) e = any_step (cmp k x) k x xs (list_any (λ y. is_eq (cmp k y)) xs) (exact k x) (among_found cmp exact k xs) e

-- ---- order

all_weaker : {K : Type 0} (P Q : K → Type 0) → ((x : K) → P x → Q x) → (xs : List K) → AllByRecursion P xs → AllByRecursion Q xs
all_weaker P Q f [] h = tt
all_weaker P Q f (x ∷ xs) h = (f x h.0, all_weaker P Q f xs h.1)

all_among : {K : Type 0} (P : K → Type 0) (t : K) (xs : List K) → AllByRecursion P xs → Among t xs → P t
all_among P t [] h m = elim m [ ]
all_among P t (x ∷ xs) h m = elim m [ inl e ↦ subst P e h.0 | inr n ↦ all_among P t xs h.1 n ]

all_step : {K : Type 0} (o : Ordering) (P : K → Type 0) (k x : K) (xs more : List K) → AllByRecursion P (x ∷ xs) → P k → AllByRecursion P more → AllByRecursion P (match_ordering o (k ∷ x ∷ xs) (x ∷ xs) (x ∷ more))
all_step Less P k x xs more h p m = (p, h)
all_step Equal P k x xs more h p m = h
all_step Greater P k x xs more h p m = (h.0, m)

insert_all : {K : Type 0} (cmp : K → K → Ordering) (P : K → Type 0) (k : K) (ks : List K) → AllByRecursion P ks → P k → AllByRecursion P (insert_key cmp ks k)
insert_all cmp P k [] h p = (p, tt)
insert_all cmp P k (x ∷ xs) h p = all_step (cmp k x) P k x xs (insert_key cmp xs k) h p (insert_all cmp P k xs h.1 p)

sorted_step : {K : Type 0} (cmp : K → K → Ordering) (o : IsTotalOrder cmp) (r : Ordering) (k x : K) (xs : List K) → cmp k x ≡ r → IsStrictlySortedBy cmp (x ∷ xs) → IsStrictlySortedBy cmp (insert_key cmp xs k) → IsStrictlySortedBy cmp (match_ordering r (k ∷ x ∷ xs) (x ∷ xs) (x ∷ insert_key cmp xs k))
unfolding IsStrictlySortedBy
sorted_step cmp o Less k x xs e h m = ((e, all_weaker (λ y. cmp x y ≡ Less) (λ y. cmp k y ≡ Less) (λ y l. o.trans k x y e l) xs h.0), h)
sorted_step cmp o Equal k x xs e h m = h
sorted_step cmp o Greater k x xs e h m = (insert_all cmp (λ y. cmp x y ≡ Less) k xs h.0 (o.antisymm x k ∙ ap ordering_reverse e), m)

pub sorted_inserted : {K : Type 0} (cmp : K → K → Ordering) (o : IsTotalOrder cmp) (k : K) (ks : List K) → IsStrictlySortedBy cmp ks → IsStrictlySortedBy cmp (insert_key cmp ks k)
unfolding IsStrictlySortedBy
sorted_inserted cmp o k [] h = (tt, tt)
sorted_inserted cmp o k (x ∷ xs) h = sorted_step cmp o (cmp k x) k x xs refl h (sorted_inserted cmp o k xs h.1)

never_less : {K : Type 0} (cmp : K → K → Ordering) (o : IsTotalOrder cmp) (x y : K) → cmp x y ≡ Less → cmp y x ≡ Less → ⊥
never_less cmp o x y a b = let e : Less ≡ Greater = sym a ∙ o.antisymm x y ∙ ap ordering_reverse b in cc

-- the first keys are the same
heads : {K : Type 0} (cmp : K → K → Ordering) (o : IsTotalOrder cmp) (x y : K) (xs ys : List K) → AllByRecursion (λ z. cmp x z ≡ Less) xs → AllByRecursion (λ z. cmp y z ≡ Less) ys → Among x (y ∷ ys) → Among y (x ∷ xs) → x ≡ y
heads cmp o x y xs ys a b m n = elim m [
  | inl e ↦ sym e
  | inr p ↦ elim n [
    | inl e ↦ e
    | inr q ↦ absurd (never_less cmp o x y (all_among (λ z. cmp x z ≡ Less) y xs a q) (all_among (λ z. cmp y z ≡ Less) x ys b p))
  ]
]

later : {K : Type 0} (cmp : K → K → Ordering) (o : IsTotalOrder cmp) (x y t : K) (xs ys : List K) → x ≡ y → AllByRecursion (λ z. cmp x z ≡ Less) xs → Among t xs → Among t (y ∷ ys) → Among t ys
later {K = K} cmp o x y t xs ys e a m n = elim n [
  | inl q ↦ absurd (never_less cmp o x t (all_among (λ z. cmp x z ≡ Less) t xs a m) (let l = all_among (λ z. cmp x z ≡ Less) t xs a m in subst (λ (w : K). cmp t w ≡ Less) (sym (e ∙ q)) (subst (λ (w : K). cmp w t ≡ Less) (e ∙ q) l)))
  | inr p ↦ p
]

-- two lists in order with the same keys are the same
pub sorted_same : {K : Type 0} (cmp : K → K → Ordering) (o : IsTotalOrder cmp) (xs ys : List K) → IsStrictlySortedBy cmp xs → IsStrictlySortedBy cmp ys → ((t : K) → Among t xs → Among t ys) → ((t : K) → Among t ys → Among t xs) → xs ≡ ys
unfolding IsStrictlySortedBy
sorted_same cmp o [] [] a b f g = refl
sorted_same cmp o [] (y ∷ ys) a b f g = absurd (g y (inl refl))
sorted_same cmp o (x ∷ xs) [] a b f g = absurd (f x (inl refl))
sorted_same cmp o (x ∷ xs) (y ∷ ys) a b f g =
    let e : x ≡ y = heads cmp o x y xs ys a.0 b.0 (f x (inl refl)) (g y (inl refl)) in
    ap₂ (λ u v. u ∷ v) e (sorted_same cmp o xs ys a.1 b.1
    (λ t m. later cmp o x y t xs ys e a.0 m (f t (inr m)))
    (λ t m. later cmp o y x t ys xs (sym e) b.0 m (g t (inr m))))
