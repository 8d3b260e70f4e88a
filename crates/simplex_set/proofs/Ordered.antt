-- A set's keys in order.
use Rattle.std.{proofs.lemmas.Bool.{or_left, or_right}, proofs.Common.{◌≡◌, ℕ, ◌+◌, ◌≤◌, inl, inr, arith, refl, sym, ◌∙◌, ap, subst, List, [], ◌∷◌, ◌++◌, length, map, get_or, ◌<◌, Bool, true, false, cond, eqb, Ordering, Less, Equal, Greater, Result, Ok, Err}, specs.Result.IfOk, specs.declared.alloc.AllocError.AllocError, specs.Ordering.{eq_by_cmp, is_eq, is_lt, ordering_reverse}, specs.Cmp.{both_ways, eq_by_cmp_equiv}, specs.Cmp.Lexicographic.nat_list_cmp_total, specs.BTreeSet.insert_key, specs.List.{AllByRecursion, IsDistinct, filter, list_any}, specs.List.Sorted.{IsPermutation, IsSorted, IsStrictlySortedBy}, proofs.lemmas.List.{get_or-map, length-map}, proofs.lemmas.List.Elements.{All-filter, All-from_recursion, recursion_from_All}, proofs.lemmas.List.Sums.fold-append, proofs.lemmas.List.Kept.IsStrictlySortedBy-filter, proofs.lemmas.List.Sorted.{All-permutation, IsPermutation-sym}, proofs.lemmas.Map.Keys.{IsDistinct-IsPermutation, IsDistinct-from_sorted, apart_from_distinct, sorted_from_all_adjacent}, proofs.lemmas.Map.Made.length-from_same_keys}
use Rattle.indexmap.specs.IndexSet.{insert_key as insert_last}
use Rattle.linear_law.{specs.Names.{Among, Each}, proofs.Names.each_among}
use Rattle.simplicial_law.{specs.Names.simplex_cmp, proofs.Names.{among_found, among_inserted, insert_keeps, sorted_inserted, sorted_same, each_of, exact, fold_puts, in_filter, length_of_test, of_filter, of_fold, sorted_fold}}
use Rattle.simplex_set.specs.{InOrder.in_order, Levels.IsLargest}

-- the test by which a set finds a simplex
abbrev pub same : List ℕ → List ℕ → Bool
same = eq_by_cmp simplex_cmp

pub ordered : (ks : List (List ℕ)) → IsStrictlySortedBy simplex_cmp (in_order ks)
unfolding IsStrictlySortedBy
ordered ks = sorted_fold ks [] tt

pub into_order : (ks : List (List ℕ)) (t : List ℕ) → Among t ks → Among t (in_order ks)
into_order ks t m = fold_puts ks [] t m

pub from_order : (ks : List (List ℕ)) (t : List ℕ) → Among t (in_order ks) → Among t ks
from_order ks t m = elim (of_fold ks [] t m) [ inl a ↦ elim a [ ] | inr b ↦ b ]

pub any_there : (s : List ℕ) (ks : List (List ℕ)) → Among s ks → list_any (same s) ks ≡ true
any_there s [] m = elim m [ ]
any_there s (k ∷ ks) m = elim m [
  | inl e ↦ or_left (same s k) (list_any (same s) ks) (subst (λ (t : List ℕ). same s t ≡ true) (sym e) ((eq_by_cmp_equiv nat_list_cmp_total).refl s))
  | inr n ↦ or_right (same s k) (list_any (same s) ks) (any_there s ks n)
]

-- a key that is there stays at its place
present_stays : (ks : List (List ℕ)) (s : List ℕ) → Among s ks → in_order ks ≡ insert_key simplex_cmp (in_order ks) s
present_stays ks s a = sorted_same simplex_cmp nat_list_cmp_total (in_order ks) (insert_key simplex_cmp (in_order ks) s) (ordered ks) (sorted_inserted simplex_cmp nat_list_cmp_total s (in_order ks) (ordered ks))
    (λ t m. insert_keeps simplex_cmp t s (in_order ks) m)
    (λ t m. elim (among_inserted simplex_cmp t s (in_order ks) m) [ inl b ↦ b | inr e ↦ subst (λ (u : List ℕ). Among u (in_order ks)) e (into_order ks s a) ])

-- one more key, at its place
pub one_inserted : (ks ns : List (List ℕ)) (s : List ℕ) → ns ≡ insert_last same ks s → in_order ns ≡ insert_key simplex_cmp (in_order ks) s
one_inserted ks ns s e = ap in_order e ∙ go ks s (list_any (same s) ks) (λ b. among_found simplex_cmp exact s ks b)
  where
    go : (ks : List (List ℕ)) (s : List ℕ) (b : Bool) → (b ≡ true → Among s ks) → in_order (cond b ks (ks ++ s ∷ [])) ≡ insert_key simplex_cmp (in_order ks) s
    go ks s true f = present_stays ks s (f refl)
    go ks s false f = fold-append (insert_key simplex_cmp) [] ks (s ∷ [])

pub found_in_order : (ks : List (List ℕ)) (s : List ℕ) → list_any (same s) ks ≡ true → list_any (same s) (in_order ks) ≡ true
found_in_order ks s e = any_there s (in_order ks) (into_order ks s (among_found simplex_cmp exact s ks e))

-- as many keys as simplices
pub length_in_order : (ks : List (List ℕ)) → IsDistinct same ks → length (in_order ks) ≡ length ks
length_in_order ks d = length-from_same_keys (eq_by_cmp_equiv nat_list_cmp_total) (in_order ks) ks (IsDistinct-from_sorted simplex_cmp (in_order ks) (ordered ks)) d
    (λ q. both_ways (list_any (same q) (in_order ks)) (list_any (same q) ks)
    (λ e. any_there q ks (from_order ks q (among_found simplex_cmp exact q (in_order ks) e)))
    (λ e. found_in_order ks q e))

-- ---- sorting

less_of : (a b : List ℕ) → is_lt (simplex_cmp b a) ≡ false → same a b ≡ false → simplex_cmp a b ≡ Less
less_of a b l e = go (simplex_cmp a b) (ap is_lt (sym (nat_list_cmp_total.antisymm b a)) ∙ l) e
  where
    go : (o : Ordering) → is_lt (ordering_reverse o) ≡ false → is_eq o ≡ false → o ≡ Less
    go Less l e = refl
    go Equal l e = cc
    go Greater l e = cc

strictly : (ys : List (List ℕ)) → IsSorted simplex_cmp ys → IsDistinct same ys → IsStrictlySortedBy simplex_cmp ys
strictly ys s d = sorted_from_all_adjacent nat_list_cmp_total ys [] (λ k l. less_of (get_or ys k []) (get_or ys (k + 1) []) (s k [] (omega arith) l) (apart_from_distinct same ys k (k + 1) [] d (omega arith) l))

every_among : (P : List ℕ → Type 0) (xs : List (List ℕ)) (t : List ℕ) → AllByRecursion P xs → Among t xs → P t
every_among P [] t h m = elim m [ ]
every_among P (x ∷ xs) t h m = elim m [ inl e ↦ subst P e h.0 | inr n ↦ every_among P xs t h.1 n ]

weaker : (P Q : List ℕ → Type 0) → ((t : List ℕ) → P t → Q t) → (xs : List (List ℕ)) → AllByRecursion P xs → AllByRecursion Q xs
weaker P Q f [] h = tt
weaker P Q f (x ∷ xs) h = (f x h.0, weaker P Q f xs h.1)

itself : (xs : List (List ℕ)) → AllByRecursion (λ t. Among t xs) xs
itself [] = tt
itself (x ∷ xs) = (inl refl, weaker (λ t. Among t xs) (λ t. Among t (x ∷ xs)) (λ t m. inr m) xs (itself xs))

among_moved : (xs ys : List (List ℕ)) (t : List ℕ) → IsPermutation xs ys → Among t ys → Among t xs
among_moved xs ys t p m = every_among (λ u. Among u xs) ys t (recursion_from_All (λ u. Among u xs) ys (All-permutation (λ u. Among u xs) xs ys p (All-from_recursion (λ u. Among u xs) xs (itself xs)))) m

distinct_kept : (p : List ℕ → Bool) (xs : List (List ℕ)) → IsDistinct same xs → IsDistinct same (filter p xs)
unfolding IsDistinct
distinct_kept p [] d = tt
distinct_kept p (x ∷ xs) d = go (p x) x (filter p xs) (apart p x xs d.0) (distinct_kept p xs d.1)
  where
    apart : (p : List ℕ → Bool) (x : List ℕ) (xs : List (List ℕ)) → AllByRecursion (λ y. same x y ≡ false) xs → AllByRecursion (λ y. same x y ≡ false) (filter p xs)
    apart p x xs h = recursion_from_All (λ y. same x y ≡ false) (filter p xs) (All-filter p (λ y. same x y ≡ false) xs (All-from_recursion (λ y. same x y ≡ false) xs h))

    go : (b : Bool) (x : List ℕ) (zs : List (List ℕ)) → AllByRecursion (λ y. same x y ≡ false) zs → IsDistinct same zs → IsDistinct same (cond b (x ∷ zs) zs)
    go true x zs a d = (a, d)
    go false x zs a d = d

-- what is seen of a sorted list
pub sorted_map : {X Y : Type 0} (f : X → Y) (cmp : Y → Y → Ordering) (xs : List X) → IsSorted (λ x y. cmp (f x) (f y)) xs → IsSorted cmp (map f xs)
sorted_map f cmp [] s k d z l = absurd (omega arith)
sorted_map {X} {Y} f cmp (x ∷ xs) s k d z l =
    let h : k + 1 < length (x ∷ xs) = omega (arith, l, length-map (x ∷ xs) f) in
    subst (λ (a : Y). is_lt (cmp a (get_or (map f (x ∷ xs)) k d)) ≡ false) (sym (get_or-map f (x ∷ xs) (k + 1) x d h))
    (subst (λ (b : Y). is_lt (cmp (f (get_or (x ∷ xs) (k + 1) x)) b) ≡ false) (sym (get_or-map f (x ∷ xs) k x d (omega (arith, h)))) (s k x z h))

-- the keys of one kind, sorted
pub sorted_part : (p : List ℕ → Bool) (ks xs ys : List (List ℕ)) → IsDistinct same ks → xs ≡ filter p ks → IsPermutation xs ys → IsSorted simplex_cmp ys → ys ≡ filter p (in_order ks)
sorted_part p ks xs ys d e m s =
    let part : IsPermutation (filter p ks) ys = subst (λ (zs : List (List ℕ)). IsPermutation zs ys) e m in
    let apart : IsDistinct same ys = IsDistinct-IsPermutation same (eq_by_cmp_equiv nat_list_cmp_total).symm (filter p ks) ys part (distinct_kept p ks d) in
    sorted_same simplex_cmp nat_list_cmp_total ys (filter p (in_order ks)) (strictly ys s apart) (IsStrictlySortedBy-filter simplex_cmp p (in_order ks) (ordered ks))
    (λ t a. let b = of_filter p ks t (among_moved (filter p ks) ys t part a) in in_filter p (in_order ks) t (into_order ks t b.0) b.1)
    (λ t a. let b = of_filter p (in_order ks) t a in among_moved ys (filter p ks) t (IsPermutation-sym (filter p ks) ys part) (in_filter p ks t (from_order ks t b.0) b.1))

pub part_sized : (size : ℕ) (ks xs ys : List (List ℕ)) → xs ≡ filter (λ s. eqb (length s) size) ks → IsPermutation xs ys → Each (λ s. length s ≡ size) ys
part_sized size ks xs ys e m = each_of (λ s. length s ≡ size) ys (λ s a. length_of_test s size (of_filter (λ t. eqb (length t) size) ks s (subst (λ (zs : List (List ℕ)). Among s zs) e (among_moved xs ys s m a))).1)

-- ---- the greatest size

pub largest_in_order : (ks : List (List ℕ)) (n : ℕ) → IsLargest ks n → IsLargest (in_order ks) n
largest_in_order ks n l = record {
  bound = each_of (λ s. length s ≤ n) (in_order ks) (λ s m. each_among (λ t. length t ≤ n) s ks l.bound (from_order ks s m));
  top = elim l.top [ inl z ↦ inl z | inr k ↦ inr (k.0, (into_order ks k.0 k.1.0, k.1.1)) ];
}

pub made_same : (r : Result (List (List ℕ)) AllocError) (xs ys : List (List ℕ)) → xs ≡ ys → IfOk r (λ l. l ≡ xs) → IfOk r (λ l. l ≡ ys)
made_same (Ok l) xs ys e h = h ∙ e
made_same (Err f) xs ys e h = tt
