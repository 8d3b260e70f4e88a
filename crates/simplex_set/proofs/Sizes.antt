-- The simplices of each size, and the greatest size.
use Rattle.std.{proofs.Common.{◌≡◌, ℕ, ◌+◌, ◌-◌, ◌*◌, ◌<◌, ◌≤◌, inl, inr, arith, refl, sym, ◌∙◌, ap, subst, List, [], ◌∷◌, ◌++◌, length, take, get_or, max, Bool, true, false, eqb, Option, None, Some, MatchOption, is_some, append-nil, length-append}, proofs.lemmas.Bool.{cases_eq, cases_lt}, proofs.lemmas.List.take_more, specs.Cmp.both_ways, specs.List.list_any, specs.Str.bytes_eq}
use mathlib.Core.Bool.{true≢false}
use Rattle.linear_law.{specs.Names.{Among, Each}, proofs.Names.{among_left, among_right, each_among, each_append, each_get_or, each_itself, each_map, get_before, get_last, length_push as length_more}}
use Rattle.simplicial_law.{specs.Names.{of_degree, simplex_cmp}, specs.ListedSimplices.simplices, proofs.Names.{among_found, exact, get_or_any, in_filter, of_all, of_filter, sublists_some, test_of_length}}
use Rattle.simplex_set.{specs.Levels.{AreLevelsOf, IsLargest}, specs.Pieces.pieces, proofs.AddingFaces.any_simplex, proofs.InPieces.{length_push, pieces_push}, proofs.Ordered.{any_there, same}}

-- ---- the greatest

pub largest_none : IsLargest [] 0
largest_none = record { bound = tt; top = inl refl }

pub largest_more : (ks : List (List ℕ)) (i n m : ℕ) (s : List ℕ) → i < length ks → s ≡ get_or ks i s → IsLargest (take i ks) n → m ≡ max n (length s) → IsLargest (take (i + 1) ks) m
largest_more ks i n m s l e h q =
    subst (λ (xs : List (List ℕ)). IsLargest xs m) (sym (take_more ks i s l ∙ ap (λ (t : List ℕ). take i ks ++ t ∷ []) (sym e))) (record {
      bound = each_append (λ t. length t ≤ m) (take i ks) (s ∷ []) (each_map (λ t b. omega (arith, q)) (take i ks) h.bound) (omega (arith, q), tt);
      top = elim (cases_lt n (length s)) [
        | inl a ↦ inr (s, (among_right s (take i ks) (s ∷ []) (inl refl), omega (arith, q)))
        | inr b ↦ elim h.top [
          | inl z ↦ inl (omega (arith, q))
          | inr k ↦ inr (k.0, (among_left k.0 (take i ks) (s ∷ []) k.1.0, k.1.1 ∙ omega (arith, q)))
        ]
      ];
    })

-- ---- those of one size, in one array

pub one_more_piece : (size i : ℕ) (all : List (List ℕ)) (s xs ns : List ℕ) → i < length all → s ≡ get_or all i s → Each (λ t. length t ≡ size) all → ns ≡ xs ++ s
    → (length xs ≡ i * size) × (pieces size i xs ≡ take i all) → (length ns ≡ (i + 1) * size) × (pieces size (i + 1) ns ≡ take (i + 1) all)
one_more_piece size i all s xs ns l e h q k =
    let z : length s ≡ size = subst (λ (t : List ℕ). length t ≡ size) (sym e) (each_get_or (λ t. length t ≡ size) all i s l h) in (
      ap length q ∙ length-append xs s ∙ length_push xs s size i k.0 z,
      ap (pieces size (i + 1)) q ∙ pieces_push size i xs s k.0 z ∙ ap (λ (ts : List (List ℕ)). ts ++ s ∷ []) k.1 ∙ ap (λ (t : List ℕ). take i all ++ t ∷ []) e ∙ sym (take_more all i s l),
    )

-- ---- looking up

-- one answer for the two ways to ask
there_is : (ks : List (List ℕ)) (s : List ℕ) (b : Bool) → (b ≡ true → Among s ks) → (Among s ks → b ≡ true) → b ≡ list_any (bytes_eq s) ks
there_is ks s b f g = both_ways b (list_any (same s) ks) (λ e. any_there s ks (f e)) (λ e. g (among_found simplex_cmp exact s ks e)) ∙ any_simplex s ks

simplices_some : (facets : List (List ℕ)) (s : List ℕ) → Among s (simplices facets) → 0 < length s
unfolding simplices
simplices_some facets s m = elim (of_all facets [] s m) [ inl a ↦ elim a [ ] | inr k ↦ sublists_some k.0 s k.1.1 ]

not_past : (ks : List (List ℕ)) (n : ℕ) (s : List ℕ) → IsLargest ks n → Among s ks → length s ≤ n
not_past ks n s l m = each_among (λ t. length t ≤ n) s ks l.bound m

in_degree : (ks : List (List ℕ)) (s : List ℕ) → 0 < length s → Among s ks → Among s (of_degree (length s - 1) ks)
in_degree ks s p m = in_filter (λ t. eqb (length t) (length s - 1 + 1)) ks s m (test_of_length s (length s - 1 + 1) (omega arith))

out_of_degree : (ks : List (List ℕ)) (n : ℕ) (s : List ℕ) → Among s (of_degree n ks) → Among s ks
out_of_degree ks n s m = (of_filter (λ t. eqb (length t) (n + 1)) ks s m).0

pub among_place : {X : Type 0} (xs : List X) (k : ℕ) (d : X) → k < length xs → Among (get_or xs k d) xs
among_place xs k d h = each_get_or (λ y. Among y xs) xs k d h (each_itself xs)

absent_is : (ks : List (List ℕ)) (s : List ℕ) → (Among s ks → ⊥) → false ≡ list_any (bytes_eq s) ks
absent_is ks s n = there_is ks s false (λ e. absurd (true≢false (sym e))) (λ m. absurd (n m))

-- a list with no vertex, or with too many
pub beyond : (facets : List (List ℕ)) (n : ℕ) (s : List ℕ) → IsLargest (simplices facets) n → (0 < length s → length s ≤ n → ⊥) → false ≡ list_any (bytes_eq s) (simplices facets)
beyond facets n s l b = absent_is (simplices facets) s (λ m. b (simplices_some facets s m) (not_past (simplices facets) n s l m))

pub level_here : (ks : List (List ℕ)) (ls : List (List (List ℕ))) (s v : List ℕ) (l : List (List ℕ)) → AreLevelsOf ks ls → v ≡ s → (length v ≡ 0 → ⊥) → length v ≤ length ls → l ≡ get_or ls (length v - 1) l → l ≡ of_degree (length s - 1) ks
level_here ks ls s v l a e p q f = f ∙ get_or_any ls (length v - 1) l [] (omega (arith, p)) ∙ a.levels (length v - 1) (omega (arith, p)) ∙ ap (λ (t : List ℕ). of_degree (length t - 1) ks) e

pub looked_up : (ks : List (List ℕ)) (s v : List ℕ) (l : List (List ℕ)) (o : Option ℕ) (b : Bool) → 0 < length s → l ≡ of_degree (length s - 1) ks → v ≡ s → b ≡ is_some o
    → MatchOption o (Among (v ++ []) l → ⊥) (λ k. (k < length l) × (get_or l k [] ≡ v ++ [])) → b ≡ list_any (bytes_eq s) ks
looked_up ks s v l o b p f e q r = q ∙ go ks s l o p f (subst (λ (t : List ℕ). MatchOption o (Among t l → ⊥) (λ k. (k < length l) × (get_or l k [] ≡ t))) (append-nil v ∙ e) r)
  where
    go : (ks : List (List ℕ)) (s : List ℕ) (l : List (List ℕ)) (o : Option ℕ) → 0 < length s → l ≡ of_degree (length s - 1) ks → MatchOption o (Among s l → ⊥) (λ k. (k < length l) × (get_or l k [] ≡ s)) → is_some o ≡ list_any (bytes_eq s) ks
    go ks s l None p f r = absent_is ks s (λ m. r (subst (Among s) (sym f) (in_degree ks s p m)))
    go ks s l (Some k) p f r = there_is ks s true (λ e. out_of_degree ks (length s - 1) s (subst (Among s) f (subst (λ (t : List ℕ). Among t l) r.1 (among_place l k [] r.0)))) (λ m. refl)

-- ---- one level after the other

-- the levels below degree n
pub record AreFirst (ks : List (List ℕ)) (ls : List (List (List ℕ))) (n : ℕ) : Type 0 where
  pub len : length ls ≡ n
  pub levels : (m : ℕ) → m < length ls → get_or ls m [] ≡ of_degree m ks

pub first_none : (ks : List (List ℕ)) (ls : List (List (List ℕ))) → ls ≡ [] → AreFirst ks ls 0
first_none ks ls e = record { len = ap length e; levels = λ m h. absurd (omega (arith, ap length e)) }

pub first_more : (ks : List (List ℕ)) (ls ns : List (List (List ℕ))) (n : ℕ) (l : List (List ℕ)) → AreFirst ks ls n → ns ≡ ls ++ l ∷ [] → l ≡ of_degree n ks → AreFirst ks ns (n + 1)
first_more ks ls ns n l a e f = subst (λ (ms : List (List (List ℕ))). AreFirst ks ms (n + 1)) (sym e) (record {
  len = omega (arith, length_more ls l, a.len);
  levels = λ m h. elim (cases_eq m (length ls)) [
    | inl q ↦ ap (λ (k : ℕ). get_or (ls ++ l ∷ []) k []) q ∙ get_last ls l [] ∙ f ∙ ap (λ (k : ℕ). of_degree k ks) (sym (q ∙ a.len))
    | inr d ↦ (let b : m < length ls = omega (arith, h, length_more ls l, d) in get_before ls l m [] b ∙ a.levels m b)
  ];
})

pub all_first : (ks : List (List ℕ)) (ls : List (List (List ℕ))) (n m : ℕ) → AreFirst ks ls n → IsLargest ks m → n ≡ m → AreLevelsOf ks ls
all_first ks ls n m a l e = record { levels = a.levels; largest = subst (IsLargest ks) (sym (a.len ∙ e)) l }
