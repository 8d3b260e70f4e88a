-- The loops that mark faces and take what is not marked.
use Rattle.std.{proofs.Common.{◌≡◌, ◌⊎◌, ℕ, zero, suc, ◌+◌, ◌<◌, ◌≤◌, Bool, true, false, Result, Ok, Err, inl, inr, refl, sym, ap, subst, arith, ◌∙◌, List, [], ◌∷◌, ◌++◌, map, length, get_or, set, take, length-set, get_or-set_same, get_or-set_other}, specs.List.Sorted.IsStrictlySortedBy, specs.Result.IfOk, specs.BTreeSet.insert_key, specs.Cmp.Lexicographic.nat_list_cmp_total, proofs.lemmas.Bool.cases_eq}
use Rattle.linear_law.{specs.Names.{Among, Each, ListsAll}, proofs.Names.{among_left, among_map, among_right}}
use Rattle.simplicial_law.{specs.Names.{faces, simplex_cmp}, proofs.Names.{exact, among_inserted, insert_keeps, insert_puts, sorted_inserted, of_map}}
use Rattle.complex_index.specs.Names.{ArePlaces, simplex_at, level}
use Rattle.facet_list.specs.Covered.{AddsBelow, AddsFree, AreMarked, Covers, IsFaceIn, IsFree}

-- ---- lists

one_more : (i : ℕ) → i + 1 ≡ suc i
one_more i = omega arith

of_next : {X : Type 0} (xs : List X) (i : ℕ) (d x : X) → i < length xs → Among x (take (suc i) xs) → Among x (take i xs) ⊎ (get_or xs i d ≡ x)
of_next [] i d x l m = absurd (omega (arith, l))
of_next (y ∷ ys) zero d x l m = elim m [ inl e ↦ inr e | inr k ↦ elim k [ ] ]
of_next (y ∷ ys) (suc i) d x l m = elim m [ inl e ↦ inl (inl e) | inr k ↦ elim (of_next ys i d x (omega (arith, l)) k) [ inl j ↦ inl (inr j) | inr e ↦ inr e ] ]

in_next : {X : Type 0} (xs : List X) (i : ℕ) (x : X) → Among x (take i xs) → Among x (take (suc i) xs)
in_next [] zero x m = elim m [ ]
in_next [] (suc i) x m = elim m [ ]
in_next (y ∷ ys) zero x m = elim m [ ]
in_next (y ∷ ys) (suc i) x m = elim m [ inl e ↦ inl e | inr k ↦ inr (in_next ys i x k) ]

next_in : {X : Type 0} (xs : List X) (i : ℕ) (d : X) → i < length xs → Among (get_or xs i d) (take (suc i) xs)
next_in [] i d l = absurd (omega (arith, l))
next_in (y ∷ ys) zero d l = inl refl
next_in (y ∷ ys) (suc i) d l = inr (next_in ys i d (omega (arith, l)))

-- what stands among the first i + 1 stands among the first i, or is the next
of_more : {X : Type 0} (xs : List X) (i : ℕ) (d x : X) → i < length xs → Among x (take (i + 1) xs) → Among x (take i xs) ⊎ (get_or xs i d ≡ x)
of_more xs i d x l m = of_next xs i d x l (subst (λ (k : ℕ). Among x (take k xs)) (one_more i) m)

in_more : {X : Type 0} (xs : List X) (i : ℕ) (x : X) → Among x (take i xs) → Among x (take (i + 1) xs)
in_more xs i x m = subst (λ (k : ℕ). Among x (take k xs)) (sym (one_more i)) (in_next xs i x m)

next_in_more : {X : Type 0} (xs : List X) (i : ℕ) (d : X) → i < length xs → Among (get_or xs i d) (take (i + 1) xs)
next_in_more xs i d l = subst (λ (k : ℕ). Among (get_or xs i d) (take k xs)) (sym (one_more i)) (next_in xs i d l)

among_at : {X : Type 0} (xs : List X) (i : ℕ) (d : X) → i < length xs → Among (get_or xs i d) xs
among_at [] i d l = absurd (omega (arith, l))
among_at (y ∷ ys) zero d l = inl refl
among_at (y ∷ ys) (suc i) d l = inr (among_at ys i d (omega (arith, l)))

place_of : {X : Type 0} (xs : List X) (d x : X) → Among x xs → (i : ℕ) × (i < length xs) × (get_or xs i d ≡ x)
place_of [] d x m = elim m [ ]
place_of (y ∷ ys) d x m = elim m [
  | inl e ↦ (zero, omega arith, e)
  | inr k ↦ (let q = place_of ys d x k in (suc q.0, (let l = q.1 in omega (arith, l)), q.2))
]

past : (marks : List Bool) (x : ℕ) → length marks ≤ x → get_or marks x false ≡ false
past [] x l = refl
past (b ∷ bs) zero l = absurd (omega (arith, l))
past (b ∷ bs) (suc x) l = past bs x (omega (arith, l))

-- ---- marks

pub none_marked : (marks : List Bool) → AreMarked marks [] marks
none_marked marks = record { len = refl; at = λ x e. inl e; kept = λ x e. e; put = λ x m. elim m [ ] }

pub one_marked : (old marks : List Bool) (places : List ℕ) (i at : ℕ) → i < length places → get_or places i 0 ≡ at → at < length old
    → AreMarked old (take i places) marks → AreMarked old (take (i + 1) places) (set marks at true)
one_marked old marks places i at l is inside h = record {
  len = length-set marks at true ∙ h.len;
  at = λ x e. elim (cases_eq x at) [
    | inl q ↦ inr (subst (λ (y : ℕ). Among y (take (i + 1) places)) (is ∙ sym q) (next_in_more places i 0 l))
    | inr n ↦ (let same : get_or (set marks at true) x false ≡ get_or marks x false = rw get_or-set_other refl in let kept : get_or marks x false ≡ true = sym same ∙ e in elim (h.at x kept) [ inl o ↦ inl o | inr m ↦ inr (in_more places i x m) ])
  ];
  kept = λ x e. here x (inl (h.kept x e));
  put = λ x m. elim (of_more places i 0 x l m) [ inl k ↦ here x (inl (h.put x k)) | inr q ↦ here x (inr (sym q ∙ is)) ];
}
  where
    here : (x : ℕ) → (get_or marks x false ≡ true) ⊎ (x ≡ at) → get_or (set marks at true) x false ≡ true
    here x c = elim (cases_eq x at) [
      | inl q ↦ (let P : ℕ → Type 0 = λ j. get_or (set marks at true) j false ≡ true in let b : at < length marks = (let e = h.len in omega (arith, e, inside)) in subst P (sym q) (rw get_or-set_same refl))
      | inr n ↦ elim c [ inl e ↦ rw get_or-set_other e | inr q ↦ absurd (n q) ]
    ]

-- ---- faces

pub none_covered : (lower : List (List ℕ)) (marks : List Bool) → length marks ≡ length lower → ((x : ℕ) → get_or marks x false ≡ false) → Covers lower [] marks
none_covered lower marks len none = record {
  len = len;
  at = λ x e. absurd (apart (sym (none x) ∙ e));
  all = λ x l q. elim q.1 [ ];
}
  where
    apart : false ≡ true → ⊥
    apart e = cc

pub more_covered : (lower upper : List (List ℕ)) (i : ℕ) (places : List ℕ) (marks new : List Bool) → i < length upper
    → ((j k : ℕ) → j < length lower → get_or lower j [] ≡ get_or lower k [] → k < length lower → j ≡ k) → ArePlaces lower (get_or upper i []) places
    → AreMarked marks places new → Covers lower (take i upper) marks → Covers lower (take (i + 1) upper) new
more_covered lower upper i places marks new l once are marked h = record {
  len = marked.len ∙ h.len;
  at = λ x e. elim (marked.at x e) [
    | inl o ↦ (let q = h.at x o in (q.0, in_more upper i q.0 q.1, q.2))
    | inr m ↦ (get_or upper i [], next_in_more upper i [] l, subst (λ (ss : List (List ℕ)). Among (get_or lower x []) ss) are.places (among_map (simplex_at lower) x (get_or lower x []) places m refl))
  ];
  all = λ x b q. elim (of_more upper i [] q.0 l q.1) [
    | inl m ↦ marked.kept x (h.all x b (q.0, m, q.2))
    | inr e ↦
        let f : Among (get_or lower x []) (map (simplex_at lower) places) = subst (λ (ss : List (List ℕ)). Among (get_or lower x []) ss) (sym are.places) (subst (λ (t : List ℕ). Among (get_or lower x []) (faces t)) (sym e) q.2) in
        let r = of_map (simplex_at lower) (get_or lower x []) places f in
        let k = below r.0 places are.below r.1.0 in
        marked.put x (subst (λ (y : ℕ). Among y places) (once r.0 x k r.1.1 b) r.1.0)
  ];
}
  where
    below : (y : ℕ) (ys : List ℕ) → Each (λ z. z < length lower) ys → Among y ys → y < length lower
    below y [] g m = elim m [ ]
    below y (z ∷ zs) g m = elim m [ inl e ↦ subst (λ (w : ℕ). w < length lower) e g.0 | inr k ↦ below y zs g.1 k ]

-- ---- what is left

pub none_added : (levels : List (List (List ℕ))) (n : ℕ) (found : List (List ℕ)) → AddsBelow levels n 0 found found
none_added levels n found = record { in_order = λ h. h; at = λ s m. inl m; kept = λ s m. m; put = λ x l f. absurd (omega (arith, l)) }

module _ (levels : List (List (List ℕ))) (n x : ℕ) (marks : List Bool) (old found : List (List ℕ)) (inside : x < length (level levels n)) (covers : Covers (level levels n) (level levels (n + 1)) marks) where
  -- the next simplex is a face, and is left out
  pub left_out : get_or marks x false ≡ true → AddsBelow levels n x old found → AddsBelow levels n (x + 1) old found
  left_out e h = record {
    in_order = h.in_order;
    at = h.at;
    kept = h.kept;
    put = λ y l f. elim (cases_eq y x) [ inl q ↦ absurd (f.no_face (subst (λ (z : ℕ). IsFaceIn (level levels (n + 1)) (get_or (level levels n) z [])) (sym q) (covers.at x e))) | inr o ↦ h.put y (omega (arith, l, o)) f ];
  }

  -- or it is none, and is added
  pub added : (new : List (List ℕ)) → get_or marks x false ≡ false → new ≡ insert_key simplex_cmp found (get_or (level levels n) x []) → AddsBelow levels n x old found → AddsBelow levels n (x + 1) old new
  added new e is h = record {
    in_order = λ o. subst (IsStrictlySortedBy simplex_cmp) (sym is) (sorted_inserted simplex_cmp nat_list_cmp_total (get_or (level levels n) x []) found (h.in_order o));
    at = λ s m. elim (among_inserted simplex_cmp s (get_or (level levels n) x []) found (subst (λ (ss : List (List ℕ)). Among s ss) is m)) [
      | inl k ↦ h.at s k
      | inr q ↦ inr (subst (IsFree levels n) q (record { here = among_at (level levels n) x [] inside; no_face = λ f. apart (sym e ∙ covers.all x inside f) }))
    ];
    kept = λ s m. subst (λ (ss : List (List ℕ)). Among s ss) (sym is) (insert_keeps simplex_cmp s (get_or (level levels n) x []) found (h.kept s m));
    put = λ y l f. subst (λ (ss : List (List ℕ)). Among (get_or (level levels n) y []) ss) (sym is) (elim (cases_eq y x) [
      | inl q ↦ subst (λ (z : ℕ). Among (get_or (level levels n) z []) (insert_key simplex_cmp found (get_or (level levels n) x []))) (sym q) (insert_puts simplex_cmp exact (get_or (level levels n) x []) found)
      | inr o ↦ insert_keeps simplex_cmp (get_or (level levels n) y []) (get_or (level levels n) x []) found (h.put y (omega (arith, l, o)) f)
    ]);
  }
    where
      apart : false ≡ true → ⊥
      apart e = cc

pub all_added : (levels : List (List (List ℕ))) (n x : ℕ) (old new : List (List ℕ)) → length (level levels n) ≤ x → AddsBelow levels n x old new → AddsFree levels n old new
all_added levels n x old new l h = record {
  in_order = h.in_order;
  at = h.at;
  kept = h.kept;
  put = λ s f. let q = place_of (level levels n) [] s f.here in subst (λ (t : List ℕ). Among t new) q.2 (h.put q.0 (let k = q.1 in omega (arith, k, l)) (subst (IsFree levels n) (sym q.2) f));
}

-- ---- all degrees

-- what is found in the degrees below n
pub record AreFree (levels : List (List (List ℕ))) (n : ℕ) (found : List (List ℕ)) : Type 0 where
  pub sorted : IsStrictlySortedBy simplex_cmp found
  pub at : (s : List ℕ) → Among s found → (k : ℕ) × IsFree levels k s
  pub put : (k : ℕ) (s : List ℕ) → k < n → IsFree levels k s → Among s found

pub more_free : (levels : List (List (List ℕ))) (n : ℕ) (old new : List (List ℕ)) → AddsFree levels n old new → AreFree levels n old → AreFree levels (n + 1) new
more_free levels n old new a h = record {
  sorted = a.in_order h.sorted;
  at = λ s m. elim (a.at s m) [ inl k ↦ h.at s k | inr f ↦ (n, f) ];
  put = λ k s l f. elim (cases_eq k n) [ inl e ↦ a.put s (subst (λ (j : ℕ). IsFree levels j s) e f) | inr o ↦ a.kept s (h.put k s (omega (arith, l, o)) f) ];
}

-- ---- what was read

pub read_mark : (marks : List Bool) (x : ℕ) (b : Bool) → x < length marks → b ≡ get_or marks x b → get_or marks x false ≡ b
read_mark [] x b l e = absurd (omega (arith, l))
read_mark (m ∷ ms) zero b l e = sym e
read_mark (m ∷ ms) (suc x) b l e = read_mark ms x b (omega (arith, l)) e

pub with_listed : {E : Type 0} (r : Result (List (List ℕ)) E) (keys : List (List ℕ)) (P : List (List ℕ) → Type 0) → IfOk r (λ l. l ≡ keys) → P keys → IfOk r P
with_listed (Ok l) keys P e h = subst P (sym e) h
with_listed (Err e) keys P k h = tt
