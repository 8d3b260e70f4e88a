-- Ordered lists of keys.
use Rattle.std.{proofs.Common.{◌≡◌, ◌⊎◌, inl, inr, ℕ, zero, suc, ◌<◌, arith, refl, sym, ◌∙◌, ap, subst, List, [], ◌∷◌, ◌++◌, Bool, true, false, cond, Ordering, Equal, flat_map, fold}, specs.Cmp.IsTotalOrder, specs.BTreeSet.insert_key, specs.List.filter, specs.List.Sorted.IsStrictlySortedBy, proofs.lemmas.Bool.false≢true}
use Rattle.linear_law.{specs.Names.{Among, Each}, proofs.Names.{among_left, among_right, each_among, each_itself, each_map}}
use Rattle.simplicial_law.proofs.Names.{among_inserted, insert_keeps, insert_puts, sorted_inserted, sorted_same}
use Rattle.term_total.specs.Names.{repeated}

-- ---- which items there are

pub among-split : {X : Type 0} (x : X) (xs ys : List X) → Among x (xs ++ ys) → Among x xs ⊎ Among x ys
among-split x [] ys m = inr m
among-split x (z ∷ xs) ys m = elim m [
  | inl e ↦ inl (inl e)
  | inr n ↦ elim (among-split x xs ys n) [ inl l ↦ inl (inr l) | inr r ↦ inr r ]
]

pub among-repeated : {X : Type 0} (x : X) (k : ℕ) (row : List X) → Among x (repeated k row) → Among x row
among-repeated x zero row m = elim m [ ]
among-repeated x (suc k) row m = elim (among-split x row (repeated k row) m) [ inl l ↦ l | inr r ↦ among-repeated x k row r ]

pub repeated-among : {X : Type 0} (x : X) (k : ℕ) (row : List X) → 0 < k → Among x row → Among x (repeated k row)
repeated-among x zero row l m = absurd (omega arith)
repeated-among x (suc k) row l m = among_left x row (repeated k row) m

-- rows that are repeated at least once have the same items
pub flat-fewer : {X Y : Type 0} (y : Y) (n : X → ℕ) (row : X → List Y) (xs : List X) → Among y (flat_map (λ x. repeated (n x) (row x)) xs) → Among y (flat_map row xs)
flat-fewer y n row [] m = m
flat-fewer y n row (x ∷ xs) m = elim (among-split y (repeated (n x) (row x)) (flat_map (λ z. repeated (n z) (row z)) xs) m) [
  | inl l ↦ among_left y (row x) (flat_map row xs) (among-repeated y (n x) (row x) l)
  | inr r ↦ among_right y (row x) (flat_map row xs) (flat-fewer y n row xs r)
]

pub flat-more : {X Y : Type 0} (y : Y) (n : X → ℕ) (row : X → List Y) (xs : List X) → Each (λ x. 0 < n x) xs → Among y (flat_map row xs) → Among y (flat_map (λ x. repeated (n x) (row x)) xs)
flat-more y n row [] h m = m
flat-more y n row (x ∷ xs) h m = elim (among-split y (row x) (flat_map row xs) m) [
  | inl l ↦ among_left y (repeated (n x) (row x)) (flat_map (λ z. repeated (n z) (row z)) xs) (repeated-among y (n x) (row x) h.0 l)
  | inr r ↦ among_right y (repeated (n x) (row x)) (flat_map (λ z. repeated (n z) (row z)) xs) (flat-more y n row xs h.1 r)
]

-- a map of items, part by part
pub flat-among : {X Y : Type 0} (y : Y) (f g : X → List Y) (xs : List X) → ((x : X) → Among y (f x) → Among y (g x)) → Among y (flat_map f xs) → Among y (flat_map g xs)
flat-among y f g [] h m = m
flat-among y f g (x ∷ xs) h m = elim (among-split y (f x) (flat_map f xs) m) [
  | inl l ↦ among_left y (g x) (flat_map g xs) (h x l)
  | inr r ↦ among_right y (g x) (flat_map g xs) (flat-among y f g xs h r)
]

pub among-filter : {X : Type 0} (test : X → Bool) (x : X) (xs : List X) → Among x (filter test xs) → Among x xs × (test x ≡ true)
among-filter test x [] m = elim m [ ]
among-filter test x (z ∷ xs) m = go (test z) refl (among-filter test x xs) m
  where
    go : (t : Bool) → test z ≡ t → (Among x (filter test xs) → Among x xs × (test x ≡ true)) → Among x (cond t (z ∷ filter test xs) (filter test xs)) → Among x (z ∷ xs) × (test x ≡ true)
    go true e h n = elim n [
      | inl s ↦ (inl s, ap test (sym s) ∙ e)
      | inr r ↦ (let k = h r in (inr k.0, k.1))
    ]
    go false e h n = (let k = h n in (inr k.0, k.1))

pub filter-among : {X : Type 0} (test : X → Bool) (x : X) (xs : List X) → Among x xs → test x ≡ true → Among x (filter test xs)
filter-among test x [] m t = elim m [ ]
filter-among test x (z ∷ xs) m t = elim m [
  | inl e ↦ here (test z) (ap test e ∙ t) e
  | inr n ↦ later (test z) (filter-among test x xs n t)
]
  where
    here : (b : Bool) → b ≡ true → z ≡ x → Among x (cond b (z ∷ filter test xs) (filter test xs))
    here true e s = inl s
    here false e s = absurd (false≢true e)

    later : (b : Bool) → Among x (filter test xs) → Among x (cond b (z ∷ filter test xs) (filter test xs))
    later true m = inr m
    later false m = m

-- ---- keys that were inserted one after the other

module _ {K : Type 0} (cmp : K → K → Ordering) (o : IsTotalOrder cmp) (exact : (x y : K) → cmp x y ≡ Equal → x ≡ y) where
  pub fold-of : (vs ks : List K) (x : K) → Among x (fold (insert_key cmp) ks vs) → Among x ks ⊎ Among x vs
  fold-of [] ks x m = inl m
  fold-of (v ∷ vs) ks x m = elim (fold-of vs (insert_key cmp ks v) x m) [
    | inl l ↦ elim (among_inserted cmp x v ks l) [ inl a ↦ inl a | inr e ↦ inr (inl e) ]
    | inr r ↦ inr (inr r)
  ]

  fold-keeps : (vs ks : List K) (x : K) → Among x ks → Among x (fold (insert_key cmp) ks vs)
  fold-keeps [] ks x m = m
  fold-keeps (v ∷ vs) ks x m = fold-keeps vs (insert_key cmp ks v) x (insert_keeps cmp x v ks m)

  pub fold-puts : (vs ks : List K) (x : K) → Among x vs → Among x (fold (insert_key cmp) ks vs)
  fold-puts [] ks x m = elim m [ ]
  fold-puts (v ∷ vs) ks x m = elim m [
    | inl e ↦ fold-keeps vs (insert_key cmp ks v) x (subst (λ (y : K). Among y (insert_key cmp ks v)) e (insert_puts cmp exact v ks))
    | inr n ↦ fold-puts vs (insert_key cmp ks v) x n
  ]

  pub fold-sorted : (vs ks : List K) → IsStrictlySortedBy cmp ks → IsStrictlySortedBy cmp (fold (insert_key cmp) ks vs)
  fold-sorted [] ks h = h
  fold-sorted (v ∷ vs) ks h = fold-sorted vs (insert_key cmp ks v) (sorted_inserted cmp o v ks h)

  -- lists with the same items give the same keys
  pub fold-same : (vs ws : List K) → ((x : K) → Among x vs → Among x ws) → ((x : K) → Among x ws → Among x vs) → fold (insert_key cmp) [] vs ≡ fold (insert_key cmp) [] ws
  unfolding IsStrictlySortedBy
  fold-same vs ws h k =
      sorted_same cmp o (fold (insert_key cmp) [] vs) (fold (insert_key cmp) [] ws) (fold-sorted vs [] tt) (fold-sorted ws [] tt)
      (λ x m. fold-puts ws [] x (h x (given vs x m))) (λ x m. fold-puts vs [] x (k x (given ws x m)))
    where
      given : (us : List K) (x : K) → Among x (fold (insert_key cmp) [] us) → Among x us
      given us x m = elim (fold-of us [] x m) [ inl n ↦ absurd n | inr r ↦ r ]

  -- what holds of each of them holds of each key, and conversely
  pub each-key : (Q : K → Type 0) (vs : List K) → Each Q vs → Each Q (fold (insert_key cmp) [] vs)
  each-key Q vs h = each_map (λ x m. each_among Q x vs h (given x (fold-of vs [] x m))) (fold (insert_key cmp) [] vs) (each_itself (fold (insert_key cmp) [] vs))
    where
      given : (x : K) → Among x [] ⊎ Among x vs → Among x vs
      given x (inl n) = absurd n
      given x (inr r) = r

  pub key-each : (Q : K → Type 0) (vs : List K) → Each Q (fold (insert_key cmp) [] vs) → Each Q vs
  key-each Q vs h = each_map (λ x m. each_among Q x (fold (insert_key cmp) [] vs) h (fold-puts vs [] x m)) vs (each_itself vs)
