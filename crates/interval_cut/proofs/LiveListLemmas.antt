-- Lists of right ends that are passed over, since none of them is live.
use Rattle.std.{proofs.Common.{◌≡◌, ℕ, ◌+◌, ◌-◌, ◌≤◌, ◌<◌, Bool, true, false, cond, List, [], ◌∷◌, ◌++◌, map, take, drop, take_all, length-take-le, length-drop, length, get_or, set, length-set, refl, sym, ◌∙◌, ap, ap₂, arith, inl, inr, if◌then◌else◌, ltb, subst, length-append, append_assoc, zero-add, zero, suc, replicate, lt-ltb, le-ltb, take-append-drop}, specs.List.filter, proofs.lemmas.Bool.cases_lt, proofs.lemmas.List.{length-replicate, length-map, take-append-le, take_more_set, drop_more}, proofs.lemmas.List.Elements.filter-append, proofs.Math.ListN.get_or-append, proofs.lemmas.Slice.take-put_mid}
use borrow.Rule.Slice.PartMut.{put_mid, mid_of, same_len_mid}
use Rattle.linear_law.{specs.Names.Each, proofs.Names.each_map}
use Rattle.interval_cut_law.specs.Names.{IsCutFrom, rising_lists}
use Rattle.interval_cut.{specs.Names.{IsNextList, lists_after, is_live_cut, IsDeadEnd, KeepsLive, is_live_list, lists_from, lists_left, passed_list, Stage, Before, At}, proofs.ListLemmas.{lists_after-first, lists_after-long, rising-long}, proofs.WalkLemmas.{cut-first, cut-next, cut-replicate}}

pub filter-map : (live : List ℕ → Bool) (f : List ℕ → List ℕ) (xs : List (List ℕ)) → filter live (map f xs) ≡ map f (filter (λ x. live (f x)) xs)
filter-map live f [] = refl
filter-map live f (x ∷ xs) = go (live (f x)) (filter-map live f xs)
  where
    go : (t : Bool) → filter live (map f xs) ≡ map f (filter (λ y. live (f y)) xs)
        → cond t (f x ∷ filter live (map f xs)) (filter live (map f xs)) ≡ map f (cond t (x ∷ filter (λ y. live (f y)) xs) (filter (λ y. live (f y)) xs))
    go true h = ap (λ r. f x ∷ r) h
    go false h = h

dead_map : (live : List ℕ → Bool) (b : ℕ) (xs : List (List ℕ)) → filter (λ s. live (b ∷ s)) xs ≡ [] → filter live (map (λ p. b ∷ p) xs) ≡ []
dead_map live b xs h = filter-map live (λ p. b ∷ p) xs ∙ ap (map (λ p. b ∷ p)) h

filter-none : (live : List ℕ → Bool) (xs : List (List ℕ)) → Each (λ s. live s ≡ false) xs → filter live xs ≡ []
filter-none live [] h = refl
filter-none live (x ∷ xs) h = ap (λ t. cond t (x ∷ filter live xs) (filter live xs)) h.0 ∙ filter-none live xs h.1

dead_rising : (live : List ℕ → Bool) (k a e : ℕ) → ((s : List ℕ) → length s ≡ k → live s ≡ false) → filter live (rising_lists a e k) ≡ []
dead_rising live k a e h = filter-none live (rising_lists a e k) (each_map h (rising_lists a e k) (rising-long k e a))

dead_after : (live : List ℕ → Bool) (n : ℕ) (p : List ℕ) → ((s : List ℕ) → length s ≡ length p → live s ≡ false) → filter live (lists_after n p) ≡ []
dead_after live n p h = filter-none live (lists_after n p) (each_map h (lists_after n p) (lists_after-long n p))

keeps-dead : (live : List ℕ → Bool) (xs ys : List (List ℕ)) → filter live xs ≡ [] → KeepsLive live (xs ++ ys) ys
keeps-dead live xs ys h = record { same = filter-append live xs ys ∙ ap (λ r. r ++ filter live ys) h; shorter = omega (arith, length-append xs ys) }

keeps-then : (live : List ℕ → Bool) (xs ys zs : List (List ℕ)) → KeepsLive live xs ys → KeepsLive live ys zs → KeepsLive live xs zs
keeps-then live xs ys zs h g = record { same = h.same ∙ g.same; shorter = omega (arith, h.shorter, g.shorter) }

pub keeps-as : (live : List ℕ → Bool) (xs ys vs ws : List (List ℕ)) → xs ≡ vs → ys ≡ ws → KeepsLive live vs ws → KeepsLive live xs ys
keeps-as live xs ys vs ws e f k = record { same = ap (filter live) e ∙ k.same ∙ sym (ap (filter live) f); shorter = omega (arith, ap length e, ap length f, k.shorter) }

-- the lists that begin with a and up, and those that begin with a2 and up
keeps-rising : (live : List ℕ → Bool) (k j a e a2 e2 : ℕ) → j + a ≡ a2 → j + e2 ≡ e → ((c : ℕ) (s : List ℕ) → a ≤ c → c < a2 → length s ≡ k → live (c ∷ s) ≡ false)
    → KeepsLive live (rising_lists a e (suc k)) (rising_lists a2 e2 (suc k))
keeps-rising live k zero a e a2 e2 p q h =
    let f : a2 ≡ a = omega arith in
    let g : e2 ≡ e = omega arith in
    keeps-as live (rising_lists a e (suc k)) (rising_lists a2 e2 (suc k)) (rising_lists a e (suc k)) (rising_lists a e (suc k)) refl (ap₂ (λ x y. rising_lists x y (suc k)) f g)
    (record { same = refl; shorter = omega arith })
keeps-rising live k (suc j) a zero a2 e2 p q h = absurd (omega arith)
keeps-rising live k (suc j) a (suc e) a2 e2 p q h =
    let own : a ≤ a = omega arith in
    let up : a < a2 = omega arith in
    let first : List (List ℕ) = map (λ r. a ∷ r) (rising_lists a (suc e) k) in
    keeps-then live (first ++ rising_lists (suc a) e (suc k)) (rising_lists (suc a) e (suc k)) (rising_lists a2 e2 (suc k))
    (keeps-dead live first (rising_lists (suc a) e (suc k)) (dead_map live a (rising_lists a (suc e) k) (dead_rising (λ s. live (a ∷ s)) k a (suc e) (λ s l. h a s own up l))))
    (keeps-rising live k j (suc a) e a2 e2 (omega arith) (omega arith) (λ c s u v l. h c s (omega arith) v l))

full_after : (n m : ℕ) → lists_after n (replicate m n) ≡ []
full_after n zero = refl
full_after n (suc m) =
    ap₂ (λ r t. map (λ q. n ∷ q) r ++ (if t then rising_lists (suc n) (n - suc n) (suc (length (replicate m n))) else [])) (full_after n m) (le-ltb n n (omega arith))

-- none of the lists that begin above b is live
dead_above : (live : List ℕ → Bool) (n b m : ℕ) → ((c : ℕ) (s : List ℕ) → b ≤ c → c ≤ n → length s ≡ m → live (c ∷ s) ≡ false)
    → filter live (if ltb b n then rising_lists (suc b) (n - suc b) (suc m) else []) ≡ []
dead_above live n b m h =
    let more : List (List ℕ) = rising_lists (suc b) (n - suc b) (suc m) in
    elim (cases_lt b n) [
      | inl l ↦
          let own : n ≤ n = omega arith in
          let up : b ≤ n = omega arith in
          ap (λ t. filter live (if t then more else [])) (lt-ltb b n l)
          ∙ (keeps-rising live m (n - suc b) (suc b) (n - suc b) n 0 (omega arith) (omega arith) (λ c s u v k. h c s (omega arith) (omega arith) k)).same
          ∙ dead_map live n (rising_lists n 0 m) (dead_rising (λ s. live (n ∷ s)) m n 0 (λ s k. h n s up own k))
      | inr g ↦ ap (λ t. filter live (if t then more else [])) (le-ltb b n g)
    ]

-- the lists after one that begins with b, and those after the last one that begins with x
keeps-first : (live : List ℕ → Bool) (n b x : ℕ) (p : List ℕ) → b ≤ x → x ≤ n → ((c : ℕ) (s : List ℕ) → b ≤ c → c ≤ x → length s ≡ length p → live (c ∷ s) ≡ false)
    → KeepsLive live (lists_after n (b ∷ p)) (lists_after n (x ∷ replicate (length p) n))
keeps-first live n b x p up low h =
    let m : ℕ = length p in
    let own : b ≤ b = omega arith in
    let first : List (List ℕ) = map (λ q. b ∷ q) (lists_after n p) in
    let dead : filter live first ≡ [] = dead_map live b (lists_after n p) (dead_after (λ s. live (b ∷ s)) n p (λ s l. h b s own up l)) in
    let more : ℕ → List (List ℕ) = λ y. rising_lists (suc y) (n - suc y) (suc m) in
    let after : lists_after n (x ∷ replicate m n) ≡ (if ltb x n then more x else []) =
    ap₂ (λ r j. map (λ q. x ∷ q) r ++ (if ltb x n then rising_lists (suc x) (n - suc x) (suc j) else [])) (full_after n m) (length-replicate m n) in
    elim (cases_lt x n) [
      | inl l ↦
          keeps-as live (lists_after n (b ∷ p)) (lists_after n (x ∷ replicate m n)) (first ++ more b) (more x) (ap (λ t. first ++ (if t then more b else [])) (lt-ltb b n (omega arith)))
          (after ∙ ap (λ t. if t then more x else []) (lt-ltb x n l))
          (keeps-then live (first ++ more b) (more b) (more x) (keeps-dead live first (more b) dead)
          (keeps-rising live m (x - b) (suc b) (n - suc b) (suc x) (n - suc x) (omega arith) (omega arith) (λ c s u v k. h c s (omega arith) (omega arith) k)))
      | inr g ↦
          keeps-as live (lists_after n (b ∷ p)) (lists_after n (x ∷ replicate m n)) (lists_after n (b ∷ p)) [] refl (after ∙ ap (λ t. if t then more x else []) (le-ltb x n g))
          (record {
            same = filter-append live first (if ltb b n then more b else []) ∙ ap₂ (λ y z. y ++ z) dead (dead_above live n b m (λ c s u v k. h c s u (omega arith) k));
            shorter = omega arith;
          })
    ]

keeps-cons : (live : List ℕ → Bool) (n b : ℕ) (p r : List ℕ) → length r ≡ length p → KeepsLive (λ s. live (b ∷ s)) (lists_after n p) (lists_after n r)
    → KeepsLive live (lists_after n (b ∷ p)) (lists_after n (b ∷ r))
keeps-cons live n b p r e k =
    let more : ℕ → List (List ℕ) = λ j. if ltb b n then rising_lists (suc b) (n - suc b) (suc j) else [] in
    let behind : List (List ℕ) → List (List ℕ) = λ xs. map (λ q. b ∷ q) xs in
    record {
      same =
          filter-append live (behind (lists_after n p)) (more (length p))
          ∙ ap₂ (λ y z. y ++ z) (filter-map live (λ q. b ∷ q) (lists_after n p) ∙ ap behind k.same ∙ sym (filter-map live (λ q. b ∷ q) (lists_after n r))) (ap (λ j. filter live (more j)) (sym e))
          ∙ sym (filter-append live (behind (lists_after n r)) (more (length r)));
      shorter =
          omega (
            arith,
            length-append (behind (lists_after n p)) (more (length p)),
            length-append (behind (lists_after n r)) (more (length r)),
            length-map (lists_after n p) (λ q. b ∷ q),
            length-map (lists_after n r) (λ q. b ∷ q),
            ap (λ j. length (more j)) e,
            k.shorter,
          );
    }

length-passed : (n : ℕ) (p : List ℕ) (i x : ℕ) → i < length p → length (passed_list n p i x) ≡ length p
length-passed n p i x b =
    omega (arith, length-append (take i p) (x ∷ replicate (length p - (i + 1)) n), length-replicate {A = ℕ} (length p - (i + 1)) n, length-take-le i p (omega arith))

pub keeps-at : (live : List ℕ → Bool) (n : ℕ) (p : List ℕ) (i x : ℕ) → i < length p → get_or p i 0 ≤ x → x ≤ n
    → ((c : ℕ) (s : List ℕ) → get_or p i 0 ≤ c → c ≤ x → length s + (i + 1) ≡ length p → live (take i p ++ (c ∷ s)) ≡ false)
    → KeepsLive live (lists_after n p) (lists_after n (passed_list n p i x))
keeps-at live n [] i x b up low h = absurd (omega arith)
keeps-at live n (b ∷ p) zero x i up low h =
    let m : length p ≡ length (b ∷ p) - (0 + 1) = omega arith in
    keeps-as live (lists_after n (b ∷ p)) (lists_after n (passed_list n (b ∷ p) 0 x)) (lists_after n (b ∷ p)) (lists_after n (x ∷ replicate (length p) n)) refl
    (ap (λ j. lists_after n (x ∷ replicate j n)) (sym m)) (keeps-first live n b x p up low (λ c s u v l. h c s u v (omega arith)))
keeps-at live n (b ∷ p) (suc i) x inside up low h =
    let m : length p - (i + 1) ≡ length (b ∷ p) - (suc i + 1) = omega arith in
    keeps-as live (lists_after n (b ∷ p)) (lists_after n (passed_list n (b ∷ p) (suc i) x)) (lists_after n (b ∷ p)) (lists_after n (b ∷ passed_list n p i x)) refl
    (ap (λ j. lists_after n (b ∷ (take i p ++ (x ∷ replicate j n)))) (sym m))
    (keeps-cons live n b p (passed_list n p i x) (length-passed n p i x (omega arith))
    (keeps-at (λ s. live (b ∷ s)) n p i x (omega arith) up low (λ c s u v l. h c s u v (omega arith))))

-- ---- what the code writes

pub passed-written : (n : ℕ) (p ys : List ℕ) (i x m : ℕ) → i < length p → m ≡ length (set p i x) - (i + 1) → ys ≡ replicate m n
    → put_mid (i + 1) (length (set p i x) - (i + 1)) (set p i x) ys ≡ passed_list n p i x
passed-written n p ys i x m inside e w =
    let q : List ℕ = set p i x in
    let k : ℕ = length q - (i + 1) in
    let same : length q ≡ length p = length-set p i x in
    let long : length ys ≡ k = ap length w ∙ length-replicate m n ∙ e in
    let mid : length ys ≡ length (mid_of (i + 1) k q) = omega (arith, long, length-take-le k (drop (i + 1) q) (omega (arith, length-drop (i + 1) q))) in
    let all : length (put_mid (i + 1) k q ys) ≡ length q = same_len_mid (i + 1) k q ys mid in
    sym (take_all (length q) (put_mid (i + 1) k q ys) (omega (arith, all))) ∙ take-put_mid (i + 1) k q ys (length q) (omega (arith, long, same)) (omega (arith, same))
    ∙ ap₂ (λ y z. y ++ z) (take_more_set p i x inside) (w ∙ ap (λ j. replicate j n) (e ∙ ap (λ j. j - (i + 1)) same)) ∙ append_assoc (take i p) (x ∷ []) (replicate (length p - (i + 1)) n)

pub left-next : (t : Bool) (top : ℕ) (p q : List ℕ) → IsNextList t top p q → lists_from t top q ≡ lists_after top p
left-next true top p q h = sym h
left-next false top p q h = sym h.0

pub cut-moved : (t : Bool) (u : List ℕ) (top : ℕ) (p q : List ℕ) → IsNextList t top p q → IsCutFrom u 0 (p ++ (top ∷ []))
    → IsCutFrom u 0 (q ++ (top ∷ []))
cut-moved true u top p q h c = cut-next u 0 top p q c h
cut-moved false u top p q h c = subst (λ (r : List ℕ). IsCutFrom u 0 (r ++ (top ∷ []))) (sym h.1) c

pub cut-passed : (u : List ℕ) (a top : ℕ) (p : List ℕ) (i x : ℕ) → length u ≡ length p + 1 → i < length p → get_or p i 0 ≤ x → x ≤ top → IsCutFrom u a (p ++ (top ∷ []))
    → IsCutFrom u a (passed_list top p i x ++ (top ∷ []))
cut-passed u a top [] i x l b up low c = absurd (omega arith)
cut-passed [] a top (b ∷ p) i x l inside up low c = absurd c
cut-passed (v ∷ u) a top (b ∷ p) zero x l inside up low c =
    let m : length p ≡ length (b ∷ p) - (0 + 1) = omega arith in
    let o = c.0 in
    let on : a ≤ x = omega arith in
    subst (λ j. IsCutFrom (v ∷ u) a ((x ∷ replicate j top) ++ (top ∷ []))) m (on, cut-replicate u x top (length p) top (omega arith) low (omega arith))
cut-passed (v ∷ u) a top (b ∷ p) (suc i) x l inside up low c =
    let m : length p - (i + 1) ≡ length (b ∷ p) - (suc i + 1) = omega arith in
    subst (λ j. IsCutFrom (v ∷ u) a ((b ∷ (take i p ++ (x ∷ replicate j top))) ++ (top ∷ []))) m (c.0, cut-passed u b top p i x (omega arith) (omega arith) up low c.1)

-- ---- dead ends

module _ (q : ℕ) (u : List ℕ) (top : ℕ) (p : List ℕ) (i x : ℕ) (long : length u ≡ length p + 1) (d : IsDeadEnd q u top (p ++ (top ∷ [])) i x) where
  -- the list at a dead end is not live
  pub dead_end-here : is_live_list q u top p ≡ false
  dead_end-here =
      let w : List ℕ = p ++ (top ∷ []) in
      let n : length w ≡ length p + 1 = length-append p (top ∷ []) in
      let inside : i < length w = omega (arith, n, d.inside, long) in
      let own : get_or w i 0 ≤ get_or w i 0 = omega arith in
      ap (is_live_cut q u) (sym (take-append-drop i w) ∙ ap (λ r. take i w ++ r) (drop_more w i 0 inside))
      ∙ d.dead (get_or w i 0) (drop (i + 1) w) own d.up (omega (arith, length-drop (i + 1) w, n, long, inside))

  -- those up to the last of the dead ones are not live
  pub dead_end-passed : i < length p → KeepsLive (is_live_list q u top) (lists_after top p) (lists_after top (passed_list top p i x))
  dead_end-passed b =
      let w : List ℕ = p ++ (top ∷ []) in
      let same : get_or w i 0 ≡ get_or p i 0 = get_or-append p (top ∷ []) 0 i b in
      let up = d.up in
      keeps-at (is_live_list q u top) top p i x b (omega arith) d.low
      (λ c s lo hi l.
      ap (is_live_cut q u) (append_assoc (take i p) (c ∷ s) (top ∷ []) ∙ ap (λ r. r ++ (c ∷ (s ++ (top ∷ [])))) (sym (take-append-le i p (top ∷ []) (omega arith))))
      ∙ d.dead c (s ++ (top ∷ [])) (omega arith) hi (omega (arith, length-append s (top ∷ []), l, long)))

  pub dead_end-up : i < length p → get_or p i 0 ≤ x
  dead_end-up b = let same : get_or (p ++ (top ∷ [])) i 0 ≡ get_or p i 0 = get_or-append p (top ∷ []) 0 i b in let up = d.up in omega arith

-- ---- the first list that is to come

pub left-first : (s : Stage) (top : ℕ) (p r : List ℕ) → s ≡ Before → r ≡ replicate (length p) 0 → r ∷ lists_after top r ≡ lists_left s top p
left-first s top p r e w =
    ap (λ (x : List ℕ). x ∷ lists_after top x) w ∙ sym (lists_after-first (length p) top 0 ∙ ap (λ n. replicate (length p) 0 ∷ lists_after n (replicate (length p) 0)) (zero-add top))
    ∙ ap (λ t. lists_left t top p) (sym e)

pub left-at : (s : Stage) (t : Bool) (top : ℕ) (p q : List ℕ) → s ≡ At → IsNextList t top p q → lists_from t top q ≡ lists_left s top p
left-at s t top p q e h = left-next t top p q h ∙ ap (λ x. lists_left x top p) (sym e)

pub cut-zeros : (u : List ℕ) (top : ℕ) (p r : List ℕ) → r ≡ replicate (length p) 0 → IsCutFrom u 0 (p ++ (top ∷ [])) → IsCutFrom u 0 (r ++ (top ∷ []))
cut-zeros u top p r e c = subst (λ (x : List ℕ). IsCutFrom u 0 (x ++ (top ∷ []))) (sym e) (cut-first u 0 top p c)

-- ---- from a dead end to the next list

module _ (t : Bool) (q : ℕ) (u : List ℕ) (top : ℕ) (p r s : List ℕ) (i x : ℕ) (long : length u ≡ length p + 1) (d : IsDeadEnd q u top (p ++ (top ∷ [])) i x)
    (next : IsNextList t top r s) where
  pub leave-passed : i < length p → r ≡ passed_list top p i x → KeepsLive (is_live_list q u top) (lists_after top p) (lists_from t top s)
  leave-passed b e =
      keeps-as (is_live_list q u top) (lists_after top p) (lists_from t top s) (lists_after top p) (lists_after top (passed_list top p i x)) refl
      (left-next t top r s next ∙ ap (lists_after top) e) (dead_end-passed q u top p i x long d b)

  pub leave-last : r ≡ p → KeepsLive (is_live_list q u top) (lists_after top p) (lists_from t top s)
  leave-last e =
      keeps-as (is_live_list q u top) (lists_after top p) (lists_from t top s) (lists_after top p) (lists_after top p) refl (left-next t top r s next ∙ ap (lists_after top) e)
      (record { same = refl; shorter = omega arith })

  pub leave-cut : i < length p → r ≡ passed_list top p i x → IsCutFrom u 0 (p ++ (top ∷ [])) → IsCutFrom u 0 (s ++ (top ∷ []))
  leave-cut b e c =
      cut-moved t u top r s next
      (subst (λ (y : List ℕ). IsCutFrom u 0 (y ++ (top ∷ []))) (sym e) (cut-passed u 0 top p i x long b (dead_end-up q u top p i x long d b) d.low c))

  pub leave-cut_last : r ≡ p → IsCutFrom u 0 (p ++ (top ∷ [])) → IsCutFrom u 0 (s ++ (top ∷ []))
  leave-cut_last e c = cut-moved t u top r s next (subst (λ (y : List ℕ). IsCutFrom u 0 (y ++ (top ∷ []))) (sym e) c)

-- ---- the search

-- a list that is not live is left
pub search-more : (live : List ℕ → Bool) (t : Bool) (top : ℕ) (p : List ℕ) (later : Bool) (s : List ℕ) → t ≡ true → live p ≡ false → KeepsLive live (lists_after top p) (lists_from later top s)
    → (filter live (lists_from later top s) ≡ filter live (lists_from t top p)) × (length (lists_from later top s) < length (lists_from t top p))
search-more live t top p later s e d k =
    let same : filter live (p ∷ lists_after top p) ≡ filter live (lists_from t top p) = ap (λ x. filter live (lists_from x top p)) (sym e) in
    let long : suc (length (lists_after top p)) ≡ length (lists_from t top p) = ap (λ x. length (lists_from x top p)) (sym e) in
    let short = k.shorter in
    (sym k.same ∙ ap (λ x. cond x (p ∷ filter live (lists_after top p)) (filter live (lists_after top p))) (sym d) ∙ same, omega arith)
