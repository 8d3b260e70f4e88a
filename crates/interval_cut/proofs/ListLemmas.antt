-- The walk over rising lists.
use Rattle.std.proofs.{Common.{◌≡◌, ℕ, ◌+◌, ◌-◌, ◌≤◌, ◌<◌, true, false, List, [], ◌∷◌, ◌++◌, map, take, drop, take_all, length-take-le, length-drop, length-append, length, get_or, refl, sym, ◌∙◌, ap, ap₂, arith, subst, Bool, if◌then◌else◌, ltb, zero, suc, replicate, lt-ltb, le-ltb, append-nil}, lemmas.List.length-replicate, lemmas.Slice.take-put_mid}
use borrow.Rule.Slice.PartMut.{put_mid, mid_of, same_len_mid}
use Rattle.linear_law.{specs.Names.Each, proofs.Names.{each_append, each_map, each_of_map}}
use Rattle.interval_cut_law.specs.Names.{rising_lists}
use Rattle.interval_cut.specs.Names.{lists_after, IsFullFrom, IsLastBelow}

-- the first list, and those after it
pub lists_after-first : (k e a : ℕ) → rising_lists a e k ≡ replicate k a ∷ lists_after (a + e) (replicate k a)
lists_after-first zero e a = refl
lists_after-first (suc k) zero a =
    let rest : List (List ℕ) = map (λ q. a ∷ q) (lists_after (a + 0) (replicate k a)) in
    let more : List (List ℕ) = rising_lists (suc a) (a + 0 - suc a) (suc (length (replicate k a))) in
    let stop : ltb a (a + 0) ≡ false = le-ltb a (a + 0) (omega arith) in
    ap (λ r. map (λ p. a ∷ p) r) (lists_after-first k zero a)
    ∙ ap (λ r. (a ∷ replicate k a) ∷ r) (sym (append-nil rest) ∙ ap (λ t. rest ++ (if t then more else [])) (sym stop))
lists_after-first (suc k) (suc e) a =
    let rest : List (List ℕ) = map (λ q. a ∷ q) (lists_after (a + suc e) (replicate k a)) in
    let more : List (List ℕ) = rising_lists (suc a) (a + suc e - suc a) (suc (length (replicate k a))) in
    let on : ltb a (a + suc e) ≡ true = lt-ltb a (a + suc e) (omega arith) in
    let left : e ≡ a + suc e - suc a = omega arith in
    ap (λ r. map (λ p. a ∷ p) r ++ rising_lists (suc a) e (suc k)) (lists_after-first k (suc e) a)
    ∙ ap (λ r. (a ∷ replicate k a) ∷ (rest ++ r)) (ap₂ (λ m j. rising_lists (suc a) m (suc j)) left (sym (length-replicate k a)))
    ∙ ap (λ t. (a ∷ replicate k a) ∷ (rest ++ (if t then more else []))) (sym on)

-- all have the same length
pub rising-long : (k e a : ℕ) → Each (λ q. length q ≡ k) (rising_lists a e k)
rising-long zero e a = (refl, tt)
rising-long (suc k) zero a = each_of_map (λ q. length q ≡ suc k) (λ q. a ∷ q) (rising_lists a zero k) (each_map (λ q l. ap suc l) (rising_lists a zero k) (rising-long k zero a))
rising-long (suc k) (suc e) a =
    each_append (λ q. length q ≡ suc k) (map (λ q. a ∷ q) (rising_lists a (suc e) k)) (rising_lists (suc a) e (suc k))
    (each_of_map (λ q. length q ≡ suc k) (λ q. a ∷ q) (rising_lists a (suc e) k) (each_map (λ q l. ap suc l) (rising_lists a (suc e) k) (rising-long k (suc e) a))) (rising-long (suc k) e (suc a))

pub lists_after-long : (n : ℕ) (p : List ℕ) → Each (λ q. length q ≡ length p) (lists_after n p)
lists_after-long n [] = tt
lists_after-long n (b ∷ p) =
    each_append (λ q. length q ≡ suc (length p)) (map (λ q. b ∷ q) (lists_after n p)) (if ltb b n then rising_lists (suc b) (n - suc b) (suc (length p)) else [])
    (each_of_map (λ q. length q ≡ suc (length p)) (λ q. b ∷ q) (lists_after n p) (each_map (λ q l. ap suc l) (lists_after n p) (lists_after-long n p))) (above (ltb b n))
  where
    above : (t : Bool) → Each (λ q. length q ≡ suc (length p)) (if t then rising_lists (suc b) (n - suc b) (suc (length p)) else [])
    above true = rising-long (suc (length p)) (n - suc b) (suc b)
    above false = tt

pub length-next : (n : ℕ) (p q : List ℕ) → lists_after n p ≡ q ∷ lists_after n q → length q ≡ length p
length-next n p q e = (subst (Each (λ r. length r ≡ length p)) e (lists_after-long n p)).0

-- after a full list there is none
pub lists_after-full : (n : ℕ) (p : List ℕ) → IsFullFrom n p 0 → lists_after n p ≡ []
lists_after-full n [] h = refl
lists_after-full n (b ∷ p) h =
    let more : List (List ℕ) = rising_lists (suc b) (n - suc b) (suc (length p)) in
    ap₂ (λ r t. map (λ q. b ∷ q) r ++ (if t then more else []))
    (lists_after-full n p (record { each = λ k c d. h.each (suc k) (omega arith) (omega arith) })) (le-ltb b n (h.each 0 (omega arith) (omega arith)))

-- the list that is raised by one at place i and has that number from there on
abbrev raised : List ℕ → ℕ → List ℕ
raised p i = take i p ++ replicate (length p - i) (suc (get_or p i 0))

-- where i is the last place below the top, it is the next list
lists_after-raised : (n : ℕ) (p : List ℕ) (i : ℕ) → IsLastBelow n p i → lists_after n p ≡ raised p i ∷ lists_after n (raised p i)
lists_after-raised n [] i h = absurd (let b = h.inside in omega arith)
lists_after-raised n (b ∷ p) zero h =
    let more : List (List ℕ) = rising_lists (suc b) (n - suc b) (suc (length p)) in
    let top : suc b + (n - suc b) ≡ n = let c = h.below in omega arith in
    let size : suc (length p) ≡ suc (length p) - 0 = omega arith in
    ap₂ (λ r t. map (λ q. b ∷ q) r ++ (if t then more else [])) (lists_after-full n p (record { each = λ k c d. h.rest.each (suc k) (omega arith) (omega arith) })) (lt-ltb b n h.below)
    ∙ lists_after-first (suc (length p)) (n - suc b) (suc b)
    ∙ ap₂ (λ m j. replicate j (suc b) ∷ lists_after m (replicate j (suc b))) top size
lists_after-raised n (b ∷ p) (suc i) h =
    let more : ℕ → List (List ℕ) = λ j. if ltb b n then rising_lists (suc b) (n - suc b) (suc j) else [] in
    let inside = h.inside in
    let size : length p - i ≡ suc (length p) - suc i = omega arith in
    let long : length p ≡ length (raised p i) =
    (let a = length-append (take i p) (replicate (length p - i) (suc (get_or p i 0))) in
    let c = length-take-le i p (omega arith) in
    let d = length-replicate (length p - i) (suc (get_or p i 0)) in
    omega arith) in
    ap (λ x. map (λ y. b ∷ y) x ++ more (length p))
    (lists_after-raised n p i (record { inside = omega arith; below = h.below; rest = record { each = λ k c d. h.rest.each (suc k) (omega arith) (omega arith) } }))
    ∙ ap (λ j. (b ∷ raised p i) ∷ (map (λ y. b ∷ y) (lists_after n (raised p i)) ++ more j)) long
    ∙ ap (λ m. let q : List ℕ = b ∷ (take i p ++ replicate m (suc (get_or p i 0))) in q ∷ lists_after n q) size

-- what is written from the last place below the top on
pub next_written : (n : ℕ) (p ys : List ℕ) (i m next : ℕ) → IsLastBelow n p i → m ≡ length p - i → ys ≡ replicate m next → next ≡ suc (get_or p i 0)
    → lists_after n p ≡ put_mid i (length p - i) p ys ∷ lists_after n (put_mid i (length p - i) p ys)
next_written n p ys i m next h e w s =
    let inside : i < length p = h.inside in
    let long : length ys ≡ length p - i = ap length w ∙ length-replicate m next ∙ e in
    let mid : length ys ≡ length (mid_of i (length p - i) p) = omega (arith, long, length-take-le (length p - i) (drop i p) (omega (arith, length-drop i p))) in
    let same : length (put_mid i (length p - i) p ys) ≡ length p = same_len_mid i (length p - i) p ys mid in
    let whole : put_mid i (length p - i) p ys ≡ take i p ++ ys =
    sym (take_all (length p) (put_mid i (length p - i) p ys) (omega (arith, same))) ∙ take-put_mid i (length p - i) p ys (length p) (omega (arith, long)) (omega arith) in
    lists_after-raised n p i h
    ∙ ap (λ (q : List ℕ). q ∷ lists_after n q) (ap₂ (λ j x. take i p ++ replicate j x) (sym e) (sym s) ∙ ap (λ r. take i p ++ r) (sym w) ∙ sym whole)
