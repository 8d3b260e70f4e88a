-- Table reduction entry by entry, and all removals from its lists.
use Rattle.std.proofs.{Common.{◌≡◌, ℕ, zero, suc, ◌+◌, cond, List, [], ◌∷◌, refl, sym, ◌∙◌, ap, arith, ◌==◌, subst, eq-eqb, ne_eqb, ℤ, pos, ◌+ℤ◌, neg_ℤ}, lemmas.Bool.Decides.nat_tests, lemmas.Int.ints}
use native.Mathlib.Decide.{ℕ_discrete}
use Rattle.signed_sum.{proofs.Names.{Alike, Alike-cons, occurs-01, occurs-again, occurs-apart, occurs-head, occurs-self, occurs-swap, occurs-tail, signed-+}, specs.Names.{IsDistinct, occurs, unless_zero, signed}}
use Rattle.table_reduction_law.{proofs.UnusedEntries.{unused-absent, unused-cong, unused-cons, unused-distinct, unused-in, unused-out}, specs.Names.{cons_if_zero, unused}}

-- the sum of h over what may stand from here on. `xs` is what is left of the row at hand, `a` are the entries that are used, and `ws` are the permutations of the later rows. An entry ends its row, or it is used
abbrev pub walk : List (List ℕ) → List ℕ → List ℕ → (List ℕ → ℤ) → ℤ
walk [] xs a h = h xs
walk (w ∷ ws) [] a h = pos 0
walk (w ∷ ws) (x ∷ xs) a h = walk ws (unused a w) a (λ u. h (x ∷ u)) +ℤ walk (w ∷ ws) xs (x ∷ a) (λ u. h (x ∷ u))

-- t, with n at x
abbrev pub put : ℕ → ℕ → (ℕ → ℕ) → ℕ → ℕ
put x n t v = cond (v == x) n (t v)

-- the sum of h over these lists without one entry, each with its sign. k is the number of the row at hand. t is 0 at values that ended no row, and one more than the number of the last such row at the others
abbrev pub removals : List (List ℕ) → List ℕ → List ℕ → (ℕ → ℕ) → ℕ → (List ℕ → ℤ) → ℤ
removals [] [] a t k h = pos 0
removals [] (x ∷ xs) a t k h = unless_zero (t x) (signed (t x) (h xs)) +ℤ removals [] xs (x ∷ a) t k (λ u. h (x ∷ u))
removals (w ∷ ws) [] a t k h = pos 0
removals (w ∷ ws) (x ∷ xs) a t k h =
    (signed k (walk ws (unused a w) a h) +ℤ removals ws (unused a w) a (put x (suc k) t) (suc k) (λ u. h (x ∷ u)))
    +ℤ (unless_zero (t x) (signed (t x) (walk (w ∷ ws) xs (x ∷ a) h)) +ℤ removals (w ∷ ws) xs (x ∷ a) t k (λ u. h (x ∷ u)))

-- what holds at each step

-- `a` and `xs` are apart, and together have the values of each later permutation
abbrev pub Good : List (List ℕ) → List ℕ → List ℕ → Type 0
Good [] xs a = IsDistinct xs
Good (w ∷ ws) xs a = IsDistinct w × ((v : ℕ) → occurs v a + occurs v xs ≡ occurs v w) × Good ws xs a

pub good-distinct : (ws : List (List ℕ)) (xs a : List ℕ) → Good ws xs a → IsDistinct xs
good-distinct [] xs a g = g
good-distinct (w ∷ ws) xs a g = good-distinct ws xs a g.2

-- what is left of the next permutation has the same values
pub left : (w : List ℕ) (ws : List (List ℕ)) (xs a : List ℕ) → Good (w ∷ ws) xs a → Alike (unused a w) xs
left w ws xs a g v = grind (arith, occurs-01 v a, occurs-01 v w, g.1 v, unused-out v a w, unused-in v a w)

good-swap : (ws : List (List ℕ)) (xs ys a : List ℕ) → Good ws xs a → Alike ys xs → IsDistinct ys → Good ws ys a
good-swap [] xs ys a g h d = d
good-swap (w ∷ ws) xs ys a g h d = (g.0, (λ v. let e = h v in let k = g.1 v in omega (arith, e, k)), good-swap ws xs ys a g.2 h d)

pub good-end : (w : List ℕ) (ws : List (List ℕ)) (xs a : List ℕ) → Good (w ∷ ws) xs a → Good ws (unused a w) a
good-end w ws xs a g = good-swap ws xs (unused a w) a g.2 (left w ws xs a g) (unused-distinct a w g.0)

pub good-use : (ws : List (List ℕ)) (x : ℕ) (xs a : List ℕ) → Good ws (x ∷ xs) a → Good ws xs (x ∷ a)
good-use [] x xs a g = g.1
good-use (w ∷ ws) x xs a g =
    let n : occurs x xs ≡ 0 = (good-distinct ws (x ∷ xs) a g.2).0 in
    let none : occurs x a ≡ 0 = grind (arith, g.1 x, occurs-self x xs, occurs-01 x w) in
    (g.0, (λ v. grind (arith, nat_tests, g.1 v, n, none)), good-use ws x xs a g.2)

-- only which values are used counts
pub walk-used : (ws : List (List ℕ)) (xs a b : List ℕ) (h : List ℕ → ℤ) → Alike a b → walk ws xs a h ≡ walk ws xs b h
walk-used [] xs a b h e = refl
walk-used (w ∷ ws) [] a b h e = refl
walk-used (w ∷ ws) (x ∷ xs) a b h e =
    let p : walk ws (unused a w) a (λ u. h (x ∷ u)) ≡ walk ws (unused b w) b (λ u. h (x ∷ u)) =
    walk-used ws (unused a w) a b (λ u. h (x ∷ u)) e ∙ ap (λ r. walk ws r b (λ u. h (x ∷ u))) (unused-cong a b w e) in
    let q = walk-used (w ∷ ws) xs (x ∷ a) (x ∷ b) (λ u. h (x ∷ u)) (Alike-cons x a b e) in
    omega (arith, ints)

-- the lists have the values of `xs`
pub walk-cong : (ws : List (List ℕ)) (xs a : List ℕ) (f g : List ℕ → ℤ) → Good ws xs a → ((u : List ℕ) → Alike u xs → f u ≡ g u) → walk ws xs a f ≡ walk ws xs a g
walk-cong [] xs a f g d h = h xs (λ v. refl)
walk-cong (w ∷ ws) [] a f g d h = refl
walk-cong (w ∷ ws) (x ∷ xs) a f g d h =
    let p = walk-cong ws (unused a w) a (λ u. f (x ∷ u)) (λ u. g (x ∷ u)) (good-end w ws (x ∷ xs) a d) ended in
    let q = walk-cong (w ∷ ws) xs (x ∷ a) (λ u. f (x ∷ u)) (λ u. g (x ∷ u)) (good-use (w ∷ ws) x xs a d) (λ u k. h (x ∷ u) (Alike-cons x u xs k)) in
    omega (arith, ints)
  where
    ended : (u : List ℕ) → Alike u (unused a w) → f (x ∷ u) ≡ g (x ∷ u)
    ended u k =
        h (x ∷ u) (λ v.
        let m : occurs x u ≡ 1 = k x ∙ left w ws (x ∷ xs) a d x ∙ occurs-self x xs in
        occurs-again v x u m ∙ k v ∙ left w ws (x ∷ xs) a d v)

pub walk-sum : (ws : List (List ℕ)) (xs a : List ℕ) (f g : List ℕ → ℤ) → walk ws xs a (λ u. f u +ℤ g u) ≡ walk ws xs a f +ℤ walk ws xs a g
walk-sum [] xs a f g = refl
walk-sum (w ∷ ws) [] a f g = refl
walk-sum (w ∷ ws) (x ∷ xs) a f g =
    let p = walk-sum ws (unused a w) a (λ u. f (x ∷ u)) (λ u. g (x ∷ u)) in
    let q = walk-sum (w ∷ ws) xs (x ∷ a) (λ u. f (x ∷ u)) (λ u. g (x ∷ u)) in
    omega (arith, ints)

pub walk-zero : (ws : List (List ℕ)) (xs a : List ℕ) → walk ws xs a (λ u. pos 0) ≡ pos 0
walk-zero ws xs a = let z : walk ws xs a (λ u. pos 0) ≡ walk ws xs a (λ u. pos 0) +ℤ walk ws xs a (λ u. pos 0) = walk-sum ws xs a (λ u. pos 0) (λ u. pos 0) in omega (arith, ints)

pub walk-neg : (ws : List (List ℕ)) (xs a : List ℕ) (f : List ℕ → ℤ) → walk ws xs a (λ u. neg_ℤ (f u)) ≡ neg_ℤ (walk ws xs a f)
walk-neg ws xs a f =
    let z : walk ws xs a (λ u. f u +ℤ neg_ℤ (f u)) ≡ pos 0 = (λ i. walk ws xs a (λ u. (let e : f u +ℤ neg_ℤ (f u) ≡ pos 0 = omega (arith, ints) in e) i)) ∙ walk-zero ws xs a in
    omega (arith, ints, z, walk-sum ws xs a f (λ u. neg_ℤ (f u)))

pub walk-signed : (n : ℕ) (ws : List (List ℕ)) (xs a : List ℕ) (f : List ℕ → ℤ) → walk ws xs a (λ u. signed n (f u)) ≡ signed n (walk ws xs a f)
walk-signed zero ws xs a f = refl
walk-signed (suc n) ws xs a f = walk-neg ws xs a (λ u. signed n (f u)) ∙ ap neg_ℤ (walk-signed n ws xs a f)

pub walk-when : (n : ℕ) (ws : List (List ℕ)) (xs a : List ℕ) (f : List ℕ → ℤ) → walk ws xs a (λ u. unless_zero n (f u)) ≡ unless_zero n (walk ws xs a f)
walk-when zero ws xs a f = walk-zero ws xs a
walk-when (suc n) ws xs a f = refl

-- marks

pub put-here : (x n : ℕ) (t : ℕ → ℕ) → put x n t x ≡ n
put-here x n t = ap (λ b. cond b n (t x)) (eq-eqb x x refl)

pub put-apart : (v x n : ℕ) (t : ℕ → ℕ) → (v ≡ x → ⊥) → put x n t v ≡ t v
put-apart v x n t m = ap (λ b. cond b n (t v)) (ne_eqb v x m)

-- a later mark at the same value
over : (v x m n l : ℕ) (t : ℕ → ℕ) → put x m (put x n t) v ≡ put x m (put x l t) v
over v x m n l t = grind (arith, nat_tests)

-- two marks in either order
turn : (v y x m n : ℕ) (t : ℕ → ℕ) → (y ≡ x → ⊥) → put y m (put x n t) v ≡ put x n (put y m t) v
turn v y x m n t e = grind (arith, nat_tests)

-- marks that agree on the values that are left
abbrev pub Agree : List ℕ → (ℕ → ℕ) → (ℕ → ℕ) → Type 0
Agree xs t s = (v : ℕ) → occurs v xs ≡ 1 → t v ≡ s v

agree-put : (x n : ℕ) (t s : ℕ → ℕ) (xs ys : List ℕ) → Agree xs t s → Alike ys xs → Agree ys (put x n t) (put x n s)
agree-put x n t s xs ys h k v m = ap (λ j. cond (v == x) n j) (h v (sym (k v) ∙ m))

pub removals-agree : (ws : List (List ℕ)) (xs a : List ℕ) (t s : ℕ → ℕ) (k : ℕ) (h : List ℕ → ℤ) →
    Good ws xs a → Agree xs t s → removals ws xs a t k h ≡ removals ws xs a s k h
removals-agree [] [] a t s k h g e = refl
removals-agree [] (x ∷ xs) a t s k h g e =
    let p = removals-agree [] xs (x ∷ a) t s k (λ u. h (x ∷ u)) g.1 (λ v m. e v (occurs-tail v x xs m)) in
    let q : unless_zero (t x) (signed (t x) (h xs)) ≡ unless_zero (s x) (signed (s x) (h xs)) = ap (λ n. unless_zero n (signed n (h xs))) (e x (occurs-self x xs)) in
    omega (arith, ints)
removals-agree (w ∷ ws) [] a t s k h g e = refl
removals-agree (w ∷ ws) (x ∷ xs) a t s k h g e =
    let p = removals-agree ws (unused a w) a (put x (suc k) t) (put x (suc k) s) (suc k) (λ u. h (x ∷ u)) (good-end w ws (x ∷ xs) a g)
    (agree-put x (suc k) t s (x ∷ xs) (unused a w) e (left w ws (x ∷ xs) a g)) in
    let q = removals-agree (w ∷ ws) xs (x ∷ a) t s k (λ u. h (x ∷ u)) (good-use (w ∷ ws) x xs a g) (λ v m. e v (occurs-tail v x xs m)) in
    let z : unless_zero (t x) (signed (t x) (walk (w ∷ ws) xs (x ∷ a) h)) ≡ unless_zero (s x) (signed (s x) (walk (w ∷ ws) xs (x ∷ a) h)) =
    ap (λ n. unless_zero n (signed n (walk (w ∷ ws) xs (x ∷ a) h))) (e x (occurs-self x xs)) in
    omega (arith, ints)

-- a mark at a value that is left counts one removal more: that of the place where this value is used, before it ends a row again
pub removals-mark : (ws : List (List ℕ)) (xs a : List ℕ) (x n : ℕ) (t : ℕ → ℕ) (k : ℕ) (h : List ℕ → ℤ) → Good ws xs a → occurs x xs ≡ 1 →
    removals ws xs a (put x (suc n) t) k h ≡ removals ws xs a (put x 0 t) k h +ℤ signed (suc n) (walk ws (unused (x ∷ []) xs) (x ∷ a) h)
removals-mark [] [] a x n t k h g m = absurd (omega (arith, m))
removals-mark [] (y ∷ xs) a x n t k h g m =
    elim (ℕ_discrete y x) [
      | yes e ↦ subst (λ (j : ℕ). removals [] (j ∷ xs) a (put x (suc n) t) k h ≡ removals [] (j ∷ xs) a (put x 0 t) k h +ℤ signed (suc n) (walk [] (unused (x ∷ []) (j ∷ xs)) (x ∷ a) h)) (sym e) (is_same_list (subst (λ (j : ℕ). occurs j xs ≡ 0) e g.0))
      | no e ↦
          let mm : occurs x xs ≡ 1 = sym (occurs-apart x y xs (λ q. e (sym q))) ∙ m in
          let ih = removals-mark [] xs (y ∷ a) x n t k (λ u. h (y ∷ u)) g.1 mm in
          let u : unused (x ∷ []) (y ∷ xs) ≡ y ∷ unused (x ∷ []) xs = ap (λ j. cons_if_zero j y (unused (x ∷ []) xs)) (occurs-apart y x [] e) in
          let uu : h (unused (x ∷ []) (y ∷ xs)) ≡ h (y ∷ unused (x ∷ []) xs) = ap h u in
          let uuu = ap (λ z. signed (suc n) z) uu in
          let p1 : unless_zero (put x (suc n) t y) (signed (put x (suc n) t y) (h xs)) ≡ unless_zero (t y) (signed (t y) (h xs)) = ap (λ j. unless_zero j (signed j (h xs))) (put-apart y x (suc n) t e) in
          let p2 : unless_zero (put x 0 t y) (signed (put x 0 t y) (h xs)) ≡ unless_zero (t y) (signed (t y) (h xs)) = ap (λ j. unless_zero j (signed j (h xs))) (put-apart y x 0 t e) in
          omega (arith, ints)
    ]
  where
    is_same_list : occurs x xs ≡ 0 → removals [] (x ∷ xs) a (put x (suc n) t) k h ≡ removals [] (x ∷ xs) a (put x 0 t) k h +ℤ signed (suc n) (walk [] (unused (x ∷ []) (x ∷ xs)) (x ∷ a) h)
    is_same_list z =
        let u : unused (x ∷ []) (x ∷ xs) ≡ xs = ap (λ j. cons_if_zero j x (unused (x ∷ []) xs)) (occurs-self x []) ∙ unused-absent x xs z in
        let uu : signed (suc n) (h (unused (x ∷ []) (x ∷ xs))) ≡ signed (suc n) (h xs) = ap (λ r. signed (suc n) (h r)) u in
        let p1 : unless_zero (put x (suc n) t x) (signed (put x (suc n) t x) (h xs)) ≡ signed (suc n) (h xs) = ap (λ j. unless_zero j (signed j (h xs))) (put-here x (suc n) t) in
        let p2 : unless_zero (put x 0 t x) (signed (put x 0 t x) (h xs)) ≡ pos 0 = ap (λ j. unless_zero j (signed j (h xs))) (put-here x 0 t) in
        let c = removals-agree [] xs (x ∷ a) (put x (suc n) t) (put x 0 t) k (λ r. h (x ∷ r)) g.1
        (λ v q. let e = occurs-head v x xs z q in put-apart v x (suc n) t e ∙ sym (put-apart v x 0 t e)) in
        omega (arith, ints)
removals-mark (w ∷ ws) [] a x n t k h g m = absurd (omega (arith, m))
removals-mark (w ∷ ws) (y ∷ xs) a x n t k h g m =
    elim (ℕ_discrete y x) [
      | yes e ↦ subst (λ (j : ℕ). Good (w ∷ ws) (j ∷ xs) a → removals (w ∷ ws) (j ∷ xs) a (put x (suc n) t) k h ≡ removals (w ∷ ws) (j ∷ xs) a (put x 0 t) k h +ℤ signed (suc n) (walk (w ∷ ws) (unused (x ∷ []) (j ∷ xs)) (x ∷ a) h)) (sym e) is_same_list g
      | no e ↦
          let ends = good-end w ws (y ∷ xs) a g in
          let here : occurs x (unused a w) ≡ 1 = left w ws (y ∷ xs) a g x ∙ m in
          let mm : occurs x xs ≡ 1 = sym (occurs-apart x y xs (λ q. e (sym q))) ∙ m in
          let ih1 = removals-mark ws (unused a w) a x n (put y (suc k) t) (suc k) (λ u. h (y ∷ u)) ends here in
          let ih2 = removals-mark (w ∷ ws) xs (y ∷ a) x n t k (λ u. h (y ∷ u)) (good-use (w ∷ ws) y xs a g) mm in
          let s1 = removals-agree ws (unused a w) a (put y (suc k) (put x (suc n) t)) (put x (suc n) (put y (suc k) t)) (suc k) (λ u. h (y ∷ u)) ends (λ v q. turn v y x (suc k) (suc n) t e) in
          let s2 = removals-agree ws (unused a w) a (put y (suc k) (put x 0 t)) (put x 0 (put y (suc k) t)) (suc k) (λ u. h (y ∷ u)) ends (λ v q. turn v y x (suc k) 0 t e) in
          let w1 : walk ws (unused (x ∷ []) (unused a w)) (x ∷ a) (λ u. h (y ∷ u)) ≡ walk ws (unused (x ∷ a) w) (x ∷ a) (λ u. h (y ∷ u)) = ap (λ r. walk ws r (x ∷ a) (λ u. h (y ∷ u))) (unused-cons x a w) in
          let w2 = walk-used (w ∷ ws) (unused (x ∷ []) xs) (x ∷ y ∷ a) (y ∷ x ∷ a) (λ u. h (y ∷ u)) (λ v. occurs-swap v x y a) in
          let u : walk (w ∷ ws) (unused (x ∷ []) (y ∷ xs)) (x ∷ a) h ≡ walk (w ∷ ws) (y ∷ unused (x ∷ []) xs) (x ∷ a) h = ap (λ j. walk (w ∷ ws) (cons_if_zero j y (unused (x ∷ []) xs)) (x ∷ a) h) (occurs-apart y x [] e) in
          let z = ap (λ j. signed (suc n) j) (u ∙ (λ i. (sym w1 i) +ℤ (sym w2 i))) in
          let zz = signed-+ (suc n) (walk ws (unused (x ∷ []) (unused a w)) (x ∷ a) (λ u. h (y ∷ u))) (walk (w ∷ ws) (unused (x ∷ []) xs) (x ∷ y ∷ a) (λ u. h (y ∷ u))) in
          let p1 : unless_zero (put x (suc n) t y) (signed (put x (suc n) t y) (walk (w ∷ ws) xs (y ∷ a) h)) ≡ unless_zero (t y) (signed (t y) (walk (w ∷ ws) xs (y ∷ a) h)) = ap (λ j. unless_zero j (signed j (walk (w ∷ ws) xs (y ∷ a) h))) (put-apart y x (suc n) t e) in
          let p2 : unless_zero (put x 0 t y) (signed (put x 0 t y) (walk (w ∷ ws) xs (y ∷ a) h)) ≡ unless_zero (t y) (signed (t y) (walk (w ∷ ws) xs (y ∷ a) h)) = ap (λ j. unless_zero j (signed j (walk (w ∷ ws) xs (y ∷ a) h))) (put-apart y x 0 t e) in
          omega (arith, ints)
    ]
  where
    is_same_list : Good (w ∷ ws) (x ∷ xs) a → removals (w ∷ ws) (x ∷ xs) a (put x (suc n) t) k h ≡ removals (w ∷ ws) (x ∷ xs) a (put x 0 t) k h +ℤ signed (suc n) (walk (w ∷ ws) (unused (x ∷ []) (x ∷ xs)) (x ∷ a) h)
    is_same_list g =
        let z : occurs x xs ≡ 0 = (good-distinct ws (x ∷ xs) a g.2).0 in
        let u : walk (w ∷ ws) (unused (x ∷ []) (x ∷ xs)) (x ∷ a) h ≡ walk (w ∷ ws) xs (x ∷ a) h = ap (λ r. walk (w ∷ ws) r (x ∷ a) h) (ap (λ j. cons_if_zero j x (unused (x ∷ []) xs)) (occurs-self x []) ∙ unused-absent x xs z) in
        let uu = ap (λ r. signed (suc n) r) u in
        let p1 : unless_zero (put x (suc n) t x) (signed (put x (suc n) t x) (walk (w ∷ ws) xs (x ∷ a) h)) ≡ signed (suc n) (walk (w ∷ ws) xs (x ∷ a) h) = ap (λ j. unless_zero j (signed j (walk (w ∷ ws) xs (x ∷ a) h))) (put-here x (suc n) t) in
        let p2 : unless_zero (put x 0 t x) (signed (put x 0 t x) (walk (w ∷ ws) xs (x ∷ a) h)) ≡ pos 0 = ap (λ j. unless_zero j (signed j (walk (w ∷ ws) xs (x ∷ a) h))) (put-here x 0 t) in
        let c1 = removals-agree ws (unused a w) a (put x (suc k) (put x (suc n) t)) (put x (suc k) (put x 0 t)) (suc k) (λ r. h (x ∷ r)) (good-end w ws (x ∷ xs) a g)
        (λ v q. over v x (suc k) (suc n) 0 t) in
        let c2 = removals-agree (w ∷ ws) xs (x ∷ a) (put x (suc n) t) (put x 0 t) k (λ r. h (x ∷ r)) (good-use (w ∷ ws) x xs a g)
        (λ v q. let e = occurs-head v x xs z q in put-apart v x (suc n) t e ∙ sym (put-apart v x 0 t e)) in
        omega (arith, ints)
