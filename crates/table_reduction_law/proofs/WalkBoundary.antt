-- The signs of the removals: a row's end is a caesura, and where an entry is used no copy of it is left.
use Rattle.std.proofs.{Common.{◌≡◌, ℕ, zero, suc, ◌+◌, List, [], ◌∷◌, ◌++◌, refl, sym, ◌∙◌, ap, arith, subst, append_assoc, ℤ}, lemmas.Int.ints}
use native.Mathlib.Decide.{ℕ_discrete}
use Rattle.signed_sum.{proofs.Names.{Alike, Alike-append, Alike-cons, occurs-again, occurs-apart, occurs-before, occurs-head, occurs-later, occurs-self, occurs-swap}, specs.Names.{if_zero, occurs, unless_zero, signed}}
use Rattle.surjection_law.{proofs.PlaceLemmas.{among-cong, among-push, last-cong, last-here}, specs.Names.{caesuras_among, caesuras_before_last, place_exponent, place_term, without_place}}
use Rattle.table_reduction_law.{proofs.ReductionWalks.{Agree, Good, good-distinct, good-end, good-use, left, put, put-apart, put-here, removals, removals-agree, walk, walk-cong, walk-signed, walk-sum, walk-when}, specs.Names.unused}

last-apart : (p : List ℕ) (v x : ℕ) (u z : List ℕ) → (v ≡ x → ⊥) → Alike (x ∷ v ∷ u) (v ∷ z) → caesuras_before_last (p ++ (x ∷ [])) v u ≡ caesuras_before_last p v z
last-apart [] v x u z n e = refl
last-apart (y ∷ p) v x u z n e =
    let a : occurs y ((p ++ (x ∷ [])) ++ (v ∷ u)) ≡ occurs y (p ++ (v ∷ z)) = ap (occurs y) (append_assoc p (x ∷ []) (v ∷ u)) ∙ Alike-append p (x ∷ v ∷ u) (v ∷ z) e y in
    let b : occurs v (p ++ (x ∷ [])) ≡ occurs v p = occurs-before v p (x ∷ []) (occurs-apart v x [] n) in
    λ i. if_zero (b i) 0 (a i + last-apart p v x u z n e i)

-- 0 where v does not stand in p, and one more than the caesuras before the last v of p, if lists of the values of `xs` follow
abbrev pub mark : List ℕ → List ℕ → ℕ → ℕ
mark p xs v = if_zero (occurs v p) 0 (suc (caesuras_before_last p v xs))

-- the term of a place with the value x, where x does not stand in u
used_term : (p : List ℕ) (x : ℕ) (u xs : List ℕ) (z : ℤ) → occurs x u ≡ 0 → Alike (x ∷ u) (x ∷ x ∷ xs) →
    place_term p x u z ≡ unless_zero (mark p (x ∷ xs) x) (signed (mark p (x ∷ xs) x) z)
used_term p x u xs z n e =
    let m : occurs x (p ++ u) ≡ occurs x p = occurs-before x p u n in
    let s : place_exponent p x u ≡ suc (caesuras_before_last p x (x ∷ xs)) =
    ap (λ j. if_zero j (suc (caesuras_before_last p x u)) (caesuras_among p (x ∷ u))) n ∙ ap suc (last-cong p x u (x ∷ xs) e) in
    (λ i. unless_zero (m i) (signed (s i) z)) ∙ go (occurs x p)
  where
    go : (n : ℕ) →
        unless_zero n (signed (suc (caesuras_before_last p x (x ∷ xs))) z) ≡ unless_zero (if_zero n 0 (suc (caesuras_before_last p x (x ∷ xs)))) (signed (if_zero n 0 (suc (caesuras_before_last p x (x ∷ xs)))) z)
    go zero = refl
    go (suc n) = refl

-- the term of a place with the value x, where x stands in u
end_term : (p : List ℕ) (x : ℕ) (u xs : List ℕ) (z : ℤ) → occurs x u ≡ 1 → Alike (x ∷ u) (x ∷ xs) →
    place_term p x u z ≡ signed (caesuras_among p (x ∷ xs)) z
end_term p x u xs z n e =
    let m : occurs x (p ++ u) ≡ 1 = occurs-later x p u n in
    let s : place_exponent p x u ≡ caesuras_among p (x ∷ xs) =
    ap (λ j. if_zero j (suc (caesuras_before_last p x u)) (caesuras_among p (x ∷ u))) n ∙ among-cong p (x ∷ u) (x ∷ xs) e in
    λ i. unless_zero (m i) (signed (s i) z)

-- the marks after an entry that is used
mark_used : (p : List ℕ) (x : ℕ) (xs : List ℕ) → occurs x xs ≡ 0 → Agree xs (mark (p ++ (x ∷ [])) xs) (mark p (x ∷ xs))
mark_used p x xs n v q =
    let e = occurs-head v x xs n q in
    let a : occurs v (p ++ (x ∷ [])) ≡ occurs v p = occurs-before v p (x ∷ []) (occurs-apart v x [] e) in
    let b : caesuras_before_last (p ++ (x ∷ [])) v xs ≡ caesuras_before_last p v (x ∷ xs) = last-apart p v x xs (x ∷ xs) e (λ y. occurs-swap y x v xs) in
    λ i. if_zero (a i) 0 (suc (b i))

-- the marks after the end of a row
mark_end : (p : List ℕ) (x : ℕ) (u xs : List ℕ) → Alike u (x ∷ xs) → Agree u (mark (p ++ (x ∷ [])) u) (put x (suc (caesuras_among p (x ∷ xs))) (mark p (x ∷ xs)))
mark_end p x u xs e v q =
    elim (ℕ_discrete v x) [
      | yes r ↦ subst (λ (j : ℕ). mark (p ++ (x ∷ [])) u j ≡ put x (suc (caesuras_among p (x ∷ xs))) (mark p (x ∷ xs)) j) (sym r) is_same_list
      | no r ↦
          let a : occurs v (p ++ (x ∷ [])) ≡ occurs v p = occurs-before v p (x ∷ []) (occurs-apart v x [] r) in
          let b : caesuras_before_last (p ++ (x ∷ [])) v u ≡ caesuras_before_last p v (x ∷ xs) =
          last-apart p v x u (x ∷ xs) r (λ y. occurs-swap y x v u ∙ Alike-cons v (x ∷ u) (x ∷ xs) (λ k. occurs-again k x u (e x ∙ occurs-self x xs) ∙ e k) y) in
          let c : mark (p ++ (x ∷ [])) u v ≡ mark p (x ∷ xs) v = (λ i. if_zero (a i) 0 (suc (b i))) in
          c ∙ sym (put-apart v x (suc (caesuras_among p (x ∷ xs))) (mark p (x ∷ xs)) r)
    ]
  where
    is_same_list : mark (p ++ (x ∷ [])) u x ≡ put x (suc (caesuras_among p (x ∷ xs))) (mark p (x ∷ xs)) x
    is_same_list =
        ap (λ j. if_zero j 0 (suc (caesuras_before_last (p ++ (x ∷ [])) x u))) (occurs-later x p (x ∷ []) (occurs-self x []))
        ∙ ap suc (last-here p x u ∙ among-cong p (x ∷ x ∷ u) (x ∷ xs) (λ k. occurs-again k x (x ∷ u) (occurs-self x u) ∙ occurs-again k x u (e x ∙ occurs-self x xs) ∙ e k))
        ∙ sym (put-here x (suc (caesuras_among p (x ∷ xs))) (mark p (x ∷ xs)))

-- the boundary of the lists, where p stands before them
pub places : (ws : List (List ℕ)) (xs a p : List ℕ) (h : List ℕ → ℤ) → Good ws xs a →
    walk ws xs a (λ u. without_place p u h) ≡ removals ws xs a (mark p xs) (caesuras_among p xs) h
places [] [] a p h g = refl
places [] (x ∷ xs) a p h g =
    let pn : List ℕ = p ++ (x ∷ []) in
    let hx : List ℕ → ℤ = λ u. h (x ∷ u) in
    let u = used_term p x xs xs (h xs) g.0 (λ v. sym (occurs-again v x (x ∷ xs) (occurs-self x xs))) in
    let ih = places [] xs (x ∷ a) pn hx g.1 in
    let r = removals-agree [] xs (x ∷ a) (mark pn xs) (mark p (x ∷ xs)) (caesuras_among pn xs) hx g.1 (mark_used p x xs g.0) in
    let c : caesuras_among pn xs ≡ caesuras_among p (x ∷ xs) = (let q = among-push p x xs in let n = g.0 in omega arith) in
    let rr = ap (λ k. removals [] xs (x ∷ a) (mark p (x ∷ xs)) k hx) c in
    omega (arith, ints)
places (w ∷ ws) [] a p h g = refl
places (w ∷ ws) (x ∷ xs) a p h g =
    let pn : List ℕ = p ++ (x ∷ []) in
    let hx : List ℕ → ℤ = λ u. h (x ∷ u) in
    let k : ℕ = caesuras_among p (x ∷ xs) in
    let t : ℕ → ℕ = mark p (x ∷ xs) in
    let y : List ℕ = unused a w in
    let ge = good-end w ws (x ∷ xs) a g in
    let gu = good-use (w ∷ ws) x xs a g in
    let l = left w ws (x ∷ xs) a g in
    let n : occurs x xs ≡ 0 = (good-distinct ws (x ∷ xs) a g.2).0 in
    let m : occurs x y ≡ 1 = l x ∙ occurs-self x xs in
    -- the row ends here
    let e1 = walk-sum ws y a (λ u. place_term p x u (h u)) (λ u. without_place pn u hx) in
    let e2 = walk-cong ws y a (λ u. place_term p x u (h u)) (λ u. signed k (h u)) ge (λ u q. end_term p x u xs (h u) (q x ∙ m) (λ v. occurs-again v x u (q x ∙ m) ∙ q v ∙ l v)) in
    let e3 = walk-signed k ws y a h in
    let e4 = places ws y a pn hx ge in
    let e5 = removals-agree ws y a (mark pn y) (put x (suc k) t) (caesuras_among pn y) hx ge (mark_end p x y xs l) in
    let ec : caesuras_among pn y ≡ suc k = (let q = among-push p x y in let q2 = among-cong p (x ∷ y) (x ∷ xs) (λ v. occurs-again v x y m ∙ l v) in omega (arith, m, q, q2)) in
    let e6 = ap (λ j. removals ws y a (put x (suc k) t) j hx) ec in
    -- x is used
    let u1 = walk-sum (w ∷ ws) xs (x ∷ a) (λ u. place_term p x u (h u)) (λ u. without_place pn u hx) in
    let u2 = walk-cong (w ∷ ws) xs (x ∷ a) (λ u. place_term p x u (h u)) (λ u. unless_zero (t x) (signed (t x) (h u))) gu
    (λ u q. used_term p x u xs (h u) (q x ∙ n) (λ v. Alike-cons x u xs q v ∙ sym (occurs-again v x (x ∷ xs) (occurs-self x xs)))) in
    let u3 = walk-when (t x) (w ∷ ws) xs (x ∷ a) (λ u. signed (t x) (h u)) ∙ ap (λ z. unless_zero (t x) z) (walk-signed (t x) (w ∷ ws) xs (x ∷ a) h) in
    let u4 = places (w ∷ ws) xs (x ∷ a) pn hx gu in
    let u5 = removals-agree (w ∷ ws) xs (x ∷ a) (mark pn xs) t (caesuras_among pn xs) hx gu (mark_used p x xs n) in
    let uc : caesuras_among pn xs ≡ k = (let q = among-push p x xs in omega (arith, n, q)) in
    let u6 = ap (λ j. removals (w ∷ ws) xs (x ∷ a) t j hx) uc in
    omega (arith, ints)
