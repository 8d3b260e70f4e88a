-- The boundary law of compositions at 0.
use Rattle.std.proofs.{Common.{List, [], ap, append-nil, append_assoc, arith, cond, inl, inr, refl, suc, sym, zero, ℕ, ◌%◌, ◌*◌, ◌++◌, ◌+◌, ◌==◌, ◌∙◌, ◌∷◌, ◌≡◌, ◌⊎◌, pos, ℤ, ◌+ℤ◌}, lemmas.Int.ints, lemmas.Bool.Decides.nat_tests}
use Rattle.composition_law.proofs.{Appends.{ends-append, expo-append, expo-split, passed-append, values-append}, Cells.{Good, GoodV, place-caesura, place-last, u-law, v-law}, Rests.{Outs, marks, whole}, States.{AllKind, Fresh, IsWalk, Ready, SameOut, same-both, same-in, same-next, skip-1, waiting, zero-there}, Walks.{Cell, composed, entry, edge, ends, expo, expo_in, next, out, passed, values, walks}}
use Rattle.signed_sum.{proofs.Names.{Alike, Alike-append, Alike-cons, occurs-append, occurs-01, occurs-again, occurs-later, occurs-other, occurs-self, signed-+, signed-parity, signed-signed, signed-zero}, specs.Names.{if_zero, occurs, unless_zero, signed}}
use Rattle.surjection_law.{proofs.PlaceLemmas.{among-cong, among-push, among-split, before, before-in, before_last, without_place-zero}, specs.Names.{caesura_count, caesuras_among, caesuras_before_last, place_exponent, place_term, without_place}}

-- ---- entries of u alone

outs-same : (kind : ℕ → ℕ) (o : List Cell) → Outs kind o → values o ≡ ends o
outs-same kind [] h = refl
outs-same kind (out zero ∷ o) h = absurd h
outs-same kind (out (suc z) ∷ o) h = ap (λ r. suc z ∷ r) (outs-same kind o h.1)
outs-same kind (edge y ∷ o) h = absurd h
outs-same kind (next y ∷ o) h = absurd h

outs-skip : (kind : ℕ → ℕ) (o : List Cell) (y : ℕ) (W : List ℕ) → Outs kind o → kind y ≡ 0 → occurs y (values o ++ W) ≡ occurs y W
outs-skip kind [] y W h k = refl
outs-skip kind (out zero ∷ o) y W h k = absurd h
outs-skip kind (out (suc z) ∷ o) y W h k = skip-1 kind (suc z) y (values o ++ W) h.0 k ∙ outs-skip kind o y W h.1 k
outs-skip kind (edge x ∷ o) y W h k = absurd h
outs-skip kind (next x ∷ o) y W h k = absurd h

outs-none : (kind : ℕ → ℕ) (o : List Cell) (y : ℕ) → Outs kind o → kind y ≡ 0 → occurs y (values o) ≡ 0
outs-none kind o y h k = ap (occurs y) (sym (append-nil (values o))) ∙ outs-skip kind o y [] h k

outs-expo : (kind : ℕ → ℕ) (o c : List Cell) → Outs kind o → expo (o ++ c) ≡ expo c
outs-expo kind [] c h = refl
outs-expo kind (out zero ∷ o) c h = absurd h
outs-expo kind (out (suc z) ∷ o) c h = outs-expo kind o c h.1
outs-expo kind (edge x ∷ o) c h = absurd h
outs-expo kind (next x ∷ o) c h = absurd h

same-front : (A B C : List ℕ) (x : ℕ) → occurs x B ≡ occurs x C → occurs x (A ++ B) ≡ occurs x (A ++ C)
same-front A B C x h = occurs-append x A B ∙ ap (λ j. if_zero (occurs x A) j 1) h ∙ sym (occurs-append x A C)

outs-caesuras : (kind : ℕ → ℕ) (o : List Cell) (W U : List ℕ) → Outs kind o → SameOut kind W U → caesuras_among (values o) W + caesura_count U ≡ caesura_count (ends o ++ U)
outs-caesuras kind [] W U h s = omega arith
outs-caesuras kind (out zero ∷ o) W U h s = absurd h
outs-caesuras kind (out (suc z) ∷ o) W U h s =
    let ih = outs-caesuras kind o W U h.1 s in
    let e : occurs (suc z) (values o ++ W) ≡ occurs (suc z) (ends o ++ U) = same-front (values o) W U (suc z) (s z h.0) ∙ ap (λ r. occurs (suc z) (r ++ U)) (outs-same kind o h.1) in
    omega arith
outs-caesuras kind (edge x ∷ o) W U h s = absurd h
outs-caesuras kind (next x ∷ o) W U h s = absurd h

-- ---- lists that take the same values

expo-cong : (p : List Cell) (W Z U : List ℕ) → Alike W Z → expo_in p W U ≡ expo_in p Z U
expo-cong [] W Z U h = refl
expo-cong (out x ∷ p) W Z U h = expo-cong p W Z U h
expo-cong (edge x ∷ p) W Z U h = λ i. Alike-append (values p) W Z h x i * caesura_count (ends p ++ U) + expo-cong p W Z U h i
expo-cong (next x ∷ p) W Z U h = expo-cong p W Z U h

last-split : (A O W : List ℕ) (y : ℕ) → occurs y O ≡ 0 → caesuras_before_last (A ++ (y ∷ O)) y W ≡ caesuras_among A (y ∷ (O ++ (y ∷ W)))
last-split A O W y h =
    let e = before_last (A ++ (y ∷ O)) y W ∙ before-in A (y ∷ O) y (y ∷ W) (occurs-self y O) in
    let g : before (y ∷ O) y (y ∷ W) ≡ 0 = ap (λ j. if_zero j 0 (occurs y (O ++ (y ∷ W)) + before O y (y ∷ W))) h in
    omega (arith, e, g)

opposite : (m n : ℕ) (z : ℤ) → m % 2 ≡ suc n % 2 → signed m z +ℤ signed n z ≡ pos 0
opposite m n z h = let e = signed-parity m (suc n) z h in omega (arith, ints)

without_place-signed : (n : ℕ) (u p : List ℕ) (g : List ℕ → ℤ) → signed n (without_place p u g) ≡ without_place p u (λ r. signed n (g r))
without_place-signed n [] p g = signed-zero n
without_place-signed n (x ∷ u) p g =
    let ih = without_place-signed n u (p ++ (x ∷ [])) (λ r. g (x ∷ r)) in
    let s = signed-+ n (place_term p x u (g u)) (without_place (p ++ (x ∷ [])) u (λ r. g (x ∷ r))) in
    let t = term (occurs x (p ++ u)) in
    omega (arith, ints)
  where
    term : (k : ℕ) → signed n (unless_zero k (signed (place_exponent p x u) (g u))) ≡ unless_zero k (signed (place_exponent p x u) (signed n (g u)))
    term zero = signed-zero n
    term (suc k) =
        let c : n + place_exponent p x u ≡ place_exponent p x u + n = omega arith in
        signed-signed n (place_exponent p x u) (g u) ∙ ap (λ j. signed j (g u)) c ∙ sym (signed-signed (place_exponent p x u) n (g u))

twice-there : (y : ℕ) (O W : List ℕ) → Alike (y ∷ (O ++ (y ∷ W))) (y ∷ (O ++ W))
twice-there y O W v = grind (arith, nat_tests, occurs-other v y O W)

-- the two removals at an inner cut point have opposite signs
corner-signs : (A O W : List ℕ) (y z : ℕ) (H : ℤ) (E1 E2 C D T e : ℕ) → occurs z (O ++ W) ≡ 1 → occurs y (z ∷ (O ++ W)) ≡ occurs y W → occurs y O ≡ 0 →
    Alike (y ∷ (O ++ (y ∷ W))) (y ∷ (O ++ W)) → Alike (y ∷ z ∷ (O ++ W)) (y ∷ (O ++ W)) → E1 ≡ E2 → caesuras_among O (y ∷ W) + C ≡ D → T ≡ 1 →
    place_term (A ++ (y ∷ O)) y W (signed (E1 + (occurs y W * C + e)) H) +ℤ place_term (A ++ (y ∷ [])) z (O ++ W) (signed (E2 + (occurs y (z ∷ (O ++ W)) * (T + D) + e)) H) ≡ pos 0
corner-signs A O W y z H E1 E2 C D T e m b n l1 l2 q r t = go (occurs-01 y W)
  where
    X : ℕ
    X = caesuras_among A (y ∷ (O ++ W))

    F : ℕ
    F = E2 + (occurs y (z ∷ (O ++ W)) * (T + D) + e)

    second : place_term (A ++ (y ∷ [])) z (O ++ W) (signed (E2 + (occurs y (z ∷ (O ++ W)) * (T + D) + e)) H) ≡ signed (caesuras_among A (y ∷ (O ++ W)) + occurs y W + (E2 + (occurs y W * (T + D) + e))) H
    second =
        let a : caesuras_among (A ++ (y ∷ [])) (z ∷ (O ++ W)) ≡ caesuras_among A (y ∷ (O ++ W)) + occurs y W =
        (let a0 = among-push A y (z ∷ (O ++ W)) in let a1 = among-cong A (y ∷ z ∷ (O ++ W)) (y ∷ (O ++ W)) l2 in omega arith) in
        place-caesura (A ++ (y ∷ [])) z (O ++ W) (signed (E2 + (occurs y (z ∷ (O ++ W)) * (T + D) + e)) H) m
        ∙ (λ i. signed (a i) (signed (E2 + (b i * (T + D) + e)) H))
        ∙ signed-signed (caesuras_among A (y ∷ (O ++ W)) + occurs y W) (E2 + (occurs y W * (T + D) + e)) H

    go : (occurs y W ≡ 0) ⊎ (occurs y W ≡ 1) →
        place_term (A ++ (y ∷ O)) y W (signed (E1 + (occurs y W * C + e)) H) +ℤ place_term (A ++ (y ∷ [])) z (O ++ W) (signed (E2 + (occurs y (z ∷ (O ++ W)) * (T + D) + e)) H) ≡ pos 0
    go (inr k) =
        let a : caesuras_among (A ++ (y ∷ O)) (y ∷ W) ≡ caesuras_among A (y ∷ (O ++ W)) + (1 + caesuras_among O (y ∷ W)) =
        (let a0 = among-split A (y ∷ O) (y ∷ W) in let a1 = among-cong A (y ∷ (O ++ (y ∷ W))) (y ∷ (O ++ W)) l1 in let a2 = occurs-later y O (y ∷ W) (occurs-self y W) in omega arith) in
        let f : place_term (A ++ (y ∷ O)) y W (signed (E1 + (occurs y W * C + e)) H) ≡ signed (caesuras_among (A ++ (y ∷ O)) (y ∷ W) + (E1 + (occurs y W * C + e))) H =
        place-caesura (A ++ (y ∷ O)) y W (signed (E1 + (occurs y W * C + e)) H) k ∙ signed-signed (caesuras_among (A ++ (y ∷ O)) (y ∷ W)) (E1 + (occurs y W * C + e)) H in
        let c1 : occurs y W * C ≡ 1 * C = ap (λ j. j * C) k in
        let c2 : occurs y W * (T + D) ≡ 1 * (T + D) = ap (λ j. j * (T + D)) k in
        let o = opposite (caesuras_among (A ++ (y ∷ O)) (y ∷ W) + (E1 + (occurs y W * C + e))) (caesuras_among A (y ∷ (O ++ W)) + occurs y W + (E2 + (occurs y W * (T + D) + e))) H (omega arith) in
        (λ i. f i +ℤ second i) ∙ o
    go (inl k) =
        let a : caesuras_before_last (A ++ (y ∷ O)) y W ≡ caesuras_among A (y ∷ (O ++ W)) = last-split A O W y n ∙ among-cong A (y ∷ (O ++ (y ∷ W))) (y ∷ (O ++ W)) l1 in
        let f : place_term (A ++ (y ∷ O)) y W (signed (E1 + (occurs y W * C + e)) H) ≡ signed (suc (caesuras_before_last (A ++ (y ∷ O)) y W) + (E1 + (occurs y W * C + e))) H =
        place-last (A ++ (y ∷ O)) y W (signed (E1 + (occurs y W * C + e)) H) k (occurs-later y A (y ∷ O) (occurs-self y O))
        ∙ signed-signed (suc (caesuras_before_last (A ++ (y ∷ O)) y W)) (E1 + (occurs y W * C + e)) H in
        let c1 : occurs y W * C ≡ 0 * C = ap (λ j. j * C) k in
        let c2 : occurs y W * (T + D) ≡ 0 * (T + D) = ap (λ j. j * (T + D)) k in
        let o = opposite (suc (caesuras_before_last (A ++ (y ∷ O)) y W) + (E1 + (occurs y W * C + e))) (caesuras_among A (y ∷ (O ++ W)) + occurs y W + (E2 + (occurs y W * (T + D) + e))) H (omega arith) in
        (λ i. f i +ℤ second i) ∙ o

-- ---- the terms of the boundary

module _ (h : List ℕ → ℤ) where
  abbrev pub term : List Cell → ℤ
  term c = signed (expo c) (h (values c))

  -- the term without one entry
  abbrev pub removed : List Cell → Cell → List Cell → ℤ
  removed p d c = place_term (values p) (entry d) (values c) (signed (expo (p ++ (d ∷ c))) (h (values (p ++ c))))

  pub bound : (c p : List Cell) → marks removed p c ≡ without_place (values p) (values c) (λ r. signed (expo (p ++ c)) (h (values p ++ r)))
  bound [] p = refl
  bound (d ∷ c) p =
      let x : ℕ = entry d in
      let ih = bound c (p ++ (d ∷ [])) in
      let a = ap (λ j. place_term (values p) x (values c) (signed (expo (p ++ (d ∷ c))) (h j))) (values-append p c) in
      let b : without_place (values (p ++ (d ∷ []))) (values c) (λ r. signed (expo ((p ++ (d ∷ [])) ++ c)) (h (values (p ++ (d ∷ [])) ++ r)))
      ≡ without_place (values p ++ (x ∷ [])) (values c) (λ r. signed (expo (p ++ (d ∷ c))) (h (values p ++ (x ∷ r)))) =
      (λ i. without_place (values-append p (d ∷ []) i) (values c)
      (λ r. signed (expo (append_assoc p (d ∷ []) c i)) (h ((ap (λ j. j ++ r) (values-append p (d ∷ [])) ∙ append_assoc (values p) (x ∷ []) r) i)))) in
      omega (arith, ints)

  module _ (kind : ℕ → ℕ) where
    later : (z : ℕ) (u V : List ℕ) (c : List Cell) → kind z ≡ 0 → IsWalk kind (0 ∷ u) V c → occurs z (values c) ≡ occurs z V
    later z u V c k w = w.ins z k ∙ ap (λ j. if_zero j 0 (occurs z V)) (occurs-self 0 u)

    law_out : (p : List Cell) (y x : ℕ) (u V : List ℕ) (c : List Cell) → kind y ≡ 0 → kind (suc x) ≡ 1 → Ready kind y p → IsWalk kind u (y ∷ V) c →
        removed p (out (suc x)) c ≡ place_term (ends p) (suc x) u (term (p ++ c))
    law_out p y x u V c k q r w =
        let W : List ℕ = values c in
        let z : ℤ = h (values (p ++ c)) in
        let g : Good p (suc x ∷ W) (suc x ∷ u) = r.good (suc x ∷ W) (suc x ∷ u) (same-both kind x W u w.outs) (skip-1 kind (suc x) y W q k ∙ waiting kind u V y c k w ∙ sym (zero-there kind x u)) in
        ap (λ j. place_term (values p) (suc x) W (signed j z)) (expo-split p (out (suc x) ∷ c))
        ∙ ap (λ j. place_term (values p) (suc x) W (signed (expo_in p (suc x ∷ W) (suc x ∷ j) + expo c) z)) w.ending
        ∙ u-law p (suc x) (suc x) W u (expo c) z g (w.outs x q) (r.outs x q)
        ∙ sym (ap (λ j. place_term (ends p) (suc x) u (signed j z)) (expo-split p c ∙ ap (λ j. expo_in p W j + expo c) w.ending))

    law_next : (p : List Cell) (y : ℕ) (u V : List ℕ) (c : List Cell) → kind y ≡ 0 → Ready kind y p → IsWalk kind u (y ∷ V) c →
        removed p (next y) c ≡ place_term (ends p) 0 u (term (p ++ c))
    law_next p y u V c k r w =
        let W : List ℕ = values c in
        let z : ℤ = h (values (p ++ c)) in
        let g : Good p (y ∷ W) (0 ∷ u) = r.good (y ∷ W) (0 ∷ u) (same-next kind y W u k w.outs) (occurs-self y W ∙ sym (occurs-self 0 u)) in
        ap (λ j. place_term (values p) y W (signed j z)) (expo-split p (next y ∷ c))
        ∙ ap (λ j. place_term (values p) y W (signed (expo_in p (y ∷ W) (0 ∷ j) + expo c) z)) w.ending
        ∙ u-law p y 0 W u (expo c) z g (waiting kind u V y c k w) r.here
        ∙ sym (ap (λ j. place_term (ends p) 0 u (signed j z)) (expo-split p c ∙ ap (λ j. expo_in p W j + expo c) w.ending))

    law_edge : (p : List Cell) (y : ℕ) (u V : List ℕ) (c : List Cell) → kind y ≡ 0 → Fresh kind p → IsWalk kind (0 ∷ u) V c →
        removed p (edge y) c ≡ signed (caesura_count (ends p ++ (0 ∷ u))) (place_term (passed p) y V (term (p ++ c)))
    law_edge p y u V c k r w =
        let W : List ℕ = values c in
        let z : ℤ = h (values (p ++ c)) in
        let g : Good p (y ∷ W) (0 ∷ u) = r.good (y ∷ W) (0 ∷ u) (same-in kind y W (0 ∷ u) k w.outs) (occurs-self 0 u) in
        let gv : GoodV p (y ∷ W) (y ∷ V) = r.goodv (y ∷ W) (y ∷ V) (λ z q. ap (λ j. cond (z == y) 1 j) (later z u V c q w)) in
        ap (λ j. place_term (values p) y W (signed j z)) (expo-split p (edge y ∷ c))
        ∙ (λ i. place_term (values p) y W (signed (expo_in p (y ∷ W) (ends c) + (occurs y (append-nil W i) * caesura_count (append-nil (ends c) i) + expo c)) z))
        ∙ (λ i. place_term (values p) y W (signed (expo_in p (y ∷ W) (w.ending i) + (occurs y W * caesura_count (w.ending i) + expo c)) z))
        ∙ v-law p y W (0 ∷ u) V (expo c) z g gv (later y u V c k w) (r.all y k)
        ∙ sym (ap (λ j. signed (caesura_count (ends p ++ (0 ∷ u))) (place_term (passed p) y V (signed j z))) (expo-split p c ∙ ap (λ j. expo_in p W j + expo c) w.ending))

    law_last : (p : List Cell) (y z : ℕ) (o : List Cell) → kind y ≡ 0 → kind z ≡ 0 → Outs kind o → Fresh kind (p ++ (edge y ∷ [])) →
        removed (p ++ (edge y ∷ [])) (next z) o ≡ signed (caesura_count (ends p ++ (0 ∷ ends o))) (place_term (passed p ++ (y ∷ [])) z [] (term (p ++ (next y ∷ o))))
    law_last p y z o k l q r =
        let P : List Cell = p ++ (edge y ∷ []) in
        let W : List ℕ = values o in
        let U : List ℕ = 0 ∷ ends o in
        let n : occurs z W ≡ 0 = outs-none kind o z q l in
        let m : occurs y W ≡ 0 = outs-none kind o y q k in
        let s : SameOut kind (z ∷ W) U = same-next kind z W (ends o) l (λ x e. ap (occurs (suc x)) (outs-same kind o q)) in
        let g : Good P (z ∷ W) U = r.good (z ∷ W) U s (occurs-self 0 (ends o)) in
        let gv : GoodV P (z ∷ W) (z ∷ []) = r.goodv (z ∷ W) (z ∷ []) (λ x e. ap (λ j. cond (x == z) 1 j) (outs-none kind o x q e)) in
        let a : expo (P ++ (next z ∷ o)) ≡ expo_in P (z ∷ W) U + (occurs z W * caesura_count U + expo o) =
        (let b = expo-split P (next z ∷ o) in let c : occurs z W * caesura_count U ≡ 0 * caesura_count U = ap (λ j. j * caesura_count U) n in omega arith) in
        let d : expo_in P W U + expo o ≡ expo (p ++ (next y ∷ o)) =
        (let b = expo-append p (edge y ∷ []) W U in let c : occurs y W * caesura_count U ≡ 0 * caesura_count U = ap (λ j. j * caesura_count U) m in let e = expo-split p (next y ∷ o) in omega arith) in
        let v : values (P ++ o) ≡ values (p ++ (next y ∷ o)) = ap values (append_assoc p (edge y ∷ []) o) ∙ values-append p (edge y ∷ o) ∙ sym (values-append p (next y ∷ o)) in
        (λ i. place_term (values P) z W (signed (a i) (h (v i))))
        ∙ v-law P z W U [] (expo o) (h (values (p ++ (next y ∷ o)))) g gv n (r.all z l)
        ∙ (λ i. signed (caesura_count ((ends-append p (edge y ∷ []) ∙ append-nil (ends p)) i ++ U)) (place_term (passed-append p (edge y ∷ []) i) z [] (signed (d i) (h (values (p ++ (next y ∷ o)))))))

    law_corner : (p : List Cell) (y z : ℕ) (o : List Cell) (u V : List ℕ) (c : List Cell) → kind y ≡ 0 → kind z ≡ 0 → Outs kind o → IsWalk kind (0 ∷ u) (z ∷ V) c →
        removed (p ++ (next y ∷ o)) (edge y) c +ℤ removed (p ++ (edge y ∷ [])) (next z) (o ++ c) ≡ pos 0
    law_corner p y z o u V c k l q w =
        let A : List ℕ = values p in
        let O : List ℕ = values o in
        let W : List ℕ = values c in
        let U : List ℕ = ends c in
        let m : occurs z (O ++ W) ≡ 1 = occurs-later z O W (later z u (z ∷ V) c l w ∙ occurs-self z V) in
        let b : occurs y (z ∷ (O ++ W)) ≡ occurs y W = occurs-again y z (O ++ W) m ∙ outs-skip kind o y W q k in
        let s : SameOut kind (y ∷ W) U = same-in kind y W U k (λ x e. w.outs x e ∙ sym (ap (occurs (suc x)) w.ending)) in
        let v1 : values ((p ++ (next y ∷ o)) ++ c) ≡ A ++ (y ∷ (O ++ W)) = ap values (append_assoc p (next y ∷ o) c) ∙ values-append p (next y ∷ (o ++ c)) ∙ ap (λ j. A ++ (y ∷ j)) (values-append o c) in
        let v2 : values ((p ++ (edge y ∷ [])) ++ (o ++ c)) ≡ A ++ (y ∷ (O ++ W)) = ap values (append_assoc p (edge y ∷ []) (o ++ c)) ∙ values-append p (edge y ∷ (o ++ c)) ∙ ap (λ j. A ++ (y ∷ j)) (values-append o c) in
        let e1 : expo ((p ++ (next y ∷ o)) ++ (edge y ∷ c)) ≡ expo_in p (y ∷ (O ++ (y ∷ W))) (0 ∷ (ends o ++ U)) + (occurs y W * caesura_count U + expo c) =
        ap expo (append_assoc p (next y ∷ o) (edge y ∷ c)) ∙ expo-split p (next y ∷ (o ++ (edge y ∷ c)))
        ∙ (λ i. expo_in p (y ∷ values-append o (edge y ∷ c) i) (0 ∷ ends-append o (edge y ∷ c) i) + outs-expo kind o (edge y ∷ c) q i)
        ∙ (λ i. expo_in p (y ∷ (O ++ (y ∷ W))) (0 ∷ (ends o ++ U)) + (occurs y (append-nil W i) * caesura_count (append-nil U i) + expo c)) in
        let e2 : expo ((p ++ (edge y ∷ [])) ++ (next z ∷ (o ++ c))) ≡ expo_in p (y ∷ z ∷ (O ++ W)) (0 ∷ (ends o ++ U)) + (occurs y (z ∷ (O ++ W)) * caesura_count (0 ∷ (ends o ++ U)) + expo c) =
        ap expo (append_assoc p (edge y ∷ []) (next z ∷ (o ++ c))) ∙ expo-split p (edge y ∷ next z ∷ (o ++ c))
        ∙ (λ i. expo_in p (y ∷ z ∷ values-append o c i) (0 ∷ ends-append o c i) + (occurs y (z ∷ append-nil (values (o ++ c)) i) * caesura_count (0 ∷ append-nil (ends (o ++ c)) i) + outs-expo kind o c q i))
        ∙ (λ i. expo_in p (y ∷ z ∷ (O ++ W)) (0 ∷ (ends o ++ U)) + (occurs y (z ∷ values-append o c i) * caesura_count (0 ∷ ends-append o c i) + expo c)) in
        let l1 : Alike (y ∷ (O ++ (y ∷ W))) (y ∷ (O ++ W)) = twice-there y O W in
        let l2 : Alike (y ∷ z ∷ (O ++ W)) (y ∷ (O ++ W)) = Alike-cons y (z ∷ (O ++ W)) (O ++ W) (λ x. occurs-again x z (O ++ W) m) in
        (λ i. place_term (values-append p (next y ∷ o) i) y W (signed (e1 i) (h (v1 i))) +ℤ place_term (values-append p (edge y ∷ []) i) z (values-append o c i) (signed (e2 i) (h (v2 i))))
        ∙ corner-signs A O W y z (h (A ++ (y ∷ (O ++ W)))) (expo_in p (y ∷ (O ++ (y ∷ W))) (0 ∷ (ends o ++ U))) (expo_in p (y ∷ z ∷ (O ++ W)) (0 ∷ (ends o ++ U))) (caesura_count U) (caesura_count (ends o ++ U)) (occurs 0 (ends o ++ U)) (expo c)
        m b (outs-none kind o y q k) l1 l2
        (expo-cong p (y ∷ (O ++ (y ∷ W))) (y ∷ (O ++ W)) (0 ∷ (ends o ++ U)) l1 ∙ sym (expo-cong p (y ∷ z ∷ (O ++ W)) (y ∷ (O ++ W)) (0 ∷ (ends o ++ U)) l2))
        (outs-caesuras kind o (y ∷ W) U q s)
        (occurs-later 0 (ends o) U (ap (occurs 0) w.ending ∙ occurs-self 0 u))

    -- the boundary law of compositions at 0
    pub compose-law : (u v : List ℕ) → occurs 0 u ≡ 1 → kind 0 ≡ 1 → AllKind kind 1 u → AllKind kind 0 v →
        composed u v (λ w. without_place [] w h) ≡ without_place [] u (λ r. composed r v h) +ℤ signed (caesura_count u) (without_place [] v (λ r. composed u r h))
    compose-law [] v m k a b = absurd (omega (arith, m))
    compose-law (x ∷ u) [] m k a b =
        let s = signed-zero (caesura_count (x ∷ u)) in
        let e : without_place [] (x ∷ u) (λ r. composed r [] h) ≡ pos 0 = ap (λ g. without_place [] (x ∷ u) g) (λ i r. nothing r i) ∙ without_place-zero (x ∷ u) [] in
        omega (arith, ints)
      where
        nothing : (r : List ℕ) → composed r [] h ≡ pos 0
        nothing [] = refl
        nothing (x ∷ r) = refl
    compose-law (x ∷ u) (y ∷ v) m k a b =
        ap (λ g. walks (x ∷ u) (y ∷ v) g) (λ i c. (without_place-signed (expo c) (values c) [] h ∙ sym (bound c [])) i)
        ∙ whole kind term removed law_out law_next law_edge law_last law_corner (x ∷ u) y v m a b k
