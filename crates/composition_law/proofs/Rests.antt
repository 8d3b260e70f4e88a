-- The entries of a walk taken out one by one.
use Rattle.std.proofs.{Common.{List, [], ap, append-nil, append_assoc, arith, refl, subst, suc, sym, zero, ℕ, ◌++◌, ◌∙◌, ◌∷◌, ◌≡◌, pos, ℤ, ◌+ℤ◌}, lemmas.Int.ints}
use Rattle.composition_law.proofs.{Appends.{ends-append, passed-append}, States.{AllKind, Fresh, IsWalk, Ready, fresh-edge, fresh-next, fresh-out, fresh-start, ready-edge, ready-next, ready-out, ready-start, walks-cong, zero-there}, Walks.{Cell, edge, ends, next, out, passed, walks, walks-place_term, walks-signed, walks-sum, walks-zero}}
use Rattle.signed_sum.{proofs.Names.{signed-+, signed-zero}, specs.Names.{occurs, signed}}
use Rattle.surjection_law.{proofs.PlaceLemmas.{place_term-zero, without_place-sum, without_place-zero}, specs.Names.{caesura_count, place_term, without_place}}

-- the sum of t over the cells of c, with what was passed and what is to come
abbrev pub marks : (List Cell → Cell → List Cell → ℤ) → List Cell → List Cell → ℤ
marks t p [] = pos 0
marks t p (d ∷ c) = t p d c +ℤ marks t (p ++ (d ∷ [])) c

-- entries of u alone
abbrev pub Outs : (ℕ → ℕ) → List Cell → Type 0
Outs kind [] = Unit {0}
Outs kind (out zero ∷ o) = ⊥
Outs kind (out (suc x) ∷ o) = (kind (suc x) ≡ 1) × Outs kind o
Outs kind (edge y ∷ o) = ⊥
Outs kind (next y ∷ o) = ⊥

outs-more : (kind : ℕ → ℕ) (o : List Cell) (x : ℕ) → Outs kind o → kind (suc x) ≡ 1 → Outs kind (o ++ (out (suc x) ∷ []))
outs-more kind [] x h k = (k, tt)
outs-more kind (out zero ∷ o) x h k = absurd h
outs-more kind (out (suc z) ∷ o) x h k = (h.0, outs-more kind o x h.1 k)
outs-more kind (edge y ∷ o) x h k = absurd h
outs-more kind (next y ∷ o) x h k = absurd h

outs-passed : (kind : ℕ → ℕ) (o : List Cell) → Outs kind o → passed o ≡ []
outs-passed kind [] h = refl
outs-passed kind (out zero ∷ o) h = absurd h
outs-passed kind (out (suc z) ∷ o) h = outs-passed kind o h.1
outs-passed kind (edge y ∷ o) h = absurd h
outs-passed kind (next y ∷ o) h = absurd h

module _ (kind : ℕ → ℕ) (f : List Cell → ℤ) (t : List Cell → Cell → List Cell → ℤ)
    (law_out : (p : List Cell) (y x : ℕ) (u V : List ℕ) (c : List Cell) → kind y ≡ 0 → kind (suc x) ≡ 1 → Ready kind y p → IsWalk kind u (y ∷ V) c →
    t p (out (suc x)) c ≡ place_term (ends p) (suc x) u (f (p ++ c)))
    (law_next : (p : List Cell) (y : ℕ) (u V : List ℕ) (c : List Cell) → kind y ≡ 0 → Ready kind y p → IsWalk kind u (y ∷ V) c →
    t p (next y) c ≡ place_term (ends p) 0 u (f (p ++ c)))
    (law_edge : (p : List Cell) (y : ℕ) (u V : List ℕ) (c : List Cell) → kind y ≡ 0 → Fresh kind p → IsWalk kind (0 ∷ u) V c →
    t p (edge y) c ≡ signed (caesura_count (ends p ++ (0 ∷ u))) (place_term (passed p) y V (f (p ++ c))))
    (law_last : (p : List Cell) (y z : ℕ) (o : List Cell) → kind y ≡ 0 → kind z ≡ 0 → Outs kind o → Fresh kind (p ++ (edge y ∷ [])) →
    t (p ++ (edge y ∷ [])) (next z) o ≡ signed (caesura_count (ends p ++ (0 ∷ ends o))) (place_term (passed p ++ (y ∷ [])) z [] (f (p ++ (next y ∷ o)))))
    (law_corner : (p : List Cell) (y z : ℕ) (o : List Cell) (u V : List ℕ) (c : List Cell) → kind y ≡ 0 → kind z ≡ 0 → Outs kind o → IsWalk kind (0 ∷ u) (z ∷ V) c →
    t (p ++ (next y ∷ o)) (edge y) c +ℤ t (p ++ (edge y ∷ [])) (next z) (o ++ c) ≡ pos 0)
  where
    -- the piece goes on, and ends with the next entry, which goes
    abbrev turn : List ℕ → List ℕ → List Cell → ℕ → List Cell → ℤ
    turn u [] p y o = pos 0
    turn u (z ∷ V) p y o = walks u (z ∷ V) (λ c. t (p ++ (edge y ∷ [])) (next z) (o ++ c))

    -- what comes after `next y` and the entries o of u
    abbrev After : List ℕ → Type 0
    After u =
        (V : List ℕ) (p : List Cell) (y : ℕ) (o : List Cell) → kind y ≡ 0 → AllKind kind 1 u → AllKind kind 0 V → Outs kind o → Ready kind y (p ++ (next y ∷ o)) → Fresh kind (p ++ (edge y ∷ [])) →
        walks u (y ∷ V) (λ c. marks t (p ++ (next y ∷ o)) c) +ℤ turn u V p y o
        ≡ without_place (ends (p ++ (next y ∷ o))) u (λ r. walks r (y ∷ V) (λ c. f ((p ++ (next y ∷ o)) ++ c)))
        +ℤ signed (caesura_count (ends (p ++ (next y ∷ o)) ++ u)) (without_place (passed p ++ (y ∷ [])) V (λ r. walks u (y ∷ r) (λ c. f ((p ++ (next y ∷ o)) ++ c))))

    -- what comes after an entry y of v
    abbrev Both : List ℕ → List ℕ → Type 0
    Both u V =
        (p : List Cell) (y : ℕ) → kind y ≡ 0 → kind 0 ≡ 1 → AllKind kind 1 u → AllKind kind 0 V → Ready kind y (p ++ (next y ∷ [])) → Fresh kind (p ++ (edge y ∷ [])) →
        walks u (y ∷ V) (λ c. marks t (p ++ (next y ∷ [])) c) +ℤ walks (0 ∷ u) V (λ c. marks t (p ++ (edge y ∷ [])) c)
        ≡ without_place (ends p ++ (0 ∷ [])) u (λ r. walks (0 ∷ r) (y ∷ V) (λ c. f (p ++ c)))
        +ℤ signed (caesura_count (ends p ++ (0 ∷ u))) (without_place (passed p ++ (y ∷ [])) V (λ r. walks (0 ∷ u) (y ∷ r) (λ c. f (p ++ c))))

    -- an edge goes
    gone_edge : (p : List Cell) (z : ℕ) (u V : List ℕ) → kind z ≡ 0 → kind 0 ≡ 1 → AllKind kind 1 u → AllKind kind 0 V → Fresh kind p →
        walks (0 ∷ u) V (λ c. t p (edge z) c) ≡ signed (caesura_count (ends p ++ (0 ∷ u))) (place_term (passed p) z V (walks (0 ∷ u) V (λ c. f (p ++ c))))
    gone_edge p z u V h k a b r =
        walks-cong kind (0 ∷ u) V (λ c. t p (edge z) c) (λ c. signed (caesura_count (ends p ++ (0 ∷ u))) (place_term (passed p) z V (f (p ++ c)))) (k, a) b (λ c w. law_edge p z u V c h r w)
        ∙ walks-signed (caesura_count (ends p ++ (0 ∷ u))) (0 ∷ u) V (λ c. place_term (passed p) z V (f (p ++ c)))
        ∙ ap (λ j. signed (caesura_count (ends p ++ (0 ∷ u))) j) (walks-place_term (passed p) z V (0 ∷ u) V (λ c. f (p ++ c)))

    both : (u : List ℕ) → After u → (V : List ℕ) → Both u V
    both u after [] p y h k a b r e =
        let pn : List Cell = p ++ (next y ∷ []) in
        let x = after [] p y [] h a tt tt r e in
        let d1 : without_place (ends pn) u (λ r. walks r (y ∷ []) (λ c. f (pn ++ c))) ≡ without_place (ends p ++ (0 ∷ [])) u (λ r. walks r (y ∷ []) (λ c. f (p ++ (next y ∷ c)))) =
        (λ i. without_place (ends-append p (next y ∷ []) i) u (λ r. walks r (y ∷ []) (λ c. f (append_assoc p (next y ∷ []) c i)))) in
        let d2 = without_place-sum u (ends p ++ (0 ∷ [])) (λ r. walks r (y ∷ []) (λ c. f (p ++ (next y ∷ c)))) (λ r. pos 0) in
        let d3 = without_place-zero u (ends p ++ (0 ∷ [])) in
        let s1 = signed-zero (caesura_count (ends pn ++ u)) in
        let s2 = signed-zero (caesura_count (ends p ++ (0 ∷ u))) in
        omega (arith, ints)
    both u after (z ∷ V) p y h k a b r e =
        let pn : List Cell = p ++ (next y ∷ []) in
        let pe : List Cell = p ++ (edge y ∷ []) in
        let fn : List Cell → ℤ = λ c. f (p ++ (next y ∷ c)) in
        let fe : List Cell → ℤ = λ c. f (p ++ (edge y ∷ c)) in
        let D : ℕ = caesura_count (ends p ++ (0 ∷ u)) in
        let af = after (z ∷ V) p y [] h a b tt r e in
        let a1 = walks-sum u (z ∷ V) (λ c. t pe (next z) c) (λ c. marks t (pe ++ (next z ∷ [])) c) in
        let a2 = walks-sum (0 ∷ u) V (λ c. t pe (edge z) c) (λ c. marks t (pe ++ (edge z ∷ [])) c) in
        let ih = both u after V pe z b.0 k a b.1 (fresh-next kind z pe b.0 e) (fresh-edge kind z pe b.0 e) in
        let g = gone_edge pe z u V b.0 k a b.1 e in
        -- the two sums over u
        let U1 : ℤ = without_place (ends p ++ (0 ∷ [])) u (λ r. walks r (y ∷ z ∷ V) fn) in
        let U2 : ℤ = without_place (ends p ++ (0 ∷ [])) u (λ r. walks (0 ∷ r) (z ∷ V) fe) in
        let us = without_place-sum u (ends p ++ (0 ∷ [])) (λ r. walks r (y ∷ z ∷ V) fn) (λ r. walks (0 ∷ r) (z ∷ V) fe) in
        let u1 : without_place (ends pn) u (λ r. walks r (y ∷ z ∷ V) (λ c. f (pn ++ c))) ≡ U1 =
        (λ i. without_place (ends-append p (next y ∷ []) i) u (λ r. walks r (y ∷ z ∷ V) (λ c. f (append_assoc p (next y ∷ []) c i)))) in
        let u2 : without_place (ends pe ++ (0 ∷ [])) u (λ r. walks (0 ∷ r) (z ∷ V) (λ c. f (pe ++ c))) ≡ U2 =
        (λ i. without_place (ends-edge p y i ++ (0 ∷ [])) u (λ r. walks (0 ∷ r) (z ∷ V) (λ c. f (append_assoc p (edge y ∷ []) c i)))) in
        -- the two sums over v
        let V1 : ℤ = without_place (passed p ++ (y ∷ [])) (z ∷ V) (λ r. walks u (y ∷ r) fn) in
        let V2 : ℤ = place_term (passed p ++ (y ∷ [])) z V (walks (0 ∷ u) V fe) in
        let V3 : ℤ = without_place ((passed p ++ (y ∷ [])) ++ (z ∷ [])) V (λ r. walks (0 ∷ u) (z ∷ r) fe) in
        let vs : signed D (without_place (passed p ++ (y ∷ [])) (z ∷ V) (λ r. walks u (y ∷ r) fn +ℤ walks (0 ∷ u) r fe)) ≡ signed D V1 +ℤ (signed D V2 +ℤ signed D V3) =
        ap (λ j. signed D j) (without_place-sum (z ∷ V) (passed p ++ (y ∷ [])) (λ r. walks u (y ∷ r) fn) (λ r. walks (0 ∷ u) r fe))
        ∙ signed-+ D V1 (V2 +ℤ V3) ∙ ap (λ j. signed D V1 +ℤ j) (signed-+ D V2 V3) in
        let v1 : signed (caesura_count (ends pn ++ u)) (without_place (passed p ++ (y ∷ [])) (z ∷ V) (λ r. walks u (y ∷ r) (λ c. f (pn ++ c)))) ≡ signed D V1 =
        (λ i. signed (caesura_count (after-next p y u i)) (without_place (passed p ++ (y ∷ [])) (z ∷ V) (λ r. walks u (y ∷ r) (λ c. f (append_assoc p (next y ∷ []) c i))))) in
        let v2 : signed (caesura_count (ends pe ++ (0 ∷ u))) (place_term (passed pe) z V (walks (0 ∷ u) V (λ c. f (pe ++ c)))) ≡ signed D V2 =
        (λ i. signed (caesura_count (ends-edge p y i ++ (0 ∷ u))) (place_term (passed-append p (edge y ∷ []) i) z V (walks (0 ∷ u) V (λ c. f (append_assoc p (edge y ∷ []) c i))))) in
        let v3 : signed (caesura_count (ends pe ++ (0 ∷ u))) (without_place (passed pe ++ (z ∷ [])) V (λ r. walks (0 ∷ u) (z ∷ r) (λ c. f (pe ++ c)))) ≡ signed D V3 =
        (λ i. signed (caesura_count (ends-edge p y i ++ (0 ∷ u))) (without_place (passed-append p (edge y ∷ []) i ++ (z ∷ [])) V (λ r. walks (0 ∷ u) (z ∷ r) (λ c. f (append_assoc p (edge y ∷ []) c i))))) in
        omega (arith, ints)
      where
        ends-edge : (p : List Cell) (y : ℕ) → ends (p ++ (edge y ∷ [])) ≡ ends p
        ends-edge p y = ends-append p (edge y ∷ []) ∙ append-nil (ends p)

        after-next : (p : List Cell) (y : ℕ) (u : List ℕ) → ends (p ++ (next y ∷ [])) ++ u ≡ ends p ++ (0 ∷ u)
        after-next p y u = ap (λ r. r ++ u) (ends-append p (next y ∷ [])) ∙ append_assoc (ends p) (0 ∷ []) u

    gone_next : (p : List Cell) (y : ℕ) (u V : List ℕ) → kind y ≡ 0 → AllKind kind 1 u → AllKind kind 0 V → Ready kind y p →
        walks u (y ∷ V) (λ c. t p (next y) c) ≡ place_term (ends p) 0 u (walks u (y ∷ V) (λ c. f (p ++ c)))
    gone_next p y u V h a b r =
        walks-cong kind u (y ∷ V) (λ c. t p (next y) c) (λ c. place_term (ends p) 0 u (f (p ++ c))) a (h, b) (λ c w. law_next p y u V c h r w)
        ∙ walks-place_term (ends p) 0 u u (y ∷ V) (λ c. f (p ++ c))

    gone_out : (p : List Cell) (y x : ℕ) (u V : List ℕ) → kind y ≡ 0 → kind (suc x) ≡ 1 → AllKind kind 1 u → AllKind kind 0 V → Ready kind y p →
        walks u (y ∷ V) (λ c. t p (out (suc x)) c) ≡ place_term (ends p) (suc x) u (walks u (y ∷ V) (λ c. f (p ++ c)))
    gone_out p y x u V h k a b r =
        walks-cong kind u (y ∷ V) (λ c. t p (out (suc x)) c) (λ c. place_term (ends p) (suc x) u (f (p ++ c))) a (h, b) (λ c w. law_out p y x u V c h k r w)
        ∙ walks-place_term (ends p) (suc x) u u (y ∷ V) (λ c. f (p ++ c))

    -- the two removals at an inner cut point cancel
    corner : (u V : List ℕ) (p : List Cell) (y : ℕ) (o : List Cell) → kind 0 ≡ 1 → kind y ≡ 0 → AllKind kind 1 u → AllKind kind 0 V → Outs kind o →
        walks (0 ∷ u) V (λ c. t (p ++ (next y ∷ o)) (edge y) c) +ℤ turn (0 ∷ u) V p y o ≡ pos 0
    corner u [] p y o k h a b q = refl
    corner u (z ∷ V) p y o k h a b q =
        sym (walks-sum (0 ∷ u) (z ∷ V) (λ c. t (p ++ (next y ∷ o)) (edge y) c) (λ c. t (p ++ (edge y ∷ [])) (next z) (o ++ c)))
        ∙ walks-cong kind (0 ∷ u) (z ∷ V) (λ c. t (p ++ (next y ∷ o)) (edge y) c +ℤ t (p ++ (edge y ∷ [])) (next z) (o ++ c)) (λ c. pos 0) (k, a) b (λ c w. law_corner p y z o u V c h b.0 q w)
        ∙ walks-zero (0 ∷ u) (z ∷ V)

    turn-out : (u V : List ℕ) (p : List Cell) (y x : ℕ) (o : List Cell) → turn (suc x ∷ u) V p y o ≡ turn u V p y (o ++ (out (suc x) ∷ []))
    turn-out u [] p y x o = refl
    turn-out u (z ∷ V) p y x o = λ i. walks u (z ∷ V) (λ c. t (p ++ (edge y ∷ [])) (next z) (sym (append_assoc o (out (suc x) ∷ []) c) i))

    after-end : After []
    after-end [] p y o h a b q r e = let s = signed-zero (caesura_count (ends (p ++ (next y ∷ o)) ++ [])) in omega (arith, ints)
    after-end (z ∷ []) p y o h a b q r e =
        let P : List Cell = p ++ (next y ∷ o) in
        let E : ends P ++ [] ≡ ends p ++ (0 ∷ ends o) = append-nil (ends P) ∙ ends-append p (next y ∷ o) in
        let l : t (p ++ (edge y ∷ [])) (next z) (o ++ []) ≡ signed (caesura_count (ends P ++ [])) (place_term (passed p ++ (y ∷ [])) z [] (f (P ++ []))) =
        ap (λ j. t (p ++ (edge y ∷ [])) (next z) j) (append-nil o)
        ∙ law_last p y z o h b.0 q e
        ∙ sym (λ i. signed (caesura_count (E i)) (place_term (passed p ++ (y ∷ [])) z [] (f (append-nil P i)))) in
        let s = signed-+ (caesura_count (ends P ++ [])) (place_term (passed p ++ (y ∷ [])) z [] (f (P ++ []))) (pos 0) in
        let s0 = signed-zero (caesura_count (ends P ++ [])) in
        omega (arith, ints)
    after-end (z ∷ w ∷ V) p y o h a b q r e =
        let Q : List ℕ = passed p ++ (y ∷ []) in
        let m : place_term Q z (w ∷ V) (pos 0) +ℤ without_place (Q ++ (z ∷ [])) (w ∷ V) (λ r. pos 0) ≡ pos 0 =
        (let c = place_term-zero Q z (w ∷ V) in let d = without_place-zero (w ∷ V) (Q ++ (z ∷ [])) in omega (arith, ints)) in
        let s : signed (caesura_count (ends (p ++ (next y ∷ o)) ++ [])) (place_term Q z (w ∷ V) (pos 0) +ℤ without_place (Q ++ (z ∷ [])) (w ∷ V) (λ r. pos 0)) ≡ pos 0 =
        ap (λ j. signed (caesura_count (ends (p ++ (next y ∷ o)) ++ [])) j) m ∙ signed-zero (caesura_count (ends (p ++ (next y ∷ o)) ++ [])) in
        omega (arith, ints)

    after-out : (x : ℕ) (u : List ℕ) → After u → After (suc x ∷ u)
    after-out x u rec V p y o h a b q r e =
        let P : List Cell = p ++ (next y ∷ o) in
        let d : List Cell = out (suc x) ∷ [] in
        let R : List Cell = p ++ (next y ∷ (o ++ d)) in
        let E : P ++ d ≡ R = append_assoc p (next y ∷ o) d in
        let ih = rec V p y (o ++ d) h a.1 b (outs-more kind o x q a.0) (subst (λ (j : List Cell). Ready kind y j) E (ready-out kind y x P h a.0 r)) e in
        let m1 : walks u (y ∷ V) (λ c. marks t (P ++ d) c) ≡ walks u (y ∷ V) (λ c. marks t R c) = ap (λ j. walks u (y ∷ V) (λ c. marks t j c)) E in
        let tn = turn-out u V p y x o in
        let a1 = walks-sum u (y ∷ V) (λ c. t P (out (suc x)) c) (λ c. marks t (P ++ d) c) in
        let g = gone_out P y x u V h a.0 a.1 b r in
        let w1 : without_place (ends R) u (λ r. walks r (y ∷ V) (λ c. f (R ++ c))) ≡ without_place (ends P ++ (suc x ∷ [])) u (λ r. walks r (y ∷ V) (λ c. f (P ++ (out (suc x) ∷ c)))) =
        ap (λ j. without_place (ends j) u (λ r. walks r (y ∷ V) (λ c. f (j ++ c)))) (sym E)
        ∙ (λ i. without_place (ends-append P d i) u (λ r. walks r (y ∷ V) (λ c. f (append_assoc P d c i)))) in
        let w2 : signed (caesura_count (ends R ++ u)) (without_place (passed p ++ (y ∷ [])) V (λ r. walks u (y ∷ r) (λ c. f (R ++ c))))
        ≡ signed (caesura_count (ends P ++ (suc x ∷ u))) (without_place (passed p ++ (y ∷ [])) V (λ r. walks u (y ∷ r) (λ c. f (P ++ (out (suc x) ∷ c))))) =
        ap (λ j. signed (caesura_count (ends j ++ u)) (without_place (passed p ++ (y ∷ [])) V (λ r. walks u (y ∷ r) (λ c. f (j ++ c))))) (sym E)
        ∙ (λ i. signed (caesura_count ((ap (λ j. j ++ u) (ends-append P d) ∙ append_assoc (ends P) (suc x ∷ []) u) i)) (without_place (passed p ++ (y ∷ [])) V (λ r. walks u (y ∷ r) (λ c. f (append_assoc P d c i))))) in
        omega (arith, ints)

    after-zero : (u : List ℕ) → kind 0 ≡ 1 → After u → After (0 ∷ u)
    after-zero u k rec V p y o h a b q r e =
        let P : List Cell = p ++ (next y ∷ o) in
        let a1 = walks-sum u (y ∷ V) (λ c. t P (next y) c) (λ c. marks t (P ++ (next y ∷ [])) c) in
        let a2 = walks-sum (0 ∷ u) V (λ c. t P (edge y) c) (λ c. marks t (P ++ (edge y ∷ [])) c) in
        let bo = both u rec V P y h k a.1 b (ready-next kind y P h r) (ready-edge kind y P h r) in
        let g = gone_next P y u V h a.1 b r in
        let co = corner u V p y o k h a.1 b q in
        let E : passed P ≡ passed p = passed-append p (next y ∷ o) ∙ ap (λ j. passed p ++ j) (outs-passed kind o q) ∙ append-nil (passed p) in
        let w = ap (λ j. signed (caesura_count (ends P ++ (0 ∷ u))) (without_place (j ++ (y ∷ [])) V (λ r. walks (0 ∷ u) (y ∷ r) (λ c. f (P ++ c))))) E in
        omega (arith, ints)

    after : (u : List ℕ) → kind 0 ≡ 1 → After u
    after [] k = after-end
    after (zero ∷ u) k = after-zero u k (after u k)
    after (suc x ∷ u) k = after-out x u (after u k)

    -- nothing of v was passed
    walks-nothing : (u : List ℕ) (g : List Cell → ℤ) → walks u [] g ≡ pos 0
    walks-nothing [] g = refl
    walks-nothing (x ∷ u) g = refl

    walks-out : (x : ℕ) (u r : List ℕ) (g : List Cell → ℤ) → walks u r (λ c. g (out (suc x) ∷ c)) ≡ walks (suc x ∷ u) r g
    walks-out x u [] g = walks-nothing u (λ c. g (out (suc x) ∷ c))
    walks-out x u (y ∷ r) g = refl

    start : (u : List ℕ) (y : ℕ) (V : List ℕ) (p : List Cell) → kind 0 ≡ 1 → kind y ≡ 0 → occurs 0 u ≡ 1 → AllKind kind 1 u → AllKind kind 0 V → Outs kind p → Ready kind y p → Fresh kind p →
        walks u (y ∷ V) (λ c. marks t p c)
        ≡ without_place (ends p) u (λ r. walks r (y ∷ V) (λ c. f (p ++ c)))
        +ℤ signed (caesura_count (ends p ++ u)) (without_place [] (y ∷ V) (λ r. walks u r (λ c. f (p ++ c))))
    start [] y V p k h m a b q r e = absurd (omega (arith, m))
    start (zero ∷ u) y V p k h m a b q r e =
        let D : ℕ = caesura_count (ends p ++ (0 ∷ u)) in
        let a1 = walks-sum u (y ∷ V) (λ c. t p (next y) c) (λ c. marks t (p ++ (next y ∷ [])) c) in
        let a2 = walks-sum (0 ∷ u) V (λ c. t p (edge y) c) (λ c. marks t (p ++ (edge y ∷ [])) c) in
        let bo = both u (after u k) V p y h k a.1 b (ready-next kind y p h r) (ready-edge kind y p h r) in
        let g1 = gone_next p y u V h a.1 b r in
        let g2 = gone_edge p y u V h k a.1 b e in
        let E : passed p ≡ [] = outs-passed kind p q in
        let A : ℤ = place_term [] y V (walks (0 ∷ u) V (λ c. f (p ++ c))) in
        let B : ℤ = without_place (y ∷ []) V (λ r. walks (0 ∷ u) (y ∷ r) (λ c. f (p ++ c))) in
        let w1 : signed D (place_term (passed p) y V (walks (0 ∷ u) V (λ c. f (p ++ c)))) ≡ signed D A = ap (λ j. signed D (place_term j y V (walks (0 ∷ u) V (λ c. f (p ++ c))))) E in
        let w2 : signed D (without_place (passed p ++ (y ∷ [])) V (λ r. walks (0 ∷ u) (y ∷ r) (λ c. f (p ++ c)))) ≡ signed D B =
        ap (λ j. signed D (without_place (j ++ (y ∷ [])) V (λ r. walks (0 ∷ u) (y ∷ r) (λ c. f (p ++ c))))) E in
        let s = signed-+ D A B in
        omega (arith, ints)
    start (suc x ∷ u) y V p k h m a b q r e =
        let d : List Cell = out (suc x) ∷ [] in
        let a1 = walks-sum u (y ∷ V) (λ c. t p (out (suc x)) c) (λ c. marks t (p ++ d) c) in
        let ih = start u y V (p ++ d) k h (sym (zero-there kind x u) ∙ m) a.1 b (outs-more kind p x q a.0) (ready-out kind y x p h a.0 r) (fresh-out kind x p a.0 e) in
        let g = gone_out p y x u V h a.0 a.1 b r in
        let w1 : without_place (ends (p ++ d)) u (λ r. walks r (y ∷ V) (λ c. f ((p ++ d) ++ c))) ≡ without_place (ends p ++ (suc x ∷ [])) u (λ r. walks r (y ∷ V) (λ c. f (p ++ (out (suc x) ∷ c)))) =
        (λ i. without_place (ends-append p d i) u (λ r. walks r (y ∷ V) (λ c. f (append_assoc p d c i)))) in
        let w2 : signed (caesura_count (ends (p ++ d) ++ u)) (without_place [] (y ∷ V) (λ r. walks u r (λ c. f ((p ++ d) ++ c))))
        ≡ signed (caesura_count (ends p ++ (suc x ∷ u))) (without_place [] (y ∷ V) (λ r. walks (suc x ∷ u) r (λ c. f (p ++ c)))) =
        (λ i. signed (caesura_count ((ap (λ j. j ++ u) (ends-append p d) ∙ append_assoc (ends p) (suc x ∷ []) u) i)) (without_place [] (y ∷ V) (λ r. walks u r (λ c. f (append_assoc p d c i)))))
        ∙ ap (λ g. signed (caesura_count (ends p ++ (suc x ∷ u))) (without_place [] (y ∷ V) g)) (λ i r. walks-out x u r (λ c. f (p ++ c)) i) in
        omega (arith, ints)

    -- the sum over all walks and all their entries
    pub whole : (u : List ℕ) (y : ℕ) (V : List ℕ) → occurs 0 u ≡ 1 → AllKind kind 1 u → AllKind kind 0 (y ∷ V) → kind 0 ≡ 1 →
        walks u (y ∷ V) (λ c. marks t [] c)
        ≡ without_place [] u (λ r. walks r (y ∷ V) f) +ℤ signed (caesura_count u) (without_place [] (y ∷ V) (λ r. walks u r f))
    whole u y V m a b k = start u y V [] k b.0 m a b.1 tt (ready-start kind y) (fresh-start kind)
