-- The terms of all cuts are the walks, with the same signs.
use Rattle.std.proofs.{Common.{◌≡◌, ℕ, zero, suc, ◌+◌, ◌-◌, ◌*◌, ◌≤◌, ◌⊎◌, inl, inr, cond, List, [], ◌∷◌, ◌++◌, drop, length, map, refl, sym, ◌∙◌, ap, arith, append-nil, ℤ, pos, ◌*ℤ◌, eq-eqb, ne_eqb}, lemmas.Int.ints}
use Rattle.interval_cut_law.specs.Names.{rising_lists}
use Rattle.linear_law.specs.Names.{Each}
use Rattle.signed_sum.{proofs.Names.{occurs-01, occurs-apart, occurs-self, times-signed, total-append, total-map, apart-above, apart-append, apart-below, before-first, pairs-among, pairs-later, length-numbers_from, numbers_from-append}, specs.Names.{inversion_count, rearrangement_sign, stands_before, if_zero, numbers_from, occurs, signed, total}}
use Rattle.composition_law.{specs.Surjections.{numbered, piece, spliced, symbols_of, values_of, with_values}, proofs.Paths.total-all, proofs.Cuts.{IsCutOf, each_cut}, proofs.Renaming.{Back, occurs-renamed}, proofs.States.{AllKind, IsWalk, walk-edge, walk-next, walk-out, walks-by, walks-cong, zero-there}, proofs.Walks.{Cell, composed, edge, ends, expo, next, out, values, walks}}
use Rattle.surjection_law.{proofs.Multiplicity.{multiplicity-other, multiplicity-same}, specs.Names.{caesura_count, multiplicity}}

-- the entries of a walk: the caesuras of u are numbered from n on, and those of v from b on
abbrev pub numbers_of : ℕ → ℕ → List Cell → List (ℕ × List ℕ)
numbers_of n b [] = []
numbers_of n b (out x ∷ c) = (x, numbers_from n (occurs x (ends c))) ∷ numbers_of (n + occurs x (ends c)) b c
numbers_of n b (edge y ∷ c) = (y, numbers_from b (occurs y (values c))) ∷ numbers_of n (b + occurs y (values c)) c
numbers_of n b (next y ∷ c) = (y, numbers_from n (occurs 0 (ends c))) ∷ numbers_of (n + occurs 0 (ends c)) b c

pub values-numbers : (c : List Cell) (n b : ℕ) → values_of (numbers_of n b c) ≡ values c
values-numbers [] n b = refl
values-numbers (out x ∷ c) n b = ap (λ w. x ∷ w) (values-numbers c (n + occurs x (ends c)) b)
values-numbers (edge y ∷ c) n b = ap (λ w. y ∷ w) (values-numbers c n (b + occurs y (values c)))
values-numbers (next y ∷ c) n b = ap (λ w. y ∷ w) (values-numbers c (n + occurs 0 (ends c)) b)

-- the number of caesuras among the entries of v after which the piece goes on
abbrev inner_count : List Cell → ℕ
inner_count [] = 0
inner_count (out x ∷ c) = inner_count c
inner_count (edge y ∷ c) = occurs y (values c) + inner_count c
inner_count (next y ∷ c) = inner_count c

-- the pairs in different order
abbrev pairs : List ℕ → ℕ → ℕ → ℕ → ℕ → ℕ
pairs w n m b l = inversion_count (stands_before w) (numbers_from n m ++ numbers_from b l)

-- one more entry of u, or of v: h tells whether it is a caesura
outer-pairs : (h n m b l e : ℕ) (w : List ℕ) → (h ≡ 0) ⊎ (h ≡ 1) → n + (h + m) ≤ b → pairs w (n + h) m b l ≡ e → pairs (numbers_from n h ++ w) n (h + m) b l ≡ e
outer-pairs zero n m b l e w o q s = let i : n ≡ n + 0 = omega arith in let j : 0 + m ≡ m = omega arith in (λ t. pairs w (i t) (j t) b l) ∙ s
outer-pairs (suc zero) n m b l e w o q s =
    let xs : List ℕ = numbers_from (suc n) m ++ numbers_from b l in
    let i : suc n ≡ n + 1 = omega arith in
    let j : 1 + m ≡ suc m = omega arith in
    let far = apart-append n (numbers_from (suc n) m) (numbers_from b l) (apart-below n (suc n) m (omega arith)) (apart-below n b l (omega arith)) in
    let f = before-first n w xs in
    let g = pairs-later n w xs far in
    let r : pairs w (suc n) m b l ≡ pairs w (n + 1) m b l = ap (λ t. pairs w t m b l) i in
    let z : pairs (n ∷ w) n (suc m) b l ≡ e = omega arith in
    ap (λ t. pairs (n ∷ w) n t b l) j ∙ z
outer-pairs (suc (suc h)) n m b l e w (inl o) q s = absurd (omega (arith, o))
outer-pairs (suc (suc h)) n m b l e w (inr o) q s = absurd (omega (arith, o))

inner-pairs : (h n m b l e : ℕ) (w : List ℕ) → (h ≡ 0) ⊎ (h ≡ 1) → n + m ≤ b → pairs w n m (b + h) l ≡ e → pairs (numbers_from b h ++ w) n m b (h + l) ≡ h * m + e
inner-pairs zero n m b l e w o q s = let i : b ≡ b + 0 = omega arith in let j : 0 + l ≡ l = omega arith in (λ t. pairs w n m (i t) (j t)) ∙ s ∙ omega arith
inner-pairs (suc zero) n m b l e w o q s =
    let i : suc b ≡ b + 1 = omega arith in
    let j : 1 + l ≡ suc l = omega arith in
    let p = pairs-among b w (numbers_from n m) (numbers_from (suc b) l) (apart-above b n m q) (apart-below b (suc b) l (omega arith)) in
    let r : pairs w n m (suc b) l ≡ pairs w n m (b + 1) l = ap (λ t. pairs w n m t l) i in
    let k = length-numbers_from n m in
    ap (λ t. pairs (b ∷ w) n m b t) j ∙ p ∙ omega arith
inner-pairs (suc (suc h)) n m b l e w (inl o) q s = absurd (omega (arith, o))
inner-pairs (suc (suc h)) n m b l e w (inr o) q s = absurd (omega (arith, o))

walk-pairs : (c : List Cell) (n b : ℕ) → n + caesura_count (ends c) ≤ b → pairs (symbols_of (numbers_of n b c)) n (caesura_count (ends c)) b (inner_count c) ≡ expo c
walk-pairs [] n b q = refl
walk-pairs (out x ∷ c) n b q =
    let h : ℕ = occurs x (ends c) in
    outer-pairs h n (caesura_count (ends c)) b (inner_count c) (expo c) (symbols_of (numbers_of (n + h) b c)) (occurs-01 x (ends c)) q (walk-pairs c (n + h) b (omega (arith, q)))
walk-pairs (next y ∷ c) n b q =
    let h : ℕ = occurs 0 (ends c) in
    outer-pairs h n (caesura_count (ends c)) b (inner_count c) (expo c) (symbols_of (numbers_of (n + h) b c)) (occurs-01 0 (ends c)) q (walk-pairs c (n + h) b (omega (arith, q)))
walk-pairs (edge y ∷ c) n b q =
    let h : ℕ = occurs y (values c) in
    inner-pairs h n (caesura_count (ends c)) b (inner_count c) (expo c) (symbols_of (numbers_of n (b + h) c)) (occurs-01 y (values c)) q (walk-pairs c n (b + h) (omega (arith, q)))
    ∙ (λ j. occurs y (sym (append-nil (values c)) j) * caesura_count (sym (append-nil (ends c)) j) + expo c)

-- the value of g at a term, with the sign of its caesuras: m of u, and l of v
abbrev pub signed_value : ℕ → ℕ → (List ℕ → ℤ) → List (ℕ × List ℕ) → ℤ
signed_value m l g es = rearrangement_sign (numbers_from 0 (m + l)) (symbols_of es) *ℤ g (values_of es)

walk-value : (c : List Cell) (g : List ℕ → ℤ) → signed_value (caesura_count (ends c)) (inner_count c) g (numbers_of 0 (caesura_count (ends c)) c) ≡ signed (expo c) (g (values c))
walk-value c g =
    let m : ℕ = caesura_count (ends c) in
    let w : List ℕ = symbols_of (numbers_of 0 m c) in
    let z : 0 + m ≡ m = omega arith in
    let e : numbers_from 0 (m + inner_count c) ≡ numbers_from 0 m ++ numbers_from m (inner_count c) = numbers_from-append 0 m (inner_count c) ∙ ap (λ j. numbers_from 0 m ++ numbers_from j (inner_count c)) z in
    (λ i. signed ((ap (inversion_count (stands_before w)) e ∙ walk-pairs c 0 m (omega arith)) i) (pos 1) *ℤ g (values-numbers c 0 m i))
    ∙ times-signed (expo c) (g (values c))

-- the caesuras of a walk
module _ (kind : ℕ → ℕ) where
  record IsCounted (u v : List ℕ) (c : List Cell) : Type 0 where
    walk : IsWalk kind u v c
    inner : inner_count c ≡ if_zero (occurs 0 u) 0 (caesura_count v)

  counted-next : (u v : List ℕ) (y : ℕ) (c : List Cell) → kind y ≡ 0 → IsCounted u (y ∷ v) c → IsCounted (0 ∷ u) (y ∷ v) (next y ∷ c)
  counted-next u v y c h w = record {
    walk = walk-next kind u v y c h w.walk;
    inner = w.inner ∙ (elim (occurs-01 0 u) [ inl e ↦ rw e (alone v (w.walk.single e)) | inr e ↦ rw e refl ]);
  }
    where
      alone : (v : List ℕ) → length (y ∷ v) ≡ 1 → 0 ≡ caesura_count (y ∷ v)
      alone [] e = refl
      alone (z ∷ v) e = absurd (omega (arith, e))

  counted-edge : (u v : List ℕ) (y : ℕ) (c : List Cell) → kind y ≡ 0 → IsCounted (0 ∷ u) v c → IsCounted (0 ∷ u) (y ∷ v) (edge y ∷ c)
  counted-edge u v y c h w = record {
    walk = walk-edge kind u v y c h w.walk;
    inner =
        let s = occurs-self 0 u in
        let a = w.walk.ins y h ∙ ap (λ n. if_zero n 0 (occurs y v)) s in
        let b = w.inner ∙ ap (λ n. if_zero n 0 (caesura_count v)) s in
        (λ i. a i + b i) ∙ ap (λ n. if_zero n 0 (caesura_count (y ∷ v))) (sym s);
  }

  counted-out : (u v : List ℕ) (x : ℕ) (c : List Cell) → kind (suc x) ≡ 1 → IsCounted u v c → IsCounted (suc x ∷ u) v (out (suc x) ∷ c)
  counted-out u v x c h w = record { walk = walk-out kind u v x c h w.walk; inner = w.inner ∙ ap (λ n. if_zero n 0 (caesura_count v)) (sym (zero-there kind x u)) }

  walks-counted : (u v : List ℕ) (f g : List Cell → ℤ) → AllKind kind 1 u → AllKind kind 0 v → ((c : List Cell) → IsCounted u v c → f c ≡ g c) → walks u v f ≡ walks u v g
  walks-counted = walks-by kind IsCounted
      (λ y h. record { walk = record { ending = refl; outs = λ x k. refl; ins = λ z k. refl; single = λ e. refl }; inner = refl }) counted-next counted-edge counted-out

  -- the sum over the walks with the signs of their caesuras
  pub walks-signed_value : (u v : List ℕ) (g : List ℕ → ℤ) → AllKind kind 1 u → AllKind kind 0 v → occurs 0 u ≡ 1 →
      walks u v (λ c. signed_value (caesura_count u) (caesura_count v) g (numbers_of 0 (caesura_count u) c)) ≡ composed u v g
  walks-signed_value u v g a b z =
      walks-counted u v (λ c. signed_value (caesura_count u) (caesura_count v) g (numbers_of 0 (caesura_count u) c)) (λ c. signed (expo c) (g (values c))) a b
      (λ c w.
      let m : caesura_count u ≡ caesura_count (ends c) = ap caesura_count (sym w.walk.ending) in
      let l : caesura_count v ≡ inner_count c = sym (w.inner ∙ ap (λ n. if_zero n 0 (caesura_count v)) z) in
      (λ i. signed_value (m i) (l i) g (numbers_of 0 (m i) c)) ∙ walk-value c g)

-- splices at one entry
module _ (k : ℕ) where
  spliced-other : (a : ℕ) (rest us : List (ℕ × List ℕ)) (e : ℕ × List ℕ) (p : List ℕ) → (k ≡ e.0 → ⊥) → spliced k a rest (e ∷ us) p ≡ e ∷ spliced k a rest us p
  spliced-other a rest us e [] n = ap (λ b. cond b (rest ++ spliced k a rest us []) (e ∷ spliced k a rest us [])) (ne_eqb k e.0 n)
  spliced-other a rest us e (c ∷ p) n = ap (λ b. cond b (piece (c - a) rest e.1 ++ spliced k c (drop (c - a) rest) us p) (e ∷ spliced k a rest us (c ∷ p))) (ne_eqb k e.0 n)

  spliced-last : (a : ℕ) (rest us : List (ℕ × List ℕ)) (e : ℕ × List ℕ) → k ≡ e.0 → spliced k a rest (e ∷ us) [] ≡ rest ++ spliced k a rest us []
  spliced-last a rest us e n = ap (λ b. cond b (rest ++ spliced k a rest us []) (e ∷ spliced k a rest us [])) (eq-eqb k e.0 n)

  spliced-here : (a : ℕ) (rest us : List (ℕ × List ℕ)) (e : ℕ × List ℕ) (c : ℕ) (p : List ℕ) → k ≡ e.0 → spliced k a rest (e ∷ us) (c ∷ p) ≡ piece (c - a) rest e.1 ++ spliced k c (drop (c - a) rest) us p
  spliced-here a rest us e c p n = ap (λ b. cond b (piece (c - a) rest e.1 ++ spliced k c (drop (c - a) rest) us p) (e ∷ spliced k a rest us (c ∷ p))) (eq-eqb k e.0 n)

  -- the piece ends here
  spliced-end : (a : ℕ) (r : ℕ × List ℕ) (rest us : List (ℕ × List ℕ)) (e : ℕ × List ℕ) (p : List ℕ) → k ≡ e.0 → spliced k a (r ∷ rest) (e ∷ us) (a ∷ p) ≡ (r.0, e.1) ∷ spliced k a (r ∷ rest) us p
  spliced-end a r rest us e p n =
      let z : a - a ≡ 0 = omega arith in
      spliced-here a (r ∷ rest) us e a p n ∙ (λ i. piece (z i) (r ∷ rest) e.1 ++ spliced k a (drop (z i) (r ∷ rest)) us p)

  -- the piece goes on
  spliced-on : (a : ℕ) (r : ℕ × List ℕ) (rest us : List (ℕ × List ℕ)) (e : ℕ × List ℕ) (c : ℕ) (p : List ℕ) → k ≡ e.0 → suc a ≤ c → spliced k a (r ∷ rest) (e ∷ us) (c ∷ p) ≡ r ∷ spliced k (suc a) rest (e ∷ us) (c ∷ p)
  spliced-on a r rest us e c p n l =
      let z : c - a ≡ suc (c - suc a) = omega arith in
      spliced-here a (r ∷ rest) us e c p n ∙ (λ i. piece (z i) (r ∷ rest) e.1 ++ spliced k c (drop (z i) (r ∷ rest)) us p)
      ∙ ap (λ w. r ∷ w) (sym (spliced-here (suc a) rest us e c p n))

-- f and g give the values of u and v in a term; in walks t gives those of u, with 0 for k; i and j give them back
module _ (k : ℕ) (f g t i j kind : ℕ → ℕ) (kind_zero : kind 0 ≡ 1) where
  abbrev pub outer_of : ℕ → List ℕ → List (ℕ × List ℕ)
  outer_of n u = with_values f (numbered n u)

  abbrev pub inner_of : ℕ → List ℕ → List (ℕ × List ℕ)
  inner_of b v = with_values g (numbered b v)

  -- x is k, or another value
  abbrev pub IsValue : ℕ → Type 0
  IsValue x = ((x ≡ k) × (f x ≡ k) × (t x ≡ 0)) ⊎ ((w : ℕ) × ((x ≡ k → ⊥) × (f x ≡ suc w) × (t x ≡ suc w) × (suc w ≡ k → ⊥)))

  abbrev pub AreValues : List ℕ → Type 0
  AreValues u = Each IsValue u × Back t i u × AllKind kind 1 (map t u)

  tail-values : (x : ℕ) (u : List ℕ) → AreValues (x ∷ u) → AreValues u
  tail-values x u h = (h.0.1, h.1.1, h.2.1)

  abbrev pub AreInner : List ℕ → Type 0
  AreInner v = Back g j v × AllKind kind 0 (map g v)

  -- the entry of u, and of v
  abbrev outer_entry : ℕ → ℕ → List ℕ → ℕ × List ℕ
  outer_entry n x u = (f x, numbers_from n (occurs x u))

  abbrev end_entry : ℕ → ℕ → ℕ → List ℕ → ℕ × List ℕ
  end_entry n y x u = (g y, numbers_from n (occurs x u))

  abbrev inner_entry : ℕ → ℕ → List ℕ → ℕ × List ℕ
  inner_entry b y v = (g y, numbers_from b (occurs y v))

  -- an entry of u that stays
  other-entry : (n b x w : ℕ) (u V : List ℕ) (F : List (ℕ × List ℕ) → ℤ) → AreValues (x ∷ u) → AllKind kind 0 V → f x ≡ suc w → t x ≡ suc w →
      walks (map t u) V (λ c. F (outer_entry n x u ∷ numbers_of (n + occurs x u) b c)) ≡ walks (map t u) V (λ c. F (numbers_of n b (out (suc w) ∷ c)))
  other-entry n b x w u V F h kv fx tx =
      walks-cong kind (map t u) V (λ c. F (outer_entry n x u ∷ numbers_of (n + occurs x u) b c)) (λ c. F (numbers_of n b (out (suc w) ∷ c))) h.2.1 kv
      (λ c d. let o : occurs x u ≡ occurs (suc w) (ends c) = sym (occurs-renamed t i x u h.1.0 h.1.1) ∙ (λ q. occurs (tx q) (sym d.ending q)) in
      (λ q. F ((fx q, numbers_from n (o q)) ∷ numbers_of (n + o q) b c)))

  -- an entry of v with which a piece ends
  end-entry : (n b x y : ℕ) (u V : List ℕ) (F : List (ℕ × List ℕ) → ℤ) → AreValues (x ∷ u) → AllKind kind 0 V → t x ≡ 0 →
      walks (map t u) V (λ c. F ((y, numbers_from n (occurs x u)) ∷ numbers_of (n + occurs x u) b c)) ≡ walks (map t u) V (λ c. F (numbers_of n b (next y ∷ c)))
  end-entry n b x y u V F h kv tx =
      walks-cong kind (map t u) V (λ c. F ((y, numbers_from n (occurs x u)) ∷ numbers_of (n + occurs x u) b c)) (λ c. F (numbers_of n b (next y ∷ c))) h.2.1 kv
      (λ c d. let o : occurs x u ≡ occurs 0 (ends c) = sym (occurs-renamed t i x u h.1.0 h.1.1) ∙ (λ q. occurs (tx q) (sym d.ending q)) in
      (λ q. F ((y, numbers_from n (o q)) ∷ numbers_of (n + o q) b c)))

  -- an entry of v after which the piece goes on
  edge-entry : (n b y : ℕ) (u v : List ℕ) (F : List (ℕ × List ℕ) → ℤ) → AllKind kind 1 u → AreInner (y ∷ v) →
      walks (0 ∷ u) (map g v) (λ c. F (inner_entry b y v ∷ numbers_of n (b + occurs y v) c)) ≡ walks (0 ∷ u) (map g v) (λ c. F (numbers_of n b (edge (g y) ∷ c)))
  edge-entry n b y u v F ku h =
      walks-cong kind (0 ∷ u) (map g v) (λ c. F (inner_entry b y v ∷ numbers_of n (b + occurs y v) c)) (λ c. F (numbers_of n b (edge (g y) ∷ c))) (kind_zero, ku) h.1.1
      (λ c d. let o : occurs y v ≡ occurs (g y) (values c) = sym (occurs-renamed g j y v h.0.0 h.0.1) ∙ sym (d.ins (g y) h.1.0 ∙ ap (λ q. if_zero q 0 (occurs (g y) (map g v))) (occurs-self 0 u)) in
      (λ q. F ((g y, numbers_from b (o q)) ∷ numbers_of n (b + o q) c)))

  -- without k
  without-k : (u : List ℕ) (n b a : ℕ) (rest : List (ℕ × List ℕ)) (y : ℕ) (F : List (ℕ × List ℕ) → ℤ) → AreValues u → kind y ≡ 0 → multiplicity k u ≡ 0 →
      F (spliced k a rest (outer_of n u) []) ≡ walks (map t u) (y ∷ []) (λ c. F (numbers_of n b c))
  without-k [] n b a rest y F h ky m = refl
  without-k (x ∷ u) n b a rest y F h ky m = elim h.0.0 [
    | inl e ↦ absurd (let s = multiplicity-same k x u (sym e.0) in omega (arith, s, m))
    | inr e ↦
        let o = e.1 in
        ap F (spliced-other k a rest (outer_of (n + occurs x u) u) (outer_entry n x u) [] (λ q. o.3 (sym o.1 ∙ sym q)))
        ∙ without-k u (n + occurs x u) b a rest y (λ es. F (outer_entry n x u ∷ es)) (tail-values x u h) ky (sym (multiplicity-other k x u (λ q. o.0 (sym q))) ∙ m)
        ∙ other-entry n b x e.0 u (y ∷ []) F h (ky, tt) o.1 o.2
        ∙ sym (ap (λ z. walks (z ∷ map t u) (y ∷ []) (λ c. F (numbers_of n b c))) o.2)
  ]

  dead-end : (u : List ℕ) (y z : ℕ) (v : List ℕ) (G : List Cell → ℤ) → AreValues u → multiplicity k u ≡ 0 → walks (map t u) (y ∷ z ∷ v) G ≡ pos 0
  dead-end [] y z v G h m = refl
  dead-end (x ∷ u) y z v G h m = elim h.0.0 [
    | inl e ↦ absurd (let s = multiplicity-same k x u (sym e.0) in omega (arith, s, m))
    | inr e ↦
        ap (λ q. walks (q ∷ map t u) (y ∷ z ∷ v) G) e.1.2
        ∙ dead-end u y z v (λ c. G (out (suc e.0) ∷ c)) (tail-values x u h) (sym (multiplicity-other k x u (λ q. e.1.0 (sym q))) ∙ m)
  ]

  -- without k there is no 0
  no-zero : (u : List ℕ) → AreValues u → multiplicity k u ≡ 0 → occurs 0 (map t u) ≡ 0
  no-zero [] h m = refl
  no-zero (x ∷ u) h m = elim h.0.0 [
    | inl e ↦ absurd (let s = multiplicity-same k x u (sym e.0) in omega (arith, s, m))
    | inr e ↦ ap (λ q. occurs 0 (q ∷ map t u)) e.1.2 ∙ occurs-apart 0 (suc e.0) (map t u) (λ q. omega (arith, q)) ∙ no-zero u (tail-values x u h) (sym (multiplicity-other k x u (λ q. e.1.0 (sym q))) ∙ m)
  ]

  -- the last piece
  last-piece : (v : List ℕ) (y : ℕ) (u : List ℕ) (n b a : ℕ) (rest : List (ℕ × List ℕ)) (F : List (ℕ × List ℕ) → ℤ) → AreValues u → AreInner (y ∷ v) → multiplicity k u ≡ 0 →
      F (inner_of b (y ∷ v) ++ spliced k a rest (outer_of n u) []) ≡ walks (0 ∷ map t u) (map g (y ∷ v)) (λ c. F (numbers_of n b c))
  last-piece [] y u n b a rest F h hv m =
      let one = without-k u n b a rest (g y) (λ es. F ((g y, []) ∷ es)) h hv.1.0 m in
      let z : n ≡ n + 0 = omega arith in
      let two : walks (map t u) (g y ∷ []) (λ c. F ((g y, []) ∷ numbers_of n b c)) ≡ walks (map t u) (g y ∷ []) (λ c. F (numbers_of n b (next (g y) ∷ c))) =
      walks-cong kind (map t u) (g y ∷ []) (λ c. F ((g y, []) ∷ numbers_of n b c)) (λ c. F (numbers_of n b (next (g y) ∷ c))) h.2 hv.1
      (λ c d. let o : 0 ≡ occurs 0 (ends c) = sym (ap (occurs 0) d.ending ∙ no-zero u h m) in
      ap (λ q. F ((g y, []) ∷ numbers_of q b c)) z ∙ (λ q. F ((g y, numbers_from n (o q)) ∷ numbers_of (n + o q) b c))) in
      omega (arith, ints)
  last-piece (z ∷ v) y u n b a rest F h hv m =
      let one = last-piece v z u n (b + occurs y (z ∷ v)) a rest (λ es. F (inner_entry b y (z ∷ v) ∷ es)) h (hv.0.1, hv.1.1) m in
      let two = edge-entry n b y (map t u) (z ∷ v) F h.2 hv in
      let three = dead-end u (g y) (g z) (map g v) (λ c. F (numbers_of n b (next (g y) ∷ c))) h m in
      omega (arith, ints)

  -- an entry of u that stays, in the sum over the cuts
  other-sum : (n b x w : ℕ) (u v : List ℕ) (y a : ℕ) (cuts : List (List ℕ)) (F : List (ℕ × List ℕ) → ℤ) → AreValues (x ∷ u) → AreInner (y ∷ v) → f x ≡ suc w → t x ≡ suc w → (suc w ≡ k → ⊥) →
      total (λ p. F (outer_entry n x u ∷ spliced k a (inner_of b (y ∷ v)) (outer_of (n + occurs x u) u) p)) cuts ≡ walks (map t u) (map g (y ∷ v)) (λ c. F (outer_entry n x u ∷ numbers_of (n + occurs x u) b c)) →
      total (λ p. F (spliced k a (inner_of b (y ∷ v)) (outer_of n (x ∷ u)) p)) cuts ≡ walks (map t (x ∷ u)) (map g (y ∷ v)) (λ c. F (numbers_of n b c))
  other-sum n b x w u v y a cuts F h hv fx tx d ih =
      ap (λ l. total l cuts) (λ q p. F (spliced-other k a (inner_of b (y ∷ v)) (outer_of (n + occurs x u) u) (outer_entry n x u) p (λ q. d (sym fx ∙ sym q)) q))
      ∙ ih
      ∙ other-entry n b x w u (map g (y ∷ v)) F h hv.1 fx tx
      ∙ sym (ap (λ z. walks (z ∷ map t u) (map g (y ∷ v)) (λ c. F (numbers_of n b c))) tx)

  -- a piece that ends here, in the sum over the cuts
  end-sum : (n b x : ℕ) (u v : List ℕ) (y a : ℕ) (cuts : List (List ℕ)) (F : List (ℕ × List ℕ) → ℤ) → AreValues (x ∷ u) → AreInner (y ∷ v) → f x ≡ k → t x ≡ 0 →
      total (λ p. F (end_entry n y x u ∷ spliced k a (inner_of b (y ∷ v)) (outer_of (n + occurs x u) u) p)) cuts ≡ walks (map t u) (map g (y ∷ v)) (λ c. F (end_entry n y x u ∷ numbers_of (n + occurs x u) b c)) →
      total (λ p. F (spliced k a (inner_of b (y ∷ v)) (outer_of n (x ∷ u)) p)) (map (λ p. a ∷ p) cuts) ≡ walks (map t u) (map g (y ∷ v)) (λ c. F (numbers_of n b (next (g y) ∷ c)))
  end-sum n b x u v y a cuts F h hv fe te ih =
      total-map (λ p. F (spliced k a (inner_of b (y ∷ v)) (outer_of n (x ∷ u)) p)) (λ p. a ∷ p) cuts
      ∙ ap (λ l. total l cuts) (λ q p. F (spliced-end k a (inner_entry b y v) (inner_of (b + occurs y v) v) (outer_of (n + occurs x u) u) (outer_entry n x u) p (sym fe) q))
      ∙ ih
      ∙ end-entry n b x (g y) u (map g (y ∷ v)) F h hv.1 te

  -- a piece that goes on, in the sum over the cuts
  on-sum : (n b x : ℕ) (u v : List ℕ) (y a m d e : ℕ) (F : List (ℕ × List ℕ) → ℤ) → f x ≡ k → suc a + e ≡ d →
      total (λ p. F (spliced k a (inner_of b (y ∷ v)) (outer_of n (x ∷ u)) p)) (rising_lists (suc a) e (suc m))
      ≡ total (λ p. F (inner_entry b y v ∷ spliced k (suc a) (inner_of (b + occurs y v) v) (outer_of n (x ∷ u)) p)) (rising_lists (suc a) e (suc m))
  on-sum n b x u v y a m d e F fe q =
      total-all (IsCutOf (suc a) d (suc m)) (λ p. F (spliced k a (inner_of b (y ∷ v)) (outer_of n (x ∷ u)) p)) (λ p. F (inner_entry b y v ∷ spliced k (suc a) (inner_of (b + occurs y v) v) (outer_of n (x ∷ u)) p))
      one (rising_lists (suc a) e (suc m)) (each_cut (suc m) e (suc a) d q)
    where
      one : (p : List ℕ) → IsCutOf (suc a) d (suc m) p → F (spliced k a (inner_of b (y ∷ v)) (outer_of n (x ∷ u)) p) ≡ F (inner_entry b y v ∷ spliced k (suc a) (inner_of (b + occurs y v) v) (outer_of n (x ∷ u)) p)
      one [] c = absurd (omega (arith, c.1))
      one (l ∷ p) c = ap F (spliced-on k a (inner_entry b y v) (inner_of (b + occurs y v) v) (outer_of (n + occurs x u) u) (outer_entry n x u) l p (sym fe) c.0.0)

  -- the sum over the cuts is the sum over the walks
  pub cut-walks : (u v : List ℕ) (n b y e m a : ℕ) (F : List (ℕ × List ℕ) → ℤ) → AreValues u → AreInner (y ∷ v) → length v ≡ e → multiplicity k u ≡ suc m →
      total (λ p. F (spliced k a (inner_of b (y ∷ v)) (outer_of n u) p)) (rising_lists a e m) ≡ walks (map t u) (map g (y ∷ v)) (λ c. F (numbers_of n b c))
  cut-walks [] v n b y e m a F h hv l q = absurd (omega (arith, q))
  cut-walks (x ∷ u) v n b y e zero a F h hv l q = elim h.0.0 [
    | inl o ↦
        let s = multiplicity-same k x u (sym o.0) in
        let r = ap F (spliced-last k a (inner_of b (y ∷ v)) (outer_of (n + occurs x u) u) (outer_entry n x u) (sym o.1)) in
        let p = last-piece v y u (n + occurs x u) b a (inner_of b (y ∷ v)) F (tail-values x u h) hv (omega (arith, s, q)) in
        let z : occurs x u ≡ 0 = sym (occurs-renamed t i x u h.1.0 h.1.1) ∙ ap (λ q. occurs q (map t u)) o.2 ∙ no-zero u (tail-values x u h) (omega (arith, s, q)) in
        let z1 : n + occurs x u ≡ n = omega (arith, z) in
        let p2 = ap (λ q. walks (0 ∷ map t u) (map g (y ∷ v)) (λ c. F (numbers_of q b c))) z1 in
        let w = ap (λ z. walks (z ∷ map t u) (map g (y ∷ v)) (λ c. F (numbers_of n b c))) o.2 in
        omega (arith, ints)
    | inr o ↦
        other-sum n b x o.0 u v y a (rising_lists a e zero) F h hv o.1.1 o.1.2 o.1.3
        (cut-walks u v (n + occurs x u) b y e zero a (λ es. F (outer_entry n x u ∷ es)) (tail-values x u h) hv l (sym (multiplicity-other k x u (λ q. o.1.0 (sym q))) ∙ q))
  ]
  cut-walks (x ∷ u) [] n b y zero (suc m) a F h hv l q = elim h.0.0 [
    | inl o ↦
        let s = multiplicity-same k x u (sym o.0) in
        let p = end-sum n b x u [] y a (rising_lists a zero m) F h hv o.1 o.2 (cut-walks u [] (n + occurs x u) b y zero m a (λ es. F (end_entry n y x u ∷ es)) (tail-values x u h) hv l (omega (arith, s, q))) in
        let w = ap (λ z. walks (z ∷ map t u) (map g (y ∷ [])) (λ c. F (numbers_of n b c))) o.2 in
        omega (arith, ints)
    | inr o ↦
        other-sum n b x o.0 u [] y a (rising_lists a zero (suc m)) F h hv o.1.1 o.1.2 o.1.3
        (cut-walks u [] (n + occurs x u) b y zero (suc m) a (λ es. F (outer_entry n x u ∷ es)) (tail-values x u h) hv l (sym (multiplicity-other k x u (λ q. o.1.0 (sym q))) ∙ q))
  ]
  cut-walks (x ∷ u) (z ∷ v) n b y (suc e) (suc m) a F h hv l q = elim h.0.0 [
    | inl o ↦
        let s = multiplicity-same k x u (sym o.0) in
        let h1 : List ℕ → ℤ = λ p. F (spliced k a (inner_of b (y ∷ z ∷ v)) (outer_of n (x ∷ u)) p) in
        let t1 = total-append h1 (map (λ p. a ∷ p) (rising_lists a (suc e) m)) (rising_lists (suc a) e (suc m)) in
        let p = end-sum n b x u (z ∷ v) y a (rising_lists a (suc e) m) F h hv o.1 o.2 (cut-walks u (z ∷ v) (n + occurs x u) b y (suc e) m a (λ es. F (end_entry n y x u ∷ es)) (tail-values x u h) hv l (omega (arith, s, q))) in
        let r0 = on-sum n b x u (z ∷ v) y a m (suc a + e) e F o.1 refl in
        let r1 = cut-walks (x ∷ u) v n (b + occurs y (z ∷ v)) z e (suc m) (suc a) (λ es. F (inner_entry b y (z ∷ v) ∷ es)) h (hv.0.1, hv.1.1) (omega (arith, l)) q in
        let r2 = ap (λ q. walks (q ∷ map t u) (map g (z ∷ v)) (λ c. F (inner_entry b y (z ∷ v) ∷ numbers_of n (b + occurs y (z ∷ v)) c))) o.2 in
        let d = edge-entry n b y (map t u) (z ∷ v) F h.2.1 hv in
        let w = ap (λ q. walks (q ∷ map t u) (map g (y ∷ z ∷ v)) (λ c. F (numbers_of n b c))) o.2 in
        omega (arith, ints)
    | inr o ↦
        other-sum n b x o.0 u (z ∷ v) y a (rising_lists a (suc e) (suc m)) F h hv o.1.1 o.1.2 o.1.3
        (cut-walks u (z ∷ v) (n + occurs x u) b y (suc e) (suc m) a (λ es. F (outer_entry n x u ∷ es)) (tail-values x u h) hv l (sym (multiplicity-other k x u (λ q. o.1.0 (sym q))) ∙ q))
  ]
  cut-walks (x ∷ u) [] n b y (suc e) (suc m) a F h hv l q = absurd (omega (arith, l))
  cut-walks (x ∷ u) (z ∷ v) n b y zero (suc m) a F h hv l q = absurd (omega (arith, l))
