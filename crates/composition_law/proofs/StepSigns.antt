-- The sign of a list of steps: that of the term with the cut for it is that of the cut for u with the cut of its
-- face for v, and of moving the caesuras of v past those of u and past the gaps of the values below k.
use Rattle.std.proofs.{Common.{◌≡◌, ℕ, zero, suc, ◌+◌, ◌*◌, ◌%◌, ◌-◌, ◌<◌, ◌≤◌, ◌⊎◌, inl, inr, cond, ◌==◌, List, [], ◌∷◌, length, map, refl, sym, ◌∙◌, ap, arith, append-nil, ℤ, ne_eqb, eq-eqb}, lemmas.Int.ints}
use Rattle.interval_cut_law.proofs.Walks.{gaps_below, walk_exponent, walk_face}
use Rattle.signed_sum.{proofs.Names.{less-no, occurs-01, occurs-apart, occurs-self, signed-parity, signed-signed, less-yes}, specs.Names.{if_zero, less, occurs, signed}}
use Rattle.surjection_law.specs.Names.{caesura_count}
use Rattle.composition_law.proofs.{CutByCut.walk_of, Renaming.{Back, caesuras-map, occurs-renamed}, States.{AllKind, IsWalk, kinds-apart, waiting, walk-edge, walk-next, walk-out}, Steps.{Gap, Step, cut_ends, cut_of, go_on, inner_of, last_next, named, out_go, out_stop, outer_as, pass, triple, turn, turns}, Walks.{ends, expo, values}}

-- the algebra of the signs, with numbers alone: h tells whether the entry is a caesura

sign-out_stop : (h l eW eG eO eI C D B g : ℕ) → (h ≡ 0) ⊎ (h ≡ 1) → (l ≡ 0) ⊎ (l ≡ 1) → (eW + eG) % 2 ≡ (eO + eI + C * (D + B)) % 2 →
    (eW + ((g + (1 - l) * C) * h + eG)) % 2 ≡ ((g * h + eO) + eI + C * ((h + D) + (l * h + B))) % 2
sign-out_stop h l eW eG eO eI C D B g (inl e) p s =
    let a : eW + ((g + (1 - l) * C) * 0 + eG) ≡ eW + eG = omega arith in
    let b : (g * 0 + eO) + eI + C * ((0 + D) + (l * 0 + B)) ≡ eO + eI + C * (D + B) = omega arith in
    rw e (ap (λ n. n % 2) a ∙ s ∙ sym (ap (λ n. n % 2) b))
sign-out_stop h l eW eG eO eI C D B g (inr e) (inl q) s = rw (e, q) (let a : C * ((1 + D) + (0 * 1 + B)) ≡ C + C * (D + B) = omega arith in omega arith)
sign-out_stop h l eW eG eO eI C D B g (inr e) (inr q) s = rw (e, q) (let a : C * ((1 + D) + (1 * 1 + B)) ≡ 2 * C + C * (D + B) = omega arith in omega arith)

sign-out_go : (l eW eG eO eI C D B g : ℕ) → (l ≡ 0) ⊎ (l ≡ 1) → (eW + eG) % 2 ≡ (eO + eI + C * (D + B)) % 2 →
    (eW + ((g + (1 - l) * C) + (D + C) + eG)) % 2 ≡ ((g + D + eO) + eI + C * (D + (l + B))) % 2
sign-out_go l eW eG eO eI C D B g (inl q) s = rw q (let a : C * (D + (0 + B)) ≡ C * (D + B) = omega arith in omega arith)
sign-out_go l eW eG eO eI C D B g (inr q) s = rw q (let a : C * (D + (1 + B)) ≡ C + C * (D + B) = omega arith in omega arith)

sign-turn_on : (eW eG eO eI C D B g : ℕ) → (eW + eG) % 2 ≡ (eO + eI + C * (D + B)) % 2 →
    (eW + ((B + g) * 1 + eG)) % 2 ≡ ((B * 1 + eO) + (g + C + eI) + C * ((1 + D) + B)) % 2
sign-turn_on eW eG eO eI C D B g s = let a : C * ((1 + D) + B) ≡ C + C * (D + B) = omega arith in omega arith

sign-pass : (h eW eG eO eI C D B g : ℕ) → (h ≡ 0) ⊎ (h ≡ 1) → (eW + eG) % 2 ≡ (eO + eI + C * (D + B)) % 2 →
    ((h * D + eW) + ((B + g) * h + eG)) % 2 ≡ (eO + (g * h + eI) + (h + C) * (D + B)) % 2
sign-pass h eW eG eO eI C D B g (inl e) s =
    let a : (0 * D + eW) + ((B + g) * 0 + eG) ≡ eW + eG = omega arith in
    let b : eO + (g * 0 + eI) + (0 + C) * (D + B) ≡ eO + eI + C * (D + B) = omega arith in
    rw e (ap (λ n. n % 2) a ∙ s ∙ sym (ap (λ n. n % 2) b))
sign-pass h eW eG eO eI C D B g (inr e) s = rw e (let a : (1 + C) * (D + B) ≡ D + B + C * (D + B) = omega arith in omega arith)

sign-go_on : (eW eG eO eI C D B g : ℕ) → (eW + eG) % 2 ≡ (eO + eI + C * (D + B)) % 2 →
    (eW + ((B + g) + (D + C) + eG)) % 2 ≡ ((B + D + eO) + (g + C + eI) + C * (D + B)) % 2
sign-go_on eW eG eO eI C D B g s = omega arith

-- the list where the number is not 0
abbrev pub remaining : ℕ → List ℕ → List ℕ
remaining zero v = []
remaining (suc n) v = v

module _ (kind : ℕ → ℕ) (k s : ℕ) (apart : (x : ℕ) → kind x ≡ 1 → (x < k) ⊎ (k + s ≤ x)) (within : (y : ℕ) → kind y ≡ 0 → (k ≤ y) × (y < k + s)) (some : 1 ≤ s) (placed : 1 ≤ k) where
  -- 0 for k
  abbrev rezero : ℕ → ℕ
  rezero z = cond (z == k) 0 z

  not-k : (x : ℕ) → kind x ≡ 1 → x ≡ k → ⊥
  not-k x h e = elim (apart x h) [ inl l ↦ omega (arith, l, e) | inr l ↦ omega (arith, l, e, some) ]

  back : (x : ℕ) → kind x ≡ 1 → rezero (named k x) ≡ x
  back zero h = ap (λ b. cond b 0 k) (eq-eqb k k refl)
  back (suc x) h = ap (λ b. cond b 0 (suc x)) (ne_eqb (suc x) k (not-k (suc x) h))

  back-all : (u : List ℕ) → AllKind kind 1 u → Back (named k) rezero u
  back-all [] h = tt
  back-all (x ∷ u) h = (back x h.0, back-all u h.1)

  -- the order of the values
  less-low : (x y : ℕ) → kind x ≡ 1 → k ≤ y → y < k + s → less x y ≡ less x k
  less-low x y h a b = elim (apart x h) [
    | inl l ↦ less-yes x y (omega (arith, l, a)) ∙ sym (less-yes x k l)
    | inr l ↦ less-no x y (omega (arith, l, b)) ∙ sym (less-no x k (omega (arith, l)))
  ]

  pub record IsStep (u v : List ℕ) (t : List Step) : Type 0 where
    pub walk : IsWalk kind u v (walk_of t)
    pub cut_values : cut_ends (cut_of t) ≡ values (walk_of t)
    pub outer_values : cut_ends (outer_as k t) ≡ map (named k) u
    pub inner_values : cut_ends (inner_of t) ≡ remaining (occurs 0 u) v
    pub more : ((turns t ≡ 0) × (occurs 0 u ≡ 0)) ⊎ ((n : ℕ) × (turns t ≡ suc n) × (occurs 0 u ≡ 1))
    pub caesuras : caesura_count (values (walk_of t)) ≡ caesura_count u + caesura_count v
    pub low : (x : ℕ) → x ≤ k → gaps_below x (cut_of t) ≡ gaps_below x (outer_as k t)
    pub high : (x : ℕ) → k + s ≤ x → gaps_below x (cut_of t) ≡ gaps_below x (outer_as k t) + caesura_count v
    pub inside : (y : ℕ) → k ≤ y → y < k + s → gaps_below y (cut_of t) ≡ gaps_below k (outer_as k t) + gaps_below y (inner_of t)
    pub outer_face : (x : ℕ) → kind x ≡ 1 → walk_face x (cut_of t) ≡ walk_face x (outer_as k t)
    pub inner_face : (y : ℕ) → kind y ≡ 0 → walk_face y (cut_of t) ≡ walk_face y (inner_of t)
    pub positive : gaps_below 1 (outer_as k t) ≡ 0
    pub sign : (expo (walk_of t) + walk_exponent (cut_of t)) % 2
        ≡ (walk_exponent (outer_as k t) + walk_exponent (inner_of t) + caesura_count v * (caesura_count u + gaps_below k (outer_as k t))) % 2

  -- another value is not met
  skipped : (x y a : ℕ) (f : List ℕ) → (x ≡ y → ⊥) → cond (x == y) (a ∷ f) f ≡ f
  skipped x y a f n = ap (λ b. cond b (a ∷ f) f) (ne_eqb x y n)

  last-face : (z n y a : ℕ) (c : List Gap) → walk_face z (last_next n y a ∷ c) ≡ cond (z == y) (a ∷ walk_face z c) (walk_face z c)
  last-face z zero y a c = refl
  last-face z (suc n) y a c = refl

  -- the gaps of G below a value x of u
  below-value : (u v : List ℕ) (t : List Step) (x : ℕ) → kind x ≡ 1 → IsStep u v t → gaps_below x (cut_of t) ≡ gaps_below x (outer_as k t) + (1 - less x k) * caesura_count v
  below-value u v t x h w = elim (apart x h) [
    | inl l ↦ let a = w.low x (omega (arith, l)) in let b = ap (λ n. (1 - n) * caesura_count v) (less-yes x k l) in omega (arith, a, b)
    | inr l ↦ let a = w.high x l in let b = ap (λ n. (1 - n) * caesura_count v) (less-no x k (omega (arith, l))) in omega (arith, a, b)
  ]

  less-01 : (x y : ℕ) → (less x y ≡ 0) ⊎ (less x y ≡ 1)
  less-01 x zero = inl refl
  less-01 zero (suc y) = inr refl
  less-01 (suc x) (suc y) = less-01 x y

  step-out_stop : (x a : ℕ) (u v : List ℕ) (t : List Step) → kind (suc x) ≡ 1 → AllKind kind 1 u → IsStep u v t → IsStep (suc x ∷ u) v (out_stop (suc x) a ∷ t)
  step-out_stop x a u v t h ku w =
      let X : ℕ = suc x in
      let W : List ℕ = values (walk_of t) in
      let hW : occurs X W ≡ occurs X u = w.walk.outs x h in
      let hG : occurs X (cut_ends (cut_of t)) ≡ occurs X u = ap (occurs X) w.cut_values ∙ hW in
      let hO : occurs X (cut_ends (outer_as k t)) ≡ occurs X u = ap (occurs X) w.outer_values ∙ occurs-renamed (named k) rezero X u (back X h) (back-all u ku) in
      let z : occurs 0 (X ∷ u) ≡ occurs 0 u = occurs-apart 0 X u (λ e. omega (arith, e)) in
      record {
        walk = walk-out kind u v x (walk_of t) h w.walk;
        cut_values = ap (λ q. X ∷ q) w.cut_values;
        outer_values = ap (λ q. X ∷ q) w.outer_values;
        inner_values = w.inner_values ∙ ap (λ n. remaining n v) (sym z);
        more = elim w.more [ inl m ↦ inl (m.0, z ∙ m.1) | inr m ↦ inr (m.0, m.1, z ∙ m.2) ];
        caesuras = let c = w.caesuras in omega (arith, c, hW);
        low = λ y l. (λ i. less X y * (hG ∙ sym hO) i + w.low y l i);
        high = λ y l. (let q = w.high y l in let r = ap (λ n. less X y * n) (hG ∙ sym hO) in omega (arith, q, r));
        inside = λ y l m. (let q = w.inside y l m in let r : less X y * occurs X (cut_ends (cut_of t)) ≡ less X k * occurs X (cut_ends (outer_as k t)) = (λ i. less-low X y h l m i * (hG ∙ sym hO) i) in omega (arith, q, r));
        outer_face = λ z q. ap (λ f. cond (z == X) (a ∷ f) f) (w.outer_face z q);
        inner_face = λ z q. skipped z X a (walk_face z (cut_of t)) (λ e. kinds-apart kind X z h q (sym e)) ∙ w.inner_face z q;
        positive = let q = w.positive in omega (arith, q);
        sign =
            let g = below-value u v t X h w in
            (λ i. (expo (walk_of t) + (g i * hG i + walk_exponent (cut_of t))) % 2)
            ∙ sign-out_stop (occurs X u) (less X k) (expo (walk_of t)) (walk_exponent (cut_of t)) (walk_exponent (outer_as k t)) (walk_exponent (inner_of t)) (caesura_count v) (caesura_count u) (gaps_below k (outer_as k t)) (gaps_below X (outer_as k t)) (occurs-01 X u) (less-01 X k) w.sign
            ∙ (λ i. ((gaps_below X (outer_as k t) * sym hO i + walk_exponent (outer_as k t)) + walk_exponent (inner_of t) + caesura_count v * ((occurs X u + caesura_count u) + (less X k * sym hO i + gaps_below k (outer_as k t)))) % 2);
      }

  step-out_go : (x a : ℕ) (u v : List ℕ) (t : List Step) → kind (suc x) ≡ 1 → AllKind kind 1 u → IsStep (suc x ∷ u) v t → IsStep (suc x ∷ u) v (out_go (suc x) a ∷ t)
  step-out_go x a u v t h ku w =
      let X : ℕ = suc x in
      let cG : caesura_count (cut_ends (cut_of t)) ≡ caesura_count (X ∷ u) + caesura_count v = ap caesura_count w.cut_values ∙ w.caesuras in
      let cO : caesura_count (cut_ends (outer_as k t)) ≡ caesura_count (X ∷ u) = ap caesura_count w.outer_values ∙ caesuras-map (named k) rezero (X ∷ u) (back-all (X ∷ u) (h, ku)) in
      record {
        walk = w.walk;
        cut_values = w.cut_values;
        outer_values = w.outer_values;
        inner_values = w.inner_values;
        more = w.more;
        caesuras = w.caesuras;
        low = λ y l. ap (λ n. less X y + n) (w.low y l);
        high = λ y l. (let q = w.high y l in omega (arith, q));
        inside = λ y l m. (let q = w.inside y l m in let r = less-low X y h l m in omega (arith, q, r));
        outer_face = λ z q. ap (λ f. cond (z == X) (a ∷ f) f) (w.outer_face z q);
        inner_face = λ z q. skipped z X a (walk_face z (cut_of t)) (λ e. kinds-apart kind X z h q (sym e)) ∙ w.inner_face z q;
        positive = let q = w.positive in omega (arith, q);
        sign =
            let g = below-value (X ∷ u) v t X h w in
            (λ i. (expo (walk_of t) + (g i + cG i + walk_exponent (cut_of t))) % 2)
            ∙ sign-out_go (less X k) (expo (walk_of t)) (walk_exponent (cut_of t)) (walk_exponent (outer_as k t)) (walk_exponent (inner_of t)) (caesura_count v) (caesura_count (X ∷ u)) (gaps_below k (outer_as k t)) (gaps_below X (outer_as k t)) (less-01 X k) w.sign
            ∙ (λ i. ((gaps_below X (outer_as k t) + sym cO i + walk_exponent (outer_as k t)) + walk_exponent (inner_of t) + caesura_count v * (caesura_count (X ∷ u) + (less X k + gaps_below k (outer_as k t)))) % 2);
      }

  alone : (v : List ℕ) (y : ℕ) → length (y ∷ v) ≡ 1 → v ≡ []
  alone [] y e = refl
  alone (z ∷ v) y e = absurd (omega (arith, e))

  -- what is left where h tells whether a 0 is left
  step-turn : (y a : ℕ) (u v : List ℕ) (t : List Step) → kind y ≡ 0 → AllKind kind 1 u → IsStep u (y ∷ v) t → IsStep (0 ∷ u) (y ∷ v) (turn y a ∷ t)
  step-turn y a u v t h ku w =
      let i = within y h in
      let W : List ℕ = values (walk_of t) in
      let hW = waiting kind u v y (walk_of t) h w.walk in
      let hG : occurs y (cut_ends (cut_of t)) ≡ occurs 0 u = ap (occurs y) w.cut_values ∙ hW in
      let hO : occurs k (cut_ends (outer_as k t)) ≡ occurs 0 u = ap (occurs k) w.outer_values ∙ occurs-renamed (named k) rezero 0 u (ap (λ b. cond b 0 k) (eq-eqb k k refl)) (back-all u ku) in
      let low_y : (z : ℕ) → z ≤ k → less y z ≡ 0 = (λ z l. less-no y z (omega (arith, l, i.0))) in
      let walk2 = walk-next kind u v y (walk_of t) h w.walk in
      let below = w.inside y i.0 i.1 in
      let outer2 : cut_ends (outer_as k (turn y a ∷ t)) ≡ map (named k) (0 ∷ u) = ap (λ q. k ∷ q) w.outer_values in
      let self : less k k ≡ 0 = less-no k k (omega arith) in
      let gk : gaps_below k (outer_as k (turn y a ∷ t)) ≡ gaps_below k (outer_as k t) = (let q = ap (λ n. n * occurs k (cut_ends (outer_as k t))) self in omega (arith, q)) in
      let turn_outer : (z : ℕ) → kind z ≡ 1 → walk_face z (cut_of (turn y a ∷ t)) ≡ walk_face z (outer_as k (turn y a ∷ t)) =
      (λ z q. skipped z y a (walk_face z (cut_of t)) (kinds-apart kind z y q h) ∙ w.outer_face z q ∙ sym (skipped z k a (walk_face z (outer_as k t)) (not-k z q))) in
      let turn_inner : (z : ℕ) → kind z ≡ 0 → walk_face z (cut_of (turn y a ∷ t)) ≡ walk_face z (inner_of (turn y a ∷ t)) =
      (λ z q. ap (λ f. cond (z == y) (a ∷ f) f) (w.inner_face z q) ∙ sym (last-face z (turns t) y a (inner_of t))) in
      let turn_positive : gaps_below 1 (outer_as k (turn y a ∷ t)) ≡ 0 = (let p = ap (λ n. n * occurs k (cut_ends (outer_as k t))) (less-no k 1 placed) in let q = w.positive in omega (arith, p, q)) in
      elim w.more [
        | inl m ↦
            let e : v ≡ [] = alone v y (w.walk.single m.1) in
            let n : inner_of (turn y a ∷ t) ≡ last_next 0 y a ∷ inner_of t = ap (λ j. last_next j y a ∷ inner_of t) m.0 in
            let r : cut_ends (inner_of t) ≡ [] = w.inner_values ∙ ap (λ j. remaining j (y ∷ v)) m.1 in
            let gi : (z : ℕ) → gaps_below z (inner_of (turn y a ∷ t)) ≡ gaps_below z (inner_of t) = (λ z. ap (gaps_below z) n ∙ (let q = ap (λ j. less y z * occurs y j) r in omega (arith, q))) in
            let eI : walk_exponent (inner_of (turn y a ∷ t)) ≡ walk_exponent (inner_of t) = ap walk_exponent n ∙ (let q = ap (λ j. gaps_below y (inner_of t) * occurs y j) r in omega (arith, q)) in
            let zG = hG ∙ m.1 in
            let zO = hO ∙ m.1 in
            let zero_plus : 0 + caesura_count u ≡ caesura_count u = omega arith in
            record {
              walk = walk2;
              cut_values = ap (λ q. y ∷ q) w.cut_values;
              outer_values = outer2;
              inner_values = ap cut_ends n ∙ ap (λ q. y ∷ q) (r ∙ sym e) ∙ ap (λ j. remaining j (y ∷ v)) (sym (occurs-self 0 u));
              more = inr (turns t, refl, occurs-self 0 u);
              caesuras = let c = w.caesuras in omega (arith, c, hW);
              low = λ z l. (let q = w.low z l in let p = ap (λ j. j * occurs y (cut_ends (cut_of t))) (low_y z l) in let p2 = ap (λ j. j * occurs k (cut_ends (outer_as k t))) (less-no k z l) in omega (arith, q, p, p2));
              high = λ z l. (let q = w.high z l in let p = ap (λ j. less y z * j) zG in let p2 = ap (λ j. less k z * j) zO in omega (arith, q, p, p2));
              inside = λ z l l2. (let q = w.inside z l l2 in let p = ap (λ j. less y z * j) zG in let g = gi z in omega (arith, q, p, g, gk));
              outer_face = turn_outer;
              inner_face = turn_inner;
              positive = turn_positive;
              sign =
                  let q1 = ap (λ j. gaps_below y (cut_of t) * j) zG in
                  let q2 = ap (λ j. gaps_below k (outer_as k t) * j) zO in
                  let b : caesura_count (y ∷ v) * (caesura_count (0 ∷ u) + gaps_below k (outer_as k (turn y a ∷ t))) ≡ caesura_count (y ∷ v) * (caesura_count u + gaps_below k (outer_as k t)) =
                  (λ j. caesura_count (y ∷ v) * ((m.1 j + caesura_count u) + gk j)) ∙ ap (λ q. caesura_count (y ∷ v) * (q + gaps_below k (outer_as k t))) zero_plus in
                  let s0 = w.sign in
                  omega (arith, s0, q1, q2, b, eI);
            }
        | inr m ↦
            let n : inner_of (turn y a ∷ t) ≡ last_next (suc m.0) y a ∷ inner_of t = ap (λ j. last_next j y a ∷ inner_of t) m.1 in
            let r : cut_ends (inner_of t) ≡ y ∷ v = w.inner_values ∙ ap (λ j. remaining j (y ∷ v)) m.2 in
            let gi : (z : ℕ) → gaps_below z (inner_of (turn y a ∷ t)) ≡ less y z + gaps_below z (inner_of t) = (λ z. ap (gaps_below z) n) in
            let eI : walk_exponent (inner_of (turn y a ∷ t)) ≡ gaps_below y (inner_of t) + caesura_count (y ∷ v) + walk_exponent (inner_of t) = ap walk_exponent n ∙ ap (λ j. gaps_below y (inner_of t) + caesura_count j + walk_exponent (inner_of t)) r in
            let oG = hG ∙ m.2 in
            let oO = hO ∙ m.2 in
            record {
              walk = walk2;
              cut_values = ap (λ q. y ∷ q) w.cut_values;
              outer_values = outer2;
              inner_values = ap cut_ends n ∙ r ∙ ap (λ j. remaining j (y ∷ v)) (sym (occurs-self 0 u));
              more = inr (turns t, refl, occurs-self 0 u);
              caesuras = let c = w.caesuras in omega (arith, c, hW);
              low = λ z l. (let q = w.low z l in let p = ap (λ j. j * occurs y (cut_ends (cut_of t))) (low_y z l) in let p2 = ap (λ j. j * occurs k (cut_ends (outer_as k t))) (less-no k z l) in omega (arith, q, p, p2));
              high = λ z l. (
                  let q = w.high z l in
                  let p : less y z * occurs y (cut_ends (cut_of t)) ≡ 1 = (λ j. less-yes y z (let b = i.1 in omega (arith, b, l)) j * oG j) in
                  let p2 : less k z * occurs k (cut_ends (outer_as k t)) ≡ 1 = (λ j. less-yes k z (omega (arith, l, some)) j * oO j) in
                  omega (arith, q, p, p2));
              inside = λ z l l2. (let q = w.inside z l l2 in let p = ap (λ j. less y z * j) oG in let g = gi z in omega (arith, q, p, g, gk));
              outer_face = turn_outer;
              inner_face = turn_inner;
              positive = turn_positive;
              sign =
                  let s1 = sign-turn_on (expo (walk_of t)) (walk_exponent (cut_of t)) (walk_exponent (outer_as k t)) (walk_exponent (inner_of t)) (caesura_count (y ∷ v)) (caesura_count u) (gaps_below k (outer_as k t)) (gaps_below y (inner_of t)) w.sign in
                  (λ j. (expo (walk_of t) + (below j * oG j + walk_exponent (cut_of t))) % 2) ∙ s1
                  ∙ (λ j. ((gaps_below k (outer_as k t) * sym oO j + walk_exponent (outer_as k t)) + sym eI j + caesura_count (y ∷ v) * ((sym m.2 j + caesura_count u) + sym gk j)) % 2);
            }
      ]

  step-pass : (y a : ℕ) (u v : List ℕ) (t : List Step) → kind y ≡ 0 → AllKind kind 1 u → IsStep (0 ∷ u) v t → IsStep (0 ∷ u) (y ∷ v) (pass y a ∷ t)
  step-pass y a u v t h ku w =
      let i = within y h in
      let o = occurs-self 0 u in
      let hW : occurs y (values (walk_of t)) ≡ occurs y v = w.walk.ins y h ∙ ap (λ n. if_zero n 0 (occurs y v)) o in
      let hG : occurs y (cut_ends (cut_of t)) ≡ occurs y v = ap (occurs y) w.cut_values ∙ hW in
      let r : cut_ends (inner_of t) ≡ v = w.inner_values ∙ ap (λ j. remaining j v) o in
      let hI : occurs y (cut_ends (inner_of t)) ≡ occurs y v = ap (occurs y) r in
      let below = w.inside y i.0 i.1 in
      record {
        walk = walk-edge kind u v y (walk_of t) h w.walk;
        cut_values = ap (λ q. y ∷ q) w.cut_values;
        outer_values = w.outer_values;
        inner_values = ap (λ q. y ∷ q) r ∙ ap (λ j. remaining j (y ∷ v)) (sym o);
        more = w.more;
        caesuras = let c = w.caesuras in omega (arith, c, hW);
        low = λ z l. (let q = w.low z l in let p = ap (λ j. j * occurs y (cut_ends (cut_of t))) (less-no y z (omega (arith, l, i.0))) in omega (arith, q, p));
        high = λ z l. (let q = w.high z l in let p : less y z * occurs y (cut_ends (cut_of t)) ≡ 1 * occurs y v = (λ j. less-yes y z (let b = i.1 in omega (arith, b, l)) j * hG j) in omega (arith, q, p));
        inside = λ z l l2. (let q = w.inside z l l2 in let p = ap (λ j. less y z * j) (hG ∙ sym hI) in omega (arith, q, p));
        outer_face = λ z q. skipped z y a (walk_face z (cut_of t)) (kinds-apart kind z y q h) ∙ w.outer_face z q;
        inner_face = λ z q. ap (λ f. cond (z == y) (a ∷ f) f) (w.inner_face z q);
        positive = w.positive;
        sign =
            let e : expo (walk_of (pass y a ∷ t)) ≡ occurs y v * caesura_count (0 ∷ u) + expo (walk_of t) =
            (λ j. (ap (occurs y) (append-nil (values (walk_of t))) ∙ hW) j * (ap caesura_count (append-nil (ends (walk_of t)) ∙ w.walk.ending)) j + expo (walk_of t)) in
            (λ j. (e j + (below j * hG j + walk_exponent (cut_of t))) % 2)
            ∙ sign-pass (occurs y v) (expo (walk_of t)) (walk_exponent (cut_of t)) (walk_exponent (outer_as k t)) (walk_exponent (inner_of t)) (caesura_count v) (caesura_count (0 ∷ u)) (gaps_below k (outer_as k t)) (gaps_below y (inner_of t)) (occurs-01 y v) w.sign
            ∙ (λ j. (walk_exponent (outer_as k t) + (gaps_below y (inner_of t) * sym hI j + walk_exponent (inner_of t)) + (occurs y v + caesura_count v) * (caesura_count (0 ∷ u) + gaps_below k (outer_as k t))) % 2);
      }

  step-go_on : (y a : ℕ) (u v : List ℕ) (t : List Step) → kind y ≡ 0 → AllKind kind 1 (0 ∷ u) → IsStep (0 ∷ u) (y ∷ v) t → IsStep (0 ∷ u) (y ∷ v) (go_on y a ∷ t)
  step-go_on y a u v t h ku w =
      let i = within y h in
      let r : cut_ends (inner_of t) ≡ y ∷ v = w.inner_values ∙ ap (λ j. remaining j (y ∷ v)) (occurs-self 0 u) in
      let cG : caesura_count (cut_ends (cut_of t)) ≡ caesura_count (0 ∷ u) + caesura_count (y ∷ v) = ap caesura_count w.cut_values ∙ w.caesuras in
      let cO : caesura_count (cut_ends (outer_as k t)) ≡ caesura_count (0 ∷ u) = ap caesura_count w.outer_values ∙ caesuras-map (named k) rezero (0 ∷ u) (back-all (0 ∷ u) ku) in
      let cI : caesura_count (cut_ends (inner_of t)) ≡ caesura_count (y ∷ v) = ap caesura_count r in
      let below = w.inside y i.0 i.1 in
      let self : less k k ≡ 0 = less-no k k (omega arith) in
      let gk : gaps_below k (outer_as k (go_on y a ∷ t)) ≡ gaps_below k (outer_as k t) = omega (arith, self) in
      record {
        walk = w.walk;
        cut_values = w.cut_values;
        outer_values = w.outer_values;
        inner_values = w.inner_values;
        more = w.more;
        caesuras = w.caesuras;
        low = λ z l. (let q = w.low z l in let p = less-no y z (omega (arith, l, i.0)) in let p2 = less-no k z l in omega (arith, q, p, p2));
        high = λ z l. (let q = w.high z l in let p = less-yes y z (let b = i.1 in omega (arith, b, l)) in let p2 = less-yes k z (omega (arith, l, some)) in omega (arith, q, p, p2));
        inside = λ z l l2. (let q = w.inside z l l2 in omega (arith, q, self));
        outer_face = λ z q. skipped z y a (walk_face z (cut_of t)) (kinds-apart kind z y q h) ∙ w.outer_face z q ∙ sym (skipped z k a (walk_face z (outer_as k t)) (not-k z q));
        inner_face = λ z q. ap (λ f. cond (z == y) (a ∷ f) f) (w.inner_face z q);
        positive = let p = less-no k 1 placed in let q = w.positive in omega (arith, p, q);
        sign =
            (λ j. (expo (walk_of t) + (below j + cG j + walk_exponent (cut_of t))) % 2)
            ∙ sign-go_on (expo (walk_of t)) (walk_exponent (cut_of t)) (walk_exponent (outer_as k t)) (walk_exponent (inner_of t)) (caesura_count (y ∷ v)) (caesura_count (0 ∷ u)) (gaps_below k (outer_as k t)) (gaps_below y (inner_of t)) w.sign
            ∙ (λ j. ((gaps_below k (outer_as k t) + sym cO j + walk_exponent (outer_as k t)) + (gaps_below y (inner_of t) + sym cI j + walk_exponent (inner_of t)) + caesura_count (y ∷ v) * (caesura_count (0 ∷ u) + sym gk j)) % 2);
      }

  step-end : (y : ℕ) → IsStep [] (y ∷ []) []
  step-end y = record {
    walk = record { ending = refl; outs = λ x q. refl; ins = λ z q. refl; single = λ e. refl };
    cut_values = refl;
    outer_values = refl;
    inner_values = refl;
    more = inl (refl, refl);
    caesuras = refl;
    low = λ x l. refl;
    high = λ x l. refl;
    inside = λ z l m. refl;
    outer_face = λ x q. refl;
    inner_face = λ y q. refl;
    positive = refl;
    sign = refl;
  }

  -- sums over the steps whose terms agree
  pub triple-cong : (u v s0 : List ℕ) (f g : List Step → ℤ) → AllKind kind 1 u → AllKind kind 0 v → ((t : List Step) → IsStep u v t → f t ≡ g t) → triple u v s0 f ≡ triple u v s0 g
  triple-cong [] [] s0 f g ku kv h = refl
  triple-cong [] (y ∷ []) [] f g ku kv h = refl
  triple-cong [] (y ∷ []) (a ∷ []) f g ku kv h = h [] (step-end y)
  triple-cong [] (y ∷ []) (a ∷ b ∷ s0) f g ku kv h = refl
  triple-cong [] (y ∷ z ∷ v) s0 f g ku kv h = refl
  triple-cong (x ∷ u) v [] f g ku kv h = refl
  triple-cong (x ∷ u) [] (a ∷ s0) f g ku kv h = refl
  triple-cong (zero ∷ u) (y ∷ v) (a ∷ s0) f g ku kv h =
      let one = triple-cong u (y ∷ v) (a ∷ s0) (λ t. f (turn y a ∷ t)) (λ t. g (turn y a ∷ t)) ku.1 kv (λ t w. h (turn y a ∷ t) (step-turn y a u v t kv.0 ku.1 w)) in
      let two = triple-cong (zero ∷ u) v (a ∷ s0) (λ t. f (pass y a ∷ t)) (λ t. g (pass y a ∷ t)) ku kv.1 (λ t w. h (pass y a ∷ t) (step-pass y a u v t kv.0 ku.1 w)) in
      let three = triple-cong (zero ∷ u) (y ∷ v) s0 (λ t. f (go_on y a ∷ t)) (λ t. g (go_on y a ∷ t)) ku kv (λ t w. h (go_on y a ∷ t) (step-go_on y a u v t kv.0 ku w)) in
      omega (arith, ints)
  triple-cong (suc x ∷ u) (y ∷ v) (a ∷ s0) f g ku kv h =
      let one = triple-cong u (y ∷ v) (a ∷ s0) (λ t. f (out_stop (suc x) a ∷ t)) (λ t. g (out_stop (suc x) a ∷ t)) ku.1 kv (λ t w. h (out_stop (suc x) a ∷ t) (step-out_stop x a u (y ∷ v) t ku.0 ku.1 w)) in
      let two = triple-cong (suc x ∷ u) (y ∷ v) s0 (λ t. f (out_go (suc x) a ∷ t)) (λ t. g (out_go (suc x) a ∷ t)) ku kv (λ t w. h (out_go (suc x) a ∷ t) (step-out_go x a u (y ∷ v) t ku.0 ku.1 w)) in
      omega (arith, ints)

  -- the signs
  pub step-sign : (u v : List ℕ) (t : List Step) (z : ℤ) → IsStep u v t →
      signed (expo (walk_of t)) (signed (walk_exponent (cut_of t)) z)
      ≡ signed (caesura_count v * (caesura_count u + gaps_below k (outer_as k t))) (signed (walk_exponent (outer_as k t)) (signed (walk_exponent (inner_of t)) z))
  step-sign u v t z w =
      let c : ℕ = caesura_count v * (caesura_count u + gaps_below k (outer_as k t)) in
      let a : ℕ = walk_exponent (outer_as k t) in
      let b : ℕ = walk_exponent (inner_of t) in
      let e : a + b + c ≡ c + (a + b) = omega arith in
      signed-signed (expo (walk_of t)) (walk_exponent (cut_of t)) z
      ∙ signed-parity (expo (walk_of t) + walk_exponent (cut_of t)) (a + b + c) z w.sign
      ∙ ap (λ n. signed n z) e
      ∙ sym (ap (signed c) (signed-signed a b z) ∙ signed-signed c (a + b) z)
