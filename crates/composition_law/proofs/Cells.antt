-- The signs of the removals of an entry.
use Rattle.std.proofs.Common.{List, [], ap, arith, inl, inr, refl, suc, sym, ℕ, ◌%◌, ◌*◌, ◌++◌, ◌+◌, ◌∙◌, ◌∷◌, ◌≡◌, pos, ℤ}
use Rattle.composition_law.proofs.Walks.{Cell, edge, ends, expo_in, next, out, passed, values}
use Rattle.signed_sum.{proofs.Names.{occurs-01, occurs-before, occurs-cons, occurs-in, occurs-later, occurs-mid, occurs-more, occurs-none, occurs-other, occurs-zero, signed-parity, signed-signed, signed-zero}, specs.Names.{if_zero, occurs, unless_zero, signed}}
use Rattle.surjection_law.{proofs.PlaceLemmas.{before_last, caesura_count-in, caesura_count-out, exponent-caesura, exponent-last, place_term-some}, specs.Names.{caesura_count, caesuras_among, caesuras_before_last, place_exponent, place_term}}

-- ---- what is known of a prefix p, where the entries W and the entries U of u follow

abbrev pub Good : List Cell → List ℕ → List ℕ → Type 0
Good [] W U = Unit {0}
Good (out x ∷ p) W U = (occurs x (values p ++ W) ≡ occurs x (ends p ++ U)) × Good p W U
Good (edge y ∷ p) W U = Good p W U
Good (next y ∷ p) W U = (occurs y (values p ++ W) ≡ occurs 0 (ends p ++ U)) × Good p W U

abbrev pub GoodV : List Cell → List ℕ → List ℕ → Type 0
GoodV [] W V = Unit {0}
GoodV (out x ∷ p) W V = GoodV p W V
GoodV (edge y ∷ p) W V = (occurs y (values p ++ W) ≡ occurs y (passed p ++ V)) × GoodV p W V
GoodV (next y ∷ p) W V = GoodV p W V

abbrev pub Aligned : ℕ → ℕ → List Cell → Type 0
Aligned v a [] = Unit {0}
Aligned v a (e ∷ p) = (occurs v (values (e ∷ p)) ≡ occurs a (ends (e ∷ p))) × Aligned v a p

abbrev pub AlignedV : ℕ → List Cell → Type 0
AlignedV y [] = Unit {0}
AlignedV y (e ∷ p) = (occurs y (values (e ∷ p)) ≡ occurs y (passed (e ∷ p))) × AlignedV y p

pub aligned-here : (v a : ℕ) (p : List Cell) → Aligned v a p → occurs v (values p) ≡ occurs a (ends p)
aligned-here v a [] h = refl
aligned-here v a (e ∷ p) h = h.0

pub alignedV-here : (y : ℕ) (p : List Cell) → AlignedV y p → occurs y (values p) ≡ occurs y (passed p)
alignedV-here y [] h = refl
alignedV-here y (e ∷ p) h = h.0

-- ---- the term of a place in three cases

pub place-caesura : (p : List ℕ) (v : ℕ) (u : List ℕ) (z : ℤ) → occurs v u ≡ 1 → place_term p v u z ≡ signed (caesuras_among p (v ∷ u)) z
place-caesura p v u z n = place_term-some p v u z (occurs-later v p u n) ∙ ap (λ e. signed e z) (exponent-caesura p v u n)

pub place-last : (p : List ℕ) (v : ℕ) (u : List ℕ) (z : ℤ) → occurs v u ≡ 0 → occurs v p ≡ 1 → place_term p v u z ≡ signed (suc (caesuras_before_last p v u)) z
place-last p v u z n h =
    place_term-some p v u z (occurs-before v p u n ∙ h) ∙ ap (λ e. signed e z) (exponent-last p v u n ∙ ap suc (sym (before_last p v u)))

pub place-none : (p : List ℕ) (v : ℕ) (u : List ℕ) (z : ℤ) → occurs v u ≡ 0 → occurs v p ≡ 0 → place_term p v u z ≡ pos 0
place-none p v u z n h = ap (λ k. unless_zero k (signed (place_exponent p v u) z)) (occurs-none v p u h n)

-- terms of two places that are alike, where only the parity of the exponents counts
place-law : (P : List ℕ) (v : ℕ) (W Q : List ℕ) (a : ℕ) (U : List ℕ) (c e f : ℕ) (z : ℤ) → occurs v W ≡ occurs a U → occurs v P ≡ occurs a Q →
    (occurs v W ≡ 1 → (caesuras_among P (v ∷ W) + e) % 2 ≡ (c + (caesuras_among Q (a ∷ U) + f)) % 2) →
    (occurs v W ≡ 0 → occurs v P ≡ 1 → (suc (caesuras_before_last P v W) + e) % 2 ≡ (c + (suc (caesuras_before_last Q a U) + f)) % 2) →
    place_term P v W (signed e z) ≡ signed c (place_term Q a U (signed f z))
place-law P v W Q a U c e f z h k one last = elim (occurs-01 v W) [
  | inr q ↦ place-caesura P v W (signed e z) q ∙ moved (caesuras_among P (v ∷ W)) (caesuras_among Q (a ∷ U)) (one q) ∙ sym (ap (signed c) (place-caesura Q a U (signed f z) (sym h ∙ q)))
  | inl q ↦ elim (occurs-01 v P) [
    | inr m ↦
        place-last P v W (signed e z) q m ∙ moved (suc (caesuras_before_last P v W)) (suc (caesuras_before_last Q a U)) (last q m)
        ∙ sym (ap (signed c) (place-last Q a U (signed f z) (sym h ∙ q) (sym k ∙ m)))
    | inl m ↦ place-none P v W (signed e z) q m ∙ sym (ap (signed c) (place-none Q a U (signed f z) (sym h ∙ q) (sym k ∙ m)) ∙ signed-zero c)
  ]
]
  where
    moved : (m n : ℕ) → (m + e) % 2 ≡ (c + (n + f)) % 2 → signed m (signed e z) ≡ signed c (signed n (signed f z))
    moved m n g = signed-signed m e z ∙ signed-parity (m + e) (c + (n + f)) z g ∙ sym (ap (signed c) (signed-signed n f z) ∙ signed-signed c (n + f) z)

-- ---- an entry of u goes

u-caesura : (p : List Cell) (v a : ℕ) (W U : List ℕ) → occurs v W ≡ 1 → occurs a U ≡ 1 → Good p (v ∷ W) (a ∷ U) →
    (expo_in p (v ∷ W) (a ∷ U) + caesuras_among (values p) (v ∷ W)) % 2 ≡ (caesuras_among (ends p) (a ∷ U) + expo_in p W U) % 2
u-caesura [] v a W U h k g = refl
u-caesura (out x ∷ p) v a W U h k g = let ih = u-caesura p v a W U h k g.1 in let e = g.0 in omega arith
u-caesura (next y ∷ p) v a W U h k g = let ih = u-caesura p v a W U h k g.1 in let e = g.0 in omega arith
u-caesura (edge y ∷ p) v a W U h k g =
    let ih = u-caesura p v a W U h k g in
    let e : occurs y (values p ++ (v ∷ W)) ≡ occurs y (values p ++ W) = occurs-in y v (values p) W (occurs-later v (values p) W h) in
    let c : caesura_count (ends p ++ (a ∷ U)) ≡ suc (caesura_count (ends p ++ U)) = caesura_count-in a (ends p) U (occurs-later a (ends p) U k) in
    let b : occurs y (values p ++ (v ∷ W)) * caesura_count (ends p ++ (a ∷ U)) ≡ occurs y (values p ++ W) * suc (caesura_count (ends p ++ U)) = (λ i. e i * c i) in
    omega arith

expo-none : (p : List Cell) (v a : ℕ) (W U : List ℕ) → occurs v (values p ++ W) ≡ 0 → occurs a (ends p ++ U) ≡ 0 → expo_in p (v ∷ W) (a ∷ U) ≡ expo_in p W U
expo-none [] v a W U h k = refl
expo-none (out x ∷ p) v a W U h k = expo-none p v a W U (occurs-zero v x (values p ++ W) h).1 (occurs-zero a x (ends p ++ U) k).1
expo-none (next y ∷ p) v a W U h k = expo-none p v a W U (occurs-zero v y (values p ++ W) h).1 (occurs-zero a 0 (ends p ++ U) k).1
expo-none (edge y ∷ p) v a W U h k =
    let z = occurs-zero v y (values p ++ W) h in
    let e : occurs y (values p ++ (v ∷ W)) ≡ occurs y (values p ++ W) = occurs-other y v (values p) W (λ q. z.0 (sym q)) in
    let c = caesura_count-out a (ends p) U k in
    λ i. e i * c i + expo-none p v a W U z.1 k i

-- the caesuras before the last v, one entry more in front
pub last-one : (w v : ℕ) (p u : List ℕ) → occurs v p ≡ 1 → caesuras_before_last (w ∷ p) v u ≡ occurs w (p ++ (v ∷ u)) + caesuras_before_last p v u
last-one w v p u h = ap (λ j. if_zero j 0 (occurs w (p ++ (v ∷ u)) + caesuras_before_last p v u)) h

pub last-none : (w v : ℕ) (p u : List ℕ) → occurs v p ≡ 0 → caesuras_before_last (w ∷ p) v u ≡ 0
last-none w v p u h = ap (λ j. if_zero j 0 (occurs w (p ++ (v ∷ u)) + caesuras_before_last p v u)) h

-- an entry x of the term and z of u in front of the others
u-last-more : (x z : ℕ) (p : List Cell) (v a : ℕ) (W U : List ℕ) → occurs v W ≡ 0 → occurs a U ≡ 0 → occurs x (values p ++ (v ∷ W)) ≡ occurs z (ends p ++ (a ∷ U)) → Aligned v a p →
    (occurs v (values p) ≡ 1 → (expo_in p (v ∷ W) (a ∷ U) + caesuras_before_last (values p) v W) % 2 ≡ (caesuras_before_last (ends p) a U + expo_in p W U) % 2) →
    (expo_in p (v ∷ W) (a ∷ U) + caesuras_before_last (x ∷ values p) v W) % 2 ≡ (caesuras_before_last (z ∷ ends p) a U + expo_in p W U) % 2
u-last-more x z p v a W U h k g l f = elim (occurs-01 v (values p)) [
  | inl q ↦
      let r : occurs a (ends p) ≡ 0 = sym (aligned-here v a p l) ∙ q in
      let e = expo-none p v a W U (occurs-none v (values p) W q h) (occurs-none a (ends p) U r k) in
      let b = last-none x v (values p) W q in
      let c = last-none z a (ends p) U r in
      omega arith
  | inr q ↦
      let r : occurs a (ends p) ≡ 1 = sym (aligned-here v a p l) ∙ q in
      let ih = f q in
      let b = last-one x v (values p) W q in
      let c = last-one z a (ends p) U r in
      omega arith
]

u-last : (p : List Cell) (v a : ℕ) (W U : List ℕ) → occurs v W ≡ 0 → occurs a U ≡ 0 → occurs v (values p) ≡ 1 → Good p (v ∷ W) (a ∷ U) → Aligned v a p →
    (expo_in p (v ∷ W) (a ∷ U) + caesuras_before_last (values p) v W) % 2 ≡ (caesuras_before_last (ends p) a U + expo_in p W U) % 2
u-last [] v a W U h k m g l = absurd (omega (arith, m))
u-last (out x ∷ p) v a W U h k m g l = u-last-more x x p v a W U h k g.0 l.1 (λ q. u-last p v a W U h k q g.1 l.1)
u-last (next y ∷ p) v a W U h k m g l = u-last-more y 0 p v a W U h k g.0 l.1 (λ q. u-last p v a W U h k q g.1 l.1)
u-last (edge y ∷ p) v a W U h k m g l =
    elim (occurs-01 v (values p)) [
      | inl q ↦ absurd (let r = aligned-here v a p l.1 in let s : occurs v (y ∷ values p) ≡ occurs a (ends p) = l.0 in omega (arith, q, m, r, s))
      | inr q ↦
          let r : occurs a (ends p) ≡ 1 = sym (aligned-here v a p l.1) ∙ q in
          let ih = u-last p v a W U h k q g l.1 in
          let b = last-one y v (values p) W q in
          let e : occurs y (values p ++ (v ∷ W)) ≡ occurs y (values p ++ W) = occurs-in y v (values p) W (occurs-more v (values p) W q) in
          let c : caesura_count (ends p ++ (a ∷ U)) ≡ suc (caesura_count (ends p ++ U)) = caesura_count-in a (ends p) U (occurs-more a (ends p) U r) in
          let d : occurs y (values p ++ (v ∷ W)) * caesura_count (ends p ++ (a ∷ U)) ≡ occurs y (values p ++ W) * suc (caesura_count (ends p ++ U)) = (λ i. e i * c i) in
          omega arith
    ]

-- the term without an entry of u is a term of u without that entry
pub u-law : (p : List Cell) (v a : ℕ) (W U : List ℕ) (n : ℕ) (z : ℤ) → Good p (v ∷ W) (a ∷ U) → occurs v W ≡ occurs a U → Aligned v a p →
    place_term (values p) v W (signed (expo_in p (v ∷ W) (a ∷ U) + n) z) ≡ place_term (ends p) a U (signed (expo_in p W U + n) z)
u-law p v a W U n z g h l =
    place-law (values p) v W (ends p) a U 0 (expo_in p (v ∷ W) (a ∷ U) + n) (expo_in p W U + n) z h (aligned-here v a p l)
    (λ q. (let s = u-caesura p v a W U q (sym h ∙ q) g in omega arith))
    (λ q m. (let s = u-last p v a W U q (sym h ∙ q) m g l in omega arith))

-- ---- an entry of v goes

v-caesura : (p : List Cell) (y : ℕ) (W U V : List ℕ) → occurs y W ≡ 1 → Good p (y ∷ W) U → GoodV p (y ∷ W) (y ∷ V) →
    (expo_in p (y ∷ W) U + caesura_count U + caesuras_among (values p) (y ∷ W)) % 2 ≡ (caesura_count (ends p ++ U) + caesuras_among (passed p) (y ∷ V) + expo_in p W U) % 2
v-caesura [] y W U V h g k = omega arith
v-caesura (out x ∷ p) y W U V h g k = let ih = v-caesura p y W U V h g.1 k in let e = g.0 in omega arith
v-caesura (next x ∷ p) y W U V h g k = let ih = v-caesura p y W U V h g.1 k in let e = g.0 in omega arith
v-caesura (edge x ∷ p) y W U V h g k =
    let ih = v-caesura p y W U V h g k.1 in
    let e : occurs x (values p ++ (y ∷ W)) ≡ occurs x (values p ++ W) = occurs-in x y (values p) W (occurs-later y (values p) W h) in
    let b : occurs x (values p ++ (y ∷ W)) * caesura_count (ends p ++ U) ≡ occurs x (values p ++ W) * caesura_count (ends p ++ U) = ap (λ j. j * caesura_count (ends p ++ U)) e in
    let f = k.0 in
    omega arith

expo-noneV : (p : List Cell) (y : ℕ) (W U : List ℕ) → occurs y (values p ++ W) ≡ 0 → expo_in p (y ∷ W) U ≡ expo_in p W U
expo-noneV [] y W U h = refl
expo-noneV (out x ∷ p) y W U h = expo-noneV p y W U (occurs-zero y x (values p ++ W) h).1
expo-noneV (next x ∷ p) y W U h = expo-noneV p y W U (occurs-zero y x (values p ++ W) h).1
expo-noneV (edge x ∷ p) y W U h =
    let z = occurs-zero y x (values p ++ W) h in
    let e : occurs x (values p ++ (y ∷ W)) ≡ occurs x (values p ++ W) = occurs-other x y (values p) W (λ q. z.0 (sym q)) in
    λ i. e i * caesura_count (ends p ++ U) + expo-noneV p y W U z.1 i

v-last : (p : List Cell) (y : ℕ) (W U V : List ℕ) → occurs y W ≡ 0 → occurs y (values p) ≡ 1 → Good p (y ∷ W) U → GoodV p (y ∷ W) (y ∷ V) → AlignedV y p →
    (expo_in p (y ∷ W) U + caesuras_before_last (values p) y W) % 2 ≡ (caesura_count (ends p ++ U) + caesuras_before_last (passed p) y V + expo_in p W U) % 2
v-last [] y W U V h m g k l = absurd (omega (arith, m))
v-last (out x ∷ p) y W U V h m g k l =
    elim (occurs-01 y (values p)) [
      | inl q ↦ absurd (let r = alignedV-here y p l.1 in let s : occurs y (x ∷ values p) ≡ occurs y (passed p) = l.0 in omega (arith, q, m, r, s))
      | inr q ↦
          let ih = v-last p y W U V h q g.1 k l.1 in
          let b = last-one x y (values p) W q in
          let e = g.0 in
          omega arith
    ]
v-last (next x ∷ p) y W U V h m g k l =
    elim (occurs-01 y (values p)) [
      | inl q ↦ absurd (let r = alignedV-here y p l.1 in let s : occurs y (x ∷ values p) ≡ occurs y (passed p) = l.0 in omega (arith, q, m, r, s))
      | inr q ↦
          let ih = v-last p y W U V h q g.1 k l.1 in
          let b = last-one x y (values p) W q in
          let e = g.0 in
          omega arith
    ]
v-last (edge x ∷ p) y W U V h m g k l =
    elim (occurs-01 y (values p)) [
      | inl q ↦
          let r : occurs y (passed p) ≡ 0 = sym (alignedV-here y p l.1) ∙ q in
          let s : x ≡ y = same q in
          let n = occurs-none y (values p) W q h in
          let e = expo-noneV p y W U n in
          let c : occurs x (values p ++ (y ∷ W)) * caesura_count (ends p ++ U) ≡ 1 * caesura_count (ends p ++ U) =
          ap (λ j. j * caesura_count (ends p ++ U)) (ap (λ j. occurs j (values p ++ (y ∷ W))) s ∙ occurs-mid y (values p) W) in
          let d : occurs x (values p ++ W) * caesura_count (ends p ++ U) ≡ 0 * caesura_count (ends p ++ U) =
          ap (λ j. j * caesura_count (ends p ++ U)) (ap (λ j. occurs j (values p ++ W)) s ∙ n) in
          let b = last-none x y (values p) W q in
          let f = last-none x y (passed p) V r in
          omega arith
      | inr q ↦
          let r : occurs y (passed p) ≡ 1 = sym (alignedV-here y p l.1) ∙ q in
          let ih = v-last p y W U V h q g k.1 l.1 in
          let b = last-one x y (values p) W q in
          let f = last-one x y (passed p) V r in
          let e : occurs x (values p ++ (y ∷ W)) ≡ occurs x (values p ++ W) = occurs-in x y (values p) W (occurs-more y (values p) W q) in
          let c : occurs x (values p ++ (y ∷ W)) * caesura_count (ends p ++ U) ≡ occurs x (values p ++ W) * caesura_count (ends p ++ U) = ap (λ j. j * caesura_count (ends p ++ U)) e in
          let j = k.0 in
          omega arith
    ]
  where
    same : occurs y (values p) ≡ 0 → x ≡ y
    same q = elim (occurs-cons y x (values p)) [ inl e ↦ sym e | inr e ↦ absurd (omega (arith, e, q, m)) ]

-- the term without an entry of v is a term of v without that entry
pub v-law : (p : List Cell) (y : ℕ) (W U V : List ℕ) (n : ℕ) (z : ℤ) → Good p (y ∷ W) U → GoodV p (y ∷ W) (y ∷ V) → occurs y W ≡ occurs y V → AlignedV y p →
    place_term (values p) y W (signed (expo_in p (y ∷ W) U + (occurs y W * caesura_count U + n)) z) ≡ signed (caesura_count (ends p ++ U)) (place_term (passed p) y V (signed (expo_in p W U + n) z))
v-law p y W U V n z g k h l =
    place-law (values p) y W (passed p) y V (caesura_count (ends p ++ U)) (expo_in p (y ∷ W) U + (occurs y W * caesura_count U + n)) (expo_in p W U + n) z h (alignedV-here y p l)
    (λ q. (let s = v-caesura p y W U V q g k in let b : occurs y W * caesura_count U ≡ 1 * caesura_count U = ap (λ j. j * caesura_count U) q in omega arith))
    (λ q m. (let s = v-last p y W U V q m g k l in let b : occurs y W * caesura_count U ≡ 0 * caesura_count U = ap (λ j. j * caesura_count U) q in omega arith))
