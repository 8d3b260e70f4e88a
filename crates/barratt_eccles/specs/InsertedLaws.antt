-- A permutation in the place of a value of another is a permutation.
use Rattle.std.{proofs.Common.{◌≡◌, ℕ, ◌+◌, ◌-◌, ◌<◌, ◌≤◌, ◌≢◌, ◌⊎◌, cond, List, [], ◌∷◌, ◌++◌, length, map, refl, sym, ap, ◌∙◌, inl, inr, arith}, specs.Prelude.{flat_map, nat_lt}, proofs.lemmas.Bool.{cases_Bool, cases_eq, eq-eqb, ne_eqb}, proofs.lemmas.Bool.Decides.nat_tests}
use Rattle.signed_sum.{specs.Names.{IsDistinct, numbers_from, occurs}, proofs.Names.{occurs-01, occurs-later, occurs-more, occurs-none, occurs-range, occurs-self, occurs-tail, range-in, range-out}}
use Rattle.table_reduction_law.{proofs.Permutations.map-in, proofs.ReductionBoundary.permutation-length, specs.Names.IsPermutationOf}
use Rattle.composition_law.specs.Tuples.{inserted, replaced}

-- ---- lists that are put together from lists
occurs-either : (z : ℕ) (a b : List ℕ) → occurs z (a ++ b) ≡ 1 → (occurs z a ≡ 1) ⊎ (occurs z b ≡ 1)
occurs-either z [] b o = inr o
occurs-either z (x ∷ a) b o = elim (cases_eq z x) [
  | inl e ↦ inl (rw (eq-eqb z x e) refl)
  | inr n ↦ rw (ne_eqb z x n) (occurs-either z a b (rw (ne_eqb z x n) at o))
]

distinct-append : (a b : List ℕ) → IsDistinct a → IsDistinct b → ((z : ℕ) → occurs z a ≡ 1 → occurs z b ≡ 0) → IsDistinct (a ++ b)
distinct-append [] b d e n = e
distinct-append (x ∷ a) b d e n = (occurs-none x a b d.0 (n x (occurs-self x a)), distinct-append a b d.1 e (λ z o. n z (occurs-tail z x a o)))

module _ (f : ℕ → List ℕ) where
  spread-has : (z x : ℕ) (w : List ℕ) → occurs x w ≡ 1 → occurs z (f x) ≡ 1 → occurs z (flat_map f w) ≡ 1
  spread-has z x [] o p = absurd (omega (arith, o))
  spread-has z x (y ∷ w) o p = elim (cases_eq x y) [
    | inl e ↦ occurs-more z (f y) (flat_map f w) (ap (λ v. occurs z (f v)) (sym e) ∙ p)
    | inr n ↦ occurs-later z (f y) (flat_map f w) (spread-has z x w (rw (ne_eqb x y n) at o) p)
  ]

  spread-from : (z : ℕ) (w : List ℕ) → occurs z (flat_map f w) ≡ 1 → (x : ℕ) × (occurs x w ≡ 1) × (occurs z (f x) ≡ 1)
  spread-from z [] o = absurd (omega (arith, o))
  spread-from z (y ∷ w) o = elim (occurs-either z (f y) (flat_map f w) o) [
    | inl p ↦ (y, occurs-self y w, p)
    | inr p ↦ let q = spread-from z w p in (q.0, occurs-tail q.0 y w q.1, q.2)
  ]

  -- `source` tells from which entry each value comes
  spread-distinct : (source : ℕ → ℕ) (w : List ℕ) → IsDistinct w → ((x : ℕ) → occurs x w ≡ 1 → IsDistinct (f x)) →
      ((x z : ℕ) → occurs x w ≡ 1 → occurs z (f x) ≡ 1 → source z ≡ x) → IsDistinct (flat_map f w)
  spread-distinct source [] d e s = tt
  spread-distinct source (y ∷ w) d e s =
      distinct-append (f y) (flat_map f w) (e y (occurs-self y w)) (spread-distinct source w d.1 (λ x o. e x (occurs-tail x y w o)) (λ x z o. s x z (occurs-tail x y w o))) apart
    where
      apart : (z : ℕ) → occurs z (f y) ≡ 1 → occurs z (flat_map f w) ≡ 0
      apart z o = elim (occurs-01 z (flat_map f w)) [
        | inl n ↦ n
        | inr p ↦
            let q = spread-from z w p in
            let same : q.0 ≡ y = sym (s q.0 z (occurs-tail q.0 y w q.1) q.2) ∙ s y z (occurs-self y w) o in
            absurd (let k : occurs y w ≡ 1 = ap (λ v. occurs v w) (sym same) ∙ q.1 in let n = d.0 in omega arith)
      ]

occurs-shift : (c z : ℕ) (v : List ℕ) → occurs (z + c) (map (λ y. y + c) v) ≡ occurs z v
occurs-shift c z [] = refl
occurs-shift c z (y ∷ v) = grind (arith, nat_tests, occurs-shift c z v)

distinct-shift : (c : ℕ) (v : List ℕ) → IsDistinct v → IsDistinct (map (λ y. y + c) v)
distinct-shift c [] d = tt
distinct-shift c (y ∷ v) d = (occurs-shift c y v ∙ d.0, distinct-shift c v d.1)

-- ---- what stands for a value
replaced-here : (k : ℕ) (v : List ℕ) (x : ℕ) → x ≡ k → replaced k v x ≡ map (λ y. y + (k - 1)) v
replaced-here k v x e = rw (eq-eqb x k e) refl

replaced-below : (k : ℕ) (v : List ℕ) (x : ℕ) → x < k → replaced k v x ≡ x ∷ []
replaced-below k v x h = grind (arith, nat_tests, h)

replaced-above : (k : ℕ) (v : List ℕ) (x : ℕ) → k < x → replaced k v x ≡ (x + (length v - 1)) ∷ []
replaced-above k v x h = grind (arith, nat_tests, h)

shift-has : (c z : ℕ) (v : List ℕ) → occurs z (map (λ y. y + c) v) ≡ 1 → (y : ℕ) × (occurs y v ≡ 1) × (z ≡ y + c)
shift-has c z [] o = absurd (omega (arith, o))
shift-has c z (y ∷ v) o = elim (cases_eq z (y + c)) [
  | inl e ↦ (y, occurs-self y v, e)
  | inr n ↦ let q = shift-has c z v (rw (ne_eqb z (y + c) n) at o) in (q.0, occurs-tail q.0 y v q.1, q.2)
]

one-has : (z x : ℕ) → occurs z (x ∷ []) ≡ 1 → z ≡ x
one-has z x o = elim (cases_eq z x) [ inl e ↦ e | inr n ↦ absurd (let k : 0 ≡ 1 = rw (ne_eqb z x n) at o in omega arith) ]

one-apart : (x k : ℕ) → (x ≡ k) ⊎ ((x < k) ⊎ (k < x))
one-apart x k = elim (cases_eq x k) [
  | inl e ↦ inl e
  | inr n ↦ elim (cases_Bool (nat_lt x k)) [ inl t ↦ inr (inl (grind (arith, t))) | inr t ↦ inr (inr (grind (arith, t))) ]
]

-- from which value of w a value of w ∘_k v comes, where v has s values
abbrev source : ℕ → ℕ → ℕ → ℕ
source k s z = cond (nat_lt z k) z (cond (nat_lt z (k + s)) k (z - (s - 1)))

source-below : (k s z : ℕ) → z < k → source k s z ≡ z
source-below k s z h = grind (arith, nat_tests, h)

source-here : (k s z : ℕ) → k ≤ z → z < k + s → source k s z ≡ k
source-here k s z g h = grind (arith, nat_tests, g, h)

source-above : (k s z : ℕ) → 1 ≤ s → k + s ≤ z → source k s z ≡ z - (s - 1)
source-above k s z p g = grind (arith, nat_tests, p, g)

module _ (k r s : ℕ) (w v : List ℕ) (a : 1 ≤ k) (b : k ≤ r) (p : 1 ≤ s) (pw : IsPermutationOf r w) (pv : IsPermutationOf s v) where
  size : length v ≡ s
  size = permutation-length s v pv

  in-outer : (x : ℕ) → occurs x w ≡ 1 → (1 ≤ x) × (x < 1 + r)
  in-outer x o = range-out x 1 r (sym (pw.onto x) ∙ o)

  in-inner : (y : ℕ) → occurs y v ≡ 1 → (1 ≤ y) × (y < 1 + s)
  in-inner y o = range-out y 1 s (sym (pv.onto y) ∙ o)

  replaced-values : (x z : ℕ) → occurs x w ≡ 1 → occurs z (replaced k v x) ≡ 1 → (source k s z ≡ x) × ((1 ≤ z) × (z < r + s))
  replaced-values x z o q =
      let i = in-outer x o in
      elim (one-apart x k) [
        | inl e ↦
            let t = shift-has (k - 1) z v (rw (replaced-here k v x e) at q) in
            let j = in-inner t.0 t.1 in
            (source-here k s z (omega (arith, t.2, j.0)) (omega (arith, t.2, j.1)) ∙ sym e, (omega (arith, t.2, j.0), omega (arith, t.2, j.1)))
        | inr n ↦ elim n [
          | inl h ↦
              let t : z ≡ x = one-has z x (rw (replaced-below k v x h) at q) in
              (source-below k s z (omega arith) ∙ t, (omega (arith, i.0), omega (arith, i.1)))
          | inr h ↦
              let t : z ≡ x + (length v - 1) = one-has z (x + (length v - 1)) (rw (replaced-above k v x h) at q) in
              let l = size in
              (source-above k s z p (omega arith) ∙ omega arith, (omega (arith, i.0), omega (arith, i.1)))
        ]
      ]

  has-inner : (x : ℕ) → occurs x w ≡ 1 → IsDistinct (replaced k v x)
  has-inner x o = elim (one-apart x k) [
    | inl e ↦ rw (replaced-here k v x e) (distinct-shift (k - 1) v pv.distinct)
    | inr n ↦ elim n [ inl h ↦ rw (replaced-below k v x h) (refl, tt) | inr h ↦ rw (replaced-above k v x h) (refl, tt) ]
  ]

  has-value : (x : ℕ) → 1 ≤ x → x ≤ r → occurs x w ≡ 1
  has-value x g h = pw.onto x ∙ range-in x 1 r g (omega arith)

  reaches : (z : ℕ) → 1 ≤ z → z < r + s → occurs z (inserted k w v) ≡ 1
  reaches z g h = elim (cases_Bool (nat_lt z k)) [
    | inl t ↦
        let low : z < k = grind (arith, t) in
        spread-has (replaced k v) z z w (has-value z g (omega arith)) (rw (replaced-below k v z low) (occurs-self z []))
    | inr t ↦
        let high : k ≤ z = grind (arith, t) in
        elim (cases_Bool (nat_lt z (k + s))) [
          | inl u ↦
              let low : z < k + s = grind (arith, u) in
              let y : ℕ = z - (k - 1) in
              let e : y + (k - 1) ≡ z = omega arith in
              let there : occurs y v ≡ 1 = pv.onto y ∙ range-in y 1 s (omega arith) (omega arith) in
              spread-has (replaced k v) z k w (has-value k a b) (rw (replaced-here k v k refl) (ap (λ c. occurs c (map (λ u. u + (k - 1)) v)) (sym e) ∙ map-in (λ u. u + (k - 1)) y v there))
          | inr u ↦
              let above : k + s ≤ z = grind (arith, u) in
              let x : ℕ = z - (s - 1) in
              let l = size in
              let e : x + (length v - 1) ≡ z = omega arith in
              let m : k < x = omega arith in
              spread-has (replaced k v) z x w (has-value x (omega arith) (omega arith)) (rw (replaced-above k v x m) (ap (λ c. occurs c ((x + (length v - 1)) ∷ [])) (sym e) ∙ occurs-self (x + (length v - 1)) []))
        ]
  ]

  pub inserted-permutation : IsPermutationOf (r + s - 1) (inserted k w v)
  inserted-permutation = record {
    distinct = spread-distinct (replaced k v) (source k s) w pw.distinct has-inner (λ x z o q. (replaced-values x z o q).0);
    onto = occurs-range 1 (r + s - 1) (inserted k w v)
        (λ z o. let q = spread-from (replaced k v) z w o in let i = (replaced-values q.0 z q.1 q.2).1 in (i.0, omega (arith, i.1)))
        (λ z g h. reaches z g (omega (arith, h)));
  }
