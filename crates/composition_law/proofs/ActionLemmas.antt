-- Values, sums over walks and faces, for the value of a composition on cochains.
use Rattle.std.proofs.{Common.{◌≡◌, ℕ, zero, suc, ◌+◌, ◌-◌, ◌<◌, ◌≤◌, inl, inr, cond, ◌==◌, List, [], ◌∷◌, length, map, refl, sym, ◌∙◌, ap, arith, ℤ, ◌+ℤ◌, ◌*ℤ◌, eq-eqb, ne_eqb}, Math.IntN.*ℤ-zero, lemmas.Bool.cases_lt, lemmas.Bool.Decides.nat_tests, lemmas.Int.ints}
use Rattle.interval_cut_law.{proofs.CutsAsWalks.cut_sum-walk_sum, proofs.Walks.{walk_face, walk_sum, walk_term}, specs.Names.cut_sum}
use Rattle.signed_sum.{proofs.Names.{less-no, occurs-apart, mul-add, signed-+, signed-zero, less-yes}, specs.Names.{less, numbers_from, occurs, signed}}
use Rattle.composition_law.{specs.Surjections.{grown, lifted}, proofs.CutByCut.right-steps, proofs.CutValues.cells_as, proofs.States.AllKind, proofs.Steps.{Gap, Step, go, go_on, inner_of, out_go, out_stop, outer_of, pass, stop, triple, turn, zero_face}, proofs.Surjections.{grown-high, grown-low}}

-- ---- numbers

pub less-same : (a b c d : ℕ) → (a < b → c < d) → (b ≤ a → d ≤ c) → less c d ≡ less a b
less-same a b c d f g = elim (cases_lt a b) [
  | inl h ↦ less-yes c d (f h) ∙ sym (less-yes a b h)
  | inr h ↦ less-no c d (g h) ∙ sym (less-no a b h)
]

pub lifted-mono : (k v w : ℕ) → less (lifted k v) (lifted k w) ≡ less v w
lifted-mono k v w = less-same v w (lifted k v) (lifted k w) (λ h. omega (arith, h)) (λ h. omega (arith, h))

pub grown-mono : (k s v w : ℕ) → less (grown k s v) (grown k s w) ≡ less v w
grown-mono k s v w = less-same v w (grown k s v) (grown k s w) (λ l. grind (arith, nat_tests)) (λ l. grind (arith, nat_tests))

pub lifted-numbers : (k a n : ℕ) → map (lifted k) (numbers_from a n) ≡ numbers_from (a + (k - 1)) n
lifted-numbers k a zero = refl
lifted-numbers k a (suc n) = ap (λ w. (a + (k - 1)) ∷ w) (lifted-numbers k (suc a) n ∙ (let e : suc a + (k - 1) ≡ suc (a + (k - 1)) = omega arith in ap (λ j. numbers_from j n) e))

pub grown-numbers-low : (k s a n : ℕ) → a + n ≤ suc k → map (grown k s) (numbers_from a n) ≡ numbers_from a n
grown-numbers-low k s a zero h = refl
grown-numbers-low k s a (suc n) h = (λ i. grown-low k s a (omega (arith, h)) i ∷ grown-numbers-low k s (suc a) n (omega (arith, h)) i)

pub grown-numbers-high : (k s a n : ℕ) → k < a → map (grown k s) (numbers_from a n) ≡ numbers_from (a + (s - 1)) n
grown-numbers-high k s a zero h = refl
grown-numbers-high k s a (suc n) h =
    (λ i. grown-high k s a h i ∷ (grown-numbers-high k s (suc a) n (omega (arith, h)) ∙ (let e : suc a + (s - 1) ≡ suc (a + (s - 1)) = omega arith in ap (λ j. numbers_from j n) e)) i)

-- ---- sums

pub walk_sum-scale : (z : ℤ) (u s : List ℕ) (f : List Gap → ℤ) → walk_sum u s (λ c. z *ℤ f c) ≡ z *ℤ walk_sum u s f
walk_sum-scale z [] [] f = sym (*ℤ-zero z)
walk_sum-scale z [] (a ∷ []) f = refl
walk_sum-scale z [] (a ∷ b ∷ s) f = sym (*ℤ-zero z)
walk_sum-scale z (x ∷ u) [] f = sym (*ℤ-zero z)
walk_sum-scale z (x ∷ u) (a ∷ s) f =
    (λ i. walk_sum-scale z u (a ∷ s) (λ c. f (stop x a ∷ c)) i +ℤ walk_sum-scale z (x ∷ u) s (λ c. f (go x a ∷ c)) i)
    ∙ sym (mul-add z (walk_sum u (a ∷ s) (λ c. f (stop x a ∷ c))) (walk_sum (x ∷ u) s (λ c. f (go x a ∷ c))))

pub triple-signed : (n : ℕ) (u v s : List ℕ) (f : List Step → ℤ) → triple u v s (λ t. signed n (f t)) ≡ signed n (triple u v s f)
triple-signed n [] [] s f = sym (signed-zero n)
triple-signed n [] (y ∷ []) [] f = sym (signed-zero n)
triple-signed n [] (y ∷ []) (a ∷ []) f = refl
triple-signed n [] (y ∷ []) (a ∷ b ∷ s) f = sym (signed-zero n)
triple-signed n [] (y ∷ z ∷ v) s f = sym (signed-zero n)
triple-signed n (x ∷ u) v [] f = sym (signed-zero n)
triple-signed n (x ∷ u) [] (a ∷ s) f = sym (signed-zero n)
triple-signed n (zero ∷ u) (y ∷ v) (a ∷ s) f =
    let A : ℤ = triple u (y ∷ v) (a ∷ s) (λ t. f (turn y a ∷ t)) in
    let B : ℤ = triple (zero ∷ u) v (a ∷ s) (λ t. f (pass y a ∷ t)) in
    let C : ℤ = triple (zero ∷ u) (y ∷ v) s (λ t. f (go_on y a ∷ t)) in
    (λ i. triple-signed n u (y ∷ v) (a ∷ s) (λ t. f (turn y a ∷ t)) i +ℤ (triple-signed n (zero ∷ u) v (a ∷ s) (λ t. f (pass y a ∷ t)) i +ℤ triple-signed n (zero ∷ u) (y ∷ v) s (λ t. f (go_on y a ∷ t)) i))
    ∙ ap (λ z. signed n A +ℤ z) (sym (signed-+ n B C)) ∙ sym (signed-+ n A (B +ℤ C))
triple-signed n (suc x ∷ u) (y ∷ v) (a ∷ s) f =
    let A : ℤ = triple u (y ∷ v) (a ∷ s) (λ t. f (out_stop (suc x) a ∷ t)) in
    let B : ℤ = triple (suc x ∷ u) (y ∷ v) s (λ t. f (out_go (suc x) a ∷ t)) in
    (λ i. triple-signed n u (y ∷ v) (a ∷ s) (λ t. f (out_stop (suc x) a ∷ t)) i +ℤ triple-signed n (suc x ∷ u) (y ∷ v) s (λ t. f (out_go (suc x) a ∷ t)) i)
    ∙ sym (signed-+ n A B)

pub cut-walk : (phi : List (List ℕ) → ℤ) (r : ℕ) (w s : List ℕ) → 1 ≤ length w → 1 ≤ length s → cut_sum phi r w s ≡ walk_sum w s (walk_term phi (numbers_from 1 r))
cut-walk phi r [] s a b = absurd (omega (arith, a))
cut-walk phi r (v ∷ w) [] a b = absurd (omega (arith, b))
cut-walk phi r (v ∷ w) (x ∷ s) a b = cut_sum-walk_sum phi r v w x s

-- ---- the face of the composed value in a cut for u
module _ (kind : ℕ → ℕ) (k : ℕ) (f : ℕ → ℕ) (fz : f 0 ≡ k) (fs : (x : ℕ) → f (suc x) ≡ suc x) (apart : (x : ℕ) → kind x ≡ 1 → x ≡ k → ⊥) where
  pub record IsOuter (u : List ℕ) (g : List Gap) : Type 0 where
    pub face : walk_face k (cells_as f g) ≡ zero_face g
    pub some : occurs 0 u ≡ 1 → 1 ≤ length (zero_face g)

  met : (v x : ℕ) (c : List ℕ) → v ≡ k → cond (k == v) (x ∷ c) c ≡ x ∷ c
  met v x c e = ap (λ b. cond b (x ∷ c) c) (eq-eqb k v (sym e))

  passed-by : (v x : ℕ) (c : List ℕ) → (v ≡ k → ⊥) → cond (k == v) (x ∷ c) c ≡ c
  passed-by v x c n = ap (λ b. cond b (x ∷ c) c) (ne_eqb k v (λ e. n (sym e)))

  pub walk_sum-outer : (u s : List ℕ) (p q : List Gap → ℤ) → AllKind kind 1 u → ((g : List Gap) → IsOuter u g → p g ≡ q g) → walk_sum u s p ≡ walk_sum u s q
  walk_sum-outer [] [] p q a h = refl
  walk_sum-outer [] (x ∷ []) p q a h = h [] (record { face = refl; some = λ e. absurd (omega (arith, e)) })
  walk_sum-outer [] (x ∷ y ∷ s) p q a h = refl
  walk_sum-outer (v ∷ u) [] p q a h = refl
  walk_sum-outer (zero ∷ u) (x ∷ s) p q a h =
      let one = walk_sum-outer u (x ∷ s) (λ g. p (stop 0 x ∷ g)) (λ g. q (stop 0 x ∷ g)) a.1
      (λ g w. h (stop 0 x ∷ g) (record { face = met (f 0) x (walk_face k (cells_as f g)) fz ∙ ap (λ c. x ∷ c) w.face; some = λ e. omega arith })) in
      let two = walk_sum-outer (zero ∷ u) s (λ g. p (go 0 x ∷ g)) (λ g. q (go 0 x ∷ g)) a
      (λ g w. h (go 0 x ∷ g) (record { face = met (f 0) x (walk_face k (cells_as f g)) fz ∙ ap (λ c. x ∷ c) w.face; some = λ e. omega arith })) in
      omega (arith, ints)
  walk_sum-outer (suc v ∷ u) (x ∷ s) p q a h =
      let n : f (suc v) ≡ k → ⊥ = (λ e. apart (suc v) a.0 (sym (fs v) ∙ e)) in
      let z = occurs-apart 0 (suc v) u (λ e. omega (arith, e)) in
      let one = walk_sum-outer u (x ∷ s) (λ g. p (stop (suc v) x ∷ g)) (λ g. q (stop (suc v) x ∷ g)) a.1
      (λ g w. h (stop (suc v) x ∷ g) (record { face = passed-by (f (suc v)) x (walk_face k (cells_as f g)) n ∙ w.face; some = λ e. w.some (sym z ∙ e) })) in
      let two = walk_sum-outer (suc v ∷ u) s (λ g. p (go (suc v) x ∷ g)) (λ g. q (go (suc v) x ∷ g)) a
      (λ g w. h (go (suc v) x ∷ g) (record { face = passed-by (f (suc v)) x (walk_face k (cells_as f g)) n ∙ w.face; some = w.some })) in
      omega (arith, ints)

pub some-entry : (x : ℕ) (w : List ℕ) → occurs x w ≡ 1 → 1 ≤ length w
some-entry x [] h = absurd (omega (arith, h))
some-entry x (y ∷ w) h = omega arith

pub right-any : (u v s : List ℕ) (f : List Gap → List Gap → ℤ) → 1 ≤ length v → occurs 0 u ≡ 1 → walk_sum u s (λ g. walk_sum v (zero_face g) (λ d. f g d)) ≡ triple u v s (λ t. f (outer_of t) (inner_of t))
right-any u [] s f a h = absurd (omega (arith, a))
right-any u (y ∷ v) s f a h = right-steps u y v s f h
