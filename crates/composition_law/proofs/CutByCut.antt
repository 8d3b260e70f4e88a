-- A cut for a term of a composition is a list of steps, and so is a cut for u with a cut of its face for v.
use Rattle.std.proofs.{Common.{◌≡◌, ℕ, zero, suc, List, [], ◌∷◌, refl, sym, ◌∙◌, ap, arith, inl, inr, ℤ, pos, ◌+ℤ◌}, lemmas.Int.ints}
use Rattle.interval_cut_law.proofs.{WalkSums.{walk_sum-sum, walk_sum-zero}, Walks.walk_sum}
use Rattle.signed_sum.{proofs.Names.{occurs-01, occurs-apart, occurs-self}, specs.Names.occurs}
use Rattle.composition_law.proofs.{Steps.{Gap, Step, cut_of, go, go_on, inner_of, last_next, out_go, out_stop, outer_of, pass, stop, triple, turn, turns, zero_face}, Walks.{Cell, edge, next, out, values, walks, walks-sum, walks-zero}}

-- the walk of the composition, and the cut for its term
abbrev pub walk_of : List Step → List Cell
walk_of [] = []
walk_of (out_stop x a ∷ t) = out x ∷ walk_of t
walk_of (out_go x a ∷ t) = walk_of t
walk_of (turn y a ∷ t) = next y ∷ walk_of t
walk_of (pass y a ∷ t) = edge y ∷ walk_of t
walk_of (go_on y a ∷ t) = walk_of t

walk_sum-nothing : (u : List ℕ) (f : List Gap → ℤ) → walk_sum u [] f ≡ pos 0
walk_sum-nothing [] f = refl
walk_sum-nothing (x ∷ u) f = refl

pub left-steps : (u v s : List ℕ) (f : List Cell → List Gap → ℤ) → walks u v (λ c. walk_sum (values c) s (λ g. f c g)) ≡ triple u v s (λ t. f (walk_of t) (cut_of t))
left-steps [] [] s f = refl
left-steps [] (y ∷ []) [] f = refl
left-steps [] (y ∷ []) (a ∷ []) f = refl
left-steps [] (y ∷ []) (a ∷ b ∷ s) f = refl
left-steps [] (y ∷ z ∷ v) s f = refl
left-steps (x ∷ u) v [] f = ap (λ h. walks (x ∷ u) v h) (λ i c. walk_sum-nothing (values c) (λ g. f c g) i) ∙ walks-zero (x ∷ u) v
left-steps (x ∷ u) [] (a ∷ s) f = refl
left-steps (zero ∷ u) (y ∷ v) (a ∷ s) f =
    let a1 = walks-sum u (y ∷ v) (λ c. walk_sum (values c) (a ∷ s) (λ g. f (next y ∷ c) (stop y a ∷ g))) (λ c. walk_sum (y ∷ values c) s (λ g. f (next y ∷ c) (go y a ∷ g))) in
    let a2 = walks-sum (0 ∷ u) v (λ c. walk_sum (values c) (a ∷ s) (λ g. f (edge y ∷ c) (stop y a ∷ g))) (λ c. walk_sum (y ∷ values c) s (λ g. f (edge y ∷ c) (go y a ∷ g))) in
    let i1 = left-steps u (y ∷ v) (a ∷ s) (λ c g. f (next y ∷ c) (stop y a ∷ g)) in
    let i2 = left-steps (0 ∷ u) v (a ∷ s) (λ c g. f (edge y ∷ c) (stop y a ∷ g)) in
    let i3 = left-steps (0 ∷ u) (y ∷ v) s (λ c g. f c (go y a ∷ g)) in
    omega (arith, ints)
left-steps (suc x ∷ u) (y ∷ v) (a ∷ s) f =
    let a1 = walks-sum u (y ∷ v) (λ c. walk_sum (values c) (a ∷ s) (λ g. f (out (suc x) ∷ c) (stop (suc x) a ∷ g))) (λ c. walk_sum (suc x ∷ values c) s (λ g. f (out (suc x) ∷ c) (go (suc x) a ∷ g))) in
    let i1 = left-steps u (y ∷ v) (a ∷ s) (λ c g. f (out (suc x) ∷ c) (stop (suc x) a ∷ g)) in
    let i3 = left-steps (suc x ∷ u) (y ∷ v) s (λ c g. f c (go (suc x) a ∷ g)) in
    omega (arith, ints)

-- a cut for u, and a cut of its face

skip : (x : ℕ) (u : List ℕ) → occurs 0 (suc x ∷ u) ≡ occurs 0 u
skip x u = occurs-apart 0 (suc x) u (λ e. omega (arith, e))

-- where no zero stands in u the face is empty
no-face : (u s : List ℕ) (f : List Gap → List ℕ → ℤ) → occurs 0 u ≡ 0 → walk_sum u s (λ g. f g (zero_face g)) ≡ walk_sum u s (λ g. f g [])
no-face [] [] f h = refl
no-face [] (a ∷ []) f h = refl
no-face [] (a ∷ b ∷ s) f h = refl
no-face (x ∷ u) [] f h = refl
no-face (zero ∷ u) (a ∷ s) f h = absurd (let k = occurs-self 0 u in omega (arith, h, k))
no-face (suc x ∷ u) (a ∷ s) f h =
    let i = no-face u (a ∷ s) (λ g V. f (stop (suc x) a ∷ g) V) (sym (skip x u) ∙ h) in
    let j = no-face (suc x ∷ u) s (λ g V. f (go (suc x) a ∷ g) V) h in
    omega (arith, ints)

-- and else it is not
some-face : (u s : List ℕ) (f : List Gap → List ℕ → ℤ) → occurs 0 u ≡ 1 → ((g : List Gap) (b : ℕ) (V : List ℕ) → f g (b ∷ V) ≡ pos 0) → walk_sum u s (λ g. f g (zero_face g)) ≡ pos 0
some-face [] s f h z = absurd (omega (arith, h))
some-face (x ∷ u) [] f h z = refl
some-face (zero ∷ u) (a ∷ s) f h z =
    let i = ap (λ k. walk_sum u (a ∷ s) k) (λ i g. z (stop 0 a ∷ g) a (zero_face g) i) ∙ walk_sum-zero u (a ∷ s) in
    let j = ap (λ k. walk_sum (0 ∷ u) s k) (λ i g. z (go 0 a ∷ g) a (zero_face g) i) ∙ walk_sum-zero (0 ∷ u) s in
    omega (arith, ints)
some-face (suc x ∷ u) (a ∷ s) f h z =
    let i = some-face u (a ∷ s) (λ g V. f (stop (suc x) a ∷ g) V) (sym (skip x u) ∙ h) (λ g b V. z (stop (suc x) a ∷ g) b V) in
    let j = some-face (suc x ∷ u) s (λ g V. f (go (suc x) a ∷ g) V) h (λ g b V. z (go (suc x) a ∷ g) b V) in
    omega (arith, ints)

-- where a zero stands in u, a piece ends
some-turn : (u v s : List ℕ) (f : ℕ → List Step → ℤ) (k : List Step → ℤ) → occurs 0 u ≡ 1 → ((n : ℕ) (t : List Step) → f (suc n) t ≡ k t) → triple u v s (λ t. f (turns t) t) ≡ triple u v s k
some-turn [] v s f k h e = absurd (omega (arith, h))
some-turn (x ∷ u) v [] f k h e = refl
some-turn (x ∷ u) [] (a ∷ s) f k h e = refl
some-turn (zero ∷ u) (y ∷ v) (a ∷ s) f k h e =
    let i1 = ap (λ j. triple u (y ∷ v) (a ∷ s) j) (λ i t. e (turns t) (turn y a ∷ t) i) in
    let i2 = some-turn (0 ∷ u) v (a ∷ s) (λ n t. f n (pass y a ∷ t)) (λ t. k (pass y a ∷ t)) h (λ n t. e n (pass y a ∷ t)) in
    let i3 = some-turn (0 ∷ u) (y ∷ v) s (λ n t. f n (go_on y a ∷ t)) (λ t. k (go_on y a ∷ t)) h (λ n t. e n (go_on y a ∷ t)) in
    omega (arith, ints)
some-turn (suc x ∷ u) (y ∷ v) (a ∷ s) f k h e =
    let i1 = some-turn u (y ∷ v) (a ∷ s) (λ n t. f n (out_stop (suc x) a ∷ t)) (λ t. k (out_stop (suc x) a ∷ t)) (sym (skip x u) ∙ h) (λ n t. e n (out_stop (suc x) a ∷ t)) in
    let i3 = some-turn (suc x ∷ u) (y ∷ v) s (λ n t. f n (out_go (suc x) a ∷ t)) (λ t. k (out_go (suc x) a ∷ t)) h (λ n t. e n (out_go (suc x) a ∷ t)) in
    omega (arith, ints)

-- entries of u alone
outs-steps : (u : List ℕ) (y : ℕ) (s : List ℕ) (f : List Gap → ℕ → List Gap → ℤ) → occurs 0 u ≡ 0 → walk_sum u s (λ g. f g 0 []) ≡ triple u (y ∷ []) s (λ t. f (outer_of t) (turns t) (inner_of t))
outs-steps [] y [] f h = refl
outs-steps [] y (a ∷ []) f h = refl
outs-steps [] y (a ∷ b ∷ s) f h = refl
outs-steps (x ∷ u) y [] f h = refl
outs-steps (zero ∷ u) y (a ∷ s) f h = absurd (let k = occurs-self 0 u in omega (arith, h, k))
outs-steps (suc x ∷ u) y (a ∷ s) f h =
    let i = outs-steps u y (a ∷ s) (λ g n d. f (stop (suc x) a ∷ g) n d) (sym (skip x u) ∙ h) in
    let j = outs-steps (suc x ∷ u) y s (λ g n d. f (go (suc x) a ∷ g) n d) h in
    omega (arith, ints)

dead-steps : (u : List ℕ) (y z : ℕ) (v s : List ℕ) (f : List Step → ℤ) → occurs 0 u ≡ 0 → triple u (y ∷ z ∷ v) s f ≡ pos 0
dead-steps [] y z v s f h = refl
dead-steps (x ∷ u) y z v [] f h = refl
dead-steps (zero ∷ u) y z v (a ∷ s) f h = absurd (let k = occurs-self 0 u in omega (arith, h, k))
dead-steps (suc x ∷ u) y z v (a ∷ s) f h =
    let i = dead-steps u y z v (a ∷ s) (λ t. f (out_stop (suc x) a ∷ t)) (sym (skip x u) ∙ h) in
    let j = dead-steps (suc x ∷ u) y z v s (λ t. f (out_go (suc x) a ∷ t)) h in
    omega (arith, ints)

pub right-steps : (u : List ℕ) (y : ℕ) (v s : List ℕ) (f : List Gap → List Gap → ℤ) → occurs 0 u ≡ 1 → walk_sum u s (λ g. walk_sum (y ∷ v) (zero_face g) (λ d. f g d)) ≡ triple u (y ∷ v) s (λ t. f (outer_of t) (inner_of t))
right-steps [] y v s f h = absurd (omega (arith, h))
right-steps (x ∷ u) y v [] f h = refl
right-steps (suc x ∷ u) y v (a ∷ s) f h =
    let i = right-steps u y v (a ∷ s) (λ g d. f (stop (suc x) a ∷ g) d) (sym (skip x u) ∙ h) in
    let j = right-steps (suc x ∷ u) y v s (λ g d. f (go (suc x) a ∷ g) d) h in
    omega (arith, ints)
right-steps (zero ∷ u) y [] (a ∷ s) f h =
    let s1 = walk_sum-sum u (a ∷ s) (λ g. walk_sum [] (a ∷ zero_face g) (λ d. f (stop 0 a ∷ g) (stop y a ∷ d))) (λ g. walk_sum (y ∷ []) (zero_face g) (λ d. f (stop 0 a ∷ g) (go y a ∷ d))) in
    let s2 = walk_sum-sum (0 ∷ u) s (λ g. walk_sum [] (a ∷ zero_face g) (λ d. f (go 0 a ∷ g) (stop y a ∷ d))) (λ g. walk_sum (y ∷ []) (zero_face g) (λ d. f (go 0 a ∷ g) (go y a ∷ d))) in
    let i3 = right-steps (0 ∷ u) y [] s (λ g d. f (go 0 a ∷ g) (go y a ∷ d)) h in
    let n = some-face (0 ∷ u) s (λ g V. walk_sum [] (a ∷ V) (λ d. f (go 0 a ∷ g) (stop y a ∷ d))) h (λ g b V. refl) in
    let e : walk_sum u (a ∷ s) (λ g. walk_sum [] (a ∷ zero_face g) (λ d. f (stop 0 a ∷ g) (stop y a ∷ d))) +ℤ walk_sum u (a ∷ s) (λ g. walk_sum (y ∷ []) (zero_face g) (λ d. f (stop 0 a ∷ g) (go y a ∷ d)))
    ≡ triple u (y ∷ []) (a ∷ s) (λ t. f (stop 0 a ∷ outer_of t) (last_next (turns t) y a ∷ inner_of t)) =
    elim (occurs-01 0 u) [
      | inl z ↦
          let p = no-face u (a ∷ s) (λ g V. walk_sum [] (a ∷ V) (λ d. f (stop 0 a ∷ g) (stop y a ∷ d))) z in
          let q = no-face u (a ∷ s) (λ g V. walk_sum (y ∷ []) V (λ d. f (stop 0 a ∷ g) (go y a ∷ d))) z ∙ walk_sum-zero u (a ∷ s) in
          let r = outs-steps u y (a ∷ s) (λ g n d. f (stop 0 a ∷ g) (last_next n y a ∷ d)) z in
          omega (arith, ints)
      | inr z ↦
          let p = some-face u (a ∷ s) (λ g V. walk_sum [] (a ∷ V) (λ d. f (stop 0 a ∷ g) (stop y a ∷ d))) z (λ g b V. refl) in
          let q = right-steps u y [] (a ∷ s) (λ g d. f (stop 0 a ∷ g) (go y a ∷ d)) z in
          let r = some-turn u (y ∷ []) (a ∷ s) (λ n t. f (stop 0 a ∷ outer_of t) (last_next n y a ∷ inner_of t)) (λ t. f (stop 0 a ∷ outer_of t) (go y a ∷ inner_of t)) z (λ n t. refl) in
          omega (arith, ints)
    ] in
    omega (arith, ints)
right-steps (zero ∷ u) y (w ∷ v) (a ∷ s) f h =
    let s1 = walk_sum-sum u (a ∷ s) (λ g. walk_sum (w ∷ v) (a ∷ zero_face g) (λ d. f (stop 0 a ∷ g) (stop y a ∷ d))) (λ g. walk_sum (y ∷ w ∷ v) (zero_face g) (λ d. f (stop 0 a ∷ g) (go y a ∷ d))) in
    let s2 = walk_sum-sum (0 ∷ u) s (λ g. walk_sum (w ∷ v) (a ∷ zero_face g) (λ d. f (go 0 a ∷ g) (stop y a ∷ d))) (λ g. walk_sum (y ∷ w ∷ v) (zero_face g) (λ d. f (go 0 a ∷ g) (go y a ∷ d))) in
    let i2 = right-steps (0 ∷ u) w v (a ∷ s) (λ g d. f g (stop y a ∷ d)) h in
    let i3 = right-steps (0 ∷ u) y (w ∷ v) s (λ g d. f (go 0 a ∷ g) (go y a ∷ d)) h in
    let e : walk_sum u (a ∷ s) (λ g. walk_sum (y ∷ w ∷ v) (zero_face g) (λ d. f (stop 0 a ∷ g) (go y a ∷ d))) ≡ triple u (y ∷ w ∷ v) (a ∷ s) (λ t. f (stop 0 a ∷ outer_of t) (last_next (turns t) y a ∷ inner_of t)) =
    elim (occurs-01 0 u) [
      | inl z ↦
          let q = no-face u (a ∷ s) (λ g V. walk_sum (y ∷ w ∷ v) V (λ d. f (stop 0 a ∷ g) (go y a ∷ d))) z ∙ walk_sum-zero u (a ∷ s) in
          let r = dead-steps u y w v (a ∷ s) (λ t. f (stop 0 a ∷ outer_of t) (last_next (turns t) y a ∷ inner_of t)) z in
          omega (arith, ints)
      | inr z ↦
          let q = right-steps u y (w ∷ v) (a ∷ s) (λ g d. f (stop 0 a ∷ g) (go y a ∷ d)) z in
          let r = some-turn u (y ∷ w ∷ v) (a ∷ s) (λ n t. f (stop 0 a ∷ outer_of t) (last_next n y a ∷ inner_of t)) (λ t. f (stop 0 a ∷ outer_of t) (go y a ∷ inner_of t)) z (λ n t. refl) in
          omega (arith, ints)
    ] in
    omega (arith, ints)
