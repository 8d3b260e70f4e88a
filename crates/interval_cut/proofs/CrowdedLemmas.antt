-- A value that comes too often leaves no cut live.
use Rattle.std.{proofs.Common.{◌≡◌, ℕ, zero, suc, ◌+◌, ◌*◌, ◌≤◌, ◌<◌, Bool, true, false, ◌&&◌, ◌||◌, not, ◌==◌, cond, nat_lt, if◌then◌else◌, min, ◌^◌, List, [], ◌∷◌, ◌++◌, length, refl, sym, ◌∙◌, ap, subst, inl, inr, arith, eq-eqb, ne_eqb}, proofs.lemmas.Bool.{and_right, cases_eq}}
use Rattle.signed_sum.{specs.Names.{is_degenerate, numbers_from, occurs}, proofs.Names.range-in}
use Rattle.linear_law.{specs.Names.Each, proofs.Names.each_map}
use Rattle.surjection_law.specs.Names.{arity, caesura_count}
use Rattle.interval_cut_law.{specs.Names.{IsCut, IsCutFrom, cut_face, cut_faces, cuts, is_live, live_count_among}, proofs.CutOrder.cut_order_law}
use Rattle.interval_cut.{specs.Names.{capped_count, counted_live, is_live_cut, live_top, times}, proofs.LiveFaceLemmas.{live-none, size-least, times-here, times-other}}

-- ---- a value that comes is at most the arity

arity-there : (v : ℕ) (u : List ℕ) → 0 < times v u → v ≤ arity u
arity-there v [] h = absurd (omega arith)
arity-there v (w ∷ u) h = elim (cases_eq w v) [
  | inl e ↦ omega (arith, e)
  | inr n ↦ let r = arity-there v u (omega (arith, times-other v w u n)) in omega (arith, r)
]

pub times-some : (v : ℕ) (u : List ℕ) → 0 < times v u → occurs v u ≡ 1
times-some v [] h = absurd (omega arith)
times-some v (w ∷ u) h = elim (cases_eq v w) [
  | inl e ↦ ap (λ b. cond b 1 (occurs v u)) (eq-eqb v w e)
  | inr n ↦ ap (λ b. cond b 1 (occurs v u)) (ne_eqb v w n) ∙ times-some v u (omega (arith, h, times-other v w u (λ e. n (sym e))))
]

pub times-behind : (v : ℕ) (u w : List ℕ) → times v u ≤ times v (u ++ w)
times-behind v [] w = omega arith
times-behind v (x ∷ u) w = elim (cases_eq x v) [
  | inl e ↦ omega (arith, times-here v x u e, times-here v x (u ++ w) e, times-behind v u w)
  | inr n ↦ omega (arith, times-other v x u n, times-other v x (u ++ w) n, times-behind v u w)
]

cut-long : (u : List ℕ) (a : ℕ) (p : List ℕ) → IsCutFrom u a p → length p ≡ length u
cut-long [] a [] c = refl
cut-long [] a (b ∷ p) c = absurd c
cut-long (v ∷ u) a [] c = absurd c
cut-long (v ∷ u) a (b ∷ p) c = ap suc (cut-long u b p c.1)

module _ (q v : ℕ) (u : List ℕ) (one : 1 ≤ v) (more : suc q < times v u) where
  -- the face of the value is too long
  cut-dead : (p : List ℕ) → length p ≡ length u → is_live_cut q u p ≡ false
  cut-dead p l =
      let high = arity-there v u (omega (arith, more)) in
      live-none q (numbers_from 1 (arity u)) u p v (range-in v 1 (arity u) one (omega (arith, high)))
      (and_right (not (is_degenerate (cut_face v u 0 p))) (length (cut_face v u 0 p) == suc q) (ne_eqb (length (cut_face v u 0 p)) (suc q) (λ e. omega (arith, e, more, size-least v u 0 p l))))

  none-among : (ps : List (List ℕ)) → Each (λ p. length p ≡ length u) ps → live_count_among q (arity u) u ps ≡ 0
  none-among [] h = refl
  none-among (p ∷ ps) h =
      let first : cond {A = ℕ} (is_live_cut q u p) 1 0 ≡ 0 = ap (λ b. cond {A = ℕ} b 1 0) (cut-dead p h.0) in
      omega (arith, first, none-among ps h.1)

  -- no cut is live for q
  pub crowded-none : counted_live q u ≡ 0
  crowded-none =
      let long : Each (λ p. length p ≡ length u) (cuts u (live_top q u)) = each_map (λ p (c : IsCut u (live_top q u) p). cut-long u 0 p c.rising) (cuts u (live_top q u)) (cut_order_law.sound u (live_top q u)) in
      let none : capped_count q u ≡ 0 = ap (λ n. min n (10 ^ 15)) (none-among (cuts u (live_top q u)) long) in
      elim (nat_lt (arity u * q) (caesura_count u) || nat_lt 255 (live_top q u)) as (λ (b : Bool). if b then 0 else capped_count q u ≡ 0) [ true ↦ refl | false ↦ none ]
