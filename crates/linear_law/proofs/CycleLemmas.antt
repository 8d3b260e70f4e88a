-- Coordinates by pairing with canonical cycles.
use Rattle.std.proofs.Common.{◌≡◌, ℕ, zero, suc, ◌+◌, ◌*◌, ◌-◌, ◌<◌, ◌≢◌, List, map, arith, refl, sym, subst, inl, inr}
use Rattle.std.proofs.lemmas.Bool.{cases_eq}
use Rattle.linear_law.specs.Names.{Congruent, IsField, Each, Among, AgreesOn, IsSubspace, IsPivot, LeadsAt, paired, IsCycle}
use Rattle.linear_law.proofs.CongruenceLemmas.{Congruent_refl, Congruent_of, Congruent_sym, Congruent_trans, Congruent_add, Congruent_mul, Congruent_scale, Congruent_from, add-negated}
use Rattle.linear_law.proofs.ListLemmas.{among_map, each_among}
use Rattle.linear_law.proofs.PivotLemmas.{zero_or_not}
use Rattle.linear_law.proofs.TriangularBases.{found}

-- ---- what holds of the rows and is kept by sums and multiples holds of all that they span

module _ (p n : ℕ) (field : IsField p) {M N : (ℕ → ℕ) → Type 0} (space : IsSubspace p (λ y. y < n) M) (other : IsSubspace p (λ y. y < n) N)
    {S : Type 0} (lead : S → ℕ) (value : S → ℕ → ℕ) (rows : List S)
    (members : Each (λ s. M (value s)) rows) (others : Each (λ s. N (value s)) rows) (leads : Each (λ s. LeadsAt p n (value s) (lead s)) rows)
    (whole : (t : ℕ) → IsPivot p (λ y. y < n) (λ a b. a < b) M t → Among t (map lead rows)) where
  descend : (left m : ℕ) → left + m ≡ n → (w : ℕ → ℕ) → M w → ((y : ℕ) → y < m → Congruent p (w y) 0) → N w
  descend zero m e w h z = other.alike w (λ x. 0) (record { at = λ y b. z y (omega arith) }) other.zero_in
  descend (suc left) m e w h z =
      elim (zero_or_not p (w m)) [
        | inl here ↦ descend left (suc m) (omega arith) w h (λ y b. elim (cases_eq y m) [
          | inl q ↦ let P : ℕ → Type 0 = λ t. Congruent p (w t) 0 in subst P (sym q) here
          | inr o ↦ z y (omega arith)
        ])
        | inr here ↦
            let a = whole m (record { vector = w; member = h; lead = record { on = omega arith; nonzero = here; least = λ y on b. z y b } }) in
            elim (found lead m rows) [
              | inr none ↦ absurd (none a)
              | inl f ↦
                  let r = f.0 in
                  let l = each_among (λ s. LeadsAt p n (value s) (lead s)) r rows leads f.1 in
                  let i = field.inverse (value r (lead r)) l.nonzero in
                  let c = w (lead r) * i.0 in
                  let k = (p - 1) * c in
                  let v : ℕ → ℕ = λ x. w x + k * value r x in
                  let in_m : M v = space.plus k w (value r) h (each_among (λ s. M (value s)) r rows members f.1) in
                  let gone : (y : ℕ) → y < suc m → Congruent p (v y) 0 = λ y b. elim (cases_eq y (lead r)) [
                    | inl q ↦
                        let P : ℕ → Type 0 = λ t. Congruent p (v t) 0 in
                        subst P (sym q) (Congruent_from (Congruent_add (Congruent_scale ((p - 1) * w (lead r)) i.1) (add-negated p (w (lead r)) field.large)) (omega arith))
                    | inr o ↦
                        let b' : y < m = let g = f.2 in omega arith in
                        Congruent_from (Congruent_add (z y b') (Congruent_scale k (l.least y (omega arith) (let g = f.2 in omega arith)))) (omega arith)
                  ] in
                  let in_n : N v = descend left (suc m) (omega arith) v in_m gone in
                  other.alike w (λ x. v x + c * value r x)
                  (record { at = λ y on. Congruent_sym (Congruent_from (add-negated p (c * value r y) field.large) (omega arith)) })
                  (other.plus c v (value r) in_n (each_among (λ s. N (value s)) r rows others f.1))
            ]
      ]

  pub span_all : (w : ℕ → ℕ) → M w → N w
  span_all w h = descend n 0 (omega arith) w h (λ y b. absurd (omega arith))

-- ---- pairing

pub paired_same : (p n : ℕ) (v w f : ℕ → ℕ) → AgreesOn p (λ y. y < n) v w → Congruent p (paired n v f) (paired n w f)
paired_same p zero v w f h = Congruent_refl 0
paired_same p (suc n) v w f h =
    Congruent_add (paired_same p n v w f (record { at = λ y b. h.at y (omega arith) })) (Congruent_mul (h.at n (omega arith)) (Congruent_refl (f n)))

pub paired_plus : (n k : ℕ) (v w f : ℕ → ℕ) → paired n (λ x. v x + k * w x) f ≡ paired n v f + k * paired n w f
paired_plus zero k v w f = omega arith
paired_plus (suc n) k v w f = omega (arith, paired_plus n k v w f)

paired_zero : (n : ℕ) (f : ℕ → ℕ) → paired n (λ x. 0) f ≡ 0
paired_zero zero f = refl
paired_zero (suc n) f = omega (arith, paired_zero n f)

pub pair_space : (p n : ℕ) (f : ℕ → ℕ) → IsSubspace p (λ y. y < n) (λ v. Congruent p (paired n v f) 0)
pair_space p n f = record {
  zero_in = Congruent_of (paired_zero n f);
  plus = λ k v w hv hw. Congruent_trans (Congruent_of (paired_plus n k v w f)) (Congruent_from (Congruent_add hv (Congruent_scale k hw)) (omega arith));
  alike = λ v w same h. Congruent_trans (paired_same p n v w f same) h;
}

pub pair_none : (p n : ℕ) (v f : ℕ → ℕ) → ((x : ℕ) → x < n → Congruent p (v x * f x) 0) → Congruent p (paired n v f) 0
pair_none p zero v f h = Congruent_refl 0
pair_none p (suc n) v f h = Congruent_from (Congruent_add (pair_none p n v f (λ x b. h x (omega arith))) (h n (omega arith))) (omega arith)

pub pair_one : (p n s : ℕ) (v f : ℕ → ℕ) → s < n → ((x : ℕ) → x < n → x ≢ s → Congruent p (v x * f x) 0) → Congruent p (paired n v f) (v s * f s)
pair_one p zero s v f b h = absurd (omega arith)
pair_one p (suc n) s v f b h =
    elim (cases_eq n s) [
      | inl q ↦
          let none = pair_none p n v f (λ x c. h x (omega arith) (λ e. absurd (omega arith))) in
          let P : ℕ → Type 0 = λ t. Congruent p (paired n v f + v n * f n) (v t * f t) in
          subst P q (Congruent_from none (omega arith))
      | inr o ↦ Congruent_from (Congruent_add (pair_one p n s v f (omega arith) (λ x c m. h x (omega arith) m)) (h n (omega arith) o)) (omega arith)
    ]

pub pair_two : (p n s t : ℕ) (v f : ℕ → ℕ) → s < n → t < n → s ≢ t → ((x : ℕ) → x < n → x ≢ s → x ≢ t → Congruent p (v x * f x) 0)
    → Congruent p (paired n v f) (v s * f s + v t * f t)
pair_two p zero s t v f b c d h = absurd (omega arith)
pair_two p (suc n) s t v f b c d h =
    elim (cases_eq n s) [
      | inl q ↦
          let one = pair_one p n t v f (omega arith) (λ x e m. h x (omega arith) (λ g. absurd (omega arith)) m) in
          let P : ℕ → Type 0 = λ z. Congruent p (paired n v f + v n * f n) (v z * f z + v t * f t) in
          subst P q (Congruent_from one (omega arith))
      | inr o ↦ elim (cases_eq n t) [
        | inl q ↦
            let one = pair_one p n s v f (omega arith) (λ x e m. h x (omega arith) m (λ g. absurd (omega arith))) in
            let P : ℕ → Type 0 = λ z. Congruent p (paired n v f + v n * f n) (v s * f s + v z * f z) in
            subst P q (Congruent_from one (omega arith))
        | inr r ↦ Congruent_from (Congruent_add (pair_two p n s t v f (omega arith) (omega arith) d (λ x e m g. h x (omega arith) m g)) (h n (omega arith) o r)) (omega arith)
      ]
    ]

-- ---- cycles

module _ (p n : ℕ) (field : IsField p) {B : (ℕ → ℕ) → Type 0} (space : IsSubspace p (λ y. y < n) B) {S : Type 0} (lead : S → ℕ) (value : S → ℕ → ℕ) (rows : List S)
    (members : Each (λ s. B (value s)) rows) (leads : Each (λ s. LeadsAt p n (value s) (lead s)) rows)
    (whole : (t : ℕ) → IsPivot p (λ y. y < n) (λ a b. a < b) B t → Among t (map lead rows))
    (s : ℕ) (f : ℕ → ℕ) (cycle : IsCycle p n lead value rows s f) where
  -- it pairs to zero with all that the rows span
  pub cycle_bound : (b : ℕ → ℕ) → B b → Congruent p (paired n b f) 0
  cycle_bound b h = span_all p n field space (pair_space p n f) lead value rows members cycle.pairs leads whole b h

  -- with what is zero at the leads it pairs to the value at s
  pub cycle_value : (w : ℕ → ℕ) → ((x : ℕ) → Among x (map lead rows) → Congruent p (w x) 0) → Congruent p (paired n w f) (w s)
  cycle_value w h =
      Congruent_trans
      (pair_one p n s w f cycle.inside (λ x b m. elim (found lead x rows) [
        | inl g ↦ Congruent_from (Congruent_mul (subst (λ t. Congruent p (w t) 0) g.2 (h (lead g.0) (among_map lead g.0 (lead g.0) rows g.1 refl))) (Congruent_refl (f x))) (omega arith)
        | inr none ↦ Congruent_from (Congruent_scale (w x) (cycle.support x b m none)) (omega arith)
      ]))
      (Congruent_from (Congruent_scale (w s) cycle.one) (omega arith))
