-- Cochains from their values at the simplices of a degree.
use Rattle.std.proofs.{Common.{◌≡◌, ℕ, suc, ◌+◌, ◌*◌, ◌%◌, ◌<◌, ◌≤◌, Bool, true, false, cond, ◌==◌, not, List, [], ◌∷◌, ◌++◌, length, get_or, arith, refl, sym, ap, subst, ◌∙◌, inl, inr, eq-eqb, below_more, ℤ, pos, ◌*ℤ◌, ◌&&◌}, lemmas.Bool.{and_cases, cases_Bool, false≢true}}
use Rattle.linear_law.{specs.Names.{Congruent, unit_vector}, proofs.Names.{Congruent_of, Congruent_trans, get_before, get_last, length_push, unit_one, unit_other}}
use Rattle.interval_cut.{proofs.ProductLemmas.remainder, specs.Names.IsOfDegree}
use Rattle.signed_sum.{proofs.Names.{mul_comm, fun_ext}, specs.Names.is_degenerate}
use Rattle.simplicial_law.{specs.Names.{CongruentInt, Cochain}, proofs.Names.{residues, CongruentInt-scale, CongruentInt_of, CongruentInt_sym, CongruentInt_trans, agree_by_place, simplex_at}}
use Rattle.sparse_rows.{specs.Rows.{IsBelow, value_in}, proofs.MergeLemmas.{put_below, put_sum, stay_below}}
use Rattle.complex_index.specs.Names.{IsIndexOf, level}
use Rattle.steenrod_law.{specs.Names.{extended, residue_cochain}, proofs.Complexes.{ascending-plain, residue_cochain-same}}
use Rattle.may_steenrod.{specs.Cochains.{HasValues, IsOn, IsRowOfFirst, cochain_in}, proofs.OnLemmas.value_by_place}

-- ---- the row of a list of values

pub first-start : (vs : List ℕ) (row : List (ℕ × ℕ)) → row ≡ [] → IsRowOfFirst vs 0 row
first-start vs row e = record { below = subst (IsBelow 0) (sym e) tt; values = λ k h. absurd (omega arith) }

value_in-past : (n k : ℕ) (row : List (ℕ × ℕ)) → IsBelow n row → n ≤ k → value_in row k ≡ 0
value_in-past n k [] b h = refl
value_in-past n k (e ∷ es) b h =
    let z : e.1 * unit_vector e.0 k ≡ 0 = ap (λ m. e.1 * m) (unit_other e.0 k (λ q. let c = b.0 in let d : k ≡ e.0 = q in omega arith)) ∙ omega arith in
    let r = value_in-past n k es b.1 h in
    omega arith

pub first-put : (vs : List ℕ) (i v : ℕ) (row next : List (ℕ × ℕ)) → v ≡ get_or vs i 0 → next ≡ row ++ (i, v) ∷ [] → IsRowOfFirst vs i row → IsRowOfFirst vs (i + 1) next
first-put vs i v row next e f h = record {
  below = subst (IsBelow (i + 1)) (sym f) (put_below row i v h.below);
  values = below_more (λ k. value_in next k ≡ get_or vs k 0) i
      (λ k l. at k ∙ (let z : v * unit_vector i k ≡ 0 = ap (λ m. v * m) (unit_other i k (λ q. let d : k ≡ i = q in omega arith)) ∙ omega arith in let r = h.values k l in omega arith))
      (at i ∙ (let z : v * unit_vector i i ≡ v = ap (λ m. v * m) (unit_one i i) ∙ omega arith in let r = value_in-past i i row h.below (omega arith) in omega arith));
}
  where
    at : (k : ℕ) → value_in next k ≡ value_in row k + v * unit_vector i k
    at k = ap (λ (r : List (ℕ × ℕ)). value_in r k) f ∙ put_sum row i v k

pub first-skip : (vs : List ℕ) (i : ℕ) (row : List (ℕ × ℕ)) → 0 ≡ get_or vs i 0 → IsRowOfFirst vs i row → IsRowOfFirst vs (i + 1) row
first-skip vs i row e h = record {
  below = stay_below row i h.below;
  values = below_more (λ k. value_in row k ≡ get_or vs k 0) i h.values (value_in-past i i row h.below (omega arith) ∙ e);
}

-- ---- the cochain of a row

pub row-degree : (p : ℕ) (levels : List (List (List ℕ))) (n : ℕ) (row : List (ℕ × ℕ)) → IsOn p levels n row → IsOfDegree n (cochain_in levels n row)
row-degree p levels n row on = record { ascending = on.ascending; long = on.long }

extended-at : (q : ℕ) (a : Cochain) (f : List ℕ) → IsOfDegree q a → pos (a f) ≡ extended q a f
extended-at q a f h = elim (cases_Bool ((length f == suc q) && not (is_degenerate f))) [
  | inl t ↦ ap (λ b. cond b (pos (a f)) (pos 0)) (sym t)
  | inr t ↦ ap pos (none t) ∙ ap (λ b. cond b (pos (a f)) (pos 0)) (sym t)
]
  where
    double : (b : Bool) → not b ≡ false → b ≡ true
    double true d = refl
    double false d = absurd (false≢true (sym d))

    none : ((length f == suc q) && not (is_degenerate f)) ≡ false → a f ≡ 0
    none t = elim (and_cases (length f == suc q) (not (is_degenerate f)) t) [
      | inl l ↦ h.long f (λ e. false≢true (sym l ∙ eq-eqb (length f) (suc q) e))
      | inr d ↦ h.ascending f (λ s. false≢true (sym (ascending-plain f s) ∙ double (is_degenerate f) d))
    ]

-- as a function of all lists it is the extended cochain
pub extended-row : (q : ℕ) (a : Cochain) → IsOfDegree q a → (λ f. pos (a f)) ≡ extended q a
extended-row q a h = fun_ext (λ f. extended-at q a f h)

-- ---- values at the simplices of a degree

pub simplex-size : (levels : List (List (List ℕ))) (facets : List (List ℕ)) (n x : ℕ) → IsIndexOf facets levels → x < length (level levels n) → length (get_or (level levels n) x []) ≡ suc n
simplex-size levels facets n x i h = let s = (simplex_at facets n 2 (level levels n) (i.lists n) x h).size in omega arith

-- a row with the values of b
pub has_values_by_place : (p : ℕ) (levels : List (List (List ℕ))) (n : ℕ) (b : Cochain) (row : List (ℕ × ℕ)) → IsBelow (length (level levels n)) row
    → ((x : ℕ) → x < length (level levels n) → length (get_or (level levels n) x []) ≡ suc n → Congruent p (value_in row x) (b (get_or (level levels n) x [])))
    → HasValues p levels n b row
has_values_by_place p levels n b row below k = record {
  inside = below;
  values = λ facets i. agree_by_place facets n p (level levels n) (i.lists n) (cochain_in levels n row) b
      (λ x h. Congruent_trans (Congruent_of (value_by_place facets n p (level levels n) (i.lists n) row x h)) (k x h (simplex-size levels facets n x i h)));
}

pub has_values : (p : ℕ) (levels : List (List (List ℕ))) (n : ℕ) (b : Cochain) (vs : List ℕ) (row : List (ℕ × ℕ)) → length vs ≡ length (level levels n)
    → ((x : ℕ) → x < length (level levels n) → length (get_or (level levels n) x []) ≡ suc n → Congruent p (get_or vs x 0) (b (get_or (level levels n) x [])))
    → IsRowOfFirst vs (length vs) row → HasValues p levels n b row
has_values p levels n b vs row l k r =
    has_values_by_place p levels n b row (subst (λ m. IsBelow m row) l r.below) (λ x h size. Congruent_trans (Congruent_of (r.values x (omega arith))) (k x h size))

-- a residue of h
pub residue-value : (p v : ℕ) (h : List ℕ → ℤ) (s : List ℕ) → 1 < p → 1 ≤ length s → CongruentInt p (pos v) (h s) → Congruent p v (residue_cochain p h s)
residue-value p v h s large l k = residues p v (residue_cochain p h s) (CongruentInt_trans k (CongruentInt_sym (residue_cochain-same p h s large l)))

-- ---- values, one place after the other

pub values-push : (Q : ℕ → ℕ → Type 0) (vs news : List ℕ) (n z : ℕ) → news ≡ vs ++ z ∷ [] → length vs ≡ n → ((x : ℕ) → x < n → Q x (get_or vs x 0)) → Q n z
    → (length news ≡ n + 1) × ((x : ℕ) → x < n + 1 → Q x (get_or news x 0))
values-push Q vs news n z e l h k = (
  ap length e ∙ length_push vs z ∙ ap (λ m. m + 1) l,
  below_more (λ x. Q x (get_or news x 0)) n
      (λ x b. subst (Q x) (sym (ap (λ (ws : List ℕ). get_or ws x 0) e ∙ get_before vs z x 0 (omega arith))) (h x b))
      (subst (Q n) (sym (ap (λ (ws : List ℕ). get_or ws n 0) e ∙ ap (λ m. get_or (vs ++ z ∷ []) m 0) (sym l) ∙ get_last vs z 0)) k),
)

-- a value times a number
pub times-value : (p x c z : ℕ) (w : ℤ) → z ≡ (x * c) % p → CongruentInt p (pos x) w → CongruentInt p (pos z) (pos c *ℤ w)
times-value p x c z w e h =
    CongruentInt_trans (remainder p (x * c) z e) (CongruentInt_trans (CongruentInt_of (mul_comm (pos x) (pos c))) (CongruentInt-scale (pos c) h))
