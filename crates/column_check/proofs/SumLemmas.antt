-- Sums of rows, and rows that are equal.
use Rattle.std.proofs.{Common.{◌≡◌, ℕ, ◌+◌, ◌-◌, ◌*◌, ◌%◌, ◌<◌, ◌≤◌, Bool, List, [], ◌∷◌, map, length, get_or, drop, arith, refl, sym, ap, subst, ◌∙◌, mod-eq_of_lt, IsTrue, ◌↔◌}, lemmas.List.{at_drop_all, drop_more}}
use native.Mathlib.Nat.{zero-mod}
use Rattle.fp_field.{specs.Served.served, proofs.ServedLemmas.served_field}
use Rattle.linear_law.{specs.Names.{Congruent, negated, Each, combination}, proofs.Names.{Congruent_add, Congruent_cancel, Congruent_mod, Congruent_mul, Congruent_of, Congruent_refl, Congruent_scale, Congruent_sym, Congruent_trans, add-negated, each_get_or}}
use Rattle.sparse_rows.{specs.Rows.{IsBelow, IsRow, value_in}, proofs.RowLemmas.value_in-at}
use Rattle.complex_index.specs.declared.indexed.Cochain.{Cochain}
use Rattle.line_difference.proofs.RowSums.{sum-below}

-- a row that is zero at each place is empty
pub nothing-left : (p : ℕ) (row : List (ℕ × ℕ)) (bound : ℕ) → IsRow p row → IsBelow bound row → ((k : ℕ) → k < bound → Congruent p (value_in row k) 0) → row ≡ []
nothing-left p [] bound r b h = refl
nothing-left p (e ∷ es) bound r b h =
    let v = r.values.0 in
    let at : value_in (e ∷ es) e.0 ≡ e.1 = value_in-at (e ∷ es) 0 e r.ascends (omega arith) in
    absurd (v.0 (sym (mod-eq_of_lt v.1) ∙ ap (λ (m : ℕ). m % p) (sym at) ∙ (h e.0 b.0).same ∙ zero-mod p))

pub nothing-in : (p : ℕ) (row : List (ℕ × ℕ)) (k : ℕ) → row ≡ [] → Congruent p (value_in row k) 0
nothing-in p row k e = Congruent_of (ap (λ (r : List (ℕ × ℕ)). value_in r k) e)

-- whether a row that is empty exactly where the places are zero is empty
pub zero-tells : (p bound : ℕ) (row : List (ℕ × ℕ)) (answer : Bool) → IsTrue answer ↔ (row ≡ []) → IsRow p row → IsBelow bound row → (IsTrue answer ↔ ((k : ℕ) → k < bound → Congruent p (value_in row k) 0))
zero-tells p bound row answer is r b = (
  λ e k l. nothing-in p row k (is.0 e),
  λ h. is.1 (nothing-left p row bound r b h),
)

-- ---- whether two rows are the same

module _ (p : ℕ) (is_served : IsTrue (served p)) (row other new : List (ℕ × ℕ)) (by : ℕ) (by_is : by ≡ negated p (1 % p) % p) (r : IsRow p new) (sum : (k : ℕ) → value_in new k ≡ (value_in other k + by * value_in row k) % p) where
  minus : Congruent p by (p - 1)
  minus = Congruent_trans (Congruent_of by_is) (Congruent_trans (Congruent_mod p (negated p (1 % p))) (Congruent_trans (Congruent_scale (p - 1) (Congruent_mod p 1)) (Congruent_of (omega arith))))

  rest : (k : ℕ) → Congruent p (value_in new k) (value_in other k + negated p (value_in row k))
  rest k = Congruent_trans (Congruent_of (sum k)) (Congruent_trans (Congruent_mod p (value_in other k + by * value_in row k))
      (Congruent_add (Congruent_refl (value_in other k)) (Congruent_mul minus (Congruent_refl (value_in row k)))))

  none : (k : ℕ) → Congruent p (value_in row k + negated p (value_in row k)) 0
  none k = add-negated p (value_in row k) (served_field p is_served).large

  pub same-tells : (answer : Bool) → IsTrue answer ↔ (new ≡ []) → (bound : ℕ) → IsBelow bound row → IsBelow bound other → (IsTrue answer ↔ ((k : ℕ) → k < bound → Congruent p (value_in row k) (value_in other k)))
  same-tells answer is bound a b =
      let t = zero-tells p bound new answer is r (sum-below p by other row new sum r bound b a) in (
        λ e k l. Congruent_cancel p (value_in row k) (value_in other k) (negated p (value_in row k)) (Congruent_trans (none k) (Congruent_trans (Congruent_sym (t.0 e k l)) (rest k))),
        λ h. t.1 (λ k l. Congruent_trans (rest k) (Congruent_trans (Congruent_add (Congruent_sym (h k l)) (Congruent_refl (negated p (value_in row k)))) (none k))),
      )

-- ---- values times rows

module _ (p : ℕ) where
  abbrev pub places : List (Cochain p) → List (ℕ → ℕ)
  places zs = map (λ (z : Cochain p). value_in z.row) zs

  -- the first i of the values times the cochains were added
  pub record IsAddedUpTo (values : List ℕ) (zs : List (Cochain p)) (i : ℕ) (old new : List (ℕ × ℕ)) : Type 0 where
    pub inside : (bound : ℕ) → IsBelow bound old → Each (λ (z : Cochain p). IsBelow bound z.row) zs → IsBelow bound new
    pub sum : (k : ℕ) → Congruent p (combination (drop i values) (places (drop i zs)) k + value_in new k) (combination values (places zs) k + value_in old k)

  pub added-none : (values : List ℕ) (zs : List (Cochain p)) (old : List (ℕ × ℕ)) → IsAddedUpTo values zs 0 old old
  added-none values zs old = record { inside = λ bound b h. b; sum = λ k. Congruent_refl (combination values (places zs) k + value_in old k) }

  pub added-more : (values : List ℕ) (zs : List (Cochain p)) (i by : ℕ) (z : Cochain p) (start old new : List (ℕ × ℕ)) → length values ≡ length zs → i < length zs → z ≡ get_or zs i z → by ≡ get_or values i 0 % p
      → IsRow p new → ((k : ℕ) → value_in new k ≡ (value_in old k + by * value_in z.row k) % p) → IsAddedUpTo values zs i start old → IsAddedUpTo values zs (i + 1) start new
  added-more values zs i by z start old new size b z_is by_is row sum h = record {
    inside = λ bound s all. sum-below p by old z.row new sum row bound (h.inside bound s all) (subst (λ (y : Cochain p). IsBelow bound y.row) (sym z_is) (each_get_or (λ (y : Cochain p). IsBelow bound y.row) zs i z b all));
    sum = λ k.
        let c : i < length values = omega (arith, b, size) in
        let v : ℕ = get_or values i 0 in
        let first : drop i values ≡ v ∷ drop (i + 1) values = drop_more values i 0 c in
        let second : drop i zs ≡ z ∷ drop (i + 1) zs = drop_more zs i z b ∙ ap (λ (x : Cochain p). x ∷ drop (i + 1) zs) (sym z_is) in
        let next : Congruent p (value_in new k) (value_in old k + v * value_in z.row k) =
        Congruent_trans (Congruent_of (sum k)) (Congruent_trans (Congruent_mod p (value_in old k + by * value_in z.row k))
        (Congruent_add (Congruent_refl (value_in old k)) (Congruent_mul (Congruent_trans (Congruent_of by_is) (Congruent_mod p v)) (Congruent_refl (value_in z.row k))))) in
        let a : ℕ = combination (drop (i + 1) values) (places (drop (i + 1) zs)) k in
        let turned : a + (value_in old k + v * value_in z.row k) ≡ (v * value_in z.row k + a) + value_in old k = omega arith in
        Congruent_trans (Congruent_add (Congruent_refl a) next)
        (Congruent_trans (Congruent_of (turned ∙ (λ j. combination (sym first j) (places (sym second j)) k + value_in old k))) (h.sum k));
  }

  pub added-all : (values : List ℕ) (zs : List (Cochain p)) (i : ℕ) (old new : List (ℕ × ℕ)) → length values ≡ length zs → length zs ≤ i → IsAddedUpTo values zs i old new
      → (k : ℕ) → Congruent p (value_in new k) (combination values (places zs) k + value_in old k)
  added-all values zs i old new size b h k =
      let c : length values ≤ i = omega (arith, b, size) in
      let bare : value_in new k ≡ 0 + value_in new k = omega arith in
      Congruent_trans (Congruent_of (bare ∙ sym (at_drop_all (λ (vs : List ℕ). combination vs (places (drop i zs)) k + value_in new k) values i c))) (h.sum k)
