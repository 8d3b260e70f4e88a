-- Products with the values on front faces, one front face after the other.
use Rattle.std.proofs.{Common.{◌≡◌, ◌≢◌, ℕ, suc, ◌+◌, ◌-◌, ◌*◌, ◌%◌, ◌<◌, ◌≤◌, inl, inr, List, [], ◌∷◌, length, take, drop, get_or, arith, refl, sym, ap, subst, ◌∙◌, Less}, lemmas.Bool.{cases_eq, cases_lt}}
use Rattle.linear_law.{specs.Names.{Congruent, sum_over, unit_vector}, proofs.Names.{Congruent_add, Congruent_mod, Congruent_of, Congruent_scale, Congruent_trans, unit_one, unit_other}}
use Rattle.simplicial_law.{specs.Names.{cochain_of, Cochain, unit_cochain, terms_of, simplex_cmp, IsInOrder}, proofs.Names.{unit_away, unit_here}}
use Rattle.sparse_rows.{specs.Rows.{IsBelow, value_in}, proofs.RowLemmas.sum_take}
use Rattle.may_steenrod.{specs.Fronts.{AddsFront, AddsFronts, IsFirstFrom, front_product}, proofs.BeginningLemmas.{begins, none_before}}

-- ---- one front face

module _ (p : ℕ) (above : List (List ℕ)) (b : Cochain) (f : List ℕ) (v : ℕ) where
  abbrev at : ℕ → List ℕ
  at k = get_or above k []

  product-none : (k : ℕ) → (take (length f) (at k) ≡ f → ⊥) → front_product p b f v (at k) ≡ 0
  product-none k n = ap (λ u. u * ((v * b (drop (length f - 1) (at k))) % p)) (unit_away f (take (length f) (at k)) (λ e. n (sym e))) ∙ omega arith

  product-here : (k w : ℕ) → take (length f) (at k) ≡ f → w ≡ (v * b (drop (length f - 1) (at k))) % p → w ≡ front_product p b f v (at k)
  product-here k w e q =
      let u : unit_cochain f (take (length f) (at k)) ≡ 1 = subst (λ (t : List ℕ). unit_cochain f t ≡ 1) (sym e) (unit_here f) in
      let r : front_product p b f v (at k) ≡ 1 * ((v * b (drop (length f - 1) (at k))) % p) = ap (λ n. n * ((v * b (drop (length f - 1) (at k))) % p)) u in
      omega (arith, q, r)

  -- the products stand there at the places below i
  pub record IsAdded (old new : List (ℕ × ℕ)) (i : ℕ) : Type 0 where
    pub done : (k : ℕ) → k < i → k < length above → value_in new k ≡ value_in old k + front_product p b f v (at k)
    pub left : (k : ℕ) → i ≤ k → value_in new k ≡ value_in old k
    pub ahead : (k : ℕ) → i ≤ k → k < length above → simplex_cmp (at k) f ≡ Less → ⊥
    pub below : IsBelow (length above) old → IsBelow (length above) new

  pub added-start : (old : List (ℕ × ℕ)) (i : ℕ) → IsFirstFrom above f i → IsAdded old old i
  added-start old i first = record {
    done = λ k h l. let z = product-none k (none_before above f i first k h) in omega (arith, z);
    left = λ k h. refl;
    ahead = first.from;
    below = λ h. h;
  }

  pub added-more : (old now new : List (ℕ × ℕ)) (i w : ℕ) → IsAdded old now i → i < length above → take (length f) (at i) ≡ f
      → w ≡ (v * b (drop (length f - 1) (at i))) % p → ((k : ℕ) → value_in new k ≡ value_in now k + w * unit_vector i k)
      → ((bound : ℕ) → i < bound → IsBelow bound now → IsBelow bound new) → IsAdded old new (i + 1)
  added-more old now new i w a h e q sum below = record {
    done = λ k l m. elim (cases_eq k i) [
      | inl s ↦ subst (λ j. value_in new j ≡ value_in old j + front_product p b f v (at j)) (sym s)
          (let r = sum i in let u : w * unit_vector i i ≡ w * 1 = ap (λ n. w * n) (unit_one i i) in let o = a.left i (omega arith) in let t = product-here i w e q in omega (arith, r, u, o, t))
      | inr d ↦ let r = sum k in let u = other k d in let o = a.done k (omega (arith, d)) m in omega (arith, r, u, o)
    ];
    left = λ k l. let r = sum k in let u = other k (λ s. let t : k ≡ i = s in omega arith) in let o = a.left k (omega arith) in omega (arith, r, u, o);
    ahead = λ k l. a.ahead k (omega arith);
    below = λ o. below (length above) h (a.below o);
  }
    where
      other : (k : ℕ) → k ≢ i → w * unit_vector i k ≡ 0
      other k d = ap (λ n. w * n) (unit_other i k d) ∙ omega arith

  pub added-all : (old new : List (ℕ × ℕ)) (i : ℕ) → IsAdded old new i → length above ≤ i → AddsFront p above b f v old new
  added-all old new i a h = record { sum = λ k l. a.done k (omega arith) l; below = a.below }

  -- a simplex that does not begin with the face is the last that is looked at
  pub added-stop : (old new : List (ℕ × ℕ)) (i : ℕ) → IsAdded old new i → i < length above → IsInOrder above → (take (length f) (at i) ≡ f → ⊥) → AddsFront p above b f v old new
  added-stop old new i a l ordered n = record {
    sum = λ k m. elim (cases_lt k i) [
      | inl c ↦ a.done k c m
      | inr c ↦ let o = a.left k (omega (arith, c)) in let z = product-none k (none k m c) in omega (arith, o, z)
    ];
    below = a.below;
  }
    where
      none : (k : ℕ) → k < length above → i ≤ k → take (length f) (at k) ≡ f → ⊥
      none k m c e = elim (cases_eq k i) [
        | inl s ↦ n (subst (λ j. take (length f) (at j) ≡ f) s e)
        | inr d ↦ n (begins f (at i) (at k) (a.ahead i (omega arith) l) e (ordered i k (omega (arith, c, d)) m))
      ]

-- ---- all front faces

module _ (p : ℕ) (here above : List (List ℕ)) (b : Cochain) (row : List (ℕ × ℕ)) where
  pub fronts-start : AddsFronts p here above b (take 0 row) []
  fronts-start = record { sum = λ k h. refl; below = tt }

  pub fronts-more : (old new : List (ℕ × ℕ)) (i : ℕ) (e : ℕ × ℕ) → i < length row → e ≡ get_or row i e → AddsFronts p here above b (take i row) old
      → AddsFront p above b (get_or here e.0 []) e.1 old new → AddsFronts p here above b (take (i + 1) row) new
  fronts-more old new i e h q a m = record {
    sum = λ k l.
        let product : ℕ × ℕ → ℕ = λ t. front_product p b (get_or here t.0 []) t.1 (get_or above k []) in
        let s = sum_take product row i e h in
        let c : product e ≡ product (get_or row i e) = ap product q in
        let o = a.sum k l in
        let n = m.sum k l in
        omega (arith, s, c, o, n);
    below = m.below a.below;
  }

-- the products with all values of a row: the value of its cochain on the front face times that of b on the back face
pub fronts-value : (p q : ℕ) (here : List (List ℕ)) (b : Cochain) (s : List ℕ) (row : List (ℕ × ℕ)) → ((x : ℕ) → x < length here → length (get_or here x []) ≡ suc q) → IsBelow (length here) row
    → Congruent p (sum_over (λ e. front_product p b (get_or here e.0 []) e.1 s) row) (cochain_of (terms_of here row) (take (q + 1) s) * b (drop q s))
fronts-value p q here b s [] size h = Congruent_of (omega arith)
fronts-value p q here b s (e ∷ row) size h =
    let long : length (get_or here e.0 []) ≡ q + 1 = omega (arith, size e.0 h.0) in
    let u : ℕ = unit_cochain (get_or here e.0 []) (take (q + 1) s) in
    let w : ℕ = b (drop q s) in
    let same : front_product p b (get_or here e.0 []) e.1 s ≡ u * ((e.1 * w) % p) =
    ap (λ n. unit_cochain (get_or here e.0 []) (take n s) * ((e.1 * b (drop (n - 1) s)) % p)) long
    ∙ ap (λ n. u * ((e.1 * b (drop n s)) % p)) (less q) in
    let one = Congruent_trans (Congruent_of same) (Congruent_scale u (Congruent_mod p (e.1 * w))) in
    Congruent_trans (Congruent_add one (fronts-value p q here b s row size h.1)) (Congruent_of (ring u e.1 w (cochain_of (terms_of here row) (take (q + 1) s))))
  where
    less : (q : ℕ) → q + 1 - 1 ≡ q
    less q = omega arith

    ring : (u v w c : ℕ) → u * (v * w) + c * w ≡ (v * u + c) * w
    ring u v w c = omega arith
