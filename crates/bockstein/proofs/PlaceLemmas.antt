-- From sums over places to the Bockstein.
use Rattle.std.{proofs.Common.{◌≡◌, ◌≢◌, ℕ, zero, suc, ◌+◌, ◌*◌, ◌-◌, ◌/◌, ◌%◌, ◌<◌, ◌≤◌, List, [], ◌∷◌, ◌++◌, map, length, get_or, drop, arith, refl, sym, ap, ap₂, subst, ◌∙◌, inl, inr, mod-lt, mod-eq_of_lt, lit≤, ℤ, pos, negsuc, ◌+ℤ◌, ◌⊎◌, neg_ℤ, IsTrue}, specs.Int.int_rem_euclid, proofs.Math.Seq.drop-cons, proofs.lemmas.Bool.cases_lt, proofs.lemmas.Int.ints, proofs.lemmas.List.drop_all, proofs.lemmas.Simd.map-map}
use native.Mathlib.Nat.{zero-mod}
use Rattle.fp_field.{specs.Served.served, proofs.ServedLemmas.for_served}
use Rattle.linear_law.{specs.Names.{Congruent, IsField, negated, Each, unit_vector}, proofs.Names.{Congruent_cancel, Congruent_from, Congruent_multiple, Congruent_of, Congruent_sym, Congruent_trans, add-negated, each_append, each_map, unit_one, unit_other, sum_append}}
use Rattle.signed_sum.specs.Names.{unless_empty, without_one}
use Rattle.simplicial_law.{specs.Names.{coboundary, faces, CongruentInt}, proofs.Names.{integral_coboundary_law, CongruentInt_of, CongruentInt_sym, CongruentInt_trans, agree_by_place, simplex_at as on_simplex, value_by_place}}
use Rattle.steenrod_law.{proofs.Complexes.residue-same, proofs.OperationLaws.to_residues, specs.Names.residue}
use Rattle.bockstein_law.{specs.Bockstein.lift, proofs.Lifts.lift-same}
use Rattle.sparse_rows.{specs.Rows.{IsBelow, value_in}, proofs.RowLemmas.value_in-none}
use Rattle.complex_index.specs.{Names.{ArePlaces, simplex_at, IsComplexIndex, level}, declared.indexed.Cochain.Cochain}
use Rattle.cohomology.specs.Names.{cochain_in, IsClosedIn, IsOpenAt, coboundary_at}
use Rattle.bockstein.specs.Places.{AreDivided, IsBocksteinAt, IsQuotient, IsRemainder, IsSumFrom, alternating, lift_at, sum_at}

-- ---- remainders

-- the remainder of a whole number is its residue
pub residue_is : (p c : ℕ) (z : ℤ) → 1 < p → pos c ≡ int_rem_euclid z (pos p) → c ≡ residue p z
residue_is p c (pos a) l e = omega (arith, ints, e)
residue_is p c (negsuc a) l e =
    let m : ℕ = a % p in
    let small : m < p = mod-lt a (omega (arith, l)) in
    let is : c ≡ p - 1 - m = omega (arith, ints, e) in
    let whole : suc a + c ≡ 0 + p * (a / p + 1) = (let d : a ≡ p * (a / p) + a % p = omega arith in omega (arith, is, small, d)) in
    let same : Congruent p c (negated p (suc a)) =
    Congruent_cancel p c (negated p (suc a)) (suc a)
    (Congruent_from (Congruent_trans (Congruent_of whole) (Congruent_trans (Congruent_multiple p 0 (a / p + 1)) (Congruent_sym (add-negated p (suc a) l)))) (omega arith)) in
    sym (mod-eq_of_lt (omega (arith, is, small))) ∙ same.same

pub remainder-same : (p c : ℕ) (z : ℤ) → 1 < p → pos c ≡ int_rem_euclid z (pos p) → CongruentInt p (pos c) z
remainder-same p c z l e = CongruentInt_trans (CongruentInt_of (ap pos (residue_is p c z l e))) (residue-same p z l)

-- ---- the sum over the faces of a simplex

-- one more place from behind
from-behind : (xs : List ℕ) (k : ℕ) → k < length xs → drop (length xs - (k + 1)) xs ≡ get_or xs (length xs - 1 - k) 0 ∷ drop (length xs - k) xs
from-behind xs k l =
    let i : ℕ = length xs - 1 - k in
    let a : length xs - (k + 1) ≡ i = omega arith in
    let b : suc i ≡ length xs - k = omega (arith, l) in
    ap (λ j. drop j xs) a ∙ drop-cons xs i 0 (omega (arith, l)) ∙ ap (λ j. get_or xs i 0 ∷ drop j xs) b

pub at-most-four : (p v : ℕ) → IsTrue (served p) → v < p → v ≤ 4
at-most-four p v h l = let f = for_served (λ n. n ≤ 5) p (lit≤ tt) (lit≤ tt) (lit≤ tt) h in omega (arith, l, f)

module _ (p : ℕ) (row : List (ℕ × ℕ)) (places : List ℕ) where
  pub sum-start : IsSumFrom p row places 0 (pos 0)
  sum-start = record {
    sum_is = ap (λ xs. alternating (map (lift_at p row) xs)) (sym (drop_all (length places - 0) places (omega arith)));
    low = omega (arith, ints);
    high = omega (arith, ints);
  }

  pub sum-more : (k v : ℕ) (sum more : ℤ) → k < length places → v ≡ value_in row (get_or places (length places - 1 - k) 0) → v < p → v ≤ 4 → more ≡ pos v +ℤ neg_ℤ sum →
      IsSumFrom p row places k sum → IsSumFrom p row places (k + 1) more
  sum-more k v sum more l is small four m h =
      let lo = h.low in
      let hi = h.high in
      record {
        sum_is = m ∙ ap₂ (λ n z. pos n +ℤ neg_ℤ z) (sym (mod-eq_of_lt small) ∙ ap (λ n. n % p) is) h.sum_is ∙ ap (λ xs. alternating (map (lift_at p row) xs)) (sym (from-behind places k l));
        low = omega (arith, ints, lo, hi, four, m);
        high = omega (arith, ints, lo, hi, four, m);
      }

  pub sum-whole : (k : ℕ) (sum : ℤ) → length places ≤ k → IsSumFrom p row places k sum → sum ≡ alternating (map (lift_at p row) places)
  sum-whole k sum l h = let z : length places - k ≡ 0 = omega (arith, l) in h.sum_is ∙ ap (λ j. alternating (map (lift_at p row) (drop j places))) z

without_one-faces : (s : List ℕ) (h : List ℕ → ℤ) → without_one s h ≡ alternating (map h (faces s))
without_one-faces [] h = refl
without_one-faces (x ∷ s) h =
    ap (λ z. h s +ℤ neg_ℤ z) (without_one-faces s (λ r. h (x ∷ r)) ∙ ap alternating (sym (map-map h (λ r. x ∷ r) (faces s))))

map-alike : {X : Type 0} (f g : X → ℤ) (xs : List X) → Each (λ x. f x ≡ g x) xs → map f xs ≡ map g xs
map-alike f g [] h = refl
map-alike f g (x ∷ xs) h = ap₂ ◌∷◌ h.0 (map-alike f g xs h.1)

module _ (p : ℕ) (field : IsField p) (levels : List (List (List ℕ))) (complex : IsComplexIndex levels) (n : ℕ) (row : List (ℕ × ℕ)) where
  abbrev here : List (List ℕ)
  here = level levels n

  abbrev above : List (List ℕ)
  above = level levels (n + 1)

  lift-here : (x : ℕ) → x < length here → unless_empty (simplex_at here x) (lift p (cochain_in levels n row) (simplex_at here x)) ≡ lift_at p row x
  lift-here x b =
      let on = on_simplex complex.facets n p here (complex.index.lists n) x b in
      some (simplex_at here x) (lift p (cochain_in levels n row) (simplex_at here x)) (let l = on.size in omega arith)
      ∙ ap (λ v. pos (v % p)) (value_by_place complex.facets n p here (complex.index.lists n) row x b)
    where
      some : (t : List ℕ) (z : ℤ) → 0 < length t → unless_empty t z ≡ z
      some [] z l = absurd (omega (arith, l))
      some (v ∷ t) z l = refl

  -- the sum over the places of the faces
  sum-of-places : (k : ℕ) (places : List ℕ) → ArePlaces here (get_or above k []) places → alternating (map (lift_at p row) places) ≡ sum_at p levels n row k
  sum-of-places k places are =
      let h : List ℕ → ℤ = λ t. unless_empty t (lift p (cochain_in levels n row) t) in
      ap alternating
      (sym (map-alike (λ x. h (simplex_at here x)) (lift_at p row) places (each_map lift-here places are.below))
      ∙ sym (map-map h (simplex_at here) places) ∙ ap (map h) are.places)
      ∙ sym (without_one-faces (get_or above k []) h)

  -- what holds of the one holds of the other
  pub at-place : (P : ℤ → Type 0) (k : ℕ) (places : List ℕ) (sum : ℤ) → ArePlaces (level levels (n + 1 - 1)) (get_or above k []) places → sum ≡ alternating (map (lift_at p row) places) → P sum → P (sum_at p levels n row k)
  at-place P k places sum are e h =
      let back : n + 1 - 1 ≡ n = omega arith in
      subst P (e ∙ sum-of-places k places (subst (λ (m : ℕ). ArePlaces (level levels m) (get_or above k []) places) back are)) h

  -- modulo p it is the coboundary
  same-coboundary : (k : ℕ) → k < length above → CongruentInt p (sum_at p levels n row k) (pos (coboundary_at p levels n row k))
  same-coboundary k b =
      let on = on_simplex complex.facets (n + 1) p above (complex.index.lists (n + 1)) k b in
      integral_coboundary_law.above_vertices p (lift p (cochain_in levels n row)) (cochain_in levels n row) (get_or above k []) field.large (let l = on.size in omega arith) (lift-same p field (cochain_in levels n row))

  closed-at : (k : ℕ) → k < length above → CongruentInt p (sum_at p levels n row k) (pos 0) → Congruent p (coboundary_at p levels n row k) 0
  closed-at k b h = to_residues p field (CongruentInt_trans (CongruentInt_sym (same-coboundary k b)) h)

  -- ---- the loop

  pub divided-start : (found : List (ℕ × ℕ)) → found ≡ [] → AreDivided p levels n row 0 found
  divided-start found e = record { inside = subst (IsBelow 0) (sym e) tt; each = λ k l. absurd (omega (arith, l)) }

  pub divided-more : (k v : ℕ) (found more : List (ℕ × ℕ)) → AreDivided p levels n row k found → IsQuotient p (sum_at p levels n row k) v →
      ((v ≡ 0) × (more ≡ found)) ⊎ ((v ≢ 0) × (more ≡ found ++ (k, v) ∷ [])) → AreDivided p levels n row (k + 1) more
  divided-more k v found more so q next = record {
    inside = elim next [
      | inl h ↦ subst (IsBelow (k + 1)) (sym h.1) wider
      | inr h ↦ subst (IsBelow (k + 1)) (sym h.1) (each_append (λ (e : ℕ × ℕ). e.0 < k + 1) found ((k, v) ∷ []) wider (omega arith, tt))
    ];
    each = λ j l. subst (IsQuotient p (sum_at p levels n row j)) (sym (values j)) (elim (cases_lt j k) [
      | inl b ↦ subst (IsQuotient p (sum_at p levels n row j)) (let u = unit_other k j (λ e. absurd (omega (arith, b, e))) in ap (λ m. value_in found j + v * m) (sym u) ∙ refl) (subst (IsQuotient p (sum_at p levels n row j)) (omega arith) (so.each j b))
      | inr b ↦ (let e : k ≡ j = omega (arith, b, l) in subst (λ i. IsQuotient p (sum_at p levels n row i) (value_in found i + v * unit_vector k i)) e
          (subst (IsQuotient p (sum_at p levels n row k)) (let z = none in let u = unit_one k k in omega (arith, z, ap (λ m. v * m) u)) q))
    ]);
  }
    where
      wider : IsBelow (k + 1) found
      wider = each_map {Q = λ (e : ℕ × ℕ). e.0 < k + 1} (λ e b. omega (arith, b)) found so.inside

      none : value_in found k ≡ 0
      none = value_in-none found k (each_map {Q = λ (e : ℕ × ℕ). e.0 ≢ k} (λ e b f. absurd (omega (arith, b, f))) found so.inside)

      values : (j : ℕ) → value_in more j ≡ value_in found j + v * unit_vector k j
      values j = elim next [
        | inl h ↦ ap (λ (es : List (ℕ × ℕ)). value_in es j) h.1 ∙ (let e = ap (λ m. m * unit_vector k j) h.0 in omega (arith, e))
        | inr h ↦ ap (λ (es : List (ℕ × ℕ)). value_in es j) h.1 ∙ sum_append (λ (e : ℕ × ℕ). e.1 * unit_vector e.0 j) found ((k, v) ∷ []) ∙ omega arith
      ]

  -- ---- its ends

  pub refused-at : (k r : ℕ) (found : List (ℕ × ℕ)) → k < length above → AreDivided p levels n row k found → IsRemainder p (sum_at p levels n row k) r → r < p → IsOpenAt p levels n row k r
  refused-at k r found b so left small = record {
    inside = b;
    nonzero = left.nonzero;
    small = small;
    value_is = to_residues p field (CongruentInt_trans left.rest (same-coboundary k b));
    least = λ j l. closed-at j (omega (arith, l, b)) (so.each j l).multiple;
  }

-- what is open somewhere is no cocycle
pub not-closed : (p : ℕ) (levels : List (List (List ℕ))) → IsComplexIndex levels → (z : Cochain p) (k r : ℕ) → IsOpenAt p levels z.degree z.row k r → IsClosedIn p levels z → ⊥
not-closed p levels complex z k r at closed =
    let n : ℕ = z.degree in
    let zero = (closed complex.facets complex.index).at (get_or (level levels (n + 1)) k []) (on_simplex complex.facets (n + 1) p (level levels (n + 1)) (complex.index.lists (n + 1)) k at.inside) in
    at.nonzero (sym (mod-eq_of_lt at.small) ∙ (Congruent_trans at.value_is zero).same ∙ zero-mod p)

-- after the last place the Bockstein is made
pub made : (p : ℕ) → IsField p → (levels : List (List (List ℕ))) → IsComplexIndex levels → (z b : Cochain p) (count : ℕ) → length (level levels (z.degree + 1)) ≤ count → count ≤ length (level levels (z.degree + 1)) →
    AreDivided p levels z.degree z.row count b.row → b.degree ≡ z.degree + 1 → IsBocksteinAt levels z b
made p field levels complex z b count low high so degree =
    let n : ℕ = z.degree in
    record {
      closed = λ facets is. agree_by_place facets (n + 1) p (level levels (n + 1)) (is.lists (n + 1)) (coboundary p (cochain_in levels n z.row)) (λ s. 0)
          (λ k l. closed-at p field levels complex n z.row k l (so.each k (omega (arith, l, low))).multiple);
      degree = degree;
      inside = each_map {Q = λ (e : ℕ × ℕ). e.0 < length (level levels (n + 1))} (λ e l. omega (arith, l, high)) b.row so.inside;
      values = λ k l. (so.each k (omega (arith, l, low))).quotient;
    }

-- so it is where there are no simplices one degree up
pub nothing-above : (p : ℕ) → IsField p → (levels : List (List (List ℕ))) → IsComplexIndex levels → (z b : Cochain p) → length levels ≤ z.degree + 1 → b.row ≡ [] → b.degree ≡ z.degree + 1 → IsBocksteinAt levels z b
nothing-above p field levels complex z b high none degree =
    let e : length (level levels (z.degree + 1)) ≡ 0 = ap (λ (ss : List (List ℕ)). length ss) (past levels (z.degree + 1) high) in
    made p field levels complex z b 0 (omega (arith, e)) (omega arith) (divided-start p field levels complex z.degree z.row b.row none) degree
  where
    past : (ls : List (List (List ℕ))) (n : ℕ) → length ls ≤ n → level ls n ≡ []
    past [] n l = refl
    past (s ∷ ls) zero l = absurd (omega (arith, l))
    past (s ∷ ls) (suc n) l = past ls n (omega (arith, l))
