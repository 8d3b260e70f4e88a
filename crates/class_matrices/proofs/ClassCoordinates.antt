-- The coordinates of classes and of differences.
use Rattle.std.proofs.{Common.{◌≡◌, ◌∙◌, ◌==◌, Bool, true, false, cond, ℕ, zero, suc, ◌+◌, ◌*◌, ◌-◌, ◌%◌, ◌<◌, ◌≤◌, inl, inr, List, [], ◌∷◌, length, map, get_or, arith, refl, sym, ap, ap₂, subst, IsTrue, eqb-true}, Math.Nat.mod-eq_of_lt, lemmas.Bool.cases_Bool, lemmas.List.length-map}
use Rattle.fp_field.{specs.Served.served, proofs.ServedLemmas.served_field}
use Rattle.signed_sum.specs.Names.{numbers_from}
use Rattle.linear_law.{specs.Names.{Congruent, IsField, negated, Each, copies, plus_scaled, combination}, proofs.Names.{Congruent_add, Congruent_mod, Congruent_mul, Congruent_of, Congruent_refl, Congruent_scale, Congruent_trans, add-negated, each_get_or, columns-combined}}
use Rattle.simplicial_law.{specs.Names.{Chain, Cochain as SimplexCochain, HasCoordinates, IsCocycle, cochain_of}, proofs.Names.{coboundaries, cocycles}}
use Rattle.complex_index.specs.{declared.indexed.Cochain.Cochain, Names.level}
use Rattle.cohomology.specs.Names.{chains_at, cochains_at}
use Rattle.report_law.proofs.Names.{coordinates-alike, get_or-map}
use Rattle.op_matrix.proofs.TableLemmas.{basis-in}
use Rattle.class_matrices.{specs.Names.{Coordinates, Matrices, HasThese, IsSetting, unit_coordinates}, proofs.ListLemmas.numbers-count}

-- ---- differences

module _ (p : ℕ) (is_served : IsTrue (served p)) (facets : List (List ℕ)) where
  abbrev field : IsField p
  field = served_field p is_served

  plus-zeros : (cs : List ℕ) → Each (λ c. c < p) cs → plus_scaled p 1 cs (copies (length cs) 0) ≡ cs
  plus-zeros [] h = refl
  plus-zeros (c ∷ cs) h = let e : 1 * c + 0 ≡ c = omega arith in ap₂ ◌∷◌ (ap (λ (k : ℕ). k % p) e ∙ mod-eq_of_lt h.0) (plus-zeros cs h.1)

  minus-coordinates : (n : ℕ) (us : List SimplexCochain) (f g : SimplexCochain) (cs ds : List ℕ) (by : ℕ) → Congruent p by (p - 1) → HasCoordinates facets n p us f cs → HasCoordinates facets n p us g ds
      → HasCoordinates facets n p us (λ s. f s + negated p (g s)) (plus_scaled p by ds cs)
  minus-coordinates n us f g cs ds by minus hf hg =
      let both = columns-combined p field.large (coboundaries facets n p field.large) us (g ∷ f ∷ []) (ds ∷ cs ∷ []) (by ∷ 1 ∷ []) refl (hg, (hf, tt)) in
      let alone : plus_scaled p 1 cs (copies (length us) 0) ≡ cs = ap (λ (k : ℕ). plus_scaled p 1 cs (copies k 0)) (sym hf.count) ∙ plus-zeros cs hf.small in
      coordinates-alike facets n p field.large us (λ s. f s + negated p (g s)) (combination (by ∷ 1 ∷ []) (g ∷ f ∷ [])) (plus_scaled p by ds cs)
      (record { at = λ s on. Congruent_trans (Congruent_add (Congruent_refl (f s)) (Congruent_mul (minus' minus) (Congruent_refl (g s)))) (Congruent_of (omega arith)) })
      (subst (λ (xs : List ℕ). HasCoordinates facets n p us (combination (by ∷ 1 ∷ []) (g ∷ f ∷ [])) (plus_scaled p by ds xs)) alone both)
    where
      minus' : Congruent p by (p - 1) → Congruent p (p - 1) by
      minus' h = record { same = sym h.same }

  pub difference-has : (levels : List (List (List ℕ))) (classes : ℕ → List (Cochain p)) (z w : SimplexCochain) (first second r : Coordinates p) → second.degree ≡ first.degree → r.degree ≡ first.degree
      → (by : ℕ) → by ≡ negated p (1 % p) % p → r.values.items ≡ plus_scaled p by second.values.items first.values.items
      → HasThese {p = p} facets levels classes z first → HasThese {p = p} facets levels classes w second → HasThese {p = p} facets levels classes (λ s. z s + negated p (w s)) r
  difference-has levels classes z w first second r same degree by by_is is hz hw =
      let n : ℕ = first.degree in
      let minus : Congruent p by (p - 1) = Congruent_trans (Congruent_of by_is) (Congruent_trans (Congruent_mod p (negated p (1 % p)))
      (Congruent_trans (Congruent_scale (p - 1) (Congruent_mod p 1)) (Congruent_of (omega arith)))) in
      let closed_w = subst (λ (k : ℕ). IsCocycle facets k p w) same hw.closed in
      let has_w = subst (λ (k : ℕ). HasCoordinates facets k p (cochains_at {p = p} levels k (classes k)) w second.values.items) same hw.coordinates in
      let d : SimplexCochain = λ s. z s + negated p (w s) in
      record {
        closed = subst (λ (k : ℕ). IsCocycle facets k p d) (sym degree) ((cocycles facets n p field.large).plus (p - 1) z w hz.closed closed_w);
        coordinates = subst (λ (k : ℕ). HasCoordinates facets k p (cochains_at {p = p} levels k (classes k)) d r.values.items) (sym degree)
            (subst (λ (vs : List ℕ). HasCoordinates facets n p (cochains_at {p = p} levels n (classes n)) d vs) (sym is)
            (minus-coordinates n (cochains_at {p = p} levels n (classes n)) z w first.values.items second.values.items by minus hz.coordinates has_w));
      }

-- ---- classes

abbrev bit : ℕ → ℕ → ℕ
bit i j = cond (i == j) 1 0

same-bit : (j : ℕ) → bit j j ≡ 1
same-bit j = elim (cases_Bool (j == j)) [ inl t ↦ ap (λ (b : Bool). cond b 1 0) t | inr f ↦ absurd (never (sym (eq j) ∙ f)) ]
  where
    eq : (k : ℕ) → (k == k) ≡ true
    eq k = grind arith

    never : true ≡ false → ⊥
    never q = cc

other-bit : (i j : ℕ) → (i ≡ j → ⊥) → bit i j ≡ 0
other-bit i j n = elim (cases_Bool (i == j)) [ inl t ↦ absurd (n (eqb-true i j t)) | inr f ↦ ap (λ (b : Bool). cond b 1 0) f ]

abbrev bits : ℕ → ℕ → ℕ → List ℕ
bits j a h = map (λ i. cond (i == j) 1 0) (numbers_from a h)

bits-small : (p j a h : ℕ) → 1 < p → Each (λ c. c < p) (bits j a h)
bits-small p j a zero large = tt
bits-small p j a (suc h) large = (small (a == j), bits-small p j (suc a) h large)
  where
    small : (b : Bool) → cond b 1 0 < p
    small true = large
    small false = omega (arith, large)

past : (ts : List Chain) (s : List ℕ) (j a : ℕ) → j < a → combination (bits j a (length ts)) (map cochain_of ts) s ≡ 0
past [] s j a l = refl
past (t ∷ ts) s j a l =
    let e = other-bit a j (λ e. omega (arith, l, e)) in
    ap₂ (λ (c v : ℕ). c * cochain_of t s + v) e (past ts s j (suc a) (omega (arith, l))) ∙ omega arith

one-class : (ts : List Chain) (s : List ℕ) (k j a : ℕ) → j ≡ a + k → k < length ts → combination (bits j a (length ts)) (map cochain_of ts) s ≡ cochain_of (get_or ts k []) s
one-class [] s k j a e l = absurd (omega (arith, l))
one-class (t ∷ ts) s zero j a e l =
    let here : bit a j ≡ 1 = ap (λ (i : ℕ). bit i j) (let q : a ≡ j = omega (arith, e) in q) ∙ same-bit j in
    ap₂ (λ (c v : ℕ). c * cochain_of t s + v) here (past ts s j (suc a) (omega (arith, e))) ∙ omega arith
one-class (t ∷ ts) s (suc k) j a e l =
    let there = other-bit a j (λ q. omega (arith, e, q)) in
    ap₂ (λ (c v : ℕ). c * cochain_of t s + v) there (one-class ts s k j (suc a) (omega (arith, e)) (omega (arith, l))) ∙ omega arith

module _ (p : ℕ) (is_served : IsTrue (served p)) (detailed : Bool) (facets : List (List ℕ)) (levels : List (List (List ℕ))) (classes : ℕ → List (Cochain p)) (m : Matrices p)
    (on : IsSetting {p = p} detailed facets levels classes m) where
  unit-has : (n k : ℕ) (ts : List Chain) → k < length ts → HasCoordinates facets n p (map cochain_of ts) (cochain_of (get_or ts k [])) (unit_coordinates (length ts) k)
  unit-has n k ts l =
      let large = (served_field p is_served).large in
      let bound = coboundaries facets n p large in
      let z : SimplexCochain = cochain_of (get_or ts k []) in
      record {
        count = numbers-count (λ (i : ℕ). cond (i == k) 1 0) (length ts) ∙ sym (length-map ts cochain_of);
        small = bits-small p k 0 (length ts) large;
        rest = bound.alike (λ s. z s + negated p (combination (unit_coordinates (length ts) k) (map cochain_of ts) s)) (λ s. 0)
            (record { at = λ s o. Congruent_trans (Congruent_of (ap (λ (v : ℕ). z s + negated p v) (one-class ts s k k 0 (omega arith) l))) (add-negated p (z s) large) }) bound.zero_in;
      }

  -- the i-th class of degree n
  pub class-has : (n i : ℕ) (c : Coordinates p) → 1 ≤ i → i ≤ length (classes n) → c.degree ≡ n → c.values.items ≡ unit_coordinates (length (classes n)) (i - 1)
      → HasThese {p = p} facets levels classes (cochain_of (get_or (chains_at {p = p} (level levels n) (classes n)) (i - 1) [])) c
  class-has n i c a b degree values =
      let ts : List Chain = chains_at {p = p} (level levels n) (classes n) in
      let z : SimplexCochain = cochain_of (get_or ts (i - 1) []) in
      let us : List SimplexCochain = cochains_at {p = p} levels n (classes n) in
      let count : length ts ≡ length (classes n) = length-map (classes n) _ in
      let inside : i - 1 < length ts = omega (arith, a, b, count) in
      let basis = basis-in p detailed levels classes on.canonical is_served facets on.index n in
      let long : i - 1 < length us = (let e = length-map ts cochain_of in omega (arith, inside, e)) in
      let closed : IsCocycle facets n p z = subst (IsCocycle facets n p) (get_or-map cochain_of ts (i - 1) []) (each_get_or (IsCocycle facets n p) us (i - 1) (cochain_of []) long basis.cocycles) in
      let has : HasCoordinates facets n p us z c.values.items = subst (λ (vs : List ℕ). HasCoordinates facets n p us z vs) (sym (values ∙ ap (λ (h : ℕ). unit_coordinates h (i - 1)) (sym count))) (unit-has n (i - 1) ts inside) in
      record {
        closed = subst (λ (k : ℕ). IsCocycle facets k p z) (sym degree) closed;
        coordinates = subst (λ (k : ℕ). HasCoordinates facets k p (cochains_at {p = p} levels k (classes k)) z c.values.items) (sym degree) has;
      }
