-- The row of a column of the table of cycles is the canonical cycle of its class.
use Rattle.std.proofs.Common.{◌≡◌, ℕ, zero, suc, ◌+◌, ◌*◌, ◌%◌, ◌<◌, ◌≢◌, List, [], ◌∷◌, ◌++◌, map, length, get_or, arith, refl, sym, ap, ap₂, subst, ◌∙◌, inl, inr, ◌⊎◌, Some, slice_get}
use Rattle.cohomology.{proofs.Below.{cases_lt, Congruent, IsField, negated, sum_over, Among, Each, unit_vector, paired, Congruent_add, Congruent_from, Congruent_mod, Congruent_mul, Congruent_of, Congruent_refl, Congruent_scale, Congruent_sym, Congruent_trans, add-negated, pair_two, each_among, each_append, each_map, unit_one, unit_other, IsInOrder, Precedes, AgreesOnSimplices, Cochain, pairing, unit_cochain, canonical_cycle, cochain_of, terms_of, lists_strict, agree_by_place, unit_away, unit_here, value_by_place, IsBelow, IsRow, value_in, put_sum, value_in-none, level, PlacedCochain, column, IsRelativeCoboundary, IsCanonicalRelativeClass, IsCanonicalRelativeCoboundary, IsRelativeCoboundaryPivot}, specs.Names.{DegreeClasses, IsPairIndexOf, cochain_in, AreClassesOfPair, ArePivots, IsColumnRow, IsDualTable, IsRelativeCycle, at_places, classes_in, table_in}, proofs.RowLemmas.paired_row}

paired_right : (p n : ℕ) (v f g : ℕ → ℕ) → ((x : ℕ) → x < n → Congruent p (f x) (g x)) → Congruent p (paired n v f) (paired n v g)
paired_right p zero v f g h = Congruent_refl 0
paired_right p (suc n) v f g h = Congruent_add (paired_right p n v f g (λ x b. h x (omega arith))) (Congruent_mul (Congruent_refl (v n)) (h n (omega arith)))

-- ---- the sum over a list of simplices of multiples of their unit cochains

after_first : (s : List ℕ) (ss : List (List ℕ)) → IsInOrder (s ∷ ss) → Each (λ t. t ≢ s) ss
after_first s ss o = go ss (λ k b. o 0 (suc k) (omega arith) (omega arith))
  where
    go : (ts : List (List ℕ)) → ((k : ℕ) → k < length ts → Precedes s (get_or ts k [])) → Each (λ t. t ≢ s) ts
    go [] h = tt
    go (t ∷ ts) h = (λ e. lists_strict t (subst (λ u. Precedes u t) (sym e) (h 0 (omega arith))), go ts (λ k b. h (suc k) (omega arith)))

module _ (c : List ℕ → ℕ) (u : List ℕ) where
  units : List (List ℕ) → ℕ
  units ss = sum_over (λ (t : ℕ × List ℕ). t.0 * unit_cochain t.1 u) (map (λ (t : List ℕ). (c t, t)) ss)

  units_none : (ss : List (List ℕ)) → Each (λ t. t ≢ u) ss → units ss ≡ 0
  unfolding units
  units_none [] h = refl
  units_none (s ∷ ss) h = ap₂ (λ a b. c s * a + b) (unit_away s u h.0) (units_none ss h.1) ∙ omega arith

  units_one : (ss : List (List ℕ)) → IsInOrder ss → Among u ss → units ss ≡ c u
  unfolding units
  units_one [] o m = elim m [ ]
  units_one (s ∷ ss) o m =
      let later = after_first s ss o in
      elim m [
        | inl e ↦
            let rest : Each (λ t. t ≢ u) ss = subst (λ (v : List ℕ). Each (λ t. t ≢ v) ss) e later in
            let here : unit_cochain s u ≡ 1 = ap (unit_cochain s) (sym e) ∙ unit_here s in
            let first : c s * 1 + 0 ≡ c s = omega arith in
            ap₂ (λ a b. c s * a + b) here (units_none ss rest) ∙ first ∙ ap c e
        | inr k ↦
            let away : s ≢ u = λ e. each_among (λ t. t ≢ s) u ss later k (sym e) in
            ap₂ (λ a b. c s * a + b) (unit_away s u away) (units_one ss (λ j l a b. o (suc j) (suc l) (omega arith) (omega arith)) k) ∙ omega arith
      ]

-- ---- one degree

module _ (facets parts : List (List ℕ)) (ls sls : List (List (List ℕ))) (is : IsPairIndexOf facets parts ls sls) (p : ℕ) (field : IsField p) (n : ℕ)
    (classes : List (PlacedCochain p)) (table : List (List (ℕ × ℕ))) (dual : IsDualTable facets parts p n (level ls n) classes table)
    (i : ℕ) (inside : i < length classes) (y : List (ℕ × ℕ)) (below : IsBelow (length (level ls n)) y) (y_is : (x : ℕ) → x < length (level ls n) → Congruent p (value_in y x) (column table i x)) where
  by_column : (f : Cochain) → Congruent p (pairing f (terms_of (level ls n) y)) (paired (length (level ls n)) (at_places (level ls n) f) (column table i))
  by_column f = Congruent_trans (Congruent_of (paired_row f (level ls n) y below)) (paired_right p (length (level ls n)) (at_places (level ls n) f) (value_in y) (column table i) y_is)

  pub bounds_pair : (f : Cochain) → IsRelativeCoboundary facets parts n p f → Congruent p (pairing f (terms_of (level ls n) y)) 0
  bounds_pair f h = Congruent_trans (by_column f) (dual.coboundaries i inside f h)

  pub classes_pair : (j : ℕ) (c : PlacedCochain p) → slice_get classes j ≡ Some c → Congruent p (pairing (cochain_in ls n c.row) (terms_of (level ls n) y)) (unit_vector i j)
  classes_pair j c e = Congruent_trans (by_column (cochain_in ls n c.row)) (dual.dual i j c inside e)

  module _ (class : PlacedCochain p) (s : List ℕ) (e : slice_get classes i ≡ Some class) (canonical : IsCanonicalRelativeClass facets parts n p s (cochain_in ls n class.row))
      (pivots : List (List ℕ)) (are : ArePivots facets parts n p pivots) (bound : List ℕ → Cochain) (bounds : Each (λ t. IsCanonicalRelativeCoboundary facets parts n p t (bound t)) pivots) where
    -- at a pivot of the coboundaries it is minus the value at s of the canonical coboundary there
    at_pivot : (k : ℕ) → k < length (level ls n) → IsRelativeCoboundaryPivot facets parts n p (get_or (level ls n) k []) → Congruent p (column table i k) (negated p (bound (get_or (level ls n) k []) s))
    at_pivot k b q =
        let here = level ls n in
        let all = is.full_index.lists n in
        let t = get_or here k [] in
        let own = each_among (λ t. IsCanonicalRelativeCoboundary facets parts n p t (bound t)) t pivots bounds (are.all t q) in
        let place = all.whole s canonical.canonical.pivot.lead.on in
        let at : get_or here place.0 [] ≡ s = place.2 [] in
        let free_at : (x : ℕ) → x < length here → (IsRelativeCoboundaryPivot facets parts n p (get_or here x []) → ⊥) → Congruent p (column table i x) (unit_cochain s (get_or here x [])) =
        λ x d away. dual.free i x class s e canonical d away in
        let apart : place.0 ≢ k = λ g. canonical.no_bound (subst (IsRelativeCoboundaryPivot facets parts n p) (ap (λ x. get_or here x []) (sym g) ∙ at) q) in
        let two = pair_two p (length here) place.0 k (at_places here (bound t)) (column table i) place.1 b apart
        (λ x d m1 m2. elim (dual.decide x d) [
          | inl r ↦ Congruent_from (Congruent_mul (own.others (get_or here x []) r (λ g. m2 (all.once x k [] d b g))) (Congruent_refl (column table i x))) (omega arith)
          | inr away ↦ Congruent_from (Congruent_scale (bound t (get_or here x [])) (Congruent_trans (free_at x d away) (Congruent_of (unit_away s (get_or here x []) (λ g. m1 (all.once x place.0 [] d place.1 (sym (at ∙ g)))))))) (omega arith)
        ]) in
        let one_s : Congruent p (column table i place.0) 1 =
        Congruent_trans (free_at place.0 place.1 (λ r. canonical.no_bound (subst (IsRelativeCoboundaryPivot facets parts n p) at r))) (Congruent_of (ap (unit_cochain s) at ∙ unit_here s)) in
        let value_s : Congruent p (bound t (get_or here place.0 [])) (bound t s) = Congruent_of (ap (bound t) at) in
        let sum : Congruent p (bound t s + column table i k) 0 =
        Congruent_trans (Congruent_from (Congruent_add (Congruent_sym (Congruent_mul value_s one_s)) (Congruent_sym (Congruent_mul own.one (Congruent_refl (column table i k))))) (omega arith))
        (Congruent_trans (Congruent_sym two) (dual.coboundaries i inside (bound t) own.member)) in
        Congruent_from (Congruent_add sum (Congruent_sym (add-negated p (bound t s) field.large))) (omega arith)

    pub chain_is : AgreesOnSimplices facets n p (cochain_in ls n y) (cochain_of (canonical_cycle p bound pivots s))
    unfolding units
    chain_is =
        let here = level ls n in
        let all = is.full_index.lists n in
        agree_by_place facets n p here all (cochain_in ls n y) (cochain_of (canonical_cycle p bound pivots s))
        (λ k b.
        let u = get_or here k [] in
        let c : List ℕ → ℕ = λ t. negated p (bound t s) in
        let mine : Congruent p (cochain_in ls n y u) (column table i k) = Congruent_trans (Congruent_of (value_by_place facets n p here all y k b)) (y_is k b) in
        elim (dual.decide k b) [
          | inl q ↦
              let away : unit_cochain s u ≡ 0 = unit_away s u (λ g. canonical.no_bound (subst (IsRelativeCoboundaryPivot facets parts n p) (sym g) q)) in
              let sum : units c u pivots ≡ c u = units_one c u pivots are.in_order (are.all u q) in
              Congruent_trans mine (Congruent_trans (at_pivot k b q) (Congruent_of (sum_is c u (unit_cochain s u) pivots away sum)))
          | inr none ↦
              let sum : units c u pivots ≡ 0 = units_none c u pivots (each_map (λ t r g. none (subst (IsRelativeCoboundaryPivot facets parts n p) g r)) pivots are.each) in
              Congruent_trans mine (Congruent_trans (dual.free i k class s e canonical b none) (Congruent_of (first_is c u (unit_cochain s u) pivots sum)))
        ])
      where
        sum_is : (c : List ℕ → ℕ) (u : List ℕ) (a : ℕ) (ss : List (List ℕ)) → a ≡ 0 → units c u ss ≡ c u → c u ≡ 1 * a + units c u ss
        sum_is c u a ss e f = omega (arith, e, f)

        first_is : (c : List ℕ → ℕ) (u : List ℕ) (a : ℕ) (ss : List (List ℕ)) → units c u ss ≡ 0 → a ≡ 1 * a + units c u ss
        first_is c u a ss f = omega (arith, f)

-- ---- the pairs of a column

pub pairs_keep : (table : List (List (ℕ × ℕ))) (i k v : ℕ) (pairs : List (ℕ × ℕ)) → v ≡ column table i k → v ≡ 0 → IsColumnRow table i k pairs → IsColumnRow table i (k + 1) pairs
pairs_keep table i k v pairs is nil h = record {
  inside = each_map (λ e b. omega arith) pairs h.inside;
  values = λ x b. elim (cases_lt x k) [
    | inl c ↦ h.values x c
    | inr c ↦ let e : x ≡ k = omega arith in value_in-none pairs x (each_map (λ e b f. absurd (omega arith)) pairs h.inside) ∙ sym (ap (column table i) e ∙ sym is ∙ nil)
  ];
}

pub pairs_more : (table : List (List (ℕ × ℕ))) (i k v : ℕ) (pairs more : List (ℕ × ℕ)) → more ≡ pairs ++ ((k, v) ∷ []) → v ≡ column table i k → IsColumnRow table i k pairs → IsColumnRow table i (k + 1) more
pairs_more table i k v pairs more e is h = subst (IsColumnRow table i (k + 1)) (sym e) (record {
  inside = each_append (λ (f : ℕ × ℕ). f.0 < k + 1) pairs ((k, v) ∷ []) (each_map (λ e b. omega arith) pairs h.inside) (omega arith, tt);
  values = λ x b. put_sum pairs k v x ∙ elim (cases_lt x k) [
    | inl c ↦ ap₂ (λ a d. a + v * d) (h.values x c) (unit_other k x (λ q. absurd (omega arith))) ∙ omega arith
    | inr c ↦
        let q : x ≡ k = omega arith in
        let none : value_in pairs x ≡ 0 = value_in-none pairs x (each_map (λ e b f. absurd (omega arith)) pairs h.inside) in
        ap₂ (λ a d. a + v * d) none (ap (unit_vector k) q ∙ unit_one 0 k) ∙ (let w : 0 + v * 1 ≡ v = omega arith in w) ∙ is ∙ ap (column table i) (sym q)
  ];
})

pub pairs_put : (table : List (List (ℕ × ℕ))) (i k v : ℕ) (pairs more : List (ℕ × ℕ)) → v ≡ column table i k → IsColumnRow table i k pairs
    → ((v ≡ 0) × (more ≡ pairs)) ⊎ (more ≡ pairs ++ ((k, v) ∷ [])) → IsColumnRow table i (k + 1) more
pairs_put table i k v pairs more is h put =
    elim put [
      | inl z ↦ subst (IsColumnRow table i (k + 1)) (sym z.1) (pairs_keep table i k v pairs is z.0 h)
      | inr e ↦ pairs_more table i k v pairs more e is h
    ]

pub pairs_start : (table : List (List (ℕ × ℕ))) (i : ℕ) (pairs : List (ℕ × ℕ)) → pairs ≡ [] → IsColumnRow table i 0 pairs
pairs_start table i pairs e = subst (IsColumnRow table i 0) (sym e) (record { inside = tt; values = λ x b. absurd (omega arith) })

-- ---- the whole

pub cycle_made : (p : ℕ) → IsField p → (ds : List (DegreeClasses p)) (n i : ℕ) (table : List (List (ℕ × ℕ))) (pairs : List (ℕ × ℕ)) (y : PlacedCochain p) → i < length (classes_in ds n) → table ≡ table_in ds n → y.degree ≡ n → IsRow p y.row
    → IsColumnRow table i (length table) pairs → ((x : ℕ) → value_in y.row x ≡ value_in pairs x % p) → ((bound : ℕ) → IsBelow bound pairs → IsBelow bound y.row)
    → (full sub : List (List (List ℕ))) → AreClassesOfPair p full sub ds → IsRelativeCycle p full sub n (classes_in ds n) i y
cycle_made p field ds n i given pairs y b e degree row_is column_given values inside full sub whole =
    let classes = classes_in ds n in
    let table = table_in ds n in
    let found = whole.each n in
    let is_column : IsColumnRow table i (length table) pairs = subst (λ (t : List (List (ℕ × ℕ))). IsColumnRow t i (length t) pairs) e column_given in
    let below : IsBelow (length (level full n)) y.row = inside (length (level full n)) (subst (λ m. IsBelow m pairs) found.whole is_column.inside) in
    let y_is : (x : ℕ) → x < length (level full n) → Congruent p (value_in y.row x) (column table i x) =
    λ x c. Congruent_trans (Congruent_of (values x)) (Congruent_trans (Congruent_mod p (value_in pairs x)) (Congruent_of (is_column.values x (let w = found.whole in omega (arith, c, w))))) in
    record {
      placed = record { degree = degree; row_is = row_is; inside = below };
      chain = λ facets parts is class s pivots bound at canonical are bounds.
          chain_is facets parts full sub is p field n classes table (found.cycles facets parts is) i b y.row below y_is class s at canonical pivots are bound bounds;
      coboundaries = λ facets parts is f h. bounds_pair facets parts full sub is p field n classes table (found.cycles facets parts is) i b y.row below y_is f h;
      classes_at = λ facets parts is j c q. classes_pair facets parts full sub is p field n classes table (found.cycles facets parts is) i b y.row below y_is j c q;
    }
