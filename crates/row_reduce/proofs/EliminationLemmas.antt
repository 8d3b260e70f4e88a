-- Elimination on sparse rows takes one more row.
use Rattle.std.proofs.Common.{◌≡◌, ℕ, zero, suc, ◌+◌, ◌*◌, ◌-◌, ◌%◌, ◌<◌, ◌≤◌, ◌≢◌, List, [], ◌∷◌, ◌++◌, map, take, drop, length, get_or, arith, refl, sym, ap, ap₂, ◌∙◌, subst, inl, inr, mod-eq_of_lt}
use Rattle.row_reduce.{proofs.Below.{length_push, cases_lt, reverse-append, AllZip, Congruent, IsField, negated, sum_over, Among, Each, IsAscending, unit_vector, IsReduced, LeadsAt, StartsAt, Congruent_add, Congruent_from, Congruent_of, Congruent_refl, Congruent_scale, Congruent_sym, Congruent_trans, add-negated, each_alike, each_among, each_map, each_of_map, each_unmap, each_zip, not_zero, sum_vanishes, unit_one, add_it, keep_it, start_it, IsBelow, IsFirst, IsRow, value_in, below_of_zero, value_in-small}, specs.Names.{EchelonRow, combined, cleared, combination_of, pivot_of, row_of, Everywhere, Gives, IsClearedBy, IsEliminated, IsGiven, IsMonic, IsVectorRow, end_of, end_of_row, IsEchelonOf}, proofs.SpaceLemmas.{lead_inside, make_echelon}, proofs.GivesLemmas.{cleared_at, combined_linear, gives_alike, gives_plus, gives_scale, gives_sum, gives_unit}}

-- lists that match by what is taken from them
pub maps_alike : {X Z A : Type 0} (R : X → Z → Type 0) (f : X → A) (g : Z → A) → ((x : X) (z : Z) → R x z → g z ≡ f x) → (xs : List X) (zs : List Z) → AllZip R xs zs → map f xs ≡ map g zs
maps_alike R f g h [] [] k = refl
maps_alike R f g h [] (z ∷ zs) k = elim k [ ]
maps_alike R f g h (x ∷ xs) [] k = elim k [ ]
maps_alike R f g h (x ∷ xs) (z ∷ zs) k = ap₂ (λ a bs. a ∷ bs) (sym (h x z k.0)) (maps_alike R f g h xs zs k.1)

-- ---- a bound for the places

below_row : (r : List (ℕ × ℕ)) → IsBelow (end_of_row r) r
below_row [] = tt
below_row (e ∷ es) = (omega arith, each_map {Q = λ (f : ℕ × ℕ). f.0 < end_of_row (e ∷ es)} (λ f b. omega arith) es (below_row es))

pub below_end : (rows : List (List (ℕ × ℕ))) → Each (IsBelow (end_of rows)) rows
below_end [] = tt
below_end (r ∷ rs) = (
  each_map {Q = λ (f : ℕ × ℕ). f.0 < end_of (r ∷ rs)} (λ f b. omega arith) r (below_row r),
  each_map {Q = IsBelow (end_of (r ∷ rs))} (λ s h. each_map {Q = λ (f : ℕ × ℕ). f.0 < end_of (r ∷ rs)} (λ f b. omega arith) s h) rs (below_end rs),
)

-- ---- one more element in an ascending list

module _ {p : ℕ} (x : EchelonRow p) where
  put : ℕ → List (EchelonRow p) → List (EchelonRow p)
  put at xs = take at xs ++ (x ∷ drop at xs)

  pub each_put : (P : EchelonRow p → Type 0) (at : ℕ) (xs : List (EchelonRow p)) → P x → Each P xs → Each P (take at xs ++ (x ∷ drop at xs))
  each_put P zero [] a h = (a, tt)
  each_put P (suc at) [] a h = (a, tt)
  each_put P zero (y ∷ ys) a h = (a, h)
  each_put P (suc at) (y ∷ ys) a h = (h.0, each_put P at ys a h.1)

  pub among_put : (at : ℕ) (xs : List (EchelonRow p)) → Among x.pivot (map pivot_of (take at xs ++ (x ∷ drop at xs)))
  among_put zero [] = inl refl
  among_put (suc at) [] = inl refl
  among_put zero (y ∷ ys) = inl refl
  among_put (suc at) (y ∷ ys) = inr (among_put at ys)

  pub still_among : (t at : ℕ) (xs : List (EchelonRow p)) → Among t (map pivot_of xs) → Among t (map pivot_of (take at xs ++ (x ∷ drop at xs)))
  still_among t at [] m = elim m [ ]
  still_among t zero (y ∷ ys) m = inr m
  still_among t (suc at) (y ∷ ys) m = elim m [ inl e ↦ inl e | inr k ↦ inr (still_among t at ys k) ]

  pub reduced_put : (at : ℕ) (xs : List (EchelonRow p)) → Congruent p (row_of x x.pivot) 1 → Each (λ (d : EchelonRow p). Congruent p (row_of x d.pivot) 0 × Congruent p (row_of d x.pivot) 0) xs
      → IsReduced p pivot_of row_of xs → IsReduced p pivot_of row_of (take at xs ++ (x ∷ drop at xs))
  reduced_put zero [] one off h = (one, tt, tt)
  reduced_put (suc at) [] one off h = (one, tt, tt)
  reduced_put zero (y ∷ ys) one off h = (one, off, h)
  reduced_put (suc at) (y ∷ ys) one off h =
      (h.0, each_put (λ (s : EchelonRow p). Congruent p (row_of y s.pivot) 0 × Congruent p (row_of s y.pivot) 0) at ys (off.0.1, off.0.0) h.1, reduced_put at ys one off.1 h.2)

  pub ascends_put : (at : ℕ) (xs : List (EchelonRow p)) → (Among x.pivot (map pivot_of xs) → ⊥) → ((i : ℕ) (d : EchelonRow p) → i < at → (get_or xs i d).pivot < x.pivot) → ((d : EchelonRow p) → at < length xs → x.pivot ≤ (get_or xs at d).pivot)
      → at ≤ length xs → IsAscending (map pivot_of xs) → IsAscending (map pivot_of (take at xs ++ (x ∷ drop at xs)))
  ascends_put zero [] fresh before here b h = (tt, tt)
  ascends_put (suc at) [] fresh before here b h = absurd (omega arith)
  ascends_put zero (y ∷ ys) fresh before here b h =
      let later : x.pivot < y.pivot = (let c = here y (omega arith) in let n : y.pivot ≢ x.pivot = λ e. fresh (inl e) in omega arith) in
      ((later, each_of_map (λ w. x.pivot < w) pivot_of ys (each_map {Q = λ (s : EchelonRow p). x.pivot < s.pivot} (λ s c. omega arith) ys (each_unmap (λ w. y.pivot < w) pivot_of ys h.0))), h)
  ascends_put (suc at) (y ∷ ys) fresh before here b h = (
    each_of_map (λ w. y.pivot < w) pivot_of (take at ys ++ (x ∷ drop at ys)) (each_put (λ (s : EchelonRow p). y.pivot < s.pivot) at ys (before 0 y (omega arith)) (each_unmap (λ w. y.pivot < w) pivot_of ys h.0)),
    ascends_put at ys (λ m. fresh (inr m)) (λ i d c. before (suc i) d (omega arith)) (λ d c. here d (omega arith)) (omega arith) h.1,
  )

-- ---- the old rows, cleared at the newest pivot

module _ (p : ℕ) (large : 1 < p) (x : EchelonRow p) (one : Congruent p (row_of x x.pivot) 1) where
  -- where the newest row is zero nothing changes
  unchanged : (d e : EchelonRow p) (y : ℕ) → IsClearedBy p x d e → Congruent p (row_of x y) 0 → Congruent p (row_of e y) (row_of d y)
  unchanged d e y z none = Congruent_trans (z.row y) (Congruent_from (Congruent_scale (negated p (row_of d x.pivot)) none) (omega arith))

  gone : (d e : EchelonRow p) → IsClearedBy p x d e → Congruent p (row_of e x.pivot) 0
  gone d e z = Congruent_trans (z.row x.pivot) (Congruent_from (Congruent_add (Congruent_scale (negated p (row_of d x.pivot)) one) (add-negated p (row_of d x.pivot) large)) (omega arith))

  reduced_cleared : (ds es : List (EchelonRow p)) → AllZip (IsClearedBy p x) ds es → Each (λ (d : EchelonRow p). Congruent p (row_of x d.pivot) 0) ds → IsReduced p pivot_of row_of ds
      → IsReduced p pivot_of row_of es × Each (λ (e : EchelonRow p). Congruent p (row_of x e.pivot) 0 × Congruent p (row_of e x.pivot) 0) es
  reduced_cleared [] [] z off h = (tt, tt)
  reduced_cleared [] (e ∷ es) z off h = elim z [ ]
  reduced_cleared (d ∷ ds) [] z off h = elim z [ ]
  reduced_cleared (d ∷ ds) (e ∷ es) z off h =
      let rest = reduced_cleared ds es z.1 off.1 h.2 in
      let at : (d e s t : EchelonRow p) → IsClearedBy p x d e → IsClearedBy p x s t → Congruent p (row_of x s.pivot) 0 → Congruent p (row_of e t.pivot) (row_of d s.pivot) =
      λ d e s t a b none. subst (λ y. Congruent p (row_of e y) (row_of d s.pivot)) (sym b.pivot) (unchanged d e s.pivot a none) in
      let pairs : Each (λ (t : EchelonRow p). Congruent p (row_of e t.pivot) 0 × Congruent p (row_of t e.pivot) 0) es =
      each_alike (IsClearedBy p x) (λ (s : EchelonRow p). (Congruent p (row_of d s.pivot) 0 × Congruent p (row_of s d.pivot) 0) × Congruent p (row_of x s.pivot) 0)
      (λ (t : EchelonRow p). Congruent p (row_of e t.pivot) 0 × Congruent p (row_of t e.pivot) 0)
      (λ s t b c. (Congruent_trans (at d e s t z.0 b c.1) c.0.0, Congruent_trans (at s t d e b z.0 off.0) c.0.1)) ds es z.1 (each_zip (λ s a b. (a, b)) ds h.1 off.1) in (
        (Congruent_trans (at d e d e z.0 z.0 off.0) h.0, pairs, rest.0),
        ((subst (λ y. Congruent p (row_of x y) 0) (sym z.0.pivot) off.0, gone d e z.0), rest.1),
      )

-- ---- one more row

module _ (p : ℕ) (field : IsField p) (rows : List (List (ℕ × ℕ))) where
  pub eliminated_start : IsEliminated p rows (length rows) [] []
  eliminated_start = record {
    kernel = [];
    images = [];
    walked = start_it p (length rows) (end_of rows) field (combined rows) (combined_linear p (end_of rows) rows) (λ x. ⊥);
    few = omega arith;
    vectors = tt;
    listed = λ t m. m;
    each = tt;
    reduced = tt;
    ascends = tt;
  }

  module _ (low : ℕ) (inside : low < length rows) (echelon : List (EchelonRow p)) (relations : List (List (ℕ × ℕ))) (h : IsEliminated p rows (suc low) echelon relations)
      (row unit rest combination : List (ℕ × ℕ)) (row_is : row ≡ get_or rows low []) (unit_is : (x : ℕ) → Congruent p (value_in unit x) (unit_vector low x)) (rows_are : IsRow p rest × IsRow p combination)
      (rest_is : (y : ℕ) → Congruent p (value_in rest y) (cleared row_of echelon (value_in row) (value_in row) y))
      (combination_is : (x : ℕ) → Congruent p (value_in combination x) (cleared combination_of echelon (value_in row) (value_in unit) x)) where
    width : ℕ
    width = end_of rows

    down : (e : EchelonRow p) → IsGiven p rows (suc low) h.kernel e → Gives p rows Everywhere low (λ x. length rows ≤ x) h.kernel (combination_of e) (row_of e)
    down e g = record { from = g.gives.from; starts = record { before = λ x b. g.gives.starts.before x (omega arith) }; skips = g.gives.skips; apart = g.gives.apart }

    given : Gives p rows Everywhere low (λ x. length rows ≤ x) h.kernel (value_in combination) (value_in rest)
    given =
        let k : EchelonRow p → ℕ = λ d. negated p (value_in row d.pivot) in
        let base : Gives p rows Everywhere low (λ x. length rows ≤ x) h.kernel (value_in unit) (value_in row) =
        gives_alike p rows Everywhere low (λ x. length rows ≤ x) h.kernel (unit_vector low) (value_in (get_or rows low [])) (value_in unit) (value_in row) unit_is (λ y. Congruent_of (ap (λ (r : List (ℕ × ℕ)). value_in r y) row_is))
        (gives_unit p rows Everywhere low (λ x. length rows ≤ x) h.kernel inside (λ s. absurd (omega arith)) h.walked.kernel_places) in
        gives_alike p rows Everywhere low (λ x. length rows ≤ x) h.kernel (λ x. value_in unit x + sum_over (λ d. k d * combination_of d x) echelon) (λ y. value_in row y + sum_over (λ d. k d * row_of d y) echelon)
        (value_in combination) (value_in rest) combination_is rest_is
        (gives_sum p rows Everywhere low (λ x. length rows ≤ x) h.kernel k combination_of row_of echelon (value_in unit) (value_in row) (each_map {Q = λ (d : EchelonRow p). Gives p rows Everywhere low (λ x. length rows ≤ x) h.kernel (combination_of d) (row_of d)} down echelon h.each) base)

    one : Congruent p (value_in combination low) 1
    one =
        let none = sum_vanishes p pivot_of combination_of (λ (d : EchelonRow p). negated p (value_in row d.pivot)) low echelon
        (each_map {Q = λ (d : EchelonRow p). Congruent p (combination_of d low) 0} (λ d g. g.gives.starts.before low (omega arith)) echelon h.each) in
        Congruent_from (Congruent_add (combination_is low) (Congruent_add (unit_is low) (Congruent_add none (Congruent_of {p = p} (unit_one p low))))) (omega arith)

    zero_at : Each (λ (d : EchelonRow p). Congruent p (value_in rest d.pivot) 0) echelon
    zero_at = each_map {Q = λ (d : EchelonRow p). Congruent p (value_in rest d.pivot) 0} (λ d z. Congruent_trans (rest_is d.pivot) z) echelon (cleared_at p field.large echelon (value_in row) h.reduced)

    -- ---- nothing is left: one more relation
    pub eliminated_relation : rest ≡ [] → IsEliminated p rows low echelon (relations ++ (combination ∷ []))
    unfolding width
    eliminated_relation none = record {
      kernel = record { place = low; vector = value_in combination } ∷ h.kernel;
      images = h.images;
      walked = keep_it p (length rows) width field (combined rows) (combined_linear p width rows) (λ x. ⊥) low h.kernel h.images h.walked inside (value_in combination) one given.starts
          (record { at = λ x s. elim s [ ] }) given.apart (value_in rest) (record { at = λ y on. given.from.at y tt }) (record { at = λ y on. Congruent_of (ap (λ (r : List (ℕ × ℕ)). value_in r y) none) });
      few = let b = h.few in let e = length_push relations combination in omega arith;
      vectors = subst (AllZip (IsVectorRow p (length rows)) (record { place = low; vector = value_in combination } ∷ h.kernel)) (sym (reverse-append relations (combination ∷ [])))
          (record { is_row = rows_are.1; below = below_of_zero p (length rows) combination rows_are.1 given.skips.at; same = λ x. Congruent_refl (value_in combination x) }, h.vectors);
      listed = h.listed;
      each = each_map {Q = IsGiven p rows low (record { place = low; vector = value_in combination } ∷ h.kernel)}
          (λ e g. let d = down e g in record {
            rows_are = g.rows_are;
            starts = g.starts;
            gives = record { from = d.from; starts = d.starts; skips = d.skips; apart = (g.gives.starts.before low (omega arith), d.apart) };
          })
          echelon h.each;
      reduced = h.reduced;
      ascends = h.ascends;
    }

    -- ---- one more echelon row
    module _ (t : ℕ) (first : IsFirst rest t) (x : EchelonRow p) (monic : IsMonic p t rest combination x) (olds : List (EchelonRow p)) (z : AllZip (IsClearedBy p x) echelon olds) where
      nonzero : value_in rest t % p ≢ 0
      nonzero e = first.nonzero (sym (mod-eq_of_lt (value_in-small p rest t (let l = field.large in omega arith) rows_are.0)) ∙ e)

      lead : LeadsAt p width (value_in rest) t
      unfolding width
      lead = record {
        on = lead_inside p (end_of rows) rows (value_in combination) t (below_end rows) (λ e. nonzero ((Congruent_sym (given.from.at t tt)).same ∙ e));
        nonzero = nonzero;
        least = λ y on b. Congruent_of (first.least y b);
      }

      fresh : Among t (map pivot_of echelon) → ⊥
      fresh m = not_zero p (value_in rest t) nonzero (each_among (λ y. Congruent p (value_in rest y) 0) t (map pivot_of echelon) (each_of_map (λ y. Congruent p (value_in rest y) 0) pivot_of echelon zero_at) m)

      one_there : Congruent p (row_of x x.pivot) 1
      one_there = subst (λ y. Congruent p (row_of x y) 1) (sym monic.pivot_is) monic.one

      newest : IsGiven p rows low h.kernel x
      newest = record {
        rows_are = monic.rows_are;
        starts = record { before = λ y b. Congruent_trans (monic.row_is y) (Congruent_from (Congruent_scale monic.factor (Congruent_of {p = p} (first.least y (let q = monic.pivot_is in omega arith)))) (omega arith)) };
        gives = gives_scale p rows Everywhere low (λ x. length rows ≤ x) h.kernel field.large monic.factor (value_in combination) (value_in rest) (combination_of x) (row_of x) monic.combination_is monic.row_is given;
      }

      older : (d e : EchelonRow p) → IsClearedBy p x d e → IsGiven p rows (suc low) h.kernel d → IsGiven p rows low h.kernel e
      older d e c g =
          let k = negated p (row_of d x.pivot) in
          record {
            rows_are = c.rows_are g.rows_are.0 g.rows_are.1;
            starts = record {
              before = λ y b.
                  let none : Congruent p (k * row_of x y) 0 = elim (cases_lt y x.pivot) [
                    | inl l ↦ Congruent_from (Congruent_scale k (newest.starts.before y l)) (omega arith)
                    | inr m ↦ Congruent_from (Congruent_scale ((p - 1) * row_of x y) (g.starts.before x.pivot (let q = c.pivot in omega arith))) (omega arith)
                  ] in
                  Congruent_from (Congruent_add (c.row y) (Congruent_add (g.starts.before y (let q = c.pivot in omega arith)) none)) (omega arith);
            };
            gives = gives_alike p rows Everywhere low (λ x. length rows ≤ x) h.kernel (λ y. combination_of d y + k * combination_of x y) (λ y. row_of d y + k * row_of x y) (combination_of e) (row_of e) c.combination c.row
                (gives_plus p rows Everywhere low (λ x. length rows ≤ x) h.kernel k (combination_of d) (row_of d) (combination_of x) (row_of x) (down d g) newest.gives);
          }

      pub eliminated_row : (at : ℕ) → ((i : ℕ) (d : EchelonRow p) → i < at → (get_or olds i d).pivot < t) → ((d : EchelonRow p) → at < length olds → t ≤ (get_or olds at d).pivot) → at ≤ length olds
          → IsEliminated p rows low (take at olds ++ (x ∷ drop at olds)) relations
      unfolding width
      eliminated_row at before here b =
          let places = maps_alike (IsClearedBy p x) pivot_of pivot_of (λ d e c. c.pivot) echelon olds z in
          let off = each_map {Q = λ (d : EchelonRow p). Congruent p (row_of x d.pivot) 0} (λ d none. Congruent_trans (monic.row_is d.pivot) (Congruent_from (Congruent_scale monic.factor none) (omega arith))) echelon zero_at in
          let reduced = reduced_cleared p field.large x one_there echelon olds z off h.reduced in
          record {
            kernel = h.kernel;
            images = record { place = t; from = value_in combination; row = value_in rest } ∷ h.images;
            walked = add_it p (length rows) width field (combined rows) (combined_linear p width rows) (λ x. ⊥) low h.kernel h.images h.walked inside (value_in combination) one given.starts
                (record { at = λ x s. elim s [ ] }) given.apart (value_in rest) (record { at = λ y on. given.from.at y tt }) t lead (λ m. fresh (h.listed t m));
            few = let c = h.few in omega arith;
            vectors = h.vectors;
            listed = λ y m. elim m [
              | inl e ↦ subst (λ y. Among y (map pivot_of (take at olds ++ (x ∷ drop at olds)))) (monic.pivot_is ∙ e) (among_put x at olds)
              | inr k ↦ still_among x y at olds (subst (Among y) places (h.listed y k))
            ];
            each = each_put x (IsGiven p rows low h.kernel) at olds newest (each_alike (IsClearedBy p x) (IsGiven p rows (suc low) h.kernel) (IsGiven p rows low h.kernel) older echelon olds z h.each);
            reduced = reduced_put x at olds one_there reduced.1 reduced.0;
            ascends = ascends_put x at olds (λ m. fresh (subst (Among t) (sym places) (subst (λ y. Among y (map pivot_of olds)) monic.pivot_is m)))
                (λ i d c. let q = monic.pivot_is in let l = before i d c in omega arith) (λ d c. let q = monic.pivot_is in let l = here d c in omega arith) b (subst IsAscending places h.ascends);
          }

  -- the list is the echelon of the rows
  pub eliminated_space : (echelon : List (EchelonRow p)) (relations : List (List (ℕ × ℕ))) → IsEliminated p rows 0 echelon relations → IsEchelonOf p rows echelon
  eliminated_space echelon relations h =
      make_echelon p field rows echelon (each_map {Q = λ (e : EchelonRow p). IsRow p e.row × IsRow p e.combination} (λ e g. g.rows_are) echelon h.each)
      (each_map {Q = λ (e : EchelonRow p). IsBelow (length rows) e.combination} (λ e g. below_of_zero p (length rows) e.combination g.rows_are.1 g.gives.skips.at) echelon h.each)
      h.ascends h.reduced (each_map {Q = λ (e : EchelonRow p). StartsAt p e.pivot (row_of e)} (λ e g. g.starts) echelon h.each)
      (each_map {Q = λ (e : EchelonRow p). (y : ℕ) → Congruent p (combined rows (combination_of e) y) (row_of e y)} (λ e g y. g.gives.from.at y tt) echelon h.each)
      (λ v t l. h.listed t (h.walked.image_whole v (record { before = λ x b. absurd (omega arith) }) t
      (record { on = lead_inside p (end_of rows) rows v t (below_end rows) l.nonzero; nonzero = l.nonzero; least = λ y on b. l.least y tt b })))
