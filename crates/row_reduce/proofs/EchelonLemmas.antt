-- One more row of the reduced echelon list, from the last lead to the first.
use Rattle.std.proofs.Common.{◌≡◌, ℕ, ◌+◌, ◌*◌, ◌-◌, ◌%◌, ◌<◌, ◌≤◌, List, [], ◌∷◌, take, reverse, length, get_or, arith, refl, sym, ap, ◌∙◌, subst, inl, inr, Bool, Option, None}
use Rattle.row_reduce.{proofs.Below.{cases_eq, reverse_onto, Congruent, IsField, negated, sum_over, Each, ImageVector, Congruent_add, Congruent_from, Congruent_mod, Congruent_mul, Congruent_of, Congruent_refl, Congruent_scale, Congruent_sym, Congruent_trans, add-negated, each_get_or, each_map, each_of_map, each_zip, sum_vanishes, sum_append, IsBelow, value_in, sum_take, value_in-past}, specs.Names.{EchelonRow, Stored, StoredFits, IsFrom, image_of, IsSolvedStored, IsLeadIn, IsMarkedIn, AreOlder, AreEchelon, IsEchelonRow, IsMadeFrom, cleared, combination_of, pivot_of, row_of, Gives}, proofs.HistoryLemmas.{each_number, below_wider, from_wider}, proofs.GivesLemmas.{cleared_at, gives_alike, gives_scale, gives_sum, images_give}}

pub sum_reverse : {X : Type 0} (f : X → ℕ) (xs : List X) → sum_over f (reverse xs) ≡ sum_over f xs
sum_reverse f [] = refl
sum_reverse f (x ∷ xs) =
    ap (sum_over f) (reverse_onto xs x []) ∙ sum_append f (reverse xs) (x ∷ []) ∙ omega (arith, sum_reverse f xs)

-- what `add_scaled` gives
pub added_is : (p new old by at g v : ℕ) → new ≡ (old + by * v) % p → by ≡ negated p at % p → at ≡ g → Congruent p new (old + negated p g * v)
added_is p new old by at g v is by_is at_is =
    Congruent_trans (Congruent_of is)
    (Congruent_trans (Congruent_mod p (old + by * v))
    (Congruent_add (Congruent_refl old) (Congruent_mul (Congruent_trans (Congruent_of by_is) (Congruent_trans (Congruent_mod p (negated p at)) (Congruent_of (ap (negated p) at_is)))) (Congruent_refl v))))

-- one more reduced row
pub cleared_more : {p : ℕ} (part : EchelonRow p → ℕ → ℕ) (done : List (EchelonRow p)) (given base : ℕ → ℕ) (i : ℕ) (d : EchelonRow p) (y now next : ℕ) → d ≡ get_or done i d → i < length done
    → Congruent p now (cleared part (take i done) given base y) → Congruent p next (now + negated p (given d.pivot) * part d y) → Congruent p next (cleared part (take (i + 1) done) given base y)
cleared_more {p} part done given base i d y now next is b h step =
    let f : EchelonRow p → ℕ = λ e. negated p (given e.pivot) * part e y in
    let more : sum_over f (take (i + 1) done) ≡ sum_over f (take i done) + f d = sum_take f done i d b ∙ ap (λ (e : EchelonRow p). sum_over f (take i done) + f e) (sym is) in
    Congruent_from (Congruent_add step h) (omega (arith, more))

-- a history of older rows is one of all rows
pub history_wide : (p : ℕ) (images : List (Stored p)) (k : ℕ) (s : Stored p) → AreOlder p images → k < length images → s ≡ get_or images k s → IsBelow (length images) s.history
history_wide p images k s older b is =
    subst (λ (t : Stored p). IsBelow (length images) t.history) (sym is) (below_wider k (length images) (omega arith) (get_or images k s).history (older.each k s b))

module _ (p width : ℕ) (field : IsField p) (rows : List (List (ℕ × ℕ))) (skip : List Bool) (solutions : List (List (ℕ × ℕ))) (pivots : List (Option ℕ)) (stored : List (Stored p))
    (given : IsSolvedStored p width rows skip solutions pivots stored) where
  pub echelon_start : AreEchelon p width rows skip given.solved.kernel pivots width []
  echelon_start = record { each = tt; reduced = tt; ascends = tt; above = tt; owned = tt; whole = λ y b c o. absurd (omega arith) }

  pub echelon_past : (at : ℕ) (done : List (EchelonRow p)) → get_or pivots at None ≡ None
      → AreEchelon p width rows skip given.solved.kernel pivots (at + 1) done → AreEchelon p width rows skip given.solved.kernel pivots at done
  echelon_past at done none h = record {
    each = h.each;
    reduced = h.reduced;
    ascends = h.ascends;
    above = each_map {Q = λ (e : EchelonRow p). at ≤ e.pivot} (λ e b. omega arith) done h.above;
    owned = h.owned;
    whole = λ y b c o. elim (cases_eq y at) [
      | inl q ↦ absurd (o (ap (λ (j : ℕ). get_or pivots j None) q ∙ none))
      | inr n ↦ h.whole y (omega arith) c o
    ];
  }

  module _ (k : ℕ) (s : Stored p) (e : EchelonRow p) (forward : List (EchelonRow p)) (inside : k < length stored) (is : s ≡ get_or stored k s)
      (own : IsLeadIn pivots e.pivot) (made : IsMadeFrom p stored s forward e)
      (h : AreEchelon p width rows skip given.solved.kernel pivots (e.pivot + 1) (reverse forward)) where
    done : List (EchelonRow p)
    done = reverse forward

    old : ℕ → ℕ
    old = made.given

    factor : ℕ
    factor = negated p s.factor

    fits : StoredFits p width s
    fits = subst (StoredFits p width) (sym is) (each_get_or (StoredFits p width) stored k s inside given.triangular.fits)

    source : ℕ → ℕ
    source = get_or given.sources k (λ x. 0)

    -- what holds of each image holds of this one
    at_image : (P : ImageVector ℕ → Type 0) → Each P given.solved.images → P (image_of s source)
    unfolding source
    at_image P all =
        subst (λ (t : Stored p). P (image_of t (get_or given.sources k (λ x. 0)))) (sym is) (each_number P stored given.sources [] (subst (Each P) given.images_are all) given.sources_length k s (λ x. 0) inside)

    start_is : (x : ℕ) → Congruent p (value_in made.start x) (source x)
    unfolding source
    start_is x =
        let mine : IsFrom p k given.sources s.source s.history source =
        subst (λ (t : Stored p). IsFrom p k given.sources t.source t.history (get_or given.sources k (λ x. 0))) (sym is) (given.sources_are.from k s (λ x. 0) inside) in
        Congruent_sym (made.vector.expanded.is given.sources source given.sources_are (from_wider p k (length stored) given.sources s.source s.history source (omega arith) mine) x)

    -- the values as sums over the list in order
    row_is : (y : ℕ) → Congruent p (value_in e.row y) (factor * (old y + sum_over (λ (d : EchelonRow p). negated p (old d.pivot) * row_of d y) done))
    unfolding old factor done
    row_is y = Congruent_trans (made.row y) (Congruent_of (ap (λ n. negated p s.factor * (made.given y + n)) (sym (sum_reverse (λ (d : EchelonRow p). negated p (made.given d.pivot) * row_of d y) forward))))

    combination_is : (x : ℕ) → Congruent p (value_in e.combination x) (factor * (value_in made.start x + sum_over (λ (d : EchelonRow p). negated p (old d.pivot) * combination_of d x) done))
    unfolding old factor done
    combination_is x = Congruent_trans (made.combination x) (Congruent_of (ap (λ n. negated p s.factor * (value_in made.start x + n)) (sym (sum_reverse (λ (d : EchelonRow p). negated p (made.given d.pivot) * combination_of d x) forward))))

    row_zero : (y : ℕ) → Congruent p (value_in s.row y) 0 → Each (λ (d : EchelonRow p). Congruent p (row_of d y) 0) done → Congruent p (value_in e.row y) 0
    unfolding old
    row_zero y z each =
        let none = sum_vanishes p pivot_of row_of (λ (d : EchelonRow p). negated p (old d.pivot)) y done each in
        Congruent_from (Congruent_trans (row_is y) (Congruent_scale factor (Congruent_add (Congruent_trans (made.given_is y) z) none))) (omega arith)

    combination_zero : (x : ℕ) → Congruent p (value_in made.start x) 0 → Each (λ (d : EchelonRow p). Congruent p (combination_of d x) 0) done → Congruent p (value_in e.combination x) 0
    combination_zero x z each =
        let none = sum_vanishes p pivot_of combination_of (λ (d : EchelonRow p). negated p (old d.pivot)) x done each in
        Congruent_from (Congruent_trans (combination_is x) (Congruent_scale factor (Congruent_add z none))) (omega arith)

    -- the rows that are done are zero up to here
    before_done : (y : ℕ) → y ≤ e.pivot → Each (λ (d : EchelonRow p). Congruent p (row_of d y) 0) done
    unfolding done
    before_done y b = both (reverse forward) h.each h.above
      where
        both : (ds : List (EchelonRow p)) → Each (IsEchelonRow p width rows skip given.solved.kernel) ds → Each (λ (d : EchelonRow p). e.pivot + 1 ≤ d.pivot) ds → Each (λ (d : EchelonRow p). Congruent p (row_of d y) 0) ds
        both [] a c = tt
        both (d ∷ ds) a c = (a.0.starts.before y (let q = c.0 in omega arith), both ds a.1 c.1)

    starts : (y : ℕ) → y < e.pivot → Congruent p (value_in e.row y) 0
    starts y b = row_zero y (fits.leads.before y (let q = made.pivot in omega arith)) (before_done y (omega arith))

    one : Congruent p (value_in e.row e.pivot) 1
    unfolding old factor
    one =
        let none = sum_vanishes p pivot_of row_of (λ (d : EchelonRow p). negated p (old d.pivot)) e.pivot done (before_done e.pivot (omega arith)) in
        let lead : Congruent p (value_in s.row e.pivot * s.factor + 1) 0 =
        subst (λ y. Congruent p (value_in s.row y * s.factor + 1) 0) (sym made.pivot) fits.factor in
        let product : Congruent p (old e.pivot * s.factor + 1) 0 =
        Congruent_trans (Congruent_add (Congruent_mul (made.given_is e.pivot) (Congruent_refl s.factor)) (Congruent_refl 1)) lead in
        let unit : Congruent p (negated p s.factor * old e.pivot) 1 =
        Congruent_from (Congruent_add (Congruent_scale (p - 1) product) (Congruent_sym (add-negated p 1 field.large))) (omega arith) in
        Congruent_from (Congruent_add (Congruent_trans (row_is e.pivot) (Congruent_scale (negated p s.factor) (Congruent_add (Congruent_refl (old e.pivot)) none))) unit) (omega arith)

    others : Each (λ (d : EchelonRow p). Congruent p (row_of e d.pivot) 0) done
    unfolding done old factor
    others =
        each_map {Q = λ (d : EchelonRow p). Congruent p (row_of e d.pivot) 0} (λ d z. Congruent_from (Congruent_trans (row_is d.pivot) (Congruent_scale factor z)) (omega arith))
        (reverse forward) (cleared_at p field.large (reverse forward) made.given h.reduced)

    gives : Gives p rows (λ y. y < width) 0 (IsMarkedIn skip) given.solved.kernel (value_in e.combination) (value_in e.row)
    unfolding done old factor
    gives =
        let On : ℕ → Type 0 = λ y. y < width in
        let G : (ℕ → ℕ) → (ℕ → ℕ) → Type 0 = Gives p rows On 0 (IsMarkedIn skip) given.solved.kernel in
        let k : EchelonRow p → ℕ = λ d. negated p (made.given d.pivot) in
        let base : G (value_in made.start) made.given =
        gives_alike p rows On 0 (IsMarkedIn skip) given.solved.kernel source (value_in s.row) (value_in made.start) made.given start_is made.given_is
        (at_image (λ (i : ImageVector ℕ). G i.from i.row) (images_give p rows width 0 0 (IsMarkedIn skip) given.solved.kernel given.solved.images (omega arith) given.solved.walked)) in
        let each = each_map {Q = λ (d : EchelonRow p). G (combination_of d) (row_of d)}
        (λ d g. record { from = g.from; starts = record { before = λ x b. absurd (omega arith) }; skips = g.skips; apart = g.apart }) (reverse forward) h.each in
        gives_scale p rows On 0 (IsMarkedIn skip) given.solved.kernel field.large (negated p s.factor)
        (λ x. value_in made.start x + sum_over (λ (d : EchelonRow p). k d * combination_of d x) (reverse forward)) (λ y. made.given y + sum_over (λ (d : EchelonRow p). k d * row_of d y) (reverse forward))
        (value_in e.combination) (value_in e.row) combination_is row_is (gives_sum p rows On 0 (IsMarkedIn skip) given.solved.kernel k combination_of row_of (reverse forward) (value_in made.start) made.given each base)

    echelon_row : IsEchelonRow p width rows skip given.solved.kernel e
    unfolding done
    echelon_row = record {
      inside = let b = fits.inside in let q = made.pivot in omega arith;
      rows_are = made.rows_are;
      starts = record { before = starts };
      wide = λ y b.
          row_zero y (Congruent_of (value_in-past width y s.row fits.entries b))
          (each_map {Q = λ (d : EchelonRow p). Congruent p (row_of d y) 0} (λ d g. g.wide y b) (reverse forward) h.each);
      from = gives.from;
      apart = gives.apart;
      skips = gives.skips;
      short = λ x b.
          let number : s.source < length rows =
          subst (λ (t : Stored p). t.source < length rows) (sym is) (each_get_or (λ (t : Stored p). t.source < length rows) stored k s inside given.numbered) in
          let below : IsBelow (length rows) made.start = made.vector.below (length rows) given.numbered number in
          combination_zero x (Congruent_of (value_in-past (length rows) x made.start below b))
          (each_map {Q = λ (d : EchelonRow p). Congruent p (combination_of d x) 0} (λ d g. g.short x b) (reverse forward) h.each);
    }

    pub echelon_more : AreEchelon p width rows skip given.solved.kernel pivots e.pivot (e ∷ reverse forward)
    unfolding done
    echelon_more = record {
      each = (echelon_row, h.each);
      reduced = (
        one,
        each_zip {S = λ (d : EchelonRow p). Congruent p (row_of e d.pivot) 0 × Congruent p (row_of d e.pivot) 0}
            (λ d a b. (a, b)) (reverse forward) others (before_done e.pivot (omega arith)),
        h.reduced,
      );
      ascends = (each_of_map (λ w. e.pivot < w) pivot_of (reverse forward) (each_map {Q = λ (d : EchelonRow p). e.pivot < d.pivot} (λ d b. omega arith) (reverse forward) h.above), h.ascends);
      above = (omega arith, each_map {Q = λ (d : EchelonRow p). e.pivot ≤ d.pivot} (λ d b. omega arith) (reverse forward) h.above);
      owned = (own, h.owned);
      whole = λ y b c o. elim (cases_eq y e.pivot) [ inl q ↦ inl (sym q) | inr n ↦ inr (h.whole y (omega arith) c o) ];
    }
