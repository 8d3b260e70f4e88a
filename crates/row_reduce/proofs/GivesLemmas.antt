-- What combinations of given rows give.
use Rattle.std.proofs.{Common.{◌≡◌, ℕ, zero, suc, ◌+◌, ◌*◌, ◌-◌, ◌<◌, ◌≤◌, List, [], ◌∷◌, map, length, get_or, arith, refl, sym, ap, ◌∙◌, subst}, Math.ListN.get_or-map}
use Rattle.row_reduce.{proofs.Below.{length-map, Congruent, negated, sum_over, Each, unit_vector, AgreesOn, IsReduced, ImageVector, IsLinear, KernelVector, Skips, StartsAt, Walked, Congruent_add, Congruent_from, Congruent_of, Congruent_refl, Congruent_scale, Congruent_sym, Congruent_trans, add-negated, each_map, each_zip, sum_picks, row_combination-linear, row_combination-row, unit_other, value_in}, specs.Names.{EchelonRow, combined, cleared, pivot_of, row_of, Gives}}

-- ---- the sum of the rows times coefficients

pub combined_on : (p : ℕ) (On : ℕ → Type 0) (rows : List (List (ℕ × ℕ))) → IsLinear p (length rows) On (combined rows)
combined_on p On rows = subst (λ n. IsLinear p n On (combined rows)) (length-map rows value_in) (row_combination-linear p On (map value_in rows))

pub combined_linear : (p width : ℕ) (rows : List (List (ℕ × ℕ))) → IsLinear p (length rows) (λ y. y < width) (combined rows)
combined_linear p width rows = combined_on p (λ y. y < width) rows

-- what the unit vector goes to: the row
pub combined_row : (rows : List (List (ℕ × ℕ))) (low y : ℕ) → low < length rows → combined rows (unit_vector low) y ≡ value_in (get_or rows low []) y
combined_row rows low y b =
    let inside : low < length (map value_in rows) = subst (λ n. low < n) (sym (length-map rows value_in)) b in
    row_combination-row (map value_in rows) low y (value_in []) inside ∙ ap (λ (f : ℕ → ℕ). f y) (get_or-map value_in rows low [])

module _ (p : ℕ) (rows : List (List (ℕ × ℕ))) (On : ℕ → Type 0) (low : ℕ) (skipped : ℕ → Type 0) (kernel : List KernelVector) where
  pub gives_alike : (v w v' w' : ℕ → ℕ) → ((x : ℕ) → Congruent p (v' x) (v x)) → ((y : ℕ) → Congruent p (w' y) (w y)) → Gives p rows On low skipped kernel v w → Gives p rows On low skipped kernel v' w'
  gives_alike v w v' w' e f a = record {
    from = record { at = λ y on. Congruent_trans (((combined_on p On rows).alike v' v (record { at = λ x _. e x })).at y on) (Congruent_trans (a.from.at y on) (Congruent_sym (f y))) };
    starts = record { before = λ x b. Congruent_trans (e x) (a.starts.before x b) };
    skips = record { at = λ x s. Congruent_trans (e x) (a.skips.at x s) };
    apart = each_map {Q = λ (k : KernelVector). Congruent p (v' k.place) 0} (λ k c. Congruent_trans (e k.place) c) kernel a.apart;
  }

  pub gives_plus : (k : ℕ) (v w v' w' : ℕ → ℕ) → Gives p rows On low skipped kernel v w → Gives p rows On low skipped kernel v' w' → Gives p rows On low skipped kernel (λ x. v x + k * v' x) (λ y. w y + k * w' y)
  gives_plus k v w v' w' a b =
      let none : (m n : ℕ) → Congruent p m 0 → Congruent p n 0 → Congruent p (m + k * n) 0 = λ m n c d. Congruent_from (Congruent_add c (Congruent_scale k d)) (omega arith) in
      record {
        from = record { at = λ y on. Congruent_trans (((combined_on p On rows).plus k v v').at y on) (Congruent_add (a.from.at y on) (Congruent_scale k (b.from.at y on))) };
        starts = record { before = λ x c. none (v x) (v' x) (a.starts.before x c) (b.starts.before x c) };
        skips = record { at = λ x s. none (v x) (v' x) (a.skips.at x s) (b.skips.at x s) };
        apart = each_zip {S = λ (e : KernelVector). Congruent p (v e.place + k * v' e.place) 0} (λ e c d. none (v e.place) (v' e.place) c d) kernel a.apart b.apart;
      }

  pub gives_sum : {D : Type 0} (k : D → ℕ) (from row : D → ℕ → ℕ) (ds : List D) (v w : ℕ → ℕ) → Each (λ (d : D). Gives p rows On low skipped kernel (from d) (row d)) ds → Gives p rows On low skipped kernel v w
      → Gives p rows On low skipped kernel (λ x. v x + sum_over (λ d. k d * from d x) ds) (λ y. w y + sum_over (λ d. k d * row d y) ds)
  gives_sum k from row [] v w h a = gives_alike v w (λ x. v x + 0) (λ y. w y + 0) (λ x. Congruent_of (omega arith)) (λ y. Congruent_of (omega arith)) a
  gives_sum k from row (d ∷ ds) v w h a =
      gives_alike (λ x. v x + k d * from d x + sum_over (λ d. k d * from d x) ds) (λ y. w y + k d * row d y + sum_over (λ d. k d * row d y) ds)
      (λ x. v x + sum_over (λ d. k d * from d x) (d ∷ ds)) (λ y. w y + sum_over (λ d. k d * row d y) (d ∷ ds)) (λ x. Congruent_of (omega arith)) (λ y. Congruent_of (omega arith))
      (gives_sum k from row ds (λ x. v x + k d * from d x) (λ y. w y + k d * row d y) h.1 (gives_plus (k d) v w (from d) (row d) a h.0))

  pub gives_scale : 1 < p → (k : ℕ) (v w v' w' : ℕ → ℕ) → ((x : ℕ) → Congruent p (v' x) (k * v x)) → ((y : ℕ) → Congruent p (w' y) (k * w y)) → Gives p rows On low skipped kernel v w → Gives p rows On low skipped kernel v' w'
  gives_scale large k v w v' w' e f a =
      let scaled : (m n : ℕ) → Congruent p m (k * n) → Congruent p m (n + (k + (p - 1)) * n) = λ m n c. Congruent_from (Congruent_add c (Congruent_sym (add-negated p n large))) (omega arith) in
      gives_alike (λ x. v x + (k + (p - 1)) * v x) (λ y. w y + (k + (p - 1)) * w y) v' w' (λ x. scaled (v' x) (v x) (e x)) (λ y. scaled (w' y) (w y) (f y)) (gives_plus (k + (p - 1)) v w v w a a)

  -- the row at `low` itself
  pub gives_unit : low < length rows → (skipped low → ⊥) → Each (λ (k : KernelVector). (suc low ≤ k.place) × (k.place < length rows)) kernel → Gives p rows On low skipped kernel (unit_vector low) (value_in (get_or rows low []))
  gives_unit inside taken later = record {
    from = record { at = λ y on. Congruent_of (combined_row rows low y inside) };
    starts = record { before = λ x b. Congruent_of (unit_other low x (λ e. absurd (omega arith))) };
    skips = record { at = λ x s. Congruent_of (unit_other low x (λ e. taken (subst skipped e s))) };
    apart = each_map {Q = λ (k : KernelVector). Congruent p (unit_vector low k.place) 0} (λ k b. Congruent_of (unit_other low k.place (let c = b.0 in λ e. absurd (omega arith)))) kernel later;
  }

-- what a walk knows of its images
pub images_give : (p : ℕ) (rows : List (List (ℕ × ℕ))) (width low n : ℕ) (skipped : ℕ → Type 0) (kernel : List KernelVector) (images : List (ImageVector ℕ)) → low ≤ n → Walked p (length rows) width (combined rows) skipped n kernel images
    → Each (λ (i : ImageVector ℕ). Gives p rows (λ y. y < width) low skipped kernel i.from i.row) images
images_give p rows width low n skipped kernel images b h =
    each_zip {P = λ (i : ImageVector ℕ). AgreesOn p (λ y. y < width) (combined rows i.from) i.row × StartsAt p n i.from} {Q = λ (i : ImageVector ℕ). Skips p skipped i.from × Each (λ (k : KernelVector). Congruent p (i.from k.place) 0) kernel}
    (λ i c d. record { from = c.0; starts = record { before = λ x e. c.1.before x (omega arith) }; skips = d.0; apart = d.1 }) images
    (each_zip (λ i c d. (c, d)) images h.image_from h.image_starts) (each_zip (λ i c d. (c, d)) images h.image_skips h.apart)

-- a row less its values at the pivots is zero there
pub cleared_at : (p : ℕ) → 1 < p → (ds : List (EchelonRow p)) (w : ℕ → ℕ) → IsReduced p pivot_of row_of ds → Each (λ (d : EchelonRow p). Congruent p (cleared row_of ds w w d.pivot) 0) ds
cleared_at p large ds w h =
    each_map {Q = λ (d : EchelonRow p). Congruent p (cleared row_of ds w w d.pivot) 0}
    (λ d picked. Congruent_from (Congruent_add (Congruent_add (Congruent_refl (w d.pivot)) picked) (add-negated p (w d.pivot) large)) (omega arith)) ds
    (sum_picks p pivot_of row_of (λ (d : EchelonRow p). negated p (w d.pivot)) ds h)
