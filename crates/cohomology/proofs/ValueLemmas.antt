-- What a relative cocycle pairs to with the cycles is its coordinates.
use Rattle.std.proofs.Common.{◌≡◌, ℕ, zero, suc, ◌+◌, ◌*◌, ◌-◌, ◌<◌, ◌≢◌, List, [], ◌∷◌, length, get_or, arith, refl, sym, ap, ap₂, subst, ◌∙◌, inl, inr, add_comm, mod-eq_of_lt, Some, slice_get}
use Rattle.cohomology.{proofs.Below.{get_or-map, length-map, get_or_from_slice_get, Congruent, IsField, Each, unit_vector, paired, combination, Congruent_add, Congruent_from, Congruent_of, Congruent_scale, Congruent_sym, Congruent_trans, add-negated, paired_plus, paired_same, each_from_index, unit_one, unit_other, cases_eq, get_or_default, no_cochain, Cochain, cochain_of, terms_of, value_by_place, IsRow, value_in, value_in-small, level, PlacedCochain, combined, column, combined_paired, HasRelativeCoordinates}, specs.Names.{DegreeClasses, chains_at, cochain_in, AreClassesOfPair, IsSpread, at_places, classes_in, table_in, AreRelativeValues, cochains_at}, proofs.RowLemmas.some_at}

unit_later : (i j : ℕ) → unit_vector (suc i) (suc j) ≡ unit_vector i j
unit_later i j =
    elim (cases_eq j i) [
      | inl e ↦ subst (λ k. unit_vector (suc i) (suc k) ≡ unit_vector i k) (sym e) (unit_one 0 (suc i) ∙ sym (unit_one 0 i))
      | inr m ↦ let n : suc j ≢ suc i = λ e. m (omega arith) in unit_other (suc i) (suc j) n ∙ sym (unit_other i j m)
    ]

module _ (p m : ℕ) (here : List (List ℕ)) (col : ℕ → ℕ) where
  against : Cochain → ℕ
  against f = paired m (at_places here f) col

  against_plus : (k : ℕ) (f g : Cochain) → against (λ s. f s + k * g s) ≡ against f + k * against g
  unfolding against
  against_plus k f g = paired_plus m k (at_places here f) (at_places here g) col

  against_more : (k : ℕ) (f g : Cochain) → against (λ s. k * f s + g s) ≡ against g + k * against f
  unfolding against
  against_more k f g = ap (λ (h : Cochain). paired m (at_places here h) col) (λ q s. add_comm (k * f s) (g s) q) ∙ paired_plus m k (at_places here g) (at_places here f) col

  against_zero : Congruent p (against no_cochain) 0
  unfolding against
  against_zero = Congruent_of (go m)
    where
      go : (n : ℕ) → paired n (at_places here no_cochain) col ≡ 0
      go zero = refl
      go (suc n) = omega (arith, go n)

  -- a combination of cochains that pair to 0, and of one that pairs to 1 and others that pair to 0
  none_of : (cs : List ℕ) (zs : List Cochain) → ((j : ℕ) → j < length zs → Congruent p (against (get_or zs j no_cochain)) 0) → Congruent p (against (combination cs zs)) 0
  none_of [] zs h = against_zero
  none_of (c ∷ cs) [] h = against_zero
  none_of (c ∷ cs) (z ∷ zs) h =
      Congruent_trans (Congruent_of (against_more c z (combination cs zs)))
      (Congruent_from (Congruent_add (none_of cs zs (λ j b. h (suc j) (omega arith))) (Congruent_scale c (h 0 (omega arith)))) (omega arith))

  one_of : (i : ℕ) (cs : List ℕ) (zs : List Cochain) → length cs ≡ length zs → i < length cs → ((j : ℕ) → j < length zs → Congruent p (against (get_or zs j no_cochain)) (unit_vector i j))
      → Congruent p (against (combination cs zs)) (get_or cs i 0)
  one_of i [] zs e b h = absurd (omega arith)
  one_of i (c ∷ cs) [] e b h = absurd (omega arith)
  one_of zero (c ∷ cs) (z ∷ zs) e b h =
      Congruent_trans (Congruent_of (against_more c z (combination cs zs)))
      (Congruent_from (Congruent_add (none_of cs zs (λ j d. Congruent_trans (h (suc j) (omega arith)) (Congruent_of (unit_other 0 (suc j) (λ e. absurd (omega arith))))))
      (Congruent_scale c (Congruent_trans (h 0 (omega arith)) (Congruent_of (unit_one 0 0))))) (omega arith))
  one_of (suc i) (c ∷ cs) (z ∷ zs) e b h =
      Congruent_trans (Congruent_of (against_more c z (combination cs zs)))
      (Congruent_from (Congruent_add (one_of i cs zs (omega arith) (omega arith) (λ j d. Congruent_trans (h (suc j) (omega arith)) (Congruent_of (unit_later i j))))
      (Congruent_scale c (Congruent_trans (h 0 (omega arith)) (Congruent_of (unit_other (suc i) 0 (λ e. absurd (omega arith))))))) (omega arith))

  -- what is left of z pairs to 0, so z pairs to the i-th coefficient
  pub coefficient : 1 < p → (z : Cochain) (cs : List ℕ) (zs : List Cochain) (i : ℕ) → length cs ≡ length zs → i < length cs
      → ((j : ℕ) → j < length zs → Congruent p (paired m (at_places here (get_or zs j no_cochain)) col) (unit_vector i j))
      → Congruent p (paired m (at_places here (λ s. z s + (p - 1) * combination cs zs s)) col) 0 → Congruent p (paired m (at_places here z) col) (get_or cs i 0)
  unfolding against
  coefficient large z cs zs i e b duals rest =
      let c : Cochain = combination cs zs in
      let one = one_of i cs zs e b duals in
      Congruent_from (Congruent_add rest (Congruent_add one (Congruent_add (Congruent_of (sym (against_plus (p - 1) z c))) (Congruent_sym (add-negated p (against c) large))))) (omega arith)

-- lists that are congruent and small are one
same_small : (p : ℕ) (cs ds : List ℕ) → length cs ≡ length ds → Each (λ c. c < p) cs → Each (λ d. d < p) ds → ((i : ℕ) → i < length cs → Congruent p (get_or cs i 0) (get_or ds i 0)) → cs ≡ ds
same_small p [] [] e u v h = refl
same_small p [] (d ∷ ds) e u v h = absurd (omega arith)
same_small p (c ∷ cs) [] e u v h = absurd (omega arith)
same_small p (c ∷ cs) (d ∷ ds) e u v h =
    ap₂ (λ a bs. a ∷ bs) (sym (mod-eq_of_lt u.0) ∙ (h 0 (omega arith)).same ∙ mod-eq_of_lt v.0) (same_small p cs ds (omega arith) u.1 v.1 (λ i b. h (suc i) (omega arith)))

pub spread_small : (p : ℕ) (row : List (ℕ × ℕ)) (count : ℕ) (values : List ℕ) → IsField p → IsRow p row → IsSpread row count values → Each (λ c. c < p) values
spread_small p row count values field is h =
    each_from_index (λ c. c < p) values
    (λ i d b.
    let e : get_or values i d ≡ value_in row i = get_or_default values i d 0 b ∙ h.each i (let w = h.whole in omega arith) in
    subst (λ c. c < p) (sym e) (value_in-small p row i (let l = field.large in omega arith) is))

pub values_tell : (p : ℕ) → IsField p → (ds : List (DegreeClasses p)) (z : PlacedCochain p) (table : List (List (ℕ × ℕ))) (sum : List (ℕ × ℕ)) (values : List ℕ) → table ≡ table_in ds z.degree
    → IsRow p sum → IsSpread sum (length (classes_in ds z.degree)) values → ((y : ℕ) → Congruent p (value_in sum y) (combined table (value_in z.row) y))
    → (full sub : List (List (List ℕ))) → AreClassesOfPair p full sub ds → AreRelativeValues p full sub (classes_in ds z.degree) z values
values_tell p field ds z given sum values e is_row spread given_made full sub whole = λ facets parts is closed.
    let n = z.degree in
    let here = level full n in
    let found = whole.each n in
    let classes = classes_in ds n in
    let table = table_in ds n in
    let zs = cochains_at full n classes in
    let f : Cochain = cochain_in full n z.row in
    let made : (y : ℕ) → Congruent p (value_in sum y) (combined table (value_in z.row) y) = subst (λ (t : List (List (ℕ × ℕ))). (y : ℕ) → Congruent p (value_in sum y) (combined t (value_in z.row) y)) e given_made in
    let have = (found.relative.basis facets parts is).basis.coordinates f closed in
    let cs = have.0 in
    let has = have.1 in
    let size : length zs ≡ length classes = length-map (chains_at here classes) cochain_of ∙ length-map classes (λ (c : PlacedCochain p). terms_of here c.row) in
    let dual = found.cycles facets parts is in
    let cochain_of_class : (j : ℕ) (c : PlacedCochain p) → j < length classes → slice_get classes j ≡ Some c → get_or zs j no_cochain ≡ cochain_in full n c.row =
    λ j c b q.
    get_or-map cochain_of (chains_at here classes) j [] no_cochain (let l = length-map classes (λ (c : PlacedCochain p). terms_of here c.row) in omega (arith, b, l))
    ∙ ap cochain_of (get_or-map (λ (d : PlacedCochain p). terms_of here d.row) classes j c [] b ∙ ap (λ (d : PlacedCochain p). terms_of here d.row) (get_or_from_slice_get classes j c c q)) in
    let same : cs ≡ values =
    same_small p cs values (let h = has.count in let w = spread.whole in omega (arith, h, w, size)) has.small (spread_small p sum (length classes) values field is_row spread)
    (λ i b.
    let c : i < length classes = let h = has.count in omega (arith, b, h, size) in
    let col = column table i in
    let pairs = coefficient p (length here) here col field.large f cs zs i has.count b
    (λ j d. let b' : j < length classes = omega (arith, d, size) in let k = some_at classes j b' in
    subst (λ (g : Cochain). Congruent p (paired (length here) (at_places here g) col) (unit_vector i j)) (sym (cochain_of_class j k.0 b' k.1)) (dual.dual i j k.0 c k.1))
    (dual.coboundaries i c (λ s. f s + (p - 1) * combination cs zs s) has.rest) in
    let by_row : Congruent p (paired (length here) (at_places here f) col) (paired (length here) (value_in z.row) col) =
    paired_same p (length here) (at_places here f) (value_in z.row) col (record { at = λ x d. Congruent_of (value_by_place facets n p here (is.full_index.lists n) z.row x d) }) in
    let mine : value_in sum i ≡ get_or values i 0 = sym (spread.each i c) in
    Congruent_trans (Congruent_sym pairs)
    (Congruent_trans by_row
    (Congruent_trans (Congruent_of (ap (λ w. paired w (value_in z.row) col) (sym found.whole) ∙ sym (combined_paired table (value_in z.row) i)))
    (Congruent_trans (Congruent_sym (made i)) (Congruent_of mine))))) in
    subst (λ (vs : List ℕ). HasRelativeCoordinates facets parts n p zs f vs) same has
