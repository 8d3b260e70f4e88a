-- One degree: the blanked rows are those of relative cochains, and what may be skipped.
use Rattle.std.proofs.Common.{Bool, Option, None, ◌≡◌, ℕ, zero, suc, ◌+◌, ◌<◌, ◌⊎◌, inl, inr, true, false, cond, List, [], ◌∷◌, map, length, get_or, arith, refl, sym, ap, subst, ◌∙◌, ◌≢◌}
use Rattle.cohomology.{proofs.Below.{cases_lt, get_or_past, get_or-map, zip_change, IsVectorRow, AllZip, length-map, cases_Bool, Congruent, IsField, unit_vector, Walked, length_alike, zip_from_index, Congruent_of, Congruent_trans, each_among, each_map, one-nonzero, row_combination-row, unit_one, unit_other, IsCoboundaryRow, IsRowOf, terms_of, coboundary, unit_cochain, IsSimplex, get_or_default, simplex_at, value_in, level, IsSolved, SkipsFit, combined, IsLeadIn, IsMarkedIn, covered_simplex, simplex_covered, bound_places, canonical_basis, IsOuterByPlace, cocycle_down, rows_by_place, relative_close, is_covered, IsCanonicalRelativeBasis, AreRelativeBoundPlaces, AreSkippedPlaces, IsRelativeCoboundaryRow, some_or_none, not_both, some_none}, specs.Names.{IsPairIndexOf, AreRowsOf}, proofs.PairLemmas.among_at}

-- a place where the list has another value than d is inside
pub inside_of : {X : Type 0} (xs : List X) (d : X) (x : ℕ) → get_or xs x d ≢ d → x < length xs
inside_of xs d x h = elim (cases_lt x (length xs)) [ inl b ↦ b | inr b ↦ absurd (h (get_or_past xs x d b)) ]

pub marked_inside : (marks : List Bool) (x : ℕ) → IsMarkedIn marks x → x < length marks
marked_inside marks x h = inside_of marks false x (λ e. not_both (sym e ∙ h))

pub marked_or_not : (marks : List Bool) (x : ℕ) → IsMarkedIn marks x ⊎ (IsMarkedIn marks x → ⊥)
marked_or_not marks x = go (get_or marks x false)
  where
    go : (b : Bool) → (b ≡ true) ⊎ (b ≡ true → ⊥)
    go true = inl refl
    go false = inr not_both

pub lead_or_not : (pivots : List (Option ℕ)) (x : ℕ) → IsLeadIn pivots x ⊎ (IsLeadIn pivots x → ⊥)
lead_or_not pivots x = elim (some_or_none (get_or pivots x None)) [ inl e ↦ inr (λ h. h e) | inr k ↦ inl (λ e. some_none k.0 (sym k.1 ∙ e)) ]

zip_at : {X Z : Type 0} (R : X → Z → Type 0) (xs : List X) (zs : List Z) (k : ℕ) (d : X) (e : Z) → AllZip R xs zs → k < length xs → R (get_or xs k d) (get_or zs k e)
zip_at R [] zs k d e h b = absurd (omega arith)
zip_at R (x ∷ xs) [] k d e h b = elim h [ ]
zip_at R (x ∷ xs) (z ∷ zs) zero d e h b = h.0
zip_at R (x ∷ xs) (z ∷ zs) (suc k) d e h b = zip_at R xs zs k d e h.1 (omega arith)

module _ (facets parts : List (List ℕ)) (ls sls : List (List (List ℕ))) (is : IsPairIndexOf facets parts ls sls) (p : ℕ) (field : IsField p)
    (n : ℕ) (pivots : List (Option ℕ)) (rows : List (List (ℕ × ℕ))) (skip : List Bool) (of : AreRowsOf p ls sls n pivots rows skip) where
  pub rows_count : length rows ≡ length (level ls n)
  rows_count = of.blank.whole ∙ sym (length-map of.given value_in) ∙ sym (length_alike (IsCoboundaryRow p (level ls (n + 1))) (map value_in of.given) (level ls n) of.are)

  here_at : (x : ℕ) → x < length (level ls n) → IsSimplex facets n (get_or (level ls n) x [])
  here_at = simplex_at facets n p (level ls n) (is.full_index.lists n)

  -- a place is marked where its simplex is one of the subcomplex
  marked_simplex : (x : ℕ) → x < length (level ls n) → IsMarkedIn of.marks x → IsSimplex parts n (get_or (level ls n) x [])
  marked_simplex x b o = each_among (IsSimplex parts n) (get_or (level ls n) x []) (level sls n) (is.sub_index.lists n).sound ((of.table.marked x b).0 o)

  simplex_marked : (x : ℕ) → x < length (level ls n) → IsSimplex parts n (get_or (level ls n) x []) → IsMarkedIn of.marks x
  simplex_marked x b on =
      let q = (is.sub_index.lists n).whole (get_or (level ls n) x []) on in
      (of.table.marked x b).1 (among_at (get_or (level ls n) x []) (level sls n) q.0 [] q.1 (q.2 []))

  -- the blanked rows are those of relative cochains
  pub relative_rows : AllZip (IsRelativeCoboundaryRow p parts (level ls (n + 1))) (map value_in rows) (level ls n)
  relative_rows =
      zip_from_index (IsRelativeCoboundaryRow p parts (level ls (n + 1))) (map value_in rows) (level ls n) (length-map rows value_in ∙ rows_count)
      (λ k d e b. at k d e (let m = length-map rows value_in in omega arith))
    where
      at : (k : ℕ) (d : ℕ → ℕ) (e : List ℕ) → k < length rows → IsRelativeCoboundaryRow p parts (level ls (n + 1)) (get_or (map value_in rows) k d) (get_or (level ls n) k e)
      at k d e b j c =
          let here = get_or (level ls n) k [] in
          let inside : k < length (level ls n) = (let w = rows_count in omega arith) in
          let same : get_or (level ls n) k e ≡ here = get_or_default (level ls n) k e [] inside in
          let row = get_or-map value_in rows k [] d b in
          let P : List ℕ → Type 0 = λ s. Congruent p (get_or (map value_in rows) k d j) (cond (is_covered parts s) 0 (coboundary p (unit_cochain s) (get_or (level ls (n + 1)) j []))) in
          subst P (sym same) (elim (marked_or_not of.marks k) [
            | inl o ↦
                let z : get_or (map value_in rows) k d j ≡ 0 = ap (λ (f : ℕ → ℕ). f j) (row ∙ ap value_in (of.blank.marked k b o)) in
                let t : is_covered parts here ≡ true = simplex_covered parts n here (marked_simplex k inside o) in
                Congruent_of (z ∙ sym (ap (λ b. cond b 0 (coboundary p (unit_cochain here) (get_or (level ls (n + 1)) j []))) t))
            | inr o ↦
                let z : get_or (map value_in rows) k d j ≡ get_or (map value_in of.given) k d j =
                ap (λ (f : ℕ → ℕ). f j) (row ∙ ap value_in (of.blank.others k b o) ∙ sym (get_or-map value_in of.given k [] d (let w = of.blank.whole in omega arith))) in
                let t : is_covered parts here ≡ false = elim (cases_Bool (is_covered parts here)) [
                  | inl y ↦ absurd (o (simplex_marked k inside (covered_simplex facets parts n here (here_at k inside) y)))
                  | inr y ↦ y
                ] in
                let g = zip_at (IsCoboundaryRow p (level ls (n + 1))) (map value_in of.given) (level ls n) k d [] of.are (let m = length-map of.given value_in in let w = of.blank.whole in omega arith) j c in
                Congruent_trans (Congruent_of z) (Congruent_trans g (Congruent_of (sym (ap (λ b. cond b 0 (coboundary p (unit_cochain here) (get_or (level ls (n + 1)) j []))) t))))
          ])

  pub by_place : IsOuterByPlace p parts (level ls n) (level ls (n + 1)) (combined rows)
  by_place = rows_by_place p parts (level ls (n + 1)) (level ls n) (map value_in rows) relative_rows

  module _ (whole : length pivots ≡ length (level ls n)) (bounds : AreRelativeBoundPlaces facets parts n p (level ls n) (IsLeadIn pivots)) where
    pub skipped_places : AreSkippedPlaces facets parts n p (level ls n) (IsMarkedIn skip)
    skipped_places = record {
      inside = λ x h. (let b = marked_inside skip x h in let w = of.join.whole in omega arith);
      sound = λ x h.
          let b : x < length pivots = (let b = marked_inside skip x h in let w = of.join.whole in omega arith) in
          elim ((of.join.places x b).0 h) [ inl o ↦ inl (bounds.sound x o) | inr o ↦ inr (marked_simplex x (omega arith) o) ];
      whole = λ x b q. (of.join.places x (omega arith)).1 (inl (bounds.whole x b q));
      covers = λ x b on. (of.join.places x (omega arith)).1 (inr (simplex_marked x b on));
      decide = marked_or_not skip;
    }

    -- what is bound may be skipped, since a relative coboundary starts there, and so may be what is marked, since its row is 0
    pub skips_fit : SkipsFit p (length (level ls (n + 1))) rows skip
    skips_fit = record {
      full = of.join.whole ∙ whole ∙ sym rows_count;
      each = λ x h.
          let here = level ls n in
          let b : x < length pivots = (let b = marked_inside skip x h in let w = of.join.whole in omega arith) in
          let c : x < length here = omega arith in
          elim ((of.join.places x b).0 h) [
            | inl o ↦
                let u = bounds.sound x o in
                let f = u.vector in
                record {
                  vector = λ j. f (get_or here j []);
                  starts = record { before = λ j less. u.lead.least (get_or here j []) (here_at j (omega arith)) (is.full_index.in_order n j x less c) };
                  nonzero = u.lead.nonzero;
                  goes = cocycle_down facets parts n p is.inside here (is.full_index.lists n) (level ls (n + 1)) (is.full_index.lists (n + 1)) (combined rows) by_place f
                      (relative_close facets parts n p field.large is.inside f u.member);
                }
            | inr o ↦
                let d : x < length rows = (let w = rows_count in omega arith) in
                record {
                  vector = unit_vector x;
                  starts = record { before = λ j less. Congruent_of (unit_other x j (λ e. absurd (omega arith))) };
                  nonzero = one-nonzero p (unit_vector x x) field.large (Congruent_of (unit_one p x));
                  goes = record {
                    at = λ y on. Congruent_of (row_combination-row (map value_in rows) x y (λ j. 0) (let m = length-map rows value_in in omega arith)
                        ∙ ap (λ (g : ℕ → ℕ). g y) (get_or-map value_in rows x [] (λ j. 0) d ∙ ap value_in (of.blank.marked x d o)));
                  };
                }
          ];
    }

    module _ (solutions : List (List (ℕ × ℕ))) (owner : List (Option ℕ)) (solved : IsSolved p (length (level ls (n + 1))) rows skip solutions owner) where
      walked_here : Walked p (length (level ls n)) (length (level ls (n + 1))) (combined rows) (IsMarkedIn skip) 0 solved.kernel solved.images
      walked_here = subst (λ m. Walked p m (length (level ls (n + 1))) (combined rows) (IsMarkedIn skip) 0 solved.kernel solved.images) rows_count solved.walked

      pub next_bounds : AreRelativeBoundPlaces facets parts (n + 1) p (level ls (n + 1)) (IsLeadIn owner)
      next_bounds =
          let b = bound_places facets parts n p field is.inside (level ls n) (is.full_index.lists n) (level ls (n + 1)) (is.full_index.lists (n + 1)) (is.full_index.in_order (n + 1)) (combined rows) by_place (IsMarkedIn skip) solved.kernel solved.images walked_here in
          record {
            inside = λ x h. let c = inside_of owner None x h in let e = solved.full in omega arith;
            sound = λ x h. b.sound x ((solved.owned x (let c = inside_of owner None x h in let e = solved.full in omega arith)).0 h);
            whole = λ x c h. (solved.owned x c).1 (b.whole x c h);
            decide = lead_or_not owner;
          }

      rows_of : AllZip (IsRowOf p (length (level ls n))) solved.kernel solutions
      rows_of =
          zip_change (IsVectorRow p (length rows)) (IsRowOf p (length (level ls n)))
          (λ k v h. record {
            ascends = h.is_row.ascends;
            inside = each_map (λ e c. let q = rows_count in omega arith) v h.below;
            values = each_map (λ e c. (grind (arith, c.0), c.1)) v h.is_row.values;
            same = λ x c. h.same x;
          })
          solved.kernel solutions solved.vectors

      pub degree_basis : IsCanonicalRelativeBasis facets parts n p (map (terms_of (level ls n)) solutions)
      degree_basis =
          canonical_basis facets parts n p field is.inside (level ls n) (is.full_index.lists n) (is.full_index.in_order n) (level ls (n + 1)) (is.full_index.lists (n + 1)) (combined rows) by_place (IsMarkedIn skip) skipped_places
          solved.kernel solved.images walked_here solutions
          rows_of
