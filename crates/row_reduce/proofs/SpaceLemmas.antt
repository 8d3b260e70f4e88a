-- The reduced echelon list of a span, with no bound on the places.
use Rattle.std.proofs.Common.{◌≡◌, ℕ, suc, ◌+◌, ◌*◌, ◌-◌, ◌%◌, ◌<◌, ◌≤◌, ◌≢◌, List, [], ◌∷◌, map, length, arith, refl, sym, ◌∙◌, ap, subst, inl, inr}
use Rattle.row_reduce.{proofs.Below.{cases_lt, zero-mod, Congruent, IsField, negated, sum_over, Among, Each, IsAscending, row_combination_from, IsReduced, IsCanonical, IsLead, IsPivot, StartsAt, Congruent_add, Congruent_from, Congruent_of, Congruent_refl, Congruent_scale, Congruent_sym, Congruent_trans, add-negated, each_among, each_map, each_unmap, each_zip, nonzero_alike, one-nonzero, reduced_apart, reduced_one, sum_vanishes, each_of_index, found, IsBelow, IsRow, value_in, below_of_zero, value_in-past}, specs.Names.{EchelonRow, combined, cleared, combination_of, pivot_of, row_of, Everywhere, IsEchelonOf, IsRemainder, IsSpannedBy, Gives}, proofs.GivesLemmas.{cleared_at, combined_on, gives_scale, gives_sum}}

-- rows below width give nothing beyond it
pub combined_beyond : (k width : ℕ) (rows : List (List (ℕ × ℕ))) (v : ℕ → ℕ) (y : ℕ) → Each (IsBelow width) rows → width ≤ y → row_combination_from k (map value_in rows) v y ≡ 0
combined_beyond k width [] v y h b = refl
combined_beyond k width (r ∷ rs) v y h b =
    let none : value_in r y ≡ 0 = value_in-past width y r h.0 b in
    let rest = combined_beyond (suc k) width rs v y h.1 b in
    rw none (omega (arith, rest))

-- a lead of what rows below width give is below width
pub lead_inside : (p width : ℕ) (rows : List (List (ℕ × ℕ))) (v : ℕ → ℕ) (t : ℕ) → Each (IsBelow width) rows → combined rows v t % p ≢ 0 → t < width
lead_inside p width rows v t h n = elim (cases_lt t width) [
  | inl b ↦ b
  | inr b ↦ absurd (n (ap (λ m. m % p) (combined_beyond 0 width rows v t h b) ∙ zero-mod p))
]

module _ (p : ℕ) (field : IsField p) (given : List (List (ℕ × ℕ))) (echelon : List (EchelonRow p)) where
  -- an echelon list from its parts
  pub make_echelon : Each (λ (e : EchelonRow p). IsRow p e.row × IsRow p e.combination) echelon → Each (λ (e : EchelonRow p). IsBelow (length given) e.combination) echelon → IsAscending (map pivot_of echelon) → IsReduced p pivot_of row_of echelon
      → Each (λ (e : EchelonRow p). StartsAt p e.pivot (row_of e)) echelon → Each (λ (e : EchelonRow p). (y : ℕ) → Congruent p (combined given (combination_of e) y) (row_of e y)) echelon
      → ((v : ℕ → ℕ) (t : ℕ) → IsLead p Everywhere (λ a b. a < b) (combined given v) t → Among t (map pivot_of echelon)) → IsEchelonOf p given echelon
  make_echelon rows_are inside ascends reduced starts from whole =
      let M = IsSpannedBy p given in
      let member : (e : EchelonRow p) → Among e echelon → M (row_of e) = λ e m. record {
        source = combination_of e;
        same = record { at = λ y _. Congruent_sym (each_among (λ (e : EchelonRow p). (y : ℕ) → Congruent p (combined given (combination_of e) y) (row_of e y)) e echelon from m y) };
      } in
      let pivot : (e : EchelonRow p) → Among e echelon → IsPivot p Everywhere (λ a b. a < b) M e.pivot = λ e m. record {
        vector = row_of e;
        member = member e m;
        lead = record {
          on = tt;
          nonzero = one-nonzero p (row_of e e.pivot) field.large (reduced_one p pivot_of row_of e echelon reduced m);
          least = λ y _ b. (each_among (λ (e : EchelonRow p). StartsAt p e.pivot (row_of e)) e echelon starts m).before y b;
        };
      } in
      let listed : (t : ℕ) → IsPivot p Everywhere (λ a b. a < b) M t → Among t (map pivot_of echelon) = λ t h.
      whole h.member.source t (record {
        on = tt;
        nonzero = nonzero_alike p (combined given h.member.source t) (h.vector t) (Congruent_sym (h.member.same.at t tt)) h.lead.nonzero;
        least = λ y _ b. Congruent_trans (Congruent_sym (h.member.same.at y tt)) (h.lead.least y tt b);
      }) in
      record {
        rows_are = rows_are;
        inside = inside;
        ascends = ascends;
        pivots = λ t. (
          listed t,
          λ m. elim (found pivot_of t echelon) [
            | inl f ↦ subst (IsPivot p Everywhere (λ a b. a < b) M) f.2 (pivot f.0 f.1)
            | inr none ↦ absurd (none m)
          ],
        );
        canonical = each_of_index (λ (e : EchelonRow p). IsCanonical p Everywhere (λ a b. a < b) M e.pivot (row_of e)) echelon (λ e m. record {
          pivot = pivot e m;
          member = member e m;
          one = reduced_one p pivot_of row_of e echelon reduced m;
          others = λ y q n. elim (found pivot_of y echelon) [
            | inl f ↦ subst (λ z. Congruent p (row_of e z) 0) f.2 (reduced_apart p pivot_of row_of e f.0 echelon reduced m f.1 (λ z. n (sym f.2 ∙ z)))
            | inr none ↦ absurd (none (listed y q))
          ];
        });
        from = from;
      }

  -- ---- dividing by an echelon list

  reduced_of : (es : List (EchelonRow p)) → IsAscending (map pivot_of es) → Each (λ (e : EchelonRow p). IsCanonical p Everywhere (λ a b. a < b) (IsSpannedBy p given) e.pivot (row_of e)) es → IsReduced p pivot_of row_of es
  reduced_of [] a h = tt
  reduced_of (e ∷ es) a h = (
    h.0.one,
    each_zip {P = λ (s : EchelonRow p). e.pivot < s.pivot} {Q = λ (s : EchelonRow p). IsCanonical p Everywhere (λ a b. a < b) (IsSpannedBy p given) s.pivot (row_of s)}
        {S = λ (s : EchelonRow p). Congruent p (row_of e s.pivot) 0 × Congruent p (row_of s e.pivot) 0}
        (λ s b c. (h.0.others s.pivot c.pivot (λ q. absurd (omega arith)), c.others e.pivot h.0.pivot (λ q. absurd (omega arith))))
        es (each_unmap (λ w. e.pivot < w) pivot_of es a.0) h.1,
    reduced_of es a.1 h.1,
  )

  pub divided : (row rest sum combination : List (ℕ × ℕ)) (by : ℕ) → IsEchelonOf p given echelon → IsRow p rest → IsRow p combination → Congruent p by (p - 1)
      → ((y : ℕ) → Congruent p (value_in rest y) (cleared row_of echelon (value_in row) (value_in row) y))
      → ((x : ℕ) → Congruent p (value_in sum x) (cleared combination_of echelon (value_in row) (λ x. 0) x))
      → ((x : ℕ) → Congruent p (value_in combination x) (by * value_in sum x)) → IsRemainder p given echelon row rest combination
  divided row rest sum combination by h rest_row combination_row by_is rest_is sum_is combination_is =
      let k : EchelonRow p → ℕ = λ d. negated p (value_in row d.pivot) in
      record {
        rows_are = (rest_row, combination_row);
        inside = below_of_zero p (length given) combination combination_row (λ x b.
            let none = sum_vanishes p pivot_of combination_of k x echelon
            (each_map {Q = λ (e : EchelonRow p). Congruent p (combination_of e x) 0} (λ e g. Congruent_of (value_in-past (length given) x e.combination g b)) echelon h.inside) in
            Congruent_from (Congruent_add (combination_is x) (Congruent_scale by (Congruent_add (sum_is x) none))) (omega arith));
        zero = each_map {Q = λ (e : EchelonRow p). Congruent p (value_in rest e.pivot) 0} (λ e z. Congruent_trans (rest_is e.pivot) z) echelon (cleared_at p field.large echelon (value_in row) (reduced_of echelon h.ascends h.canonical));
        sum = λ y.
            let G : (ℕ → ℕ) → (ℕ → ℕ) → Type 0 = Gives p given Everywhere 0 (λ x. ⊥) [] in
            let gives : (v w : ℕ → ℕ) → ((y : ℕ) → Congruent p (combined given v y) (w y)) → G v w =
            λ v w f. record { from = record { at = λ y on. f y }; starts = record { before = λ x b. absurd (omega arith) }; skips = record { at = λ x s. elim s [ ] }; apart = tt } in
            let S : ℕ → ℕ = λ y. sum_over (λ (d : EchelonRow p). k d * row_of d y) echelon in
            let v : ℕ → ℕ = λ x. 0 + sum_over (λ (d : EchelonRow p). k d * combination_of d x) echelon in
            let whole : G v (λ y. 0 + S y) =
            gives_sum p given Everywhere 0 (λ x. ⊥) [] k combination_of row_of echelon (λ x. 0) (λ y. 0)
            (each_map {Q = λ (d : EchelonRow p). G (combination_of d) (row_of d)} (λ d f. gives (combination_of d) (row_of d) f) echelon h.from)
            (gives (λ x. 0) (λ y. 0) (λ y. (combined_on p Everywhere given).nothing.at y tt)) in
            let turned : G (value_in combination) (λ y. (p - 1) * (0 + S y)) =
            gives_scale p given Everywhere 0 (λ x. ⊥) [] field.large (p - 1) v (λ y. 0 + S y) (value_in combination) (λ y. (p - 1) * (0 + S y))
            (λ x. Congruent_from (Congruent_add (combination_is x) (Congruent_add (Congruent_scale by (sum_is x)) (Congruent_scale (v x) by_is))) (omega arith)) (λ y. Congruent_refl ((p - 1) * (0 + S y))) whole in
            Congruent_from (Congruent_add (Congruent_sym (rest_is y)) (Congruent_add (Congruent_sym (turned.from.at y tt)) (Congruent_sym (add-negated p (S y) field.large)))) (omega arith);
      }
