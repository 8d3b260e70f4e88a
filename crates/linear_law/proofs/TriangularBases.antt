-- Triangular rows: each has its own lead. If their leads are all the pivots of a space, it has a
-- reduced basis with these leads.
use Rattle.std.proofs.Common.{◌≡◌, ℕ, zero, suc, ◌+◌, ◌*◌, ◌-◌, ◌<◌, ◌≢◌, ◌⊎◌, List, [], ◌∷◌, map, arith, refl, sym, ap, subst, ◌∙◌, inl, inr}
use Rattle.std.proofs.lemmas.Bool.{cases_eq, cases_order}
use Rattle.linear_law.specs.Names.{AgreesOn, Congruent, IsField, sum_over, Among, Each, IsApart, IsSubspace, IsReduced, expansion, IsPivot, HasReducedBasis, LeadsAt, PlacedVector, place_of}
use Rattle.linear_law.proofs.CongruenceLemmas.{Congruent_trans, Congruent_add, Congruent_scale, Congruent_from, add-negated}
use Rattle.linear_law.proofs.ListLemmas.{among_map, each_map, each_zip, each_among}
use Rattle.linear_law.proofs.ReducedLemmas.{expanded_in, sum_picks, sum_vanishes}
use Rattle.linear_law.proofs.LeadLemmas.{zero_if, same_of_difference}
use Rattle.linear_law.proofs.PivotLemmas.{one-nonzero}

-- the row with the lead y, or no row has it
pub found : {S : Type 0} (lead : S → ℕ) (y : ℕ) (rs : List S) → ((r : S) × Among r rs × (lead r ≡ y)) ⊎ (Among y (map lead rs) → ⊥)
found lead y [] = inr (λ m. m)
found lead y (r ∷ rs) =
    elim (cases_eq (lead r) y) [
      | inl e ↦ inl (r, inl refl, e)
      | inr n ↦ elim (found lead y rs) [ inl f ↦ inl (f.0, inr f.1, f.2) | inr o ↦ inr (λ m. elim m [ inl e ↦ n e | inr k ↦ o k ]) ]
    ]

-- what holds of each element that stands in the list
pub each_of_index : {S : Type 0} (P : S → Type 0) (rs : List S) → ((s : S) → Among s rs → P s) → Each P rs
each_of_index P [] h = tt
each_of_index P (r ∷ rs) h = (h r (inl refl), each_of_index P rs (λ s m. h s (inr m)))

-- a member of M is the sum of its values at the leads times the rows, if at each pivot of M that is no lead it and the rows are zero
pub spans_where : (p n : ℕ) → 1 < p → {M : (ℕ → ℕ) → Type 0} → IsSubspace p (λ y. y < n) M → {S : Type 0} (lead : S → ℕ) (value : S → ℕ → ℕ) (rows : List S) → Each (λ s. M (value s)) rows → IsReduced p lead value rows →
    (w : ℕ → ℕ) → M w → ((t : ℕ) → IsPivot p (λ y. y < n) (λ a b. a < b) M t → Among t (map lead rows) ⊎ (Congruent p (w t) 0 × Each (λ s. Congruent p (value s t) 0) rows)) →
    AgreesOn p (λ y. y < n) w (expansion lead value rows w)
spans_where p n large space lead value rows members reduced w m whole =
    let e = expansion lead value rows w in
    let d : ℕ → ℕ = λ x. w x + (p - 1) * e x in
    let in_m = space.plus (p - 1) w e m (expanded_in p lead value space w rows members) in
    same_of_difference p n w e large
    (zero_if p n d (λ t l. elim (whole t (record { vector = d; member = in_m; lead = l })) [
      | inl a ↦ elim (found lead t rows) [
        | inr none ↦ absurd (none a)
        | inl f ↦
            let P : ℕ → Type 0 = λ z. Congruent p (d z) 0 in
            let picked = each_among (λ s. Congruent p (sum_over (λ r. w (lead r) * value r (lead s)) rows) (w (lead s))) f.0 rows (sum_picks p lead value (λ r. w (lead r)) rows reduced) f.1 in
            subst P f.2 (Congruent_from (Congruent_add (add-negated p (w (lead f.0)) large) (Congruent_scale (p - 1) picked)) (omega arith))
      ]
      | inr q ↦ Congruent_from (Congruent_add q.0 (Congruent_scale (p - 1) (sum_vanishes p lead value (λ r. w (lead r)) t rows q.1))) (omega arith)
    ]))

module _ (p n : ℕ) (field : IsField p) {M : (ℕ → ℕ) → Type 0} (space : IsSubspace p (λ y. y < n) M) {S : Type 0} (lead : S → ℕ) (value : S → ℕ → ℕ) (rows : List S)
    (members : Each (λ s. M (value s)) rows) (leads : Each (λ s. LeadsAt p n (value s) (lead s)) rows) where
  -- a member with 1 at the place of its lead, and 0 before and at the other leads below m
  pub record Cleared (t m : ℕ) : Type 0 where
    pub vector : ℕ → ℕ
    pub member : M vector
    pub one : Congruent p (vector t) 1
    pub before : (y : ℕ) → y < t → Congruent p (vector y) 0
    pub others : (y : ℕ) → y < m → y ≢ t → Among y (map lead rows) → Congruent p (vector y) 0

  pub clear_to : (s : S) → Among s rows → (m : ℕ) → Cleared (lead s) m
  clear_to s is zero =
      let l = each_among (λ s. LeadsAt p n (value s) (lead s)) s rows leads is in
      let i = field.inverse (value s (lead s)) l.nonzero in
      record {
        vector = λ x. 0 + i.0 * value s x;
        member = space.plus i.0 (λ x. 0) (value s) space.zero_in (each_among (λ s. M (value s)) s rows members is);
        one = Congruent_from i.1 (omega arith);
        before = λ y b. Congruent_from (Congruent_scale i.0 (l.least y (let c = l.on in omega arith) b)) (omega arith);
        others = λ y b. absurd (omega arith);
      }
  clear_to s is (suc m) =
      let c = clear_to s is m in
      let stay : ((y : ℕ) → y ≡ m → y ≢ lead s → Among y (map lead rows) → Congruent p (c.vector y) 0) → Cleared (lead s) (suc m) = λ h. record {
        vector = c.vector;
        member = c.member;
        one = c.one;
        before = c.before;
        others = λ y b o a. elim (cases_eq y m) [ inl e ↦ h y e o a | inr q ↦ c.others y (omega arith) o a ];
      } in
      elim (cases_order m (lead s)) [
        | inl e ↦ stay (λ y q o a. absurd (o (q ∙ e)))
        | inr side ↦ elim side [
          | inl b ↦ stay (λ y q o a. c.before y (omega arith))
          | inr b ↦ elim (found lead m rows) [
            | inr none ↦ stay (λ y q o a. absurd (none (subst (λ z. Among z (map lead rows)) q a)))
            | inl f ↦
                let r = f.0 in
                let l = each_among (λ s. LeadsAt p n (value s) (lead s)) r rows leads f.1 in
                let i = field.inverse (value r (lead r)) l.nonzero in
                let k = (p - 1) * (c.vector (lead r) * i.0) in
                let v : ℕ → ℕ = λ x. c.vector x + k * value r x in
                let same : (y : ℕ) → y < m → Congruent p (v y) (c.vector y) = λ y d.
                Congruent_from (Congruent_scale k (l.least y (let g = l.on in let q = f.2 in omega arith) (let q = f.2 in omega arith))) (omega arith) in
                record {
                  vector = v;
                  member = space.plus k c.vector (value r) c.member (each_among (λ s. M (value s)) r rows members f.1);
                  one = Congruent_trans (same (lead s) b) c.one;
                  before = λ y d. Congruent_trans (same y (omega arith)) (c.before y d);
                  others = λ y d o a. elim (cases_eq y (lead r)) [
                    | inl e ↦
                        let P : ℕ → Type 0 = λ z. Congruent p (v z) 0 in
                        subst P (sym e) (Congruent_from (Congruent_add (Congruent_scale ((p - 1) * c.vector (lead r)) i.1) (add-negated p (c.vector (lead r)) field.large)) (omega arith))
                    | inr q ↦
                        let d' : y < m = let g = f.2 in omega arith in
                        Congruent_trans (same y d') (c.others y d' o a)
                  ];
                }
          ]
        ]
      ]

  reduced_row : (s : S) → Among s rows → PlacedVector
  reduced_row s is = record { place = lead s; vector = (clear_to s is n).vector }

  reduced_of : (ss : List S) → ((s : S) → Among s ss → Among s rows) → List PlacedVector
  reduced_of [] h = []
  reduced_of (s ∷ ss) h = reduced_row s (h s (inl refl)) ∷ reduced_of ss (λ r m. h r (inr m))

  reduced_places : (ss : List S) (h : (s : S) → Among s ss → Among s rows) → map place_of (reduced_of ss h) ≡ map lead ss
  unfolding reduced_of reduced_row
  reduced_places [] h = refl
  reduced_places (s ∷ ss) h = ap (λ t. lead s ∷ t) (reduced_places ss (λ r m. h r (inr m)))

  record IsReducedRow (k : PlacedVector) : Type 0 where
    inside : k.place < n
    listed : Among k.place (map lead rows)
    member : M k.vector
    one : Congruent p (k.vector k.place) 1
    before : (y : ℕ) → y < k.place → Congruent p (k.vector y) 0
    others : (y : ℕ) → y < n → y ≢ k.place → Among y (map lead rows) → Congruent p (k.vector y) 0

  reduced_is : (ss : List S) (h : (s : S) → Among s ss → Among s rows) → Each IsReducedRow (reduced_of ss h)
  unfolding reduced_of reduced_row
  reduced_is [] h = tt
  reduced_is (s ∷ ss) h =
      let is = h s (inl refl) in
      let c = clear_to s is n in
      let l = each_among (λ s. LeadsAt p n (value s) (lead s)) s rows leads is in (
        record { inside = l.on; listed = among_map lead s (lead s) rows is refl; member = c.member; one = c.one; before = c.before; others = c.others },
        reduced_is ss (λ r m. h r (inr m)),
      )

  rows_reduced : (ks : List PlacedVector) → Each IsReducedRow ks → IsApart (map place_of ks) → IsReduced p place_of (λ k. k.vector) ks
  rows_reduced [] h a = tt
  rows_reduced (k ∷ ks) h a = (
    h.0.one,
    each_zip
        (λ s (u : IsReducedRow s) n. (
          h.0.others s.place u.inside (λ e. n (sym e)) u.listed,
          u.others k.place h.0.inside (λ e. n e) h.0.listed,
        ))
        ks h.1 (apart_each ks a.0),
    rows_reduced ks h.1 a.1,
  )
    where
      apart_each : (ss : List PlacedVector) → (Among k.place (map place_of ss) → ⊥) → Each (λ s. k.place ≢ s.place) ss
      apart_each [] n = tt
      apart_each (s ∷ ss) n = ((λ e. n (inl (sym e))), apart_each ss (λ m. n (inr m)))

  -- the reduced basis with the leads of the rows, where these are all the pivots
  pub reduced_basis : IsApart (map lead rows) → ((t : ℕ) → IsPivot p (λ y. y < n) (λ a b. a < b) M t → Among t (map lead rows)) → HasReducedBasis p n M (map lead rows)
  reduced_basis apart whole =
      let reduced_rows = reduced_of rows (λ s m. m) in
      let places = reduced_places rows (λ s m. m) in
      let all : Each IsReducedRow reduced_rows = reduced_is rows (λ s m. m) in
      let reduced = rows_reduced reduced_rows all (subst IsApart (sym places) apart) in
      let inside = each_map (λ k (h : IsReducedRow k). h.member) reduced_rows all in
      record {
        rows = reduced_rows;
        places = places;
        starts = each_map (λ k (h : IsReducedRow k). record { on = h.inside; nonzero = one-nonzero p (k.vector k.place) field.large h.one; least = λ y on b. h.before y b }) reduced_rows all;
        basis = record {
          places = each_map (λ k (h : IsReducedRow k). h.inside) reduced_rows all;
          members = inside;
          reduced = reduced;
          spans = λ w m. spans_where p n field.large space place_of (λ (k : PlacedVector). k.vector) reduced_rows inside reduced w m (λ t q. inl (subst (Among t) (sym places) (whole t q)));
        };
      }
