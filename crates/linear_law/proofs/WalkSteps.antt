-- A walk takes one more place: it is skipped, its row goes to zero, or its row is one more image.
use Rattle.std.proofs.Common.{◌≡◌, ℕ, suc, ◌+◌, ◌*◌, ◌-◌, ◌%◌, ◌<◌, ◌≤◌, ◌≢◌, List, [], ◌∷◌, map, arith, sym, subst, inl, inr}
use Rattle.std.proofs.lemmas.Bool.{cases_lt, cases_eq}
use Rattle.linear_law.specs.Names.{Congruent, IsField, Each, Among, AgreesOn, IsLinear, KernelVector, ImageVector, LeadsAt, Skips, StartsAt, Walked, image_place, kernel_place}
use Rattle.linear_law.proofs.ListLemmas.{each_map, each_of_map, each_zip}
use Rattle.linear_law.proofs.CongruenceLemmas.{Congruent_refl, Congruent_sym, Congruent_trans, Congruent_add, Congruent_scale, Congruent_from, add-negated}
use Rattle.linear_law.proofs.PivotLemmas.{zero_or_not, not_zero}
use Rattle.linear_law.proofs.LeadLemmas.{mul_nonzero, nonzero_alike, lead_alike}

module _ (p count width : ℕ) (field : IsField p) (L : (ℕ → ℕ) → ℕ → ℕ) (linear : IsLinear p count (λ y. y < width) L) (skipped : ℕ → Type 0) where
  -- before the first step
  pub start_it : Walked p count width L skipped count [] []
  start_it = record {
    kernel_places = tt;
    kernel_ascends = tt;
    kernel_zero = tt;
    kernel_starts = tt;
    kernel_reduced = tt;
    kernel_skips = tt;
    kernel_whole = λ v z x b l. absurd (let c = l.on in omega arith);
    image_from = tt;
    image_leads = tt;
    image_apart = tt;
    image_starts = tt;
    image_skips = tt;
    apart = tt;
    image_whole = λ v s t l. absurd (not_zero p (L v t) l.nonzero
        (Congruent_trans ((linear.alike v (λ x. 0) (record { at = λ x b. s.before x b })).at t l.on) (linear.nothing.at t l.on)));
  }

  lead_starts : (v : ℕ → ℕ) (x : ℕ) → LeadsAt p count v x → StartsAt p x v
  lead_starts v x l = record { before = λ y b. l.least y (let c = l.on in omega arith) b }

  minus_nonzero : (a : ℕ) → a % p ≢ 0 → ((p - 1) * a) % p ≢ 0
  minus_nonzero a n e =
      not_zero p a n (Congruent_from (Congruent_add (add-negated p a field.large) (Congruent_sym (c_of_zero_here ((p - 1) * a) e))) (omega arith))
    where
      c_of_zero_here : (b : ℕ) → b % p ≡ 0 → Congruent p b 0
      c_of_zero_here b e = elim (zero_or_not p b) [ inl z ↦ z | inr m ↦ absurd (m e) ]

  module _ (low : ℕ) (kernel : List KernelVector) (images : List (ImageVector ℕ)) (state : Walked p count width L skipped (suc low) kernel images) (inside : low < count) where
    kernel_later : Each (λ k. (low ≤ k.place) × (k.place < count)) kernel
    kernel_later = each_map (λ k at. (omega arith, at.1)) kernel state.kernel_places

    images_earlier : Each (λ i. StartsAt p low i.from) images
    images_earlier = each_map (λ i h. record { before = λ x b. h.before x (omega arith) }) images state.image_starts

    -- ---- a place that is skipped: some vector of the kernel starts there
    pub skip_it : skipped low → (b : ℕ → ℕ) → StartsAt p low b → b low % p ≢ 0 → AgreesOn p (λ y. y < width) (L b) (λ y. 0)
        → Walked p count width L skipped low kernel images
    skip_it is b starts n zero_b =
        let i = field.inverse (b low) n in
        record {
          kernel_places = kernel_later;
          kernel_ascends = state.kernel_ascends;
          kernel_zero = state.kernel_zero;
          kernel_starts = state.kernel_starts;
          kernel_reduced = state.kernel_reduced;
          kernel_skips = state.kernel_skips;
          kernel_whole = λ v z x c l. elim (cases_eq x low) [
            | inl e ↦ inr (subst skipped (sym e) is)
            | inr m ↦ state.kernel_whole v z x (omega arith) l
          ];
          image_from = state.image_from;
          image_leads = state.image_leads;
          image_apart = state.image_apart;
          image_starts = images_earlier;
          image_skips = state.image_skips;
          apart = state.apart;
          image_whole = λ v s t l.
              let k = (p - 1) * (v low * i.0) in
              let w : ℕ → ℕ = λ x. v x + k * b x in
              state.image_whole w
              (record {
                before = λ x c. elim (cases_lt x low) [
                  | inl d ↦ Congruent_from (Congruent_add (s.before x d) (Congruent_scale k (starts.before x d))) (omega arith)
                  | inr d ↦
                      let q : low ≡ x = omega arith in
                      let P : ℕ → Type 0 = λ y. Congruent p (w y) 0 in
                      subst P q (Congruent_from (Congruent_add (Congruent_scale ((p - 1) * v low) i.1) (add-negated p (v low) field.large)) (omega arith))
                ];
              })
              t
              (lead_alike p width (L w) (L v) t
              (record { at = λ y on. Congruent_from (Congruent_add ((linear.plus k v b).at y on) (Congruent_scale k (zero_b.at y on))) (omega arith) }) l);
        }

    module _ (from : ℕ → ℕ) (one : Congruent p (from low) 1) (starts : StartsAt p low from) (skips : Skips p skipped from)
        (off : Each (λ k. Congruent p (from k.place) 0) kernel) (row : ℕ → ℕ) (gives : AgreesOn p (λ y. y < width) (L from) row) where
      -- v without its part at low
      rest : (ℕ → ℕ) → ℕ → ℕ
      rest v x = v x + ((p - 1) * v low) * from x

      rest_starts : (v : ℕ → ℕ) → StartsAt p low v → StartsAt p (suc low) (rest v)
      unfolding rest
      rest_starts v s = record {
        before = λ x c. elim (cases_lt x low) [
          | inl d ↦ Congruent_from (Congruent_add (s.before x d) (Congruent_scale ((p - 1) * v low) (starts.before x d))) (omega arith)
          | inr d ↦
              let q : low ≡ x = omega arith in
              let P : ℕ → Type 0 = λ y. Congruent p (v y + ((p - 1) * v low) * from y) 0 in
              subst P q (Congruent_from (Congruent_add (Congruent_scale ((p - 1) * v low) one) (add-negated p (v low) field.large)) (omega arith))
        ];
      }

      rest_gives : (v : ℕ → ℕ) → AgreesOn p (λ y. y < width) (L (rest v)) (λ y. L v y + ((p - 1) * v low) * row y)
      unfolding rest
      rest_gives v = record { at = λ y on. Congruent_trans ((linear.plus ((p - 1) * v low) v from).at y on) (Congruent_add (Congruent_refl (L v y)) (Congruent_scale ((p - 1) * v low) (gives.at y on))) }

      -- ---- it goes to zero: it is kept
      pub keep_it : AgreesOn p (λ y. y < width) row (λ y. 0) → Walked p count width L skipped low (record { place = low; vector = from } ∷ kernel) images
      keep_it vanishes = record {
        kernel_places = ((omega arith, inside), kernel_later);
        kernel_ascends = (
          each_of_map (λ w. low < w) kernel_place kernel (each_map (λ k (at : (suc low ≤ k.place) × (k.place < count)). let b = at.0 in omega arith) kernel state.kernel_places),
          state.kernel_ascends,
        );
        kernel_zero = (record { at = λ y on. Congruent_trans (gives.at y on) (vanishes.at y on) }, state.kernel_zero);
        kernel_starts = (starts, state.kernel_starts);
        kernel_reduced = (
          one,
          each_zip (λ k a (b : ((suc low ≤ k.place) × (k.place < count)) × StartsAt p k.place k.vector). (a, b.1.before low (let c = b.0.0 in omega arith)))
              kernel off (each_zip (λ k a b. (a, b)) kernel state.kernel_places state.kernel_starts),
          state.kernel_reduced,
        );
        kernel_skips = (skips, state.kernel_skips);
        kernel_whole = λ v z x c l. elim (cases_eq x low) [
          | inl e ↦ inl (inl (sym e))
          | inr m ↦ elim (state.kernel_whole v z x (omega arith) l) [ inl a ↦ inl (inr a) | inr s ↦ inr s ]
        ];
        image_from = state.image_from;
        image_leads = state.image_leads;
        image_apart = state.image_apart;
        image_starts = images_earlier;
        image_skips = state.image_skips;
        apart = each_zip (λ i a h. (h.before low (omega arith), a)) images state.apart state.image_starts;
        image_whole = λ v s t l.
            state.image_whole (rest v) (rest_starts v s) t
            (lead_alike p width (L (rest v)) (L v) t
            (record { at = λ y on. Congruent_from (Congruent_add ((rest_gives v).at y on) (Congruent_scale ((p - 1) * v low) (vanishes.at y on))) (omega arith) }) l);
      }

      -- ---- it goes to a row with a lead that no image has: it is one more image
      pub add_it : (t : ℕ) → LeadsAt p width row t → (Among t (map image_place images) → ⊥)
          → Walked p count width L skipped low kernel (record { place = t; from = from; row = row } ∷ images)
      add_it t lead fresh =
          let small : (v : ℕ → ℕ) → (y : ℕ) → y < width → y < t → Congruent p (L (rest v) y) (L v y) = λ v y on b.
          Congruent_from (Congruent_add ((rest_gives v).at y on) (Congruent_scale ((p - 1) * v low) (lead.least y on b))) (omega arith) in
          -- a vector that goes to zero before t, but not at low
          let clash : (v : ℕ → ℕ) → StartsAt p low v → v low % p ≢ 0 → ((y : ℕ) → y < width → y < t → Congruent p (L v y) 0) → Congruent p (L v t) 0 → ⊥ = λ v s n z e.
          fresh (state.image_whole (rest v) (rest_starts v s) t (record {
            on = lead.on;
            nonzero = nonzero_alike p (L (rest v) t) (((p - 1) * v low) * row t)
                (Congruent_from (Congruent_add ((rest_gives v).at t lead.on) e) (omega arith))
                (mul_nonzero p ((p - 1) * v low) (row t) field (minus_nonzero (v low) n) lead.nonzero);
            least = λ y on b. Congruent_trans (small v y on b) (z y on b);
          })) in
          record {
            kernel_places = kernel_later;
            kernel_ascends = state.kernel_ascends;
            kernel_zero = state.kernel_zero;
            kernel_starts = state.kernel_starts;
            kernel_reduced = state.kernel_reduced;
            kernel_skips = state.kernel_skips;
            kernel_whole = λ v z x c l. elim (cases_eq x low) [
              | inl e ↦
                  let P : ℕ → Type 0 = λ y. LeadsAt p count v y in
                  let here = subst P e l in
                  absurd (clash v (lead_starts v low here) here.nonzero (λ y on b. z.at y on) (z.at t lead.on))
              | inr m ↦ state.kernel_whole v z x (omega arith) l
            ];
            image_from = (gives, state.image_from);
            image_leads = (lead, state.image_leads);
            image_apart = (fresh, state.image_apart);
            image_starts = (starts, images_earlier);
            image_skips = (skips, state.image_skips);
            apart = (off, state.apart);
            image_whole = λ v s x l. elim (cases_eq x t) [
              | inl e ↦ inl (sym e)
              | inr m ↦ inr (elim (cases_lt x t) [
                | inl b ↦ state.image_whole (rest v) (rest_starts v s) x (record {
                  on = l.on;
                  nonzero = nonzero_alike p (L (rest v) x) (L v x) (small v x l.on b) l.nonzero;
                  least = λ y on c. Congruent_trans (small v y on (omega arith)) (l.least y on c);
                })
                | inr b ↦ elim (zero_or_not p (v low)) [
                  | inl e ↦ state.image_whole (rest v) (rest_starts v s) x
                      (lead_alike p width (L (rest v)) (L v) x
                      (record { at = λ y on. Congruent_from (Congruent_add ((rest_gives v).at y on) (Congruent_scale ((p - 1) * row y) e)) (omega arith) }) l)
                  | inr n ↦ absurd (clash v s n (λ y on c. l.least y on (omega arith)) (l.least t lead.on (omega arith)))
                ]
              ])
            ];
          }
