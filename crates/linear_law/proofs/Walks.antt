-- Each linear map has a walk of all its places. The vectors of the kernel and the images are together as
-- many as the places.
use Rattle.std.proofs.Common.{◌≡◌, ℕ, ◌+◌, ◌*◌, ◌-◌, ◌<◌, ◌≤◌, inl, inr, subst, arith, [], ◌∷◌, sym, zero, suc}
use Rattle.std.proofs.lemmas.Bool.{cases_lt}
use Rattle.linear_law.specs.Names.{Congruent, IsField, Among, Each, AgreesOn, ImageVector, IsLinear, KernelVector, unit_vector, CountedWalkLaw, CountedWalk, LeadsAt, Skips, StartsAt, image_place}
use Rattle.linear_law.proofs.CongruenceLemmas.{Congruent_add, Congruent_from, Congruent_of, Congruent_refl, Congruent_scale, Congruent_trans, add-negated}
use Rattle.linear_law.proofs.ListLemmas.{each_among, each_map, each_zip}
use Rattle.linear_law.proofs.PivotLemmas.{zero_or_not}
use Rattle.linear_law.proofs.RowCombinations.{unit_one, unit_other}
use Rattle.linear_law.proofs.TriangularBases.{found}
use Rattle.linear_law.proofs.WalkSteps.{add_it, keep_it, start_it}

module _ (p count width : ℕ) (field : IsField p) (L : (ℕ → ℕ) → ℕ → ℕ) (linear : IsLinear p count (λ y. y < width) L) where
  module _ (low : ℕ) (inside : low < count) (s : CountedWalk p count width L (suc low)) where
    -- a vector that starts at low with 1 and is zero at the places of the kernel
    record Fits (from : ℕ → ℕ) : Type 0 where
      one : Congruent p (from low) 1
      starts : StartsAt p low from
      off : Each (λ k. Congruent p (from k.place) 0) s.kernel

    nothing_skipped : (from : ℕ → ℕ) → Skips p (λ x. ⊥) from
    nothing_skipped from = record { at = λ x m. elim m [ ] }

    -- a vector that goes to zero before t
    record ZeroBefore (t : ℕ) : Type 0 where
      from : ℕ → ℕ
      fits : Fits from
      zero : (y : ℕ) → y < t → Congruent p (L from y) 0

    -- a multiple of the image that leads at t is taken off
    cleared : (t : ℕ) → t < width → (v : ZeroBefore t) → (i : ImageVector ℕ) → Among i s.images → i.place ≡ t → ZeroBefore (suc t)
    cleared t on v i m q =
        let lead : LeadsAt p width i.row i.place = each_among (λ (i : ImageVector ℕ). LeadsAt p width i.row i.place) i s.images s.walked.image_leads m in
        let gives = each_among (λ (i : ImageVector ℕ). AgreesOn p (λ y. y < width) (L i.from) i.row) i s.images s.walked.image_from m in
        let starts = each_among (λ (i : ImageVector ℕ). StartsAt p (suc low) i.from) i s.images s.walked.image_starts m in
        let off = each_among (λ (i : ImageVector ℕ). Each (λ (k : KernelVector). Congruent p (i.from k.place) 0) s.kernel) i s.images s.walked.apart m in
        let u = field.inverse (i.row i.place) lead.nonzero in
        let k = (p - 1) * (L v.from t * u.0) in
        let w : ℕ → ℕ = λ x. v.from x + k * i.from x in
        let at : (y : ℕ) → y < width → Congruent p (L w y) (L v.from y + k * i.row y) = λ y b.
        Congruent_trans ((linear.plus k v.from i.from).at y b) (Congruent_add (Congruent_refl (L v.from y)) (Congruent_scale k (gives.at y b))) in
        let unit : Congruent p (i.row t * u.0) 1 = subst (λ (x : ℕ). Congruent p (i.row x * u.0) 1) q u.1 in
        record {
          from = w;
          fits = record {
            one = Congruent_from (Congruent_add v.fits.one (Congruent_scale k (starts.before low (omega arith)))) (omega arith);
            starts = record { before = λ x b. Congruent_from (Congruent_add (v.fits.starts.before x b) (Congruent_scale k (starts.before x (omega arith)))) (omega arith) };
            off = each_zip (λ (j : KernelVector) a b. Congruent_from (Congruent_add a (Congruent_scale k b)) (omega arith)) s.kernel v.fits.off off;
          };
          zero = λ y b. elim (cases_lt y t) [
            | inl c ↦ Congruent_trans (at y (omega arith)) (Congruent_from (Congruent_add (v.zero y c) (Congruent_scale k (lead.least y (omega arith) (subst (λ (x : ℕ). y < x) (sym q) c)))) (omega arith))
            | inr c ↦
                let e : t ≡ y = omega arith in
                let P : ℕ → Type 0 = λ x. Congruent p (L w x) 0 in
                subst P e (Congruent_trans (at t on) (Congruent_from (Congruent_add (Congruent_scale ((p - 1) * L v.from t) unit) (add-negated p (L v.from t) field.large)) (omega arith)))
          ];
        }

    -- what it goes to is made zero place by place, until a place where no image leads
    reduced : (left t : ℕ) → left + t ≡ width → ZeroBefore t → CountedWalk p count width L low
    reduced zero t e v = record {
      kernel = record { place = low; vector = v.from } ∷ s.kernel;
      images = s.images;
      walked = keep_it p count width field L linear (λ x. ⊥) low s.kernel s.images s.walked inside v.from v.fits.one v.fits.starts (nothing_skipped v.from) v.fits.off (L v.from) (record { at = λ y on. Congruent_refl (L v.from y) })
          (record { at = λ y on. v.zero y (omega arith) });
      counted = let c = s.counted in omega arith;
    }
    reduced (suc left) t e v =
        elim (zero_or_not p (L v.from t)) [
          | inl here ↦ reduced left (suc t) (omega arith) (record {
            from = v.from;
            fits = v.fits;
            zero = λ y b. elim (cases_lt y t) [
              | inl c ↦ v.zero y c
              | inr c ↦ let q : t ≡ y = omega arith in let P : ℕ → Type 0 = λ x. Congruent p (L v.from x) 0 in subst P q here
            ];
          })
          | inr n ↦ elim (found image_place t s.images) [
            | inr none ↦ record {
              kernel = s.kernel;
              images = record { place = t; from = v.from; row = L v.from } ∷ s.images;
              walked = add_it p count width field L linear (λ x. ⊥) low s.kernel s.images s.walked inside v.from v.fits.one v.fits.starts (nothing_skipped v.from) v.fits.off (L v.from) (record { at = λ y on. Congruent_refl (L v.from y) })
                  t (record { on = omega arith; nonzero = n; least = λ y on b. v.zero y b }) none;
              counted = let c = s.counted in omega arith;
            }
            | inl f ↦ reduced left (suc t) (omega arith) (cleared t (omega arith) v f.0 f.1 f.2)
          ]
        ]

    next : CountedWalk p count width L low
    next = reduced width 0 (omega arith) (record {
      from = unit_vector low;
      fits = record {
        one = Congruent_of (unit_one p low);
        starts = record { before = λ x b. Congruent_of (unit_other low x (λ e. absurd (omega arith))) };
        off = each_map (λ k (b : (suc low ≤ k.place) × (k.place < count)). Congruent_of (unit_other low k.place (λ e. absurd (let c = b.0 in omega arith)))) s.kernel s.walked.kernel_places;
      };
      zero = λ y b. absurd (omega arith);
    })

  walk_to : (done low : ℕ) → done + low ≡ count → CountedWalk p count width L low
  walk_to zero low e =
      subst (λ n. CountedWalk p count width L n) (let q : count ≡ low = omega arith in q)
      (record { kernel = []; images = []; walked = start_it p count width field L linear (λ x. ⊥); counted = omega arith })
  walk_to (suc done) low e = next low (omega arith) (walk_to done (suc low) (omega arith))

  pub counted_walk : CountedWalk p count width L 0
  counted_walk = walk_to count 0 (omega arith)

pub counted_walk_law : CountedWalkLaw
counted_walk_law p count width L field linear = counted_walk p count width field L linear
