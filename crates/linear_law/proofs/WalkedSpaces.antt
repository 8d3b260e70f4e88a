-- What a walk of all places says of the kernel and of the image of a linear map.
use Rattle.std.proofs.Common.{ℕ, ◌+◌, ◌*◌, ◌<◌, ◌≤◌, ◌⊎◌, List, map, arith, sym, subst, ◌∙◌, inl, inr}
use native.Mathlib.Nat.{zero-mod}
use Rattle.linear_law.specs.Names.{Congruent, IsField, Each, Among, AgreesOn, IsSubspace, expansion, ImageVector, IsImage, IsInKernel, IsLinear, KernelVector, IsPivot, IsCanonical, WalkLaw, HasReducedBasis, LeadsAt, StartsAt, Skips, Walked, kernel_place, image_place}
use Rattle.linear_law.proofs.CongruenceLemmas.{Congruent_sym, Congruent_trans, Congruent_add, Congruent_scale, Congruent_from}
use Rattle.linear_law.proofs.ListLemmas.{each_map, each_zip, each_among}
use Rattle.linear_law.proofs.PivotLemmas.{one-nonzero, reduced_apart, reduced_one}
use Rattle.linear_law.proofs.LeadLemmas.{lead_alike}
use Rattle.linear_law.proofs.TriangularBases.{spans_where, each_of_index, found, reduced_basis}

module _ (p count width : ℕ) (field : IsField p) (L : (ℕ → ℕ) → ℕ → ℕ) (linear : IsLinear p count (λ y. y < width) L) (skipped : ℕ → Type 0)
    (kernel : List KernelVector) (images : List (ImageVector ℕ)) (state : Walked p count width L skipped 0 kernel images) where
  pub kernel_space : IsSubspace p (λ x. x < count) (IsInKernel p (λ y. y < width) L)
  kernel_space = record {
    zero_in = linear.nothing;
    plus = λ k v w hv hw. record { at = λ y on. Congruent_trans ((linear.plus k v w).at y on) (Congruent_from (Congruent_add (hv.at y on) (Congruent_scale k (hw.at y on))) (omega arith)) };
    alike = λ v w same h. record { at = λ y on. Congruent_trans ((linear.alike v w same).at y on) (h.at y on) };
  }

  pub image_space : IsSubspace p (λ y. y < width) (IsImage p (λ y. y < width) L)
  image_space = record {
    zero_in = record { source = λ x. 0; same = record { at = λ y on. Congruent_sym (linear.nothing.at y on) } };
    plus = λ k v w hv hw. record {
      source = λ x. hv.source x + k * hw.source x;
      same = record { at = λ y on. Congruent_trans (Congruent_add (hv.same.at y on) (Congruent_scale k (hw.same.at y on))) (Congruent_sym ((linear.plus k hv.source hw.source).at y on)) };
    };
    alike = λ v w same h. record { source = h.source; same = record { at = λ y on. Congruent_trans (same.at y on) (h.same.at y on) } };
  }

  -- ---- the pivots of what L gives are the leads of the images

  pub image_pivot : (t : ℕ) → IsPivot p (λ y. y < width) (λ a b. a < b) (IsImage p (λ y. y < width) L) t → Among t (map image_place images)
  image_pivot t h =
      state.image_whole h.member.source (record { before = λ x b. absurd (omega arith) }) t
      (lead_alike p width (L h.member.source) h.vector t (record { at = λ y on. Congruent_sym (h.member.same.at y on) }) h.lead)

  pub image_members : Each (λ i. (IsImage p (λ y. y < width) L) i.row) images
  image_members = each_map (λ i g. record { source = i.from; same = record { at = λ y on. Congruent_sym (g.at y on) } }) images state.image_from

  pub lead_pivot : Each (λ i. IsPivot p (λ y. y < width) (λ a b. a < b) (IsImage p (λ y. y < width) L) i.place) images
  lead_pivot = each_zip (λ i g l. record { vector = i.row; member = g; lead = l }) images image_members state.image_leads

  pub image_basis : HasReducedBasis p width (IsImage p (λ y. y < width) L) (map image_place images)
  image_basis = reduced_basis p width field image_space image_place (λ (i : ImageVector ℕ). i.row) images image_members state.image_leads state.image_apart image_pivot

  -- ---- the kernel

  pub kernel_pivot : (x : ℕ) → IsPivot p (λ x. x < count) (λ a b. a < b) (IsInKernel p (λ y. y < width) L) x → Among x (map kernel_place kernel) ⊎ skipped x
  kernel_pivot x h = state.kernel_whole h.vector h.member x (omega arith) h.lead

  pub kernel_leads : Each (λ k. LeadsAt p count k.vector k.place) kernel
  kernel_leads =
      each_of_index (λ (k : KernelVector). LeadsAt p count k.vector k.place) kernel
      (λ k is.
      let at = each_among (λ (k : KernelVector). (0 ≤ k.place) × (k.place < count)) k kernel state.kernel_places is in
      let s = each_among (λ (k : KernelVector). StartsAt p k.place k.vector) k kernel state.kernel_starts is in
      record { on = at.1; nonzero = one-nonzero p (k.vector k.place) field.large (reduced_one p kernel_place (λ (k : KernelVector). k.vector) k kernel state.kernel_reduced is); least = λ y on b. s.before y b })

  -- each vector of the kernel is the canonical one of its place
  pub kernel_canonical : Each (λ k. IsCanonical p (λ x. x < count) (λ a b. a < b) (IsInKernel p (λ y. y < width) L) k.place k.vector) kernel
  kernel_canonical =
      each_of_index (λ (k : KernelVector). IsCanonical p (λ x. x < count) (λ a b. a < b) (IsInKernel p (λ y. y < width) L) k.place k.vector) kernel
      (λ k is.
      let l = each_among (λ (k : KernelVector). LeadsAt p count k.vector k.place) k kernel kernel_leads is in
      let z = each_among (λ (k : KernelVector). AgreesOn p (λ y. y < width) (L k.vector) (λ y. 0)) k kernel state.kernel_zero is in
      record {
        pivot = record { vector = k.vector; member = z; lead = l };
        member = z;
        one = reduced_one p kernel_place (λ (k : KernelVector). k.vector) k kernel state.kernel_reduced is;
        others = λ y q n. elim (kernel_pivot y q) [
          | inl a ↦ elim (found kernel_place y kernel) [
            | inl f ↦
                let P : ℕ → Type 0 = λ t. Congruent p (k.vector t) 0 in
                subst P f.2 (reduced_apart p kernel_place (λ (k : KernelVector). k.vector) k f.0 kernel state.kernel_reduced is f.1 (λ e. n (sym f.2 ∙ e)))
            | inr none ↦ absurd (none a)
          ]
          | inr s ↦ (each_among (λ (k : KernelVector). Skips p skipped k.vector) k kernel state.kernel_skips is).at y s
        ];
      })

  -- no place of the kernel is skipped
  pub kernel_fresh : Each (λ k. skipped k.place → ⊥) kernel
  kernel_fresh =
      each_zip {P = λ k. LeadsAt p count k.vector k.place} {Q = λ k. Skips p skipped k.vector} {S = λ k. skipped k.place → ⊥} (λ k l s is. l.nonzero ((s.at k.place is).same ∙ zero-mod p)) kernel kernel_leads state.kernel_skips

  -- what is zero at the skipped places is the sum of its values at the places of the kernel times the vectors
  pub classes_span : (w : ℕ → ℕ) → (IsInKernel p (λ y. y < width) L) w → Skips p skipped w → AgreesOn p (λ x. x < count) w (expansion kernel_place (λ (k : KernelVector). k.vector) kernel w)
  classes_span w m s =
      spans_where p count field.large kernel_space kernel_place (λ (k : KernelVector). k.vector) kernel state.kernel_zero state.kernel_reduced w m
      (λ t q. elim (kernel_pivot t q) [ inl a ↦ inl a | inr b ↦ inr (s.at t b, each_map (λ k (h : Skips p skipped k.vector). h.at t b) kernel state.kernel_skips) ])

  -- ---- primitives

  -- what is zero at the places of the kernel and at the skipped ones vanishes at all pivots of the kernel, as each `from` does
  pub primitive_vanishes : (v : ℕ → ℕ) → Each (λ (k : KernelVector). Congruent p (v k.place) 0) kernel → Skips p skipped v
      → (x : ℕ) → IsPivot p (λ x. x < count) (λ a b. a < b) (IsInKernel p (λ y. y < width) L) x → Congruent p (v x) 0
  primitive_vanishes v h s x q =
      elim (kernel_pivot x q) [
        | inl a ↦ elim (found kernel_place x kernel) [
          | inl f ↦ let P : ℕ → Type 0 = λ t. Congruent p (v t) 0 in subst P f.2 (each_among (λ (k : KernelVector). Congruent p (v k.place) 0) f.0 kernel h f.1)
          | inr none ↦ absurd (none a)
        ]
        | inr is ↦ s.at x is
      ]

pub walk_law : WalkLaw
walk_law p count width L skip kernel images field linear state =
    let S : ℕ → Type 0 = λ x. Among x skip in
    record {
      image_pivots = λ t. (
        image_pivot p count width field L linear S kernel images state t,
        λ m. elim (found image_place t images) [
          | inr none ↦ absurd (none m)
          | inl f ↦ subst (λ y. IsPivot p (λ y. y < width) (λ a b. a < b) (IsImage p (λ y. y < width) L) y) f.2
              (each_among (λ (i : ImageVector ℕ). IsPivot p (λ y. y < width) (λ a b. a < b) (IsImage p (λ y. y < width) L) i.place) f.0 images
              (lead_pivot p count width field L linear S kernel images state) f.1)
        ],
      );
      image_basis = image_basis p count width field L linear S kernel images state;
      kernel_ascends = state.kernel_ascends;
      kernel_canonical = kernel_canonical p count width field L linear S kernel images state;
      kernel_pivots = kernel_pivot p count width field L linear S kernel images state;
      kernel_spans = classes_span p count width field L linear S kernel images state;
      primitives = each_zip (λ i a s. primitive_vanishes p count width field L linear S kernel images state i.from a s) images state.apart state.image_skips;
    }
