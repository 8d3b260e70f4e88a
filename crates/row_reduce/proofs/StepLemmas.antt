-- A walk takes one more row.
use Rattle.std.proofs.Common.{◌≡◌, ℕ, zero, suc, ◌+◌, ◌<◌, ◌≤◌, List, [], ◌∷◌, ◌++◌, map, length, get_or, arith, refl, sym, ◌∙◌, ap, subst, inl, inr, Bool, Option, None, true, false}
use Rattle.row_reduce.{proofs.Below.{cases_eq, Congruent, IsField, Each, Among, ImageVector, KernelVector, unit_vector, Walked, LeadsAt, StartsAt, image_place, copies, unit_one, each_map, each_push, get_before, get_last, length_push, length_alike, zip_change, zip_push, Congruent_refl, Congruent_of, Congruent_sym, Congruent_trans, Congruent_add, Congruent_from, length-copies, each_get_or, nonzero_alike, sum_vanishes, keep_it, add_it, skip_it, start_it, IsBelow, value_in, get_or_default}, specs.Names.{Stored, Class, IsLoaded, IsReducedTo, IsStoredFrom, Owns, StoredFits, added_row, IsFrom, IsSkippable, Reached, added_from, combined, images_of, kernel_of, IsMarkedIn, Gives}, proofs.StoredLemmas.some_none, proofs.GivesLemmas.{combined_linear, gives_alike, gives_sum, gives_unit, images_give}, proofs.HistoryLemmas.{images_push, kernel_push, each_number, among_images, added_default, from_more, from_wider}}

module _ (p width : ℕ) (field : IsField p) (rows : List (List (ℕ × ℕ))) (skipped : ℕ → Type 0) (low : ℕ) (kernel : List (Class p)) (images : List (Stored p)) (pivots : List (Option ℕ))
    (reached : Reached p width rows skipped (suc low) kernel images pivots) (inside : low < length rows) (taken : skipped low → ⊥)
    (given : List (ℕ × ℕ)) (given_is : given ≡ get_or rows low [])
    (loaded left : List ℕ) (start : ℕ) (load : IsLoaded p given loaded start)
    (t : ℕ) (history : List (ℕ × ℕ)) (done : IsReducedTo p width images pivots loaded left t history) where
  -- the combination that is left
  source : ℕ → ℕ
  source x = unit_vector low x + added_from reached.sources (λ y. 0) history x

  source_is : IsFrom p (length images) reached.sources low history source
  unfolding source
  source_is = record {
    fits = done.history_fits;
    sum = λ d x. Congruent_of (ap (λ n. unit_vector low x + n) (added_default p (length images) reached.sources (λ y. 0) d history x (let e = reached.sources_length in omega arith) done.history_fits));
  }

  module _ (s : Stored p) where
    source_gives : Gives p rows (λ y. y < width) low skipped (kernel_of kernel reached.vectors []) source (λ y. get_or left y 0)
    unfolding source
    source_gives =
        let K = kernel_of kernel reached.vectors [] in
        let On : ℕ → Type 0 = λ y. y < width in
        let from : ℕ × ℕ → ℕ → ℕ = λ e. get_or reached.sources e.0 (λ y. 0) in
        let row : ℕ × ℕ → ℕ → ℕ = λ e. value_in (get_or images e.0 s).row in
        let each : Each (λ (e : ℕ × ℕ). Gives p rows On low skipped K (from e) (row e)) history =
        each_map {Q = λ (e : ℕ × ℕ). Gives p rows On low skipped K (from e) (row e)}
        (λ e b. each_number (λ (i : ImageVector ℕ). Gives p rows On low skipped K i.from i.row) images reached.sources []
        (images_give p rows width low (suc low) skipped K (images_of images reached.sources []) (omega arith) reached.walked) reached.sources_length e.0 s (λ y. 0) b)
        history done.history_fits in
        gives_alike p rows On low skipped K source (λ y. value_in (get_or rows low []) y + added_row images s history y) source (λ y. get_or left y 0) (λ x. Congruent_refl (source x))
        (λ y. Congruent_trans (done.row s y) (Congruent_add (Congruent_trans (load.is_row y) (Congruent_of (ap (λ (es : List (ℕ × ℕ)). value_in es y) given_is))) (Congruent_refl (added_row images s history y))))
        (gives_sum p rows On low skipped K (λ (e : ℕ × ℕ). e.1) from row history (unit_vector low) (value_in (get_or rows low [])) each (gives_unit p rows On low skipped K inside taken reached.walked.kernel_places))

    source_low : Congruent p (source low) 1
    unfolding source
    source_low =
        let value : ℕ × ℕ → ℕ → ℕ = λ e. get_or reached.sources e.0 (λ y. 0) in
        let none = sum_vanishes p (λ (e : ℕ × ℕ). e.0) value (λ (e : ℕ × ℕ). e.1) low history
        (each_map {Q = λ (e : ℕ × ℕ). Congruent p (value e low) 0}
        (λ e b. (each_number (λ (i : ImageVector ℕ). StartsAt p (suc low) i.from) images reached.sources [] reached.walked.image_starts reached.sources_length e.0 s (λ y. 0) b).before low (omega arith)) history done.history_fits) in
        Congruent_from (Congruent_add (Congruent_of {p = p} (unit_one 0 low)) none) (omega arith)

    -- ---- nothing is left: one more class
    pub step_class : (c : Class p) → c.place ≡ low → c.history ≡ history → width ≤ t → Reached p width rows skipped low (kernel ++ (c ∷ [])) images pivots
    step_class c at is all =
        let w = keep_it p (length rows) width field (combined rows) (combined_linear p width rows) skipped low (kernel_of kernel reached.vectors []) (images_of images reached.sources [])
        reached.walked inside source source_low source_gives.starts source_gives.skips source_gives.apart (λ y. get_or left y 0) source_gives.from
        (record { at = λ y on. done.before.before y (omega arith) }) in
        let q : kernel_of (kernel ++ (c ∷ [])) (reached.vectors ++ (source ∷ [])) [] ≡ record { place = low; vector = source } ∷ kernel_of kernel reached.vectors [] =
        kernel_push kernel reached.vectors [] c source (length_alike (λ (b : Class p) v. IsFrom p (length images) reached.sources b.place b.history v) kernel reached.vectors reached.vectors_are)
        ∙ ap (λ n. record { place = n; vector = source } ∷ kernel_of kernel reached.vectors []) at in
        record {
          few = let b = reached.few in omega arith;
          numbered = reached.numbered;
          fits = reached.fits;
          owns = reached.owns;
          sources = reached.sources;
          sources_length = reached.sources_length;
          sources_are = reached.sources_are;
          vectors = reached.vectors ++ (source ∷ []);
          vectors_are = zip_push (λ (b : Class p) v. IsFrom p (length images) reached.sources b.place b.history v) kernel reached.vectors c source reached.vectors_are
              (subst (λ n. IsFrom p (length images) reached.sources n c.history source) (sym at)
              (subst (λ (hs : List (ℕ × ℕ)). IsFrom p (length images) reached.sources low hs source) (sym is) source_is));
          walked = subst (λ (ks : List KernelVector). Walked p (length rows) width (combined rows) skipped low ks (images_of images reached.sources [])) (sym q) w;
        }

  -- ---- a row is left: one more image
  pub step_stored : (i : Stored p) (empty : List ℕ) (pivots' : List (Option ℕ)) → length left ≡ width → IsStoredFrom p left empty t low history i → t < width → Owns width (images ++ (i ∷ [])) pivots'
      → Reached p width rows skipped low kernel (images ++ (i ∷ [])) pivots'
  step_stored i empty pivots' full stored b owns =
      let w = add_it p (length rows) width field (combined rows) (combined_linear p width rows) skipped low (kernel_of kernel reached.vectors []) (images_of images reached.sources [])
      reached.walked inside source (source_low i) (source_gives i).starts (source_gives i).skips (source_gives i).apart (value_in i.row)
      (record { at = λ y on. Congruent_trans ((source_gives i).from.at y on) (Congruent_sym (stored.row y)) })
      t lead fresh in
      let q : images_of (images ++ (i ∷ [])) (reached.sources ++ (source ∷ [])) [] ≡ record { place = t; from = source; row = value_in i.row } ∷ images_of images reached.sources [] =
      images_push images reached.sources [] i source reached.sources_length
      ∙ ap (λ n. record { place = n; from = source; row = value_in i.row } ∷ images_of images reached.sources []) stored.place in
      let long : length (images ++ (i ∷ [])) ≡ length images + 1 = length_push images i in
      record {
        few = let b = reached.few in omega arith;
        numbered = each_push (λ (s : Stored p). s.source < length rows) images i reached.numbered (subst (λ n. n < length rows) (sym stored.source_is) inside);
        fits = each_push (StoredFits p width) images i reached.fits (subst (λ n. StoredFits p n i) full stored.fits);
        owns = owns;
        sources = reached.sources ++ (source ∷ []);
        sources_length = let e = length_push reached.sources source in let f = reached.sources_length in omega arith;
        sources_are = record {
          from = λ k s f c. elim (cases_eq k (length images)) [
            | inl e ↦
                let P : ℕ → Type 0 = λ n. IsFrom p n (reached.sources ++ (source ∷ [])) (get_or (images ++ (i ∷ [])) n s).source (get_or (images ++ (i ∷ [])) n s).history (get_or (reached.sources ++ (source ∷ [])) n f) in
                subst P (sym e) (newest s f)
            | inr n ↦
                let d : k < length images = omega arith in
                let old = from_more p k reached.sources source (get_or images k s).source (get_or images k s).history (get_or reached.sources k f) (let e = reached.sources_length in omega arith) (reached.sources_are.from k s f d) in
                subst (λ (g : ℕ → ℕ). IsFrom p k (reached.sources ++ (source ∷ [])) (get_or (images ++ (i ∷ [])) k s).source (get_or (images ++ (i ∷ [])) k s).history g)
                (sym (get_before reached.sources source k f (let e = reached.sources_length in omega arith)))
                (subst (λ (j : Stored p). IsFrom p k (reached.sources ++ (source ∷ [])) j.source j.history (get_or reached.sources k f)) (sym (get_before images i k s d)) old)
          ];
        };
        vectors = reached.vectors;
        vectors_are = zip_change (λ (c : Class p) v. IsFrom p (length images) reached.sources c.place c.history v) (λ (c : Class p) v. IsFrom p (length (images ++ (i ∷ []))) (reached.sources ++ (source ∷ [])) c.place c.history v)
            (λ c v h. from_wider p (length images) (length (images ++ (i ∷ []))) (reached.sources ++ (source ∷ [])) c.place c.history v (omega arith)
            (from_more p (length images) reached.sources source c.place c.history v (let e = reached.sources_length in omega arith) h))
            kernel reached.vectors reached.vectors_are;
        walked = subst (λ (is : List (ImageVector ℕ)). Walked p (length rows) width (combined rows) skipped low (kernel_of kernel reached.vectors []) is) (sym q) w;
      }
    where
      lead : LeadsAt p width (value_in i.row) t
      lead = record {
        on = b;
        nonzero = nonzero_alike p (value_in i.row t) (get_or left t 0) (stored.row t) (done.stop b).0;
        least = λ y on c. Congruent_trans (stored.row y) (done.before.before y c);
      }

      fresh : Among t (map image_place (images_of images reached.sources [])) → ⊥
      fresh m = elim (among_images images reached.sources [] t m) [ inl a ↦ reached.owns.none t b (done.stop b).1 a | inr n ↦ elim n [ ] ]

      newest : (s : Stored p) (f : ℕ → ℕ) → IsFrom p (length images) (reached.sources ++ (source ∷ [])) (get_or (images ++ (i ∷ [])) (length images) s).source (get_or (images ++ (i ∷ [])) (length images) s).history (get_or (reached.sources ++ (source ∷ [])) (length images) f)
      newest s f =
          let here : get_or (reached.sources ++ (source ∷ [])) (length images) f ≡ source =
          subst (λ n. get_or (reached.sources ++ (source ∷ [])) n f ≡ source) reached.sources_length (get_last reached.sources source f) in
          let mine : IsFrom p (length images) (reached.sources ++ (source ∷ [])) i.source i.history source =
          subst (λ n. IsFrom p (length images) (reached.sources ++ (source ∷ [])) n i.history source) (sym stored.source_is)
          (subst (λ (hs : List (ℕ × ℕ)). IsFrom p (length images) (reached.sources ++ (source ∷ [])) low hs source) (sym stored.history_is)
          (from_more p (length images) reached.sources source low history source (let e = reached.sources_length in omega arith) source_is)) in
          subst (λ (g : ℕ → ℕ). IsFrom p (length images) (reached.sources ++ (source ∷ [])) (get_or (images ++ (i ∷ [])) (length images) s).source (get_or (images ++ (i ∷ [])) (length images) s).history g) (sym here)
          (subst (λ (j : Stored p). IsFrom p (length images) (reached.sources ++ (source ∷ [])) j.source j.history source) (sym (get_last images i s)) mine)

-- ---- a place that is skipped, and the start

pub reached_skip : (p width : ℕ) (field : IsField p) (rows : List (List (ℕ × ℕ))) (skip : List Bool) (low : ℕ) (kernel : List (Class p)) (images : List (Stored p)) (pivots : List (Option ℕ))
    → Reached p width rows (IsMarkedIn skip) (suc low) kernel images pivots → low < length rows → IsMarkedIn skip low → IsSkippable p width rows low
    → Reached p width rows (IsMarkedIn skip) low kernel images pivots
reached_skip p width field rows skip low kernel images pivots h inside is v = record {
  few = let b = h.few in omega arith;
  numbered = h.numbered;
  fits = h.fits;
  owns = h.owns;
  sources = h.sources;
  sources_length = h.sources_length;
  sources_are = h.sources_are;
  vectors = h.vectors;
  vectors_are = h.vectors_are;
  walked = skip_it p (length rows) width field (combined rows) (combined_linear p width rows) (IsMarkedIn skip) low (kernel_of kernel h.vectors []) (images_of images h.sources [])
      h.walked inside is v.vector v.starts v.nonzero v.goes;
}

pub nowhere : (n x : ℕ) → get_or (copies {X = Option ℕ} n None) x None ≡ None
nowhere zero x = refl
nowhere (suc n) zero = refl
nowhere (suc n) (suc x) = nowhere n x

pub reached_start : (p width : ℕ) (field : IsField p) (rows : List (List (ℕ × ℕ))) (skipped : ℕ → Type 0) (pivots : List (Option ℕ)) → pivots ≡ copies width None → Reached p width rows skipped (length rows) [] [] pivots
reached_start p width field rows skipped pivots e =
    let none : (y : ℕ) → get_or pivots y None ≡ None = λ y. ap (λ (ps : List (Option ℕ)). get_or ps y None) e ∙ nowhere width y in
    record {
      few = omega arith;
      numbered = tt;
      fits = tt;
      owns = record { full = ap length e ∙ length-copies width None; some = λ y k q. absurd (some_none k (sym q ∙ none y)); none = λ y b q m. elim m [ ] };
      sources = [];
      sources_length = refl;
      sources_are = record { from = λ k s f b. absurd (omega arith) };
      vectors = [];
      vectors_are = tt;
      walked = start_it p (length rows) width field (combined rows) (combined_linear p width rows) skipped;
    }

-- ---- what a step reads

-- a mark that was read
pub mark_read : (skip : List Bool) (low : ℕ) (b : Bool) → b ≡ get_or skip low b → low < length skip → b ≡ get_or skip low false
mark_read skip low b is inside = is ∙ get_or_default skip low b false inside

pub not_both : false ≡ true → ⊥
not_both e = grind arith

pub row_within : (width : ℕ) (rows : List (List (ℕ × ℕ))) (k : ℕ) (given r : List (ℕ × ℕ)) → given ≡ r → r ≡ get_or rows k r → k < length rows → Each (IsBelow width) rows → IsBelow width given
row_within width rows k given r is at b within = subst (IsBelow width) (sym (is ∙ at)) (each_get_or (IsBelow width) rows k r b within)

pub reduced_here : (p width : ℕ) (images is : List (Stored p)) (pivots : List (Option ℕ)) (loaded left : List ℕ) (t : ℕ) (history : List (ℕ × ℕ)) → length loaded ≡ width → is ≡ images
    → IsReducedTo p (length loaded) is pivots loaded left t history → IsReducedTo p width images pivots loaded left t history
reduced_here p width images is pivots loaded left t history full e h =
    subst (λ n. IsReducedTo p n images pivots loaded left t history) full (subst (λ (js : List (Stored p)). IsReducedTo p (length loaded) js pivots loaded left t history) e h)

-- what was not reduced is still the row
pub still_row : (p width : ℕ) (images : List (Stored p)) (pivots : List (Option ℕ)) (loaded left : List ℕ) (t start : ℕ) (given history : List (ℕ × ℕ)) → Stored p → history ≡ [] → IsLoaded p given loaded start
    → IsReducedTo p width images pivots loaded left t history → (y : ℕ) → Congruent p (get_or left y 0) (value_in given y)
still_row p width images pivots loaded left t start given history s none load done y =
    Congruent_trans (done.row s y) (Congruent_from (load.is_row y) (ap (λ (h : List (ℕ × ℕ)). get_or loaded y 0 + added_row images s h y + value_in given y) none ∙ omega arith))
