-- The rows that a walk has stored are triangular, and lie in the span.
use Rattle.std.proofs.Common.{◌≡◌, ℕ, ◌<◌, List, [], ◌∷◌, reverse, map, length, get_or, arith, refl, sym, subst, inl, inr, Bool, Option}
use Rattle.row_reduce.{proofs.Below.{AllZip, Among, Each, IsApart, ImageVector, IsImage, AgreesOn, image_place, each_from_index, Congruent_sym}, specs.Names.{Class, Stored, stored_place, Reached, combined, image_of, images_of, IsMarkedIn, IsVectorOfClass, IsSolvedStored, stored_row}, proofs.HistoryLemmas.each_number, proofs.SolvedLemmas.{older, solved, solved_images}}

-- places that are apart in the list of images are apart in the list of rows, and from those before
images_apart : {p : ℕ} (ss : List (Stored p)) (fs : List (ℕ → ℕ)) (done : List (ImageVector ℕ)) → length fs ≡ length ss → IsApart (map image_place (images_of ss fs done))
    → IsApart (map stored_place ss) × ((t : ℕ) → Among t (map stored_place ss) → Among t (map image_place done) → ⊥) × IsApart (map image_place done)
images_apart [] fs done e h = (tt, λ t a b. a, h)
images_apart (s ∷ ss) [] done e h = absurd (omega arith)
images_apart (s ∷ ss) (f ∷ fs) done e h =
    let r = images_apart ss fs (image_of s f ∷ done) (omega arith) h in (
      (λ a. r.1 s.place a (inl refl), r.0),
      λ t a b. elim a [ inl q ↦ r.2.0 (subst (λ y. Among y (map image_place done)) (sym q) b) | inr c ↦ r.1 t c (inr b) ],
      r.2.1,
    )

module _ (p width : ℕ) (rows : List (List (ℕ × ℕ))) (skip : List Bool) (classes : List (Class p)) (stored : List (Stored p)) (pivots : List (Option ℕ))
    (reached : Reached p width rows (IsMarkedIn skip) 0 classes stored pivots) where
  pub solved_stored : (found : List (List (ℕ × ℕ))) → AllZip (IsVectorOfClass p stored) classes found → IsSolvedStored p width rows skip (reverse found) pivots stored
  solved_stored found h = record {
    solved = solved p width rows skip classes stored pivots reached found h;
    triangular = record {
      fits = reached.fits;
      owns = reached.owns;
      apart = (images_apart stored reached.sources [] reached.sources_length reached.walked.image_apart).0;
      older = older p width rows skip classes stored pivots reached;
    };
    numbered = reached.numbered;
    sources = reached.sources;
    sources_length = reached.sources_length;
    sources_are = reached.sources_are;
    images_are = solved_images p width rows skip classes stored pivots reached found h;
  }

-- triangular rows lie in the span
pub members : (p width : ℕ) (rows : List (List (ℕ × ℕ))) (skip : List Bool) (solutions : List (List (ℕ × ℕ))) (pivots : List (Option ℕ)) (stored : List (Stored p)) → IsSolvedStored p width rows skip solutions pivots stored
    → Each (λ (s : Stored p). IsImage p (λ y. y < width) (combined rows) (stored_row s)) stored
members p width rows skip solutions pivots stored h =
    each_from_index (λ (s : Stored p). IsImage p (λ y. y < width) (combined rows) (stored_row s)) stored
    (λ k d b.
    let from = each_number (λ (i : ImageVector ℕ). AgreesOn p (λ y. y < width) (combined rows i.from) i.row) stored h.sources []
    (subst (Each (λ (i : ImageVector ℕ). AgreesOn p (λ y. y < width) (combined rows i.from) i.row)) h.images_are h.solved.walked.image_from) h.sources_length k d (λ y. 0) b in
    record { source = get_or h.sources k (λ y. 0); same = record { at = λ y on. Congruent_sym (from.at y on) } })
