-- What a walk of all rows has found: the kernel as rows, and the leads.
use Rattle.std.proofs.Common.{◌≡◌, ℕ, zero, suc, ◌<◌, ◌≤◌, ◌⊎◌, List, [], ◌∷◌, reverse, map, length, get_or, arith, refl, subst, inl, inr, append-nil, Bool, Option, None, Some}
use Rattle.row_reduce.{proofs.Below.{AllZip, Congruent, Among, Each, ImageVector, KernelVector, image_place, zip_each, Congruent_sym, IsBelow, IsRow, value_in}, specs.Names.{Class, Stored, stored_place, IsFrom, IsSolved, IsVectorRow, Reached, image_of, images_of, kernel_of, IsMarkedIn, AreOlder, HistoryFits, IsVectorOfClass}, proofs.ExpansionLemmas.zip_reversed, proofs.HistoryLemmas.among_images}

pub number_among : {X : Type 0} (f : X → ℕ) (xs : List X) (k t : ℕ) (d : X) → k < length xs → f (get_or xs k d) ≡ t → Among t (map f xs)
number_among f [] k t d b e = absurd (omega arith)
number_among f (x ∷ xs) zero t d b e = inl e
number_among f (x ∷ xs) (suc k) t d b e = inr (number_among f xs k t d (omega arith) e)

-- the lead of the row of a number
pub stored_lead : {p : ℕ} (ss : List (Stored p)) (k y : ℕ) → k < length ss → ((d : Stored p) → (get_or ss k d).place ≡ y) → Among y (map stored_place ss)
stored_lead [] k y b e = absurd (omega arith)
stored_lead (s ∷ ss) k y b e = number_among stored_place (s ∷ ss) k y s b (e s)

images_among : {p : ℕ} (ss : List (Stored p)) (fs : List (ℕ → ℕ)) (done : List (ImageVector ℕ)) (t : ℕ) → length fs ≡ length ss
    → Among t (map stored_place ss) ⊎ Among t (map image_place done) → Among t (map image_place (images_of ss fs done))
images_among [] fs done t e m = elim m [ inl a ↦ elim a [ ] | inr a ↦ a ]
images_among (s ∷ ss) [] done t e m = absurd (omega arith)
images_among (s ∷ ss) (f ∷ fs) done t e m =
    images_among ss fs (image_of s f ∷ done) t (omega arith)
    (elim m [ inl a ↦ elim a [ inl here ↦ inr (inl here) | inr later ↦ inl later ] | inr a ↦ inr (inr a) ])

zip_left_each : {X Z : Type 0} (R : X → Z → Type 0) (Q : X → Type 0) → ((x : X) (z : Z) → R x z → Q x) → (xs : List X) (zs : List Z) → AllZip R xs zs → Each Q xs
zip_left_each R Q f [] zs k = tt
zip_left_each R Q f (x ∷ xs) [] k = elim k [ ]
zip_left_each R Q f (x ∷ xs) (z ∷ zs) k = (f x z k.0, zip_left_each R Q f xs zs k.1)

pub some_or_none : (o : Option ℕ) → (o ≡ None) ⊎ ((k : ℕ) × (o ≡ Some k))
some_or_none None = inl refl
some_or_none (Some k) = inr (k, refl)

module _ (p width : ℕ) (rows : List (List (ℕ × ℕ))) (skip : List Bool) (classes : List (Class p)) (stored : List (Stored p)) (pivots : List (Option ℕ))
    (reached : Reached p width rows (IsMarkedIn skip) 0 classes stored pivots) where
  pub older : AreOlder p stored
  older = record { each = λ k s b. (reached.sources_are.from k s (λ x. 0) b).fits }

  pub histories_fit : Each (HistoryFits p (length stored)) classes
  histories_fit =
      zip_left_each (λ (c : Class p) v. IsFrom p (length stored) reached.sources c.place c.history v) (HistoryFits p (length stored))
      (λ c v h. h.fits) classes reached.vectors reached.vectors_are

  record IsSolution (k : KernelVector) (r : List (ℕ × ℕ)) : Type 0 where
    vector : (x : ℕ) → Congruent p (value_in r x) (k.vector x)
    is_row : IsRow p r
    below : k.place < length rows → IsBelow (length rows) r

  pub solved : (found : List (List (ℕ × ℕ))) → AllZip (IsVectorOfClass p stored) classes found → IsSolved p width rows skip (reverse found) pivots
  solved found h =
      let kernel = kernel_of classes reached.vectors [] in
      let all : AllZip IsSolution kernel (reverse found) =
      subst (AllZip IsSolution kernel) (append-nil (reverse found))
      (zip_reversed (λ (c : Class p) v. IsFrom p (length stored) reached.sources c.place c.history v) (IsVectorOfClass p stored) IsSolution
      (λ c v r mine is. record {
        vector = λ x. Congruent_sym (is.expanded.is reached.sources v reached.sources_are mine x);
        is_row = is.is_row;
        below = λ b. is.below (length rows) reached.numbered b;
      })
      classes reached.vectors found [] [] reached.vectors_are h tt) in
      record {
        kernel = kernel;
        images = images_of stored reached.sources [];
        walked = reached.walked;
        vectors = zip_each (λ (k : KernelVector). (0 ≤ k.place) × (k.place < length rows)) IsSolution (IsVectorRow p (length rows))
            (λ k r at s. record { is_row = s.is_row; below = s.below at.1; same = s.vector }) kernel (reverse found) reached.walked.kernel_places all;
        full = reached.owns.full;
        owned = λ y b. (
          λ some. elim (some_or_none (get_or pivots y None)) [
            | inl e ↦ absurd (some e)
            | inr k ↦
                let o = reached.owns.some y k.0 k.1 in
                images_among stored reached.sources [] y reached.sources_length (inl (stored_lead stored k.0 y o.0 o.1))
          ],
          λ m e. elim (among_images stored reached.sources [] y m) [ inr none ↦ elim none [ ] | inl a ↦ reached.owns.none y b e a ],
        );
      }

  pub solved_images : (found : List (List (ℕ × ℕ))) (h : AllZip (IsVectorOfClass p stored) classes found) → (solved found h).images ≡ images_of stored reached.sources []
  unfolding solved
  solved_images found h = refl
