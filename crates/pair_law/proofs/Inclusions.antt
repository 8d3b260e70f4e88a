-- The inclusion of a subcomplex.
use Rattle.std.proofs.Common.{◌≡◌, ℕ, false, cond, List, [], ◌∷◌, map, refl, sym, ◌∙◌, ap, ap₂, subst}
use Rattle.linear_law.proofs.Names.{coordinates-alike, zip_change, Congruent_of, Congruent_sym}
use Rattle.linear_law.specs.Names.{Among, Each, IsCoordinates}
use Rattle.signed_sum.specs.Names.{is_degenerate}
use Rattle.simplicial_law.proofs.Names.{coboundaries}
use Rattle.simplicial_law.specs.Names.{AgreesOnSimplices, Cochain, IsCoboundary, IsSimplex}
use Rattle.steenrod_law.proofs.Complexes.{ascending-plain, weak_of_simplex}
use Rattle.steenrod_law.specs.Names.{IsWeakSimplex, pull_back}
use Rattle.pair_law.specs.Laws.{InclusionLaw}
use Rattle.pair_law.specs.Sequences.{KeepsVertices}

kept : (f : ℕ → ℕ) (P : ℕ → Type 0) → ((v : ℕ) → P v → f v ≡ v) → (s : List ℕ) → Each P s → map f s ≡ s
kept f P h [] e = refl
kept f P h (v ∷ s) e = ap₂ ◌∷◌ (h v e.0) (kept f P h s e.1)

module _ (f : ℕ → ℕ) (sub : List (List ℕ)) (keeps : KeepsVertices f sub) where
  image : (n : ℕ) (s : List ℕ) → IsSimplex sub n s → map f s ≡ s
  image n s on = kept f (λ v. Among v on.facet) (λ v m. keeps v on.facet on.listed m) s on.within

  restriction : (n p : ℕ) (u : Cochain) → AgreesOnSimplices sub n p (pull_back f u) u
  restriction n p u = record {
    at = λ s on.
        let e = image n s on in
        let plain : is_degenerate (map f s) ≡ false = ap is_degenerate e ∙ ascending-plain s on.ascending in
        Congruent_of (ap (λ b. cond b 0 (u (map f s))) plain ∙ ap u e);
  }

pub inclusion_law : InclusionLaw
inclusion_law f facets sub pair keeps = record {
  simplicial = λ n s on. subst (IsWeakSimplex facets) (sym (image f sub keeps n s on)) (weak_of_simplex facets n s (pair.inside n s on));
  restriction = restriction f sub keeps;
  matrix = λ n p us ws columns field. zip_change (λ column u. IsCoordinates p (IsCoboundary sub n p) ws (pull_back f u) column) (λ column u. IsCoordinates p (IsCoboundary sub n p) ws u column)
      (λ column u. coordinates-alike p field.large (coboundaries sub n p field.large) ws u (pull_back f u) column (record { at = λ s on. Congruent_sym ((restriction f sub keeps n p u).at s on) })) columns us;
}
