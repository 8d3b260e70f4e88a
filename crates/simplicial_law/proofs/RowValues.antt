-- The cochain of a row of places and coefficients has the sum of the coefficients of a place at its simplex.
use Rattle.std.proofs.Common.{◌≡◌, ◌≢◌, ℕ, ◌+◌, ◌*◌, ◌<◌, List, [], ◌∷◌, length, get_or, arith, refl, sym, ap, ap₂, subst, ◌∙◌, inl, inr}
use Rattle.std.proofs.lemmas.Bool.{cases_eq, cases_lt}
use Rattle.std.proofs.lemmas.List.{get_or_past}
use Rattle.linear_law.specs.Names.{sum_over, ListsAll, unit_vector}
use Rattle.linear_law.proofs.Names.{unit_one, unit_other}
use Rattle.simplicial_law.specs.Names.{IsSimplex, unit_cochain, cochain_of, terms_of}
use Rattle.simplicial_law.proofs.SimplexPlaces.{simplex_at}
use Rattle.simplicial_law.proofs.UnitCochains.{unit_away, unit_here}

module _ (facets : List (List ℕ)) (n p : ℕ) (here : List (List ℕ)) (all_here : ListsAll (IsSimplex facets n) here) where
  unit_by_place : (x y : ℕ) → y < length here → unit_cochain (get_or here x []) (get_or here y []) ≡ unit_vector x y
  unit_by_place x y c =
      elim (cases_eq x y) [
        | inl e ↦ subst (λ z. unit_cochain (get_or here x []) (get_or here z []) ≡ unit_vector x z) e (unit_here (get_or here x []) ∙ sym (unit_one x x))
        | inr m ↦ unit_away (get_or here x []) (get_or here y []) (apart m) ∙ sym (unit_other x y (λ e. m (sym e)))
      ]
    where
      apart : x ≢ y → get_or here x [] ≢ get_or here y []
      apart m f =
          elim (cases_lt x (length here)) [
            | inl b ↦ m (all_here.once x y [] b c f)
            | inr b ↦ absurd (let on = simplex_at facets n p here all_here y c in omega (arith, on.size, ap (λ (s : List ℕ). length s) (sym (get_or_past here x [] b) ∙ f)))
          ]

  pub value_by_place : (row : List (ℕ × ℕ)) (x : ℕ) → x < length here → cochain_of (terms_of here row) (get_or here x []) ≡ sum_over (λ e. e.1 * unit_vector e.0 x) row
  value_by_place [] x b = refl
  value_by_place (e ∷ es) x b = ap₂ (λ m n. e.1 * m + n) (unit_by_place e.0 x b) (value_by_place es x b)
