-- What a walk of the coboundary tells of the cocycles of one degree and of the coboundaries of the next.
use Rattle.std.proofs.Common.{ℕ, ◌+◌, ◌<◌, List, [], length, get_or, arith, refl, ap}
use Rattle.linear_law.specs.Names.{Congruent, IsImage, IsInKernel, IsLinear, ListsAll}
use Rattle.linear_law.proofs.Names.{Congruent_of, Congruent_sym, Congruent_trans, each_get_or, unit_sum-past}
use Rattle.simplicial_law.specs.Names.{IsSimplex, Cochain, IsCoboundary, IsCocycle, coboundary, unit_cochain, IsCoboundaryByPlace, cochain_at}
use Rattle.simplicial_law.proofs.Bases.{coboundary_plus, coboundary_same, coboundary_zero}
use Rattle.simplicial_law.proofs.DegreeMaps.{IsLinearMap, by_place, linear_by_place}
use Rattle.simplicial_law.proofs.SimplexPlaces.{agree_by_place, cochain_at-value, simplex_at}
use Rattle.simplicial_law.proofs.UnitCochains.{unit_away, unit_here}

pub coboundary_map : (p : ℕ) → IsLinearMap (coboundary p)
coboundary_map p = record { nothing = coboundary_zero p; plus = coboundary_plus p }

-- ---- the coboundary by places

module _ (facets : List (List ℕ)) (n p : ℕ)
    (here : List (List ℕ)) (all_here : ListsAll (IsSimplex facets n) here)
    (above : List (List ℕ)) (all_above : ListsAll (IsSimplex facets (n + 1)) above)
    (L : (ℕ → ℕ) → ℕ → ℕ) (is_coboundary : IsCoboundaryByPlace p here above L) where
  values_down : (v : ℕ → ℕ) (f : Cochain) → ((x : ℕ) → x < length here → Congruent p (v x) (f (get_or here x []))) → (j : ℕ) → j < length above → Congruent p (L v j) (coboundary p f (get_or above j []))
  values_down = by_place facets n p (coboundary p) (coboundary_map p) (coboundary_same facets n p) here all_here above all_above L is_coboundary.same

  pub linear : IsLinear p (length here) (λ y. y < length above) L
  linear = linear_by_place facets n p (coboundary p) (coboundary_map p) (coboundary_same facets n p) here all_here above all_above L is_coboundary.same

  pub cocycle_up : (v : ℕ → ℕ) → IsInKernel p (λ y. y < length above) L v → IsCocycle facets n p (cochain_at here v)
  cocycle_up v h = agree_by_place facets (n + 1) p above all_above (coboundary p (cochain_at here v)) (λ s. 0) (λ j b. Congruent_trans (Congruent_sym (is_coboundary.same v j b)) (h.at j b))

  pub cocycle_down : (f : Cochain) → IsCocycle facets n p f → IsInKernel p (λ y. y < length above) L (λ x. f (get_or here x []))
  cocycle_down f h = record {
    at = λ j b. Congruent_trans (values_down (λ x. f (get_or here x [])) f (λ x c. Congruent_of refl) j b) (h.at (get_or above j []) (simplex_at facets (n + 1) p above all_above j b));
  }

  pub coboundary_up : (w : ℕ → ℕ) → IsImage p (λ y. y < length above) L w → IsCoboundary facets (n + 1) p (cochain_at above w)
  coboundary_up w h = record {
    below = cochain_at here h.source;
    nothing = unit_sum-past unit_cochain unit_here unit_away 0 here h.source [] (λ j d b e. let on = each_get_or (IsSimplex facets n) here j d b all_here.sound in absurd (omega (arith, on.size, ap (λ (t : List ℕ). length t) e)));
    same = agree_by_place facets (n + 1) p above all_above (cochain_at above w) (coboundary p (cochain_at here h.source))
        (λ j b. Congruent_trans (Congruent_of (cochain_at-value facets (n + 1) p above all_above w j b)) (Congruent_trans (h.same.at j b) (is_coboundary.same h.source j b)));
  }

  pub coboundary_down : (f : Cochain) → IsCoboundary facets (n + 1) p f → IsImage p (λ y. y < length above) L (λ x. f (get_or above x []))
  coboundary_down f h = record {
    source = λ x. h.below (get_or here x []);
    same = record {
      at = λ j b. Congruent_trans (h.same.at (get_or above j []) (simplex_at facets (n + 1) p above all_above j b))
          (Congruent_sym (values_down (λ x. h.below (get_or here x [])) h.below (λ x c. Congruent_of refl) j b));
    };
  }
