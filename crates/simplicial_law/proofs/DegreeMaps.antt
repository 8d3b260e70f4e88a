-- Linear maps of cochains to cochains one degree up, by the places of the simplices.
use Rattle.std.proofs.Common.{◌≡◌, ℕ, suc, ◌+◌, ◌*◌, ◌<◌, List, [], ◌∷◌, length, get_or, arith, refl, sym, ap, ◌∙◌, add_comm}
use Rattle.std.specs.List.{AllZip}
use Rattle.linear_law.specs.Names.{Congruent, IsLinear, ListsAll, row_combination_from, unit_sum_from}
use Rattle.linear_law.proofs.Names.{Congruent_add, Congruent_from, Congruent_of, Congruent_scale, Congruent_sym, Congruent_trans}
use Rattle.simplicial_law.specs.Names.{IsSimplex, AgreesOnSimplices, Cochain, unit_cochain, cochain_at}
use Rattle.simplicial_law.proofs.SimplexPlaces.{agree_by_place, cochain_at-value, simplex_at}

-- D keeps sums and multiples
pub record IsLinearMap (D : Cochain → Cochain) : Type 0 where
  pub nothing : (s : List ℕ) → D (λ t. 0) s ≡ 0
  pub plus : (k : ℕ) (f g : Cochain) (s : List ℕ) → D (λ t. f t + k * g t) s ≡ D f s + k * D g s

-- ---- rows: the combinations of what D gives of unit cochains

module _ (p : ℕ) (D : Cochain → Cochain) (maps : IsLinearMap D) (above : List (List ℕ)) where
  pub combined_rows : (k : ℕ) (rows : List (ℕ → ℕ)) (ss : List (List ℕ)) (v : ℕ → ℕ) (j : ℕ) → j < length above
      → AllZip (λ r s. (j : ℕ) → j < length above → Congruent p (r j) (D (unit_cochain s) (get_or above j []))) rows ss
      → Congruent p (row_combination_from k rows v j) (D (unit_sum_from unit_cochain k ss v) (get_or above j []))
  combined_rows k [] [] v j b h = Congruent_of (sym (maps.nothing (get_or above j [])))
  combined_rows k [] (s ∷ ss) v j b h = elim h [ ]
  combined_rows k (r ∷ rs) [] v j b h = elim h [ ]
  combined_rows k (r ∷ rs) (s ∷ ss) v j b h =
      let t = get_or above j [] in
      let turned : D (unit_sum_from unit_cochain k (s ∷ ss) v) t ≡ D (λ x. unit_sum_from unit_cochain (suc k) ss v x + v k * unit_cochain s x) t =
      ap (λ (f : Cochain). D f t) (λ i x. add_comm (v k * unit_cochain s x) (unit_sum_from unit_cochain (suc k) ss v x) i) in
      let parts = maps.plus (v k) (unit_sum_from unit_cochain (suc k) ss v) (unit_cochain s) t in
      Congruent_from (Congruent_add (combined_rows (suc k) rs ss v j b h.1) (Congruent_add (Congruent_scale (v k) (h.0 j b)) (Congruent_of {p = p} (sym (turned ∙ parts))))) (omega arith)

-- ---- D by places, where it sees no more than the values on simplices

module _ (facets : List (List ℕ)) (n p : ℕ) (D : Cochain → Cochain) (maps : IsLinearMap D)
    (same : (f g : Cochain) → AgreesOnSimplices facets n p f g → AgreesOnSimplices facets (n + 1) p (D f) (D g))
    (here : List (List ℕ)) (all_here : ListsAll (IsSimplex facets n) here)
    (above : List (List ℕ)) (all_above : ListsAll (IsSimplex facets (n + 1)) above)
    (L : (ℕ → ℕ) → ℕ → ℕ) (is : (v : ℕ → ℕ) (j : ℕ) → j < length above → Congruent p (L v j) (D (cochain_at here v) (get_or above j []))) where
  pub by_place : (v : ℕ → ℕ) (f : Cochain) → ((x : ℕ) → x < length here → Congruent p (v x) (f (get_or here x []))) → (j : ℕ) → j < length above → Congruent p (L v j) (D f (get_or above j []))
  by_place v f h j b =
      Congruent_trans (is v j b)
      ((same (cochain_at here v) f (agree_by_place facets n p here all_here (cochain_at here v) f (λ x c. Congruent_trans (Congruent_of (cochain_at-value facets n p here all_here v x c)) (h x c)))).at
      (get_or above j []) (simplex_at facets (n + 1) p above all_above j b))

  pub linear_by_place : IsLinear p (length here) (λ y. y < length above) L
  linear_by_place = record {
    nothing = record { at = λ j b. Congruent_trans (by_place (λ x. 0) (λ t. 0) (λ x c. Congruent_of refl) j b) (Congruent_of (maps.nothing (get_or above j []))) };
    plus = λ k v w. record {
      at = λ j b.
          let both : Cochain = λ s. cochain_at here v s + k * cochain_at here w s in
          let values = λ (x : ℕ) (c : x < length here). Congruent_of {p = p} (sym (ap (λ m. m + k * cochain_at here w (get_or here x [])) (cochain_at-value facets n p here all_here v x c) ∙ ap (λ m. v x + k * m) (cochain_at-value facets n p here all_here w x c))) in
          Congruent_trans (by_place (λ x. v x + k * w x) both values j b)
          (Congruent_trans (Congruent_of (maps.plus k (cochain_at here v) (cochain_at here w) (get_or above j [])))
          (Congruent_add (Congruent_sym (is v j b)) (Congruent_scale k (Congruent_sym (is w j b)))));
    };
    alike = λ v w same. record {
      at = λ j b. Congruent_trans (by_place v (cochain_at here w) (λ x c. Congruent_trans (same.at x c) (Congruent_of (sym (cochain_at-value facets n p here all_here w x c)))) j b) (Congruent_sym (is w j b));
    };
  }
