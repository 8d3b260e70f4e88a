-- The values of a row, and on which simplices a chain stands.
use Rattle.std.proofs.{Common.{◌≡◌, ℕ, zero, suc, ◌+◌, ◌*◌, ◌<◌, ◌≤◌, ◌≢◌, ◌==◌, true, false, inl, inr, arith, refl, sym, ◌∙◌, ap, ap₂, subst, List, [], ◌∷◌, length, get_or}, lemmas.Bool.cases_eq, lemmas.Bool.Decides.eqb_tells}
use Rattle.linear_law.{specs.Names.{Each, unit_vector}, proofs.Names.{Congruent_of, each_get_or, each_map, each_of_map, unit_one, unit_other}}
use Rattle.simplicial_law.{specs.Names.{IsSimplex, Chain, coboundary, unit_cochain, cochain_of, terms_of}, proofs.Names.{coboundary_zero, unit_away, unit_here}}
use Rattle.sparse_rows.specs.Rows.{IsBelow, value_in}
use Rattle.complex_index.specs.Names.{IsCoboundaryOf, IsIndexOf, level}
use Rattle.certificate_law.specs.Names.{IsOn, IsOnBelow}
use Rattle.listed_rows.specs.ListedChains.{HasValues, IsCoboundaryRow, IsRowOfChain}

module _ (facets : List (List ℕ)) (levels : List (List (List ℕ))) (index : IsIndexOf facets levels) (n : ℕ) where
  unit_at : (x y : ℕ) → x < length (level levels n) → y < length (level levels n) → unit_cochain (get_or (level levels n) x []) (get_or (level levels n) y []) ≡ unit_vector x y
  unit_at x y b c = elim (cases_eq x y) [
    | inl e ↦ subst (λ (z : ℕ). unit_cochain (get_or (level levels n) x []) (get_or (level levels n) z []) ≡ unit_vector x z) e (unit_here (get_or (level levels n) x []) ∙ sym (unit_one x x))
    | inr m ↦ unit_away (get_or (level levels n) x []) (get_or (level levels n) y []) (λ e. m ((index.lists n).once x y [] b c e)) ∙ sym (unit_other x y (λ e. m (sym e)))
  ]

  value_at : (row : List (ℕ × ℕ)) (k : ℕ) → IsBelow (length (level levels n)) row → k < length (level levels n) → value_in row k ≡ cochain_of (terms_of (level levels n) row) (get_or (level levels n) k [])
  value_at [] k h b = refl
  value_at (e ∷ es) k h b = ap₂ (λ m v. e.1 * m + v) (sym (unit_at e.0 k h.0 b)) (value_at es k h.1 b)

  -- the row of a chain has its values
  pub row_values : (p : ℕ) (chain : Chain) (row : List (ℕ × ℕ)) → IsRowOfChain (level levels n) chain row → HasValues p (level levels n) (cochain_of chain) row
  row_values p chain row r = record {
    inside = r.inside;
    values = λ k b. Congruent_of (value_at row k r.inside b ∙ ap (λ (ts : Chain). cochain_of ts (get_or (level levels n) k [])) r.terms);
  }

  -- and its terms stand on simplices
  pub row_on : (chain : Chain) (row : List (ℕ × ℕ)) → IsRowOfChain (level levels n) chain row → IsOn facets n chain
  row_on chain row r =
      subst (Each (λ (t : ℕ × List ℕ). IsSimplex facets n t.1)) r.terms
      (each_of_map (λ (t : ℕ × List ℕ). IsSimplex facets n t.1) (λ (e : ℕ × ℕ). (e.1, get_or (level levels n) e.0 [])) row
      (each_map (λ e b. each_get_or (IsSimplex facets n) (level levels n) e.0 [] b (index.lists n).sound) row r.inside))

-- ---- one degree less

pub on_below : (facets : List (List ℕ)) (n m : ℕ) (chain : Chain) → m ≡ n + 1 → IsOn facets n chain → IsOnBelow facets m chain
on_below facets n m chain e on = each_map (λ t h. record { degree = n; one_less = e; simplex = h }) chain on

pub below_on : (facets : List (List ℕ)) (n m : ℕ) (chain : Chain) → m ≡ n + 1 → IsOnBelow facets m chain → IsOn facets n chain
below_on facets n m chain e on = each_map (λ (t : ℕ × List ℕ) h. let one = h.one_less in let q : h.degree ≡ n = omega (arith, one, e) in subst (λ (d : ℕ). IsSimplex facets d t.1) q h.simplex) chain on

pub empty : (chain : Chain) → true ≡ (length chain == 0) → chain ≡ []
empty [] h = refl
empty (t ∷ ts) h = elim (eqb_tells (length (t ∷ ts)) 0) [ inl k ↦ absurd (omega (arith, k.1)) | inr k ↦ absurd (let f = h ∙ k.0 in cc) ]

pub not_empty : (chain : Chain) → false ≡ (length chain == 0) → chain ≢ []
not_empty chain h e = elim (eqb_tells (length chain) 0) [ inl k ↦ (let f = h ∙ k.0 in cc) | inr k ↦ k.1 (ap length e) ]

-- no simplex stands past the last level
pub past_levels : (ls : List (List (List ℕ))) (d : ℕ) → length ls ≤ d → level ls d ≡ []
past_levels [] d b = refl
past_levels (l ∷ ls) zero b = absurd (omega (arith, b))
past_levels (l ∷ ls) (suc d) b = past_levels ls d (omega (arith, b))

-- in degree 0 and above the dimension no term stands
pub none_below : (facets : List (List ℕ)) (levels : List (List (List ℕ))) (n : ℕ) (chain : Chain) → IsIndexOf facets levels → (0 < n → length levels < n) → chain ≢ [] → IsOnBelow facets n chain → ⊥
none_below facets levels n [] index h some on = some refl
none_below facets levels n (t ∷ ts) index h some on =
    let one = on.0.one_less in
    let q = (index.lists on.0.degree).whole t.1 on.0.simplex in
    let past : level levels on.0.degree ≡ [] = past_levels levels on.0.degree (let b = h (omega (arith, one)) in omega (arith, b, one)) in
    let none : q.0 < 0 = subst (λ (ss : List (List ℕ)). q.0 < length ss) past q.1 in
    omega (arith, none)

-- the empty chain has coboundary zero
pub zero_row : (p : ℕ) (levels : List (List (List ℕ))) (n : ℕ) (chain : Chain) (row : List (ℕ × ℕ)) → chain ≡ [] → row ≡ [] → IsCoboundaryRow p levels n chain row
zero_row p levels n chain row e f =
    subst (λ (c : Chain). IsCoboundaryRow p levels n c row) (sym e) (subst (IsCoboundaryRow p levels n []) (sym f) (record {
      on = λ facets index. tt;
      values = record { inside = tt; values = λ k b. Congruent_of (sym (coboundary_zero p (get_or (level levels n) k []))) };
    }))

-- the coboundary of the row of one degree less
pub coboundary_row : (p : ℕ) (levels : List (List (List ℕ))) (m n : ℕ) (chain : Chain) (low row : List (ℕ × ℕ)) → n ≡ m + 1 → IsRowOfChain (level levels m) chain low → IsCoboundaryOf p levels m low row → IsCoboundaryRow p levels n chain row
coboundary_row p levels m n chain low row e r c = record {
  on = λ facets index. on_below facets m n chain e (row_on facets levels index m chain low r);
  values = subst (λ (d : ℕ). HasValues p (level levels d) (coboundary p (cochain_of chain)) row) (sym e)
      (subst (λ (ts : Chain). HasValues p (level levels (m + 1)) (coboundary p (cochain_of ts)) row) r.terms (record { inside = c.inside; values = c.values }));
}
