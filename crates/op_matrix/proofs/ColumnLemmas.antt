-- From rows by place to columns of a report.
use Rattle.std.{proofs.Common.{◌≡◌, ◌≢◌, ℕ, zero, suc, ◌+◌, ◌-◌, ◌<◌, Bool, true, false, List, [], length, get_or, arith, refl, sym, ap, subst, IsTrue, MatchOption, Some, None}, specs.declared.option.Option.Option, proofs.lemmas.Simd.map-map}
use Rattle.linear_law.proofs.Names.{each_map, each_of_map, Congruent_trans}
use Rattle.simplicial_law.{specs.Names.{IsInOrder, IsSimplex, AgreesOnSimplices, Chain, Cochain as SimplexCochain, IsCanonicalPrimitive, AreTerms, cochain_of, terms_of}, proofs.Names.{ordered_places, simplex_at}}
use Rattle.sparse_rows.specs.Rows.{IsBelow, IsRow}
use Rattle.complex_index.specs.{declared.indexed.Cochain.Cochain, Names.{IsIndexOf, level}}
use Rattle.cohomology.specs.{declared.basis.Column.Column, Names.{cochain_in, IsPrimitiveOf, rest_in, IsColumnOf}}
use Rattle.report_law.specs.Names.{IsPrimitive}
use Rattle.op_matrix.specs.Columns.{IsColumnFor, primitive_terms}

not-both : (b : Bool) → b ≡ false → IsTrue b → ⊥
not-both b e h = cc

module _ (facets : List (List ℕ)) (levels : List (List (List ℕ))) (p : ℕ) (is : IsIndexOf facets levels) where
  pub terms : (n : ℕ) (row : List (ℕ × ℕ)) → IsBelow (length (level levels n)) row → IsRow p row → AreTerms facets n p (terms_of (level levels n) row)
  terms n row b h =
      let here : List (List ℕ) = level levels n in
      record {
        coefficients = each_of_map (λ (t : ℕ × List ℕ). (0 < t.0) × (t.0 < p)) (λ (e : ℕ × ℕ). (e.1, get_or here e.0 [])) row (each_map (λ (e : ℕ × ℕ) (v : (e.1 ≢ 0) × (e.1 < p)). (let u = v.0 in omega (arith, u), v.1)) row h.values);
        simplices = each_of_map (λ (t : ℕ × List ℕ). IsSimplex facets n t.1) (λ (e : ℕ × ℕ). (e.1, get_or here e.0 [])) row (each_map (λ (e : ℕ × ℕ) (d : e.0 < length here). simplex_at facets n p here (is.lists n) e.0 d) row b);
        in_order = subst IsInOrder (sym (map-map (λ (t : ℕ × List ℕ). t.1) (λ (e : ℕ × ℕ). (e.1, get_or here e.0 [])) row)) (ordered_places here (is.in_order n) (λ (e : ℕ × ℕ). e.0) row h.ascends b);
      }

  pub primitive : (n : ℕ) (z : SimplexCochain) (y : Cochain p) → IsPrimitiveOf p levels n z y → IsPrimitive facets n p z (terms_of (level levels (n - 1)) y.row)
  primitive zero z y h = let q = h.zero facets is refl in (q.0, ap (terms_of (level levels (0 - 1))) q.1)
  primitive (suc n) z y h =
      let e : suc n - 1 ≡ n = omega arith in
      let c = h.canonical facets is (omega arith) in
      let P : ℕ → Type 0 = λ m. IsCanonicalPrimitive facets n p z (cochain_of (terms_of (level levels m) y.row)) × AreTerms facets n p (terms_of (level levels m) y.row) in
      let at_n : P n = (
        subst (λ (m : ℕ). IsCanonicalPrimitive facets m p z (cochain_in levels m y.row)) e c,
        terms n y.row (subst (λ (m : ℕ). IsBelow (length (level levels m)) y.row) e h.placed.inside) h.placed.row_is,
      ) in
      subst P (sym e) at_n

  rest-of : (keeps : Bool) (n : ℕ) (z : SimplexCochain) (o : Option (Cochain p)) → MatchOption o (keeps ≡ false) (λ y. (keeps ≡ true) × IsPrimitiveOf p levels n z y)
      → IsTrue keeps → IsPrimitive facets n p z (primitive_terms {p = p} levels n o)
  rest-of keeps n z None h t = absurd (not-both keeps h t)
  rest-of keeps n z (Some y) h t = primitive n z y h.1

  column-here : (keeps : Bool) (classes : List (Cochain p)) (z : Cochain p) (c : Column p) → IsColumnOf p keeps levels classes z c.values.items c.primitive
      → IsColumnFor {p = p} keeps facets levels z.degree classes (cochain_in levels z.degree z.row) c
  column-here keeps classes z c h = record { coordinates = h.coordinates facets is; rest = rest-of keeps z.degree (rest_in levels classes c.values.items z) c.primitive h.primitive_of }

  -- the column of a cochain of degree n
  pub column-for : (keeps : Bool) (classes : ℕ → List (Cochain p)) (n : ℕ) (z : Cochain p) (c : Column p) → z.degree ≡ n → IsColumnOf p keeps levels (classes z.degree) z c.values.items c.primitive
      → IsColumnFor {p = p} keeps facets levels n (classes n) (cochain_in levels n z.row) c
  column-for keeps classes n z c e h = subst (λ (m : ℕ). IsColumnFor {p = p} keeps facets levels m (classes m) (cochain_in levels m z.row) c) e (column-here keeps (classes z.degree) z c h)

-- a primitive of a cochain is one of each that agrees with it
pub primitive-alike : (facets : List (List ℕ)) (p n : ℕ) (z w : SimplexCochain) (ts : Chain) → AgreesOnSimplices facets n p z w → IsPrimitive facets n p w ts → IsPrimitive facets n p z ts
primitive-alike facets p zero z w ts same h = (record { at = λ s on. Congruent_trans (same.at s on) (h.0.at s on) }, h.1)
primitive-alike facets p (suc n) z w ts same h =
    let e : suc n ≡ n + 1 = omega arith in
    let up = subst (λ (k : ℕ). AgreesOnSimplices facets k p z w) e same in
    (record { same = record { at = λ s on. Congruent_trans (up.at s on) (h.0.same.at s on) }; vanishes = h.0.vanishes }, h.1)
