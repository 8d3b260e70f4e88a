-- Boundaries of chains, and the answers of Cartan lines.
use Rattle.std.proofs.{Common.{◌≡◌, ◌≢◌, ℕ, zero, suc, ◌+◌, ◌-◌, ◌*◌, ◌%◌, ◌<◌, ◌==◌, Bool, true, inl, inr, List, [], ◌∷◌, length, get_or, arith, refl, sym, ap, ap₂, subst, ◌∙◌, IsTrue, ◌↔◌, eq-eqb, eqb-true}, lemmas.Bool.cases_eq}
use Rattle.fp_field.specs.Served.{served}
use Rattle.linear_law.{specs.Names.{Congruent, Each}, proofs.Names.{Congruent_of, Congruent_sym, Congruent_trans, each_map}}
use Rattle.simplicial_law.{specs.Names.{IsSimplex, AgreesOnSimplices, Chain, Cochain as SimplexCochain, alternating_chain, boundary, coboundary, faces, pairing, unit_cochain, cochain_of, terms_of}, proofs.Names.{face_simplex, agree_by_place, simplex_at, unit_away}}
use Rattle.steenrod_law.proofs.ClassLaws.{coboundary-vertex}
use Rattle.sparse_rows.specs.Rows.{IsBelow, IsRow, pairing as row_pairing, value_in}
use Rattle.complex_index.specs.{Names.{IsBoundaryOf, IsIndexOf, level}, declared.indexed.Cochain.Cochain}
use Rattle.may_steenrod.{specs.Cochains.cochain_in, proofs.OnLemmas.value_by_place}
use Rattle.certificate_law.{specs.Types.{CartanPart, ComplexPart, Line}, specs.Names.{IsRightNo, IsRightYes}, proofs.CartanVerdicts.pairing_alike}
use Rattle.report_law.{specs.Names.{IsCartanDifference, boundary_coefficient, cartan_op, cartan_pairs, is_defined, IsLineDifference, class_at, classes_in, line_degree, classes_of, line_of}, proofs.Names.{agrees-sym, agrees-trans, difference-once}}
use Rattle.listed_rows.{specs.ListedChains.IsRowOfChain, proofs.ValueLemmas.row_on}
use Rattle.line_difference.specs.Differences.{IsLess}
use Rattle.column_check.{specs.Listings.{IsBoundOf, IsRowOfClass, IsClosedChain, PairsWithCycle}, proofs.ColumnLemmas.class-is, proofs.ListLemmas.tells, proofs.SumLemmas.zero-tells}

-- ---- boundaries

off : (p c : ℕ) (t : List ℕ) (fs : List (List ℕ)) → Each (λ f. f ≢ t) fs → pairing (unit_cochain t) (alternating_chain p c fs) ≡ 0
off p c t [] h = refl
off p c t (f ∷ fs) h = let u = unit_away t f (λ e. h.0 (sym e)) in let r = off p ((p - 1) * c) t fs h.1 in omega (arith, r, ap (λ (v : ℕ). c * v) u)

module _ (p : ℕ) (facets : List (List ℕ)) (levels : List (List (List ℕ))) (is : IsIndexOf facets levels) where
  -- a simplex of another degree is no face
  no-face : (n m : ℕ) (s t : List ℕ) → IsSimplex facets n s → IsSimplex facets m t → n ≢ m + 1 → pairing (unit_cochain t) (boundary p s) ≡ 0
  no-face zero m s t on at other =
      coboundary-vertex p (unit_cochain t) s (let l = on.size in omega (arith, l)) (unit_away t [] (λ e. let l = at.size in let k = ap (λ (u : List ℕ). length u) e in omega (arith, l, k)))
  no-face (suc n) m s t on at other =
      let e : suc n ≡ n + 1 = omega arith in
      off p 1 t (faces s) (each_map (λ f h q. other (let a = h.size in let b = at.size in let k = ap (λ (u : List ℕ). length u) q in omega (arith, a, b, k))) (faces s)
      (face_simplex facets n s (subst (λ (k : ℕ). IsSimplex facets k s) e on)))

  elsewhere : (n m : ℕ) (row : List (ℕ × ℕ)) (t : List ℕ) → IsBelow (length (level levels n)) row → IsSimplex facets m t → n ≢ m + 1 → boundary_coefficient p (terms_of (level levels n) row) t ≡ 0
  elsewhere n m [] t b at other = refl
  elsewhere n m (e ∷ es) t b at other =
      let first = no-face n m (get_or (level levels n) e.0 []) t (simplex_at facets n p (level levels n) (is.lists n) e.0 b.0) at other in
      let rest = elsewhere n m es t b.1 at other in
      omega (arith, rest, ap (λ (v : ℕ). e.1 * v) first)

  -- a chain of degree 0 is closed
  pub closed-points : (n : ℕ) (row : List (ℕ × ℕ)) → n ≡ 0 → IsBelow (length (level levels n)) row → IsClosedChain facets p (terms_of (level levels n) row)
  closed-points n row e b = record { closed = λ m s on. Congruent_of (elsewhere n m row s b on (λ q. omega (arith, e, q))) }

  -- whether the boundary of a chain is zero
  pub closed-tells : (n : ℕ) (row bound : List (ℕ × ℕ)) (answer : Bool) → 0 < n → IsBelow (length (level levels n)) row → IsBoundaryOf p levels n row bound → IsRow p bound → IsTrue answer ↔ (bound ≡ [])
      → (IsTrue answer ↔ IsClosedChain facets p (terms_of (level levels n) row))
  closed-tells n row bound answer positive b h r t =
      let low : List (List ℕ) = level levels (n - 1) in
      let coefficient : SimplexCochain = boundary_coefficient p (terms_of (level levels n) row) in
      let all = λ (f : (k : ℕ) → k < length low → Congruent p (value_in bound k) 0). agree_by_place facets (n - 1) p low (is.lists (n - 1)) coefficient (λ s. 0) (λ k l. Congruent_trans (Congruent_sym (h.values k l)) (f k l)) in
      tells answer
      (λ f. record {
        closed = λ m s on. elim (cases_eq n (m + 1)) [
          | inl e ↦ (let d : m ≡ n - 1 = omega (arith, e) in (all f).at s (subst (λ (k : ℕ). IsSimplex facets k s) d on))
          | inr o ↦ Congruent_of (elsewhere n m row s b on o)
        ];
      })
      (λ f k l. Congruent_trans (h.values k l) (f.closed (n - 1) (get_or low k []) (simplex_at facets (n - 1) p low (is.lists (n - 1)) k l)))
      (zero-tells p (length low) bound answer t r h.inside)

  -- ---- pairings

  pub pairing-rows : (n : ℕ) (row other : List (ℕ × ℕ)) → IsBelow (length (level levels n)) row → pairing (cochain_in levels n other) (terms_of (level levels n) row) ≡ row_pairing row other
  pairing-rows n [] other b = refl
  pairing-rows n (e ∷ es) other b = ap₂ (λ (x y : ℕ). e.1 * x + y) (value_by_place facets n p (level levels n) (is.lists n) other e.0 b.0) (pairing-rows n es other b.1)

  -- a cycle that is told by its row
  pub detected-tells : (n value dot remainder : ℕ) (row other : List (ℕ × ℕ)) (cycle : Chain) (answer : Bool) → IsRowOfChain (level levels n) cycle row → IsClosedChain facets p (terms_of (level levels n) row) → dot ≡ row_pairing row other % p
      → remainder ≡ value % p → answer ≡ (dot == remainder) → (IsTrue answer ↔ PairsWithCycle facets n p (cochain_in levels n other) value cycle)
  detected-tells n value dot remainder row other cycle answer chain closed dot_is remainder_is answer_is =
      let t : (IsTrue answer ↔ (dot ≡ value % p)) = (λ e. eqb-true dot remainder (sym answer_is ∙ e) ∙ remainder_is, λ q. answer_is ∙ eq-eqb dot remainder (q ∙ sym remainder_is)) in
      let same : pairing (cochain_in levels n other) cycle ≡ row_pairing row other = ap (pairing (cochain_in levels n other)) (sym chain.terms) ∙ pairing-rows n row other chain.inside in
      tells answer
      (λ e. record { on = row_on facets levels is n cycle row chain; closed = subst (IsClosedChain facets p) chain.terms closed; pairs = record { same = ap (λ (v : ℕ). v % p) same ∙ sym dot_is ∙ e } })
      (λ h. dot_is ∙ ap (λ (v : ℕ). v % p) (sym same) ∙ h.pairs.same) t

-- ---- the answer of a line

module _ (p : ℕ) (is_served : IsTrue (served p)) (c : ComplexPart) (levels : List (List (List ℕ))) (is : IsIndexOf c.facets levels) (part : CartanPart) (line : Line) (line_is : line ≡ line_of part)
    (defined : is_defined p (part.a + part.b) (cartan_op p part.n) ≡ true) (u v r : Cochain p)
    (first : IsRowOfClass p levels part.a (get_or (classes_in (classes_of c) part.a) (part.i - 1) []) u) (second : IsRowOfClass p levels part.b (get_or (classes_in (classes_of c) part.b) (part.j - 1) []) v)
    (made : IsLess {p = p} levels line u v (cartan_pairs p line.a line.b line.n) r) where
  abbrev n : ℕ
  n = line_degree p (line_of part)

  abbrev d : SimplexCochain
  d = cochain_in levels n r.row

  here : IsLess {p = p} levels (line_of part) u v (cartan_pairs p part.a part.b part.n) r
  here = subst (λ (l : Line). IsLess {p = p} levels l u v (cartan_pairs p l.a l.b l.n) r) line_is made

  is-difference : IsLineDifference c.facets p (classes_of c) (line_of part) d
  is-difference =
      let D : SimplexCochain → SimplexCochain → Type 0 = λ s t. IsCartanDifference c.facets p part.a part.b part.n s t d in
      let rows : D (cochain_in levels part.a u.row) (cochain_in levels part.b v.row) =
      record { whole = here.whole; is_whole = here.is_whole c.facets is; parts = here.parts; are_parts = here.are_parts c.facets is; difference = here.difference c.facets is } in
      subst (λ (t : SimplexCochain). D (class_at (classes_of c) part.a part.i) t) (class-is p c levels part.b part.j v second) (subst (λ (s : SimplexCochain). D s (cochain_in levels part.b v.row)) (class-is p c levels part.a part.i u first) rows)

  alike : (e : SimplexCochain) → AgreesOnSimplices c.facets n p e d → IsLineDifference c.facets p (classes_of c) (line_of part) e
  alike e same = record {
    whole = is-difference.whole;
    is_whole = is-difference.is_whole;
    parts = is-difference.parts;
    are_parts = is-difference.are_parts;
    difference = agrees-trans same is-difference.difference;
  }

  once : (e : SimplexCochain) → IsLineDifference c.facets p (classes_of c) (line_of part) e → AgreesOnSimplices c.facets n p d e
  once e h = difference-once c.facets p is_served part.a part.b part.n (class_at (classes_of c) part.a part.i) (class_at (classes_of c) part.b part.j) d e defined is-difference h

  pub yes-tells : (primitive : Chain) (answer : Bool) → (IsTrue answer ↔ IsBoundOf c.facets r.degree p (cochain_in levels r.degree r.row) primitive) → (IsTrue answer ↔ IsRightYes c p part primitive)
  yes-tells primitive answer t =
      let at_n : (IsTrue answer ↔ IsBoundOf c.facets n p d primitive) = subst (λ (m : ℕ). (IsTrue answer ↔ IsBoundOf c.facets m p (cochain_in levels m r.row) primitive)) here.placed.degree t in
      tells answer (λ e. record { on = e.on; difference = alike (coboundary p (cochain_of primitive)) (agrees-sym e.same) }) (λ h. record { on = h.on; same = once (coboundary p (cochain_of primitive)) h.difference }) at_n

  pub no-tells : (value : ℕ) (cycle : Chain) (answer : Bool) → (IsTrue answer ↔ PairsWithCycle c.facets r.degree p (cochain_in levels r.degree r.row) value cycle) → (IsTrue answer ↔ IsRightNo c p part value cycle)
  no-tells value cycle answer t =
      let at_n : (IsTrue answer ↔ PairsWithCycle c.facets n p d value cycle) = subst (λ (m : ℕ). (IsTrue answer ↔ PairsWithCycle c.facets m p (cochain_in levels m r.row) value cycle)) here.placed.degree t in
      tells answer (λ e. record { on = e.on; closed = e.closed.closed; difference = d; is_difference = is-difference; pairs = e.pairs })
      (λ h. record { on = h.on; closed = record { closed = h.closed }; pairs = Congruent_trans (pairing_alike c.facets n p d h.difference cycle (once h.difference h.is_difference) h.on) h.pairs }) at_n
