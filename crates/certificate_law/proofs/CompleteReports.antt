-- Canonical data certify.
use Rattle.std.proofs.{Common.{◌≡◌, ℕ, zero, suc, ◌+◌, ◌-◌, ◌^◌, ◌<◌, None, true, IsTrue, refl, ◌∙◌, ap, subst, arith, List, [], ◌∷◌, ◌++◌, length, map, get_or, slice_get, Some}, lemmas.List.length-map}
use Rattle.fp_field.{specs.Served.served, proofs.ServedLemmas.served_field}
use Rattle.linear_law.{specs.Names.Each, proofs.Names.{each_append, each_map, length_alike}}
use Rattle.simplicial_law.specs.Names.{Chain, Cochain, cochain_of}
use Rattle.steenrod_law.specs.Names.{pull_back}
use Rattle.certificate_law.{specs.Types.{Sent, Column, ComplexPart, Report, InducedPart, MapPart}, specs.Names.{Certifies, Asks, IsColumnAt, IsMapWhole, IsNewMap, IsRightPullBack, rank_in, sent_by, Stated, behind, complex_stated, finish, induced_column, induced_stated, map_between, map_ends, map_stated, numbered, send_stands, stated}, proofs.Building.{at_both, at_of_each, each_numbered, placed, zip_places}, proofs.Places.at_map, proofs.CompleteComplexes.{IsRight, column_same, columns_right, primitive_on}}
use Rattle.complex_file.specs.Names.{end_fault}
use Rattle.report_law.specs.Names.{IsColumn, listed, induced_degrees, classes_in, classes_of, ranks_of, IsInducedPart, passing_sum, sizes_of}

-- ---- a map

module _ (p : ℕ) (is_served : IsTrue (served p)) (from to : ComplexPart) (m : MapPart) (live : map (λ x. x.q) m.induced ≡ induced_degrees (ranks_of from) (ranks_of to))
    (each : Each (IsInducedPart true (sent_by m) from.facets p (classes_of from) (classes_of to)) m.induced) where
  abbrev IsPulled : ℕ → Cochain → Column → Type 0
  IsPulled q z y = IsColumn true from.facets q p (listed from q) (pull_back (sent_by m) z) y.values y.primitive

  induced_right : (k : ℕ) (x : InducedPart) → slice_get (induced_degrees (ranks_of from) (ranks_of to)) k ≡ Some x.q → IsInducedPart true (sent_by m) from.facets p (classes_of from) (classes_of to) x
      → Each (IsRight p) (induced_stated from to m k x)
  induced_right k x at h =
      let zs : List Chain = classes_in (classes_of to) x.q in
      let right : (j : ℕ) (y : Column) → (j < length zs) × IsPulled x.q (cochain_of (get_or zs j [])) y → IsRight p (induced_column from to m x j y) = λ j y g.
      let e : j ≡ (j + 1) - 1 = omega arith in
      let here : IsPulled x.q (cochain_of (get_or zs ((j + 1) - 1) [])) y = subst (λ (i : ℕ). IsPulled x.q (cochain_of (get_or zs i [])) y) e g.1 in
      let counted : IsColumnAt (rank_in to x.q) (rank_in from x.q) j y = record { inside = g.0; size = g.1.coordinates.count ∙ length-map (classes_in (classes_of from) x.q) cochain_of } in
      let is : IsRightPullBack from to p m x j y = record { on = primitive_on from.facets x.q p _ y.primitive (g.1.rest refl); same = column_same from.facets x.q p (listed from x.q) _ y.values y.primitive (served_field p is_served).large here } in
      (tt, tt, tt, tt, counted, tt, is, tt) in (
        (tt, tt, tt, tt, at, tt, tt, tt),
        columns_right p (induced_column from to m x) (λ y. y.primitive) 0 x.columns
            (at_map (λ j y. (j < length zs) × IsPulled x.q (cochain_of (get_or zs j [])) y) (λ j y. IsRight p (induced_column from to m x j y)) right 0 x.columns (zip_places (IsPulled x.q) cochain_of [] zs x.columns h)),
      )

  pub map_right : (cs : List ComplexPart) (before : List MapPart) → IsNewMap cs before m → Each (IsRight p) (behind (λ ss s. send_stands from to ss s ∷ []) [] m.sends) → end_fault from.facets to.facets m.sends ≡ None → Each (IsRight p) (map_between from to cs before m)
  map_right cs before new sends ends =
      let ss = behind (λ (ss : List Sent) s. send_stands from to ss s ∷ []) [] m.sends in
      let is = numbered (induced_stated from to m) 0 m.induced in
      let es : List Stated = map_ends from to m ∷ [] in
      let whole : IsMapWhole from to m = record {
        induced = let l = ap length live in let k = length-map m.induced (λ (x : InducedPart). x.q) in omega (arith, l, k);
        columns = each_map (λ x (h : IsInducedPart true (sent_by m) from.facets p (classes_of from) (classes_of to) x).
            let l = length_alike (IsPulled x.q) (listed to x.q) x.columns h in
            let r = length-map (classes_in (classes_of to) x.q) cochain_of in
            omega (arith, l, r)) m.induced each;
      } in (
        (new, tt, tt, tt, tt, tt, tt, tt),
        each_append (IsRight p) ss (is ++ es) sends
            (each_append (IsRight p) is es
            (each_numbered (IsRight p) (induced_stated from to m) 0 m.induced
            (at_both (λ k x. slice_get (induced_degrees (ranks_of from) (ranks_of to)) k ≡ Some x.q) (λ k x. IsInducedPart true (sent_by m) from.facets p (classes_of from) (classes_of to) x) (λ k x. Each (IsRight p) (induced_stated from to m k x))
            induced_right 0 m.induced (placed (λ (x : InducedPart). x.q) (induced_degrees (ranks_of from) (ranks_of to)) m.induced live)
            (at_of_each (IsInducedPart true (sent_by m) from.facets p (classes_of from) (classes_of to)) 0 m.induced each)))
            ((ends, tt, tt, tt, whole, tt, tt, tt), tt)),
      )

-- ---- the report

asks : (p : ℕ) (s : Stated) → IsRight p s → (condition : ℕ) → Asks p condition s
asks p s h (suc zero) = h.0
asks p s h (suc (suc zero)) = h.1
asks p s h (suc (suc (suc zero))) = h.2
asks p s h (suc (suc (suc (suc zero)))) = h.3
asks p s h (suc (suc (suc (suc (suc zero))))) = h.4
asks p s h (suc (suc (suc (suc (suc (suc zero)))))) = h.5
asks p s h (suc (suc (suc (suc (suc (suc (suc zero))))))) = h.6
asks p s h (suc (suc (suc (suc (suc (suc (suc (suc zero)))))))) = h.7
asks p s h _ = tt

pub all_right : (r : Report) → Each (IsRight r.prime) (behind complex_stated [] r.complexes) → Each (IsRight r.prime) (behind (map_stated r.complexes) [] r.maps) →
    passing_sum r.prime (10 ^ 12) (map (λ c. sizes_of c.facets c) r.complexes) ≡ None → Certifies r
all_right r complexes maps within =
    let last : Each (IsRight r.prime) (finish r.complexes ∷ []) = ((tt, tt, tt, tt, within, tt, tt, tt), tt) in
    let all : Each (IsRight r.prime) (stated r) = (
      (tt, tt, tt, tt, tt, tt, tt, tt),
      (
        (tt, tt, tt, tt, tt, tt, tt, tt),
        each_append (IsRight r.prime) (behind complex_stated [] r.complexes) (behind (map_stated r.complexes) [] r.maps ++ finish r.complexes ∷ []) complexes
            (each_append (IsRight r.prime) (behind (map_stated r.complexes) [] r.maps) (finish r.complexes ∷ []) maps last),
      ),
    ) in
    record { holds = λ condition. each_map {Q = λ s. Asks r.prime condition s} (λ s (h : IsRight r.prime s). asks r.prime s h condition) (stated r) all }
