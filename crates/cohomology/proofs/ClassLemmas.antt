-- One degree: the columns of the table of cycles are dual to the canonical relative classes.
use Rattle.std.proofs.Common.{Option, None, Some, ◌≡◌, ℕ, zero, suc, ◌<◌, ◌^◌, List, [], ◌∷◌, map, length, get_or, arith, sym, ap, subst, ◌∙◌, inl, inr, ◌⊎◌, slice_get}
use Rattle.cohomology.{proofs.Below.{AllZip, cases_eq, get_or_default, get_or_from_slice_get, slice_get_within, zero-mod, Congruent, IsField, Among, Each, unit_vector, paired, IsPivot, IsSubspace, LeadsAt, Congruent_add, Congruent_from, Congruent_mul, Congruent_of, Congruent_refl, Congruent_sym, Congruent_trans, cycle_bound, cycle_value, each_among, each_from_index, each_get_or, each_map, length_alike, one-nonzero, unit_one, unit_other, found, Cochain, unit_cochain, cochain_at, lead_up, unit_away, unit_here, level, PlacedCochain, StoredFits, stored_place, AreTriangular, stored_row, Stored, some_or_none, stored_lead, some_none, AreCycles, AreFree, column, bound_down, bounds_by_place, relative_close, IsRelativeCoboundary, IsCanonicalRelativeClass, IsRelativeCoboundaryPivot, IsRelativeCocyclePivot}, specs.Names.{IsPairIndex, IsPairIndexOf, AreRelativeIn, IsPlaced, IsReachedIn, cochain_in, AreDualClasses, IsDualTable, IsLeadOf, at_places}, proofs.RowLemmas.{canonical_at, differ, pivot_of_class, some_at}}

module _ (facets parts : List (List ℕ)) (ls sls : List (List (List ℕ))) (is : IsPairIndexOf facets parts ls sls) (p : ℕ) (field : IsField p) (n : ℕ) where
  -- relative coboundaries by places
  abbrev Bounds : (ℕ → ℕ) → Type 0
  Bounds v = IsRelativeCoboundary facets parts n p (cochain_at (level ls n) v)

  bounds_here : IsSubspace p (λ y. y < length (level ls n)) Bounds
  bounds_here = bounds_by_place facets parts n p field.large is.inside (level ls n) (is.full_index.lists n)

  bound_pivot : (v : ℕ → ℕ) → Bounds v → (t : ℕ) → LeadsAt p (length (level ls n)) v t → IsRelativeCoboundaryPivot facets parts n p (get_or (level ls n) t [])
  bound_pivot v h t l = record { vector = cochain_at (level ls n) v; member = h; lead = lead_up facets n p (level ls n) (is.full_index.lists n) (is.full_index.in_order n) v t l }

  lead_among : (cs : List (PlacedCochain p)) (places : List ℕ) → AllZip (λ (c : PlacedCochain p) k. IsLeadOf c.row k) cs places → (i : ℕ) (c : PlacedCochain p) → slice_get cs i ≡ Some c → IsLeadOf c.row (get_or places i 0)
  lead_among cs places l i c e = go cs places l i (slice_get_within cs i c e) (get_or_from_slice_get cs i c c e)
    where
      go : (ds : List (PlacedCochain p)) (ks : List ℕ) → AllZip (λ (c : PlacedCochain p) k. IsLeadOf c.row k) ds ks → (i : ℕ) → i < length ds → get_or ds i c ≡ c → IsLeadOf c.row (get_or ks i 0)
      go [] ks h i b q = absurd (omega arith)
      go (d ∷ ds) [] h i b q = elim h [ ]
      go (d ∷ ds) (k ∷ ks) h zero b q = subst (λ (x : PlacedCochain p). IsLeadOf x.row k) q h.0
      go (d ∷ ds) (k ∷ ks) h (suc i) b q = go ds ks h.1 i (omega arith) q

  module _ (classes : List (PlacedCochain p)) (relative : AreRelativeIn p ls sls n classes) (owner : List (Option ℕ)) (stored : List (Stored p)) (reached : IsReachedIn p ls sls n owner stored)
      (places : List ℕ) (leads : AllZip (λ (c : PlacedCochain p) k. IsLeadOf c.row k) classes places) where
    count : length places ≡ length classes
    count = length_alike (λ (c : PlacedCochain p) k. IsLeadOf c.row k) classes places leads

    pivots : List (List ℕ)
    pivots = (relative.basis facets parts is).canonical.pivots

    class_here : (j : ℕ) (c : PlacedCochain p) → slice_get classes j ≡ Some c
        → (j < length (relative.basis facets parts is).canonical.pivots) × IsCanonicalRelativeClass facets parts n p (get_or (relative.basis facets parts is).canonical.pivots j []) (cochain_in ls n c.row)
    class_here j c e =
        let basis = relative.basis facets parts is in
        canonical_at facets parts ls sls is p field n basis.canonical.pivots classes basis.canonical.canonical j c e

    -- the least place of a class is that of its pivot
    lead_at : (i : ℕ) (c : PlacedCochain p) (s : List ℕ) → slice_get classes i ≡ Some c → IsCanonicalRelativeClass facets parts n p s (cochain_in ls n c.row)
        → (get_or places i 0 < length (level ls n)) × (get_or (level ls n) (get_or places i 0) [] ≡ s)
    lead_at i c s e class =
        let placed : IsPlaced p ls n c = subst (IsPlaced p ls n) (get_or_from_slice_get classes i c c e) (each_get_or (IsPlaced p ls n) classes i c (slice_get_within classes i c e) relative.placed) in
        pivot_of_class facets parts ls sls is p field n c.row (get_or places i 0) s placed.inside placed.row_is (lead_among classes places leads i c e) class

    -- which is no lead of coboundaries
    not_owned : (i : ℕ) → i < length classes → (get_or places i 0 < length (level ls n)) × (get_or owner (get_or places i 0) None ≡ None)
    not_owned i b =
        let c = some_at classes i b in
        let own = class_here i c.0 c.1 in
        let at = lead_at i c.0 (get_or (relative.basis facets parts is).canonical.pivots i []) c.1 own.1 in (
          at.0,
          elim (some_or_none (get_or owner (get_or places i 0) None)) [
            | inl e ↦ e
            | inr some ↦
                let pivot = (reached.table.places facets parts is).sound (get_or places i 0) (λ z. some_none some.0 (sym some.1 ∙ z)) in
                absurd (own.1.no_bound (subst (IsRelativeCoboundaryPivot facets parts n p) at.1 pivot))
          ],
        )

    pub leads_free : AreFree (length (level ls n)) owner places
    leads_free =
        each_from_index (λ s. (s < length (level ls n)) × (get_or owner s None ≡ None)) places
        (λ i d b. subst (λ s. (s < length (level ls n)) × (get_or owner s None ≡ None)) (get_or_default places i 0 d b) (not_owned i (omega (arith, b, count))))

    module _ (table : List (List (ℕ × ℕ))) (cycles : AreCycles p (length (level ls n)) stored places table) where
      members : Each (λ (s : Stored p). Bounds (stored_row s)) stored
      members = reached.bounds.members facets parts is

      stored_leads : Each (λ (s : Stored p). LeadsAt p (length (level ls n)) (stored_row s) (stored_place s)) stored
      stored_leads =
          each_map {P = StoredFits p (length (level ls n))} {Q = λ (s : Stored p). LeadsAt p (length (level ls n)) (stored_row s) (stored_place s)}
          (λ s h. record {
            on = h.inside;
            nonzero = λ z.
                let none : Congruent p (stored_row s s.place) 0 = record { same = z ∙ sym (zero-mod p) } in
                let one : Congruent p 0 1 = Congruent_from (Congruent_add (Congruent_sym h.factor) (Congruent_mul none (Congruent_refl s.factor))) (omega arith) in
                one-nonzero p 0 field.large one (zero-mod p);
            least = λ y on b. h.leads.before y b;
          })
          stored reached.bounds.triangular.fits

      -- the leads are the places of the pivots of the relative coboundaries
      whole : (t : ℕ) → IsPivot p (λ y. y < length (level ls n)) (λ a b. a < b) Bounds t → Among t (map stored_place stored)
      whole t q = elim (some_or_none (get_or owner t None)) [
        | inl none ↦ absurd ((reached.table.places facets parts is).whole t q.lead.on (bound_pivot q.vector q.member t q.lead) none)
        | inr some ↦ let o = reached.bounds.triangular.owns.some t some.0 some.1 in stored_lead stored some.0 t o.0 o.1
      ]

      lead_pivot : (x : ℕ) → Among x (map stored_place stored) → IsRelativeCoboundaryPivot facets parts n p (get_or (level ls n) x [])
      lead_pivot x m =
          elim (found stored_place x stored) [
            | inr none ↦ absurd (none m)
            | inl f ↦
                let lead = each_among (λ (s : Stored p). LeadsAt p (length (level ls n)) (stored_row s) (stored_place s)) f.0 stored stored_leads f.1 in
                subst (λ y. IsRelativeCoboundaryPivot facets parts n p (get_or (level ls n) y [])) f.2
                (bound_pivot (stored_row f.0) (each_among (λ (s : Stored p). Bounds (stored_row s)) f.0 stored members f.1) (stored_place f.0) lead)
          ]

      none_here : (i : ℕ) → i < length classes → (f : Cochain) → IsRelativeCoboundary facets parts n p f → Congruent p (paired (length (level ls n)) (at_places (level ls n) f) (column table i)) 0
      none_here i b f h =
          cycle_bound p (length (level ls n)) field bounds_here stored_place stored_row stored members stored_leads whole (get_or places i 0) (column table i) (cycles.each i (omega (arith, b, count)))
          (at_places (level ls n) f) (bound_down facets parts n p field.large is.inside (level ls n) (is.full_index.lists n) f h)

      dual_here : (i j : ℕ) (c : PlacedCochain p) → i < length classes → slice_get classes j ≡ Some c → Congruent p (paired (length (level ls n)) (at_places (level ls n) (cochain_in ls n c.row)) (column table i)) (unit_vector i j)
      dual_here i j c b e =
          let v = at_places (level ls n) (cochain_in ls n c.row) in
          let d = some_at classes i b in
          let mine = class_here i d.0 d.1 in
          let other = class_here j c e in
          let ss = (relative.basis facets parts is).canonical.pivots in
          let zero_at : (x : ℕ) → Among x (map stored_place stored) → Congruent p (v x) 0 =
          λ x m.
          let q = lead_pivot x m in
          let closed : IsRelativeCocyclePivot facets parts n p (get_or (level ls n) x []) = record { vector = q.vector; member = relative_close facets parts n p field.large is.inside q.vector q.member; lead = q.lead } in
          other.1.canonical.others (get_or (level ls n) x []) closed (λ g. other.1.no_bound (subst (IsRelativeCoboundaryPivot facets parts n p) g q)) in
          Congruent_trans
          (cycle_value p (length (level ls n)) field bounds_here stored_place stored_row stored members stored_leads whole (get_or places i 0) (column table i) (cycles.each i (omega (arith, b, count))) v zero_at)
          (subst (λ (t : List ℕ). Congruent p (cochain_in ls n c.row t) (unit_vector i j)) (sym (lead_at i d.0 (get_or ss i []) d.1 mine.1).1)
          (elim (cases_eq i j) [
            | inl q ↦
                subst (λ m. Congruent p (cochain_in ls n c.row (get_or ss m [])) (unit_vector m j)) (sym q) (Congruent_trans other.1.canonical.one (Congruent_of (sym (unit_one 0 j))))
            | inr m ↦
                Congruent_trans (other.1.canonical.others (get_or ss i []) mine.1.canonical.pivot (differ ss (relative.basis facets parts is).canonical.in_order i j m mine.0 other.0)) (Congruent_of (sym (unit_other i j (λ g. m (sym g)))))
          ]))

      free_here : (i k : ℕ) (c : PlacedCochain p) (s : List ℕ) → slice_get classes i ≡ Some c → IsCanonicalRelativeClass facets parts n p s (cochain_in ls n c.row) → k < length (level ls n)
          → (IsRelativeCoboundaryPivot facets parts n p (get_or (level ls n) k []) → ⊥) → Congruent p (column table i k) (unit_cochain s (get_or (level ls n) k []))
      free_here i k c s e class b away =
          let at = lead_at i c s e class in
          let cycle = cycles.each i (let q = slice_get_within classes i c e in omega (arith, q, count)) in
          elim (cases_eq k (get_or places i 0)) [
            | inl q ↦
                let same : get_or (level ls n) k [] ≡ s = ap (λ x. get_or (level ls n) x []) q ∙ at.1 in
                subst (λ x. Congruent p (column table i x) (unit_cochain s (get_or (level ls n) k []))) (sym q)
                (Congruent_trans cycle.one (Congruent_of (sym (ap (unit_cochain s) same ∙ unit_here s))))
            | inr m ↦
                Congruent_trans (cycle.support k b m (λ a. away (lead_pivot k a)))
                (Congruent_of (sym (unit_away s (get_or (level ls n) k []) (λ g. m ((is.full_index.lists n).once k (get_or places i 0) [] b at.0 (sym (at.1 ∙ g)))))))
          ]

      decide_here : (k : ℕ) → k < length (level ls n) → IsRelativeCoboundaryPivot facets parts n p (get_or (level ls n) k []) ⊎ (IsRelativeCoboundaryPivot facets parts n p (get_or (level ls n) k []) → ⊥)
      decide_here k b =
          elim ((reached.table.places facets parts is).decide k) [
            | inl o ↦ inl ((reached.table.places facets parts is).sound k o)
            | inr o ↦ inr (λ q. o ((reached.table.places facets parts is).whole k b q))
          ]

      pub dual_table : IsDualTable facets parts p n (level ls n) classes table
      dual_table = record { coboundaries = none_here; dual = dual_here; decide = decide_here; free = free_here }

-- ---- as the code uses it

module _ (p : ℕ) (field : IsField p) (ls sls : List (List (List ℕ))) (pair : IsPairIndex ls sls) (n : ℕ) (owner : List (Option ℕ)) (stored : List (Stored p)) (reached : IsReachedIn p ls sls n owner stored)
    (classes : List (PlacedCochain p)) (are : AreRelativeIn p ls sls n classes) (places : List ℕ) (leads : AllZip (λ (c : PlacedCochain p) k. IsLeadOf c.row k) classes places) where
  pub places_free : AreFree (length owner) owner places
  places_free = subst (λ w. AreFree w owner places) (sym reached.table.whole) (leads_free pair.facets pair.parts ls sls pair.index p field n classes are owner stored reached places leads)

  pub triangular_here : AreTriangular p (length owner) stored owner
  triangular_here = subst (λ w. AreTriangular p w stored owner) (sym reached.table.whole) reached.bounds.triangular

  pub few_leads : length places < 2 ^ 32
  few_leads = let e = length_alike (λ (c : PlacedCochain p) k. IsLeadOf c.row k) classes places leads in let b = are.few in omega (arith, e, b)

  pub duals_made : (table : List (List (ℕ × ℕ))) → AreCycles p (length owner) stored places table → AreDualClasses p ls sls n classes table
  duals_made table cycles =
      let here : AreCycles p (length (level ls n)) stored places table = subst (λ w. AreCycles p w stored places table) reached.table.whole cycles in
      record {
        relative = are;
        whole = here.full;
        few = let e = here.full in let b = reached.table.few in omega (arith, e, b);
        cycles = λ facets parts is. dual_table facets parts ls sls is p field n classes are owner stored reached places leads table here;
      }
