-- The walk of one degree of a pair: its canonical classes, and what it tells of the coboundaries one degree up.
use Rattle.std.proofs.Common.{Bool, Option, None, ◌≡◌, ℕ, ◌+◌, ◌<◌, ◌≤◌, ◌^◌, List, [], ◌∷◌, ◌++◌, map, length, get_or, arith, refl, sym, ap, subst, ◌∙◌, inl, inr}
use Rattle.cohomology.{proofs.Below.{each_right, IsVectorRow, length-map, get_or_default, map-append, map-map, IsField, Each, IsAscending, IsImage, kernel_place, copies, each_append, each_from_index, each_get_or, each_map, each_unmap, each_zip, length_alike, not_zero, length-copies, cochain_at, terms_of, IsBelow, IsRow, IsComplexIndex, IsIndexOf, level, IsSolvedStored, stored_row, AreRows, SkipsFit, combined, IsLeadIn, Stored, members, coboundary_up, forget_bound, no_bound_below, IsRelativeCoboundary, IsCanonicalRelativeBasis, IsRelativeCoboundaryPivot, nowhere, some_none}, specs.Names.{AreBlanked, IsPairIndex, IsPairIndexOf, AreRelativeIn, AreStoredBounds, IsPivotTable, IsReachedIn, AreRowsOf}, proofs.DegreeLemmas.{by_place, degree_basis, next_bounds, lead_or_not, marked_or_not, rows_count, skips_fit}}
use Rattle.complex_index.specs.declared.indexed.Cochain.{Cochain}

-- one more cochain of the degree
pub cochain_more : {p : ℕ} (n : ℕ) (xs ys : List (Cochain p)) (rows : List (List (ℕ × ℕ))) (c : Cochain p) → ys ≡ xs ++ (c ∷ []) → c.degree ≡ n
    → map (λ (d : Cochain p). d.row) xs ≡ rows → Each (λ (d : Cochain p). d.degree ≡ n) xs → (map (λ (d : Cochain p). d.row) ys ≡ rows ++ (c.row ∷ [])) × Each (λ (d : Cochain p). d.degree ≡ n) ys
cochain_more {p} n xs ys rows c e d r h = (
  ap (λ (zs : List (Cochain p)). map (λ (d : Cochain p). d.row) zs) e ∙ map-append (λ (d : Cochain p). d.row) xs (c ∷ []) ∙ ap (λ (zs : List (List (ℕ × ℕ))). zs ++ (c.row ∷ [])) r,
  subst (Each (λ (d : Cochain p). d.degree ≡ n)) (sym e) (each_append (λ (d : Cochain p). d.degree ≡ n) xs (c ∷ []) h (d, tt)),
)

-- ascending numbers from low to below count are no more than there are
pub ascending_few : {X : Type 0} (f : X → ℕ) (count low : ℕ) (xs : List X) → Each (λ x. (low ≤ f x) × (f x < count)) xs → IsAscending (map f xs) → low ≤ count → low + length xs ≤ count
ascending_few f count low [] h a b = omega arith
ascending_few {X} f count low (x ∷ xs) h a b =
    let later : Each (λ y. (f x + 1 ≤ f y) × (f y < count)) xs =
    each_zip {P = λ (y : X). (low ≤ f y) × (f y < count)} {Q = λ (y : X). f x < f y} {S = λ (y : X). (f x + 1 ≤ f y) × (f y < count)}
    (λ y c d. (omega arith, c.1)) xs h.1 (each_unmap (λ w. f x < w) f xs a.0) in
    let first : low ≤ f x = h.0.0 in
    let inside : f x < count = h.0.1 in
    let rest = ascending_few f count (f x + 1) xs later a.1 (omega arith) in
    omega (arith, rest)

-- blanked rows are within the same bound
blanked_below : (bound : ℕ) (marks : List Bool) (rows kept : List (List (ℕ × ℕ))) → AreBlanked marks rows kept → Each (IsBelow bound) rows → Each (IsBelow bound) kept
blanked_below bound marks rows kept blank h =
    each_from_index (IsBelow bound) kept
    (λ k d b. subst (IsBelow bound) (get_or_default kept k [] d b)
    (elim (marked_or_not marks k) [
      | inl o ↦ subst (IsBelow bound) (sym (blank.marked k b o)) tt
      | inr o ↦ subst (IsBelow bound) (sym (blank.others k b o)) (each_get_or (IsBelow bound) rows k [] (let w = blank.whole in omega arith) h)
    ]))

-- ---- where the walks start

-- in degree 0 no relative coboundary is not zero
pub no_bounds : (facets parts : List (List ℕ)) (p : ℕ) (s : List ℕ) → IsRelativeCoboundaryPivot facets parts 0 p s → ⊥
no_bounds facets parts p s h = not_zero p (h.vector s) h.lead.nonzero ((no_bound_below facets p h.vector (forget_bound facets parts 0 p h.vector h.member)).at s h.lead.on)

module _ (p : ℕ) (full sub : List (List (List ℕ))) (pivots : List (Option ℕ)) (few : length (level full 0) < 2 ^ 32) (is_none : pivots ≡ copies (length (level full 0)) None) where
  no_lead : (x : ℕ) → IsLeadIn pivots x → ⊥
  no_lead x h = h (ap (λ (ps : List (Option ℕ)). get_or ps x None) is_none ∙ nowhere (length (level full 0)) x)

  pub no_table : IsPivotTable p full sub 0 pivots
  no_table = record {
    few = few;
    whole = ap length is_none ∙ length-copies (length (level full 0)) None;
    places = λ facets parts is. record {
      inside = λ x h. absurd (no_lead x h);
      sound = λ x h. absurd (no_lead x h);
      whole = λ x b h. absurd (no_bounds facets parts p (get_or (level full 0) x []) h);
      decide = lead_or_not pivots;
    };
  }

  pub nothing_reached : (stored : List (Stored p)) → stored ≡ [] → IsReachedIn p full sub 0 pivots stored
  nothing_reached stored e = record {
    table = no_table;
    bounds = subst (λ (ss : List (Stored p)). AreStoredBounds p full sub 0 ss pivots) (sym e) (record {
      triangular = record {
        fits = tt;
        owns = record { full = no_table.whole; some = λ y k q. absurd (no_lead y (λ z. some_none k (sym q ∙ z))); none = λ y b q m. m };
        apart = tt;
        older = record { each = λ k s b. absurd (omega arith) };
      };
      members = λ facets parts is. tt;
    });
  }

-- the index of no simplices
pub no_levels : (ls : List (List (List ℕ))) → IsIndexOf [] ls → ls ≡ []
no_levels [] is = refl
no_levels (l ∷ ls) is = let b = is.inhabited 0 (omega arith) in absurd ((each_get_or _ l 0 [] b (is.lists 0).sound).listed)

pub no_index : IsIndexOf [] []
no_index = record {
  lists = λ n. record { sound = tt; whole = λ s on. elim on.listed [ ]; once = λ i j d a b e. absurd (omega arith) };
  in_order = λ n j k a b. absurd (omega arith);
  inhabited = λ n b. absurd (omega arith);
}

pub pair_with_nothing : (facets : List (List ℕ)) (ls : List (List (List ℕ))) → IsIndexOf facets ls → IsPairIndexOf facets [] ls []
pair_with_nothing facets ls is = record { full_index = is; sub_index = no_index; inside = record { inside = λ n s on. elim on.listed [ ] } }

pub complex_pair : (ls : List (List (List ℕ))) → IsComplexIndex ls → IsPairIndex ls []
complex_pair ls h = record { facets = h.facets; parts = []; index = pair_with_nothing h.facets ls h.index }

pub complex_of : (full sub : List (List (List ℕ))) → IsPairIndex full sub → IsComplexIndex full
complex_of full sub h = record { facets = h.facets; index = h.index.full_index }

-- ---- one degree

module _ (p : ℕ) (field : IsField p) (full sub : List (List (List ℕ))) (pair : IsPairIndex full sub) (n : ℕ) (pivots : List (Option ℕ)) (bounds : IsPivotTable p full sub n pivots)
    (rows : List (List (ℕ × ℕ))) (skip : List Bool) (of : AreRowsOf p full sub n pivots rows skip) where
  count_rows : length rows ≡ length (level full n)
  count_rows = rows_count pair.facets pair.parts full sub pair.index p field n pivots rows skip of

  few_rows : length rows < 2 ^ 32
  few_rows = let e = count_rows in let b = bounds.few in omega arith

  -- the rows may be walked
  pub walked_rows : (width : ℕ) → width ≡ length (level full (n + 1)) → width < 2 ^ 32 → AreRows width rows × SkipsFit p width rows skip
  walked_rows width e small = (
    record {
      few = few_rows;
      narrow = omega (arith, small);
      within = subst (λ w. Each (IsBelow w) rows) (sym e) (blanked_below (length (level full (n + 1))) of.marks of.given rows of.blank of.inside);
    },
    subst (λ w. SkipsFit p w rows skip) (sym e) (skips_fit pair.facets pair.parts full sub pair.index p field n pivots rows skip of bounds.whole (bounds.places pair.facets pair.parts pair.index)),
  )

  module _ (width : ℕ) (e : width ≡ length (level full (n + 1))) (solutions : List (List (ℕ × ℕ))) (owner : List (Option ℕ)) (stored : List (Stored p)) (given : IsSolvedStored p width rows skip solutions owner stored) where
    pub solved_here : IsSolvedStored p (length (level full (n + 1))) rows skip solutions owner stored
    solved_here = subst (λ w. IsSolvedStored p w rows skip solutions owner stored) e given

    pub solved_degree : (classes : List (Cochain p)) → map (λ (c : Cochain p). c.row) classes ≡ solutions → Each (λ (c : Cochain p). c.degree ≡ n) classes → AreRelativeIn p full sub n classes
    solved_degree classes same degrees =
        let solved = solved_here.solved in
        let count = count_rows in
        record {
          placed =
              each_zip {P = λ (c : Cochain p). c.degree ≡ n} {Q = λ (c : Cochain p). IsRow p c.row × IsBelow (length (level full n)) c.row} (λ c d b. record { degree = d; row_is = b.0; inside = b.1 }) classes degrees
              (each_unmap (λ (r : List (ℕ × ℕ)). IsRow p r × IsBelow (length (level full n)) r) (λ (c : Cochain p). c.row) classes
              (subst (Each (λ (r : List (ℕ × ℕ)). IsRow p r × IsBelow (length (level full n)) r)) (sym same)
              (each_right (IsVectorRow p (length rows)) (λ r. IsRow p r × IsBelow (length (level full n)) r) (λ k r v. (v.is_row, subst (λ m. IsBelow m r) count v.below)) solved.kernel solutions solved.vectors)));
          few =
              let kernel = ascending_few kernel_place (length rows) 0 solved.kernel solved.walked.kernel_places solved.walked.kernel_ascends (omega arith) in
              let one = length_alike (IsVectorRow p (length rows)) solved.kernel solutions solved.vectors in
              let two = sym (length-map classes (λ (c : Cochain p). c.row)) ∙ ap (λ (rs : List (List (ℕ × ℕ))). length rs) same in
              let small = few_rows in
              omega (arith, kernel, one, two, small);
          basis = λ facets parts is. subst (IsCanonicalRelativeBasis facets parts n p)
              (ap (λ (rs : List (List (ℕ × ℕ))). map (terms_of (level full n)) rs) (sym same) ∙ map-map (terms_of (level full n)) (λ (c : Cochain p). c.row) classes)
              (degree_basis facets parts full sub is p field n pivots rows skip of bounds.whole (bounds.places facets parts is) solutions owner solved);
        }

    pub solved_next : width < 2 ^ 32 → IsReachedIn p full sub (n + 1) owner stored
    solved_next small = record {
      table = record {
        few = subst (λ w. w < 2 ^ 32) e small;
        whole = solved_here.solved.full;
        places = λ facets parts is. next_bounds facets parts full sub is p field n pivots rows skip of bounds.whole (bounds.places facets parts is) solutions owner solved_here.solved;
      };
      bounds = record {
        triangular = solved_here.triangular;
        members = λ facets parts is.
            each_map {P = λ (s : Stored p). IsImage p (λ y. y < length (level full (n + 1))) (combined rows) (stored_row s)}
            {Q = λ (s : Stored p). IsRelativeCoboundary facets parts (n + 1) p (cochain_at (level full (n + 1)) (stored_row s))}
            (λ s h. coboundary_up facets parts n p is.inside (level full n) (is.full_index.lists n) (level full (n + 1)) (is.full_index.lists (n + 1)) (combined rows)
            (by_place facets parts full sub is p field n pivots rows skip of) (stored_row s) h)
            stored (members p (length (level full (n + 1))) rows skip solutions owner stored solved_here);
      };
    }
