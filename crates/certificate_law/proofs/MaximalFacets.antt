-- The facets that lie in no other have the same simplices as all facets.
use Rattle.std.proofs.{Common.{◌≡◌, ℕ, zero, suc, ◌+◌, ◌<◌, ◌≤◌, ◌⊎◌, inl, inr, refl, sym, ap, ap₂, subst, arith, true, List, [], ◌∷◌, length}, lemmas.Bool.{cases_eq, cases_lt}}
use Rattle.linear_law.{specs.Names.{sum_over, Among, Each, IsAscending}, proofs.Names.{apart_all, each_among, each_map, each_of_index}}
use Rattle.certificate_law.{specs.Types.{ComplexBlock, ComplexPart}, specs.Names.itself, proofs.PivotCounts.ascending_apart, proofs.SameSimplices.{SameSimplices, are_primitives, classes_there, tables_there}}
use Rattle.report_law.specs.Names.{below_in, classes_of, AreMaximalFacets, IsComplexPart, IsMaximal, IsWithin}

among_or_not : (v : ℕ) (f : List ℕ) → Among v f ⊎ (Among v f → ⊥)
among_or_not v [] = inr (λ m. m)
among_or_not v (w ∷ f) = elim (cases_eq w v) [
  | inl e ↦ inl (inl e)
  | inr n ↦ elim (among_or_not v f) [ inl k ↦ inl (inr k) | inr o ↦ inr (λ m. elim m [ inl e ↦ n e | inr k ↦ o k ]) ]
]

within_or_not : (f g : List ℕ) → IsWithin f g ⊎ (IsWithin f g → ⊥)
within_or_not [] g = inl tt
within_or_not (v ∷ f) g = elim (among_or_not v g) [
  | inr o ↦ inr (λ h. o h.0)
  | inl k ↦ elim (within_or_not f g) [ inl h ↦ inl (k, h) | inr o ↦ inr (λ h. o h.1) ]
]

-- ascending lists with the same entries are the same
same_entries : (f g : List ℕ) → IsAscending f → IsAscending g → IsWithin f g → IsWithin g f → f ≡ g
same_entries [] [] a b h k = refl
same_entries [] (w ∷ g) a b h k = absurd k.0
same_entries (v ∷ f) [] a b h k = absurd h.0
same_entries (v ∷ f) (w ∷ g) a b h k =
    let low : w ≤ v = elim h.0 [ inl e ↦ omega (arith, e) | inr m ↦ (let l = each_among (λ (x : ℕ). w < x) v g b.0 m in omega arith) ] in
    let high : v ≤ w = elim k.0 [ inl e ↦ omega (arith, e) | inr m ↦ (let l = each_among (λ (x : ℕ). v < x) w f a.0 m in omega arith) ] in
    let same : v ≡ w = omega (arith, low, high) in
    ap₂ ◌∷◌ same (same_entries f g a.1 b.1 (rest w g f (subst (λ (x : ℕ). Each (λ y. x < y) f) same a.0) h.1) (rest v f g (subst (λ (x : ℕ). Each (λ y. x < y) g) (sym same) b.0) k.1))
  where
    rest : (w : ℕ) (g f : List ℕ) → Each (λ x. w < x) f → IsWithin f (w ∷ g) → IsWithin f g
    rest w g [] l h = tt
    rest w g (x ∷ f) l h = (elim h.0 [ inl e ↦ (let m = l.0 in absurd (omega (arith, e, m))) | inr m ↦ m ], rest w g f l.1 h.1)

within_through : (f g h : List ℕ) → IsWithin f g → IsWithin g h → IsWithin f h
within_through f g h a b = each_map (λ v m. each_among (λ (w : ℕ). Among w h) v g b m) f a

within_itself : (f : List ℕ) → IsWithin f f
within_itself f = each_of_index (λ (v : ℕ). Among v f) f (λ v m. m)

length_within_sum : (f : List ℕ) (fs : List (List ℕ)) → Among f fs → length f ≤ sum_over (λ (g : List ℕ). length g) fs
length_within_sum f [] m = elim m [ ]
length_within_sum f (g ∷ fs) m = elim m [ inl e ↦ (let l : length g ≡ length f = ap (λ (x : List ℕ). length x) e in omega (arith, l)) | inr k ↦ (let h = length_within_sum f fs k in omega (arith, h)) ]

module _ (facets : List (List ℕ)) (ascending : Each IsAscending facets) where
  -- a longer facet around f, or none
  longer : (f : List ℕ) (gs : List (List ℕ)) → ((g : List ℕ) × Among g gs × IsWithin f g × (length f < length g)) ⊎ Each (λ g. IsWithin f g → length g ≤ length f) gs
  longer f [] = inr tt
  longer f (g ∷ gs) = elim (longer f gs) [
    | inl q ↦ inl (q.0, inr q.1, q.2, q.3)
    | inr none ↦ elim (within_or_not f g) [
      | inr o ↦ inr ((λ h. absurd (o h)), none)
      | inl h ↦ elim (cases_lt (length f) (length g)) [
        | inl l ↦ inl (g, inl refl, h, l)
        | inr l ↦ inr ((λ _. l), none)
      ]
    ]
  ]

  -- each facet lies in one that lies in no other
  maximal : (room : ℕ) (f : List ℕ) → Among f facets → sum_over (λ (g : List ℕ). length g) facets < length f + room → (g : List ℕ) × IsMaximal facets g × IsWithin f g
  maximal zero f m l = absurd (let h = length_within_sum f facets m in omega (arith, h, l))
  maximal (suc room) f m l =
      elim (longer f facets) [
        | inl q ↦ (let r = maximal room q.0 q.1 (let k = q.3 in omega (arith, k, l)) in (r.0, r.1, within_through f q.0 r.0 q.2 r.2))
        | inr none ↦ (
          f,
          record {
            given = m;
            alone = λ g k w.
                let short = each_among (λ (g : List ℕ). IsWithin f g → length g ≤ length f) g facets none k w in
                let up = each_among IsAscending f facets ascending m in
                let down = each_among IsAscending g facets ascending k in
                let all : IsWithin g f = each_of_index (λ (v : ℕ). Among v f) g (λ v n. apart_all cases_eq f g (ascending_apart f up) w short v n) in
                same_entries g f down up all w;
          },
          within_itself f,
        )
      ]

  pub same_simplices : (listed : List (List ℕ)) → AreMaximalFacets facets listed → SameSimplices facets listed
  same_simplices listed h = record {
    there = λ n s on.
        let total : ℕ = sum_over (λ (g : List ℕ). length g) facets in
        let q = maximal (suc total) on.facet on.listed (omega arith) in
        record { ascending = on.ascending; size = on.size; facet = q.0; listed = h.all q.0 q.1; within = within_through s on.facet q.0 on.within q.2 };
    back = λ n s on. record { ascending = on.ascending; size = on.size; facet = on.facet; listed = (each_among (IsMaximal facets) on.facet listed h.each on.listed).given; within = on.within };
  }

-- so what is listed of a complex is listed of the one that the listed facets give
pub own_facets : (p : ℕ) (block : ComplexBlock) (c : ComplexPart) → Each IsAscending block.facets → IsComplexPart true true p block c → Each IsAscending c.facets × IsComplexPart true true p (itself c) c
own_facets p block c ascending part =
    let listed = part.facets refl in
    let same = same_simplices block.facets ascending c.facets listed in
    let given : (f : List ℕ) → Among f c.facets → Among f block.facets = λ f m. (each_among (IsMaximal block.facets) f c.facets listed.each m).given in (
      each_of_index IsAscending c.facets (λ f m. each_among IsAscending f block.facets ascending (given f m)),
      record {
        name = refl;
        classes = classes_there same p (classes_of c) part.classes;
        tables = λ t. tables_there same true p (classes_of c) c (part.tables t);
        facets = λ _. record {
          in_order = listed.in_order;
          each = each_of_index (IsMaximal c.facets) c.facets (λ f m. record { given = m; alone = λ g k w. (each_among (IsMaximal block.facets) f c.facets listed.each m).alone g (given g k) w });
          all = λ f m. m.given;
        };
        below = λ t n b. are_primitives same n p (below_in c n) (part.below t n b);
      },
    )
