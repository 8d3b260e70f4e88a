-- Least simplices of listed chains: by the rows of their cochains, and by the marks at those before.
use Rattle.std.proofs.{Common.{◌≡◌, ◌↔◌, IsTrue, ℕ, ◌<◌, Bool, true, false, not, MatchBool, Some, inl, inr, arith, refl, sym, ◌∙◌, ap, subst, List, [], ◌∷◌, length, get_or, set, length-set, get_or-set_same, get_or-set_other, mod-eq_of_lt, replicate, ◌+◌, ◌≤◌, MatchOption, is_some, Option, None}, lemmas.Bool.{cases_eq, cases_lt, false≢true}, lemmas.List.{get_or-replicate, length-replicate}}
use Rattle.linear_law.{specs.Names.Congruent, proofs.Names.{Congruent_of, Congruent_sym, Congruent_trans, nonzero_alike, each_among, not_zero}}
use Rattle.simplicial_law.{specs.Names.{Precedes, AgreesOnSimplices, Cochain, Chain, IsCocycle, coboundary, cochain_of}, proofs.Names.{each_of, lists_compare, agree_by_place, simplex_at}}
use Rattle.sparse_rows.{specs.Rows.{IsBelow, IsFirst, IsRow, value_in}, proofs.RowLemmas.{value_in-past, value_in-small}}
use Rattle.complex_index.specs.Names.{IsIndexOf, level}
use Rattle.certificate_law.specs.Names.{HasNewLeast, IsLeastSimplex, IsOn, coboundaries_of}
use Rattle.listed_rows.{specs.ListedChains.{HasValues, IsCoboundaryRowIn, IsRowIn}, proofs.ChainLemmas.stands_before, proofs.ValueLemmas.{past_levels, row_values}}
use Rattle.class_check.specs.{Questions.{AreLeads, IsLeadTaken, IsLeastOfOne, IsAnswerOf, others_of, AreReady, stands_in}, declared.question.Question.TheVariants.{Below, Class}}
use Rattle.report.specs.declared.complex.ComplexPart.{ComplexPart}

-- the least place of a row is one of its places
pub first_inside : (bound : ℕ) (row : List (ℕ × ℕ)) (k : ℕ) → IsBelow bound row → IsFirst row k → k < bound
first_inside bound row k b f = elim (cases_lt k bound) [ inl l ↦ l | inr g ↦ absurd (f.nonzero (value_in-past bound k row b g)) ]

module _ (facets : List (List ℕ)) (levels : List (List (List ℕ))) (index : IsIndexOf facets levels) (n p : ℕ) (large : 1 < p) where
  -- the least place of the row
  pub least_place : (z : Cochain) (row : List (ℕ × ℕ)) (k : ℕ) → HasValues p (level levels n) z row → IsRow p row → IsFirst row k → (k < length (level levels n)) × IsLeastSimplex facets n p z (get_or (level levels n) k [])
  least_place z row k v r f =
      let inside : k < length (level levels n) = first_inside (length (level levels n)) row k v.inside f in (
        inside,
        record {
          on = simplex_at facets n p (level levels n) (index.lists n) k inside;
          nonzero = nonzero_alike p (z (get_or (level levels n) k [])) (value_in row k) (Congruent_sym (v.values k inside))
              (λ e. f.nonzero (sym (mod-eq_of_lt (value_in-small p row k (omega (arith, large)) r)) ∙ e));
          least = λ s is below.
              let q = (index.lists n).whole s is in
              let P : List ℕ → Type 0 = λ t. Precedes t (get_or (level levels n) k []) → Congruent p (z t) 0 in
              subst P (q.2 []) (λ first. Congruent_trans (Congruent_sym (v.values q.0 q.1)) (Congruent_of (f.least q.0 (stands_before (level levels n) q.0 k (index.in_order n) q.1 inside first)))) below;
        },
      )

  -- with an empty row a cochain is zero
  pub zero_on : (z : Cochain) → HasValues p (level levels n) z [] → AgreesOnSimplices facets n p z (λ s. 0)
  zero_on z v = agree_by_place facets n p (level levels n) (index.lists n) z (λ s. 0) (λ x b. Congruent_sym (v.values x b))

  -- a cochain has one least simplex
  pub least_once : (z : Cochain) (s t : List ℕ) → IsLeastSimplex facets n p z s → IsLeastSimplex facets n p z t → s ≡ t
  least_once z s t h k = elim (lists_compare s t) [
    | inl b ↦ absurd (not_zero p (z s) h.nonzero (k.least s h.on b))
    | inr r ↦ elim r [ inl e ↦ e | inr b ↦ absurd (not_zero p (z t) k.nonzero (h.least t k.on b)) ]
  ]

  -- ---- marks

  module _ (zs : List Cochain) (old new : List Bool) (z : Cochain) (leads : AreLeads facets n p (level levels n) zs old) where
    -- a cochain without a least simplex is not as asked
    pub not_new : HasValues p (level levels n) z [] → HasNewLeast facets n p zs z → ⊥
    not_new v h = not_zero p (z h.simplex) h.least.nonzero ((zero_on z v).at h.simplex h.least.on)

    module _ (k : ℕ) (inside : k < length (level levels n)) (least : IsLeastSimplex facets n p z (get_or (level levels n) k [])) where
      -- its least simplex is taken
      pub taken : get_or old k false ≡ true → HasNewLeast facets n p zs z → ⊥
      taken e h =
          let one = (leads.told k inside).0 e in
          each_among (λ (y : Cochain). IsLeastSimplex facets n p y h.simplex → ⊥) one.0 zs h.new one.1
          (subst (IsLeastSimplex facets n p one.0) (least_once z (get_or (level levels n) k []) h.simplex least h.least) one.2)

      -- or it is new, and is marked
      module _ (free : get_or old k false ≡ false) where
        pub new_least : HasNewLeast facets n p zs z
        new_least = record {
          simplex = get_or (level levels n) k [];
          least = least;
          new = each_of (λ (y : Cochain). IsLeastSimplex facets n p y (get_or (level levels n) k []) → ⊥) zs (λ y m l. false≢true (sym free ∙ (leads.told k inside).1 (y, m, l)));
        }

        pub marked : AreLeads facets n p (level levels n) (z ∷ zs) (set old k true)
        marked = record {
          len = length-set old k true ∙ leads.len;
          told = λ j b. elim (cases_eq j k) [
            | inl e ↦ subst Told (sym e) (λ _. (z, inl refl, least), λ _. get_or-set_same old k true false (let l = leads.len in omega (arith, l, inside)))
            | inr d ↦ (
              λ t. let o = (leads.told j b).0 (sym (get_or-set_other old k j true false d) ∙ t) in (o.0, inr o.1, o.2),
              λ o. elim o.1 [
                | inl e ↦ absurd (d ((index.lists n).once j k [] b inside (least_once z (get_or (level levels n) j []) (get_or (level levels n) k []) (subst (λ (y : Cochain). IsLeastSimplex facets n p y (get_or (level levels n) j [])) (sym e) o.2) least)))
                | inr m ↦ get_or-set_other old k j true false d ∙ (leads.told j b).1 (o.0, m, o.2)
              ],
            )
          ];
        }
          where
            Told : ℕ → Type 0
            Told j = IsTrue (get_or (set old k true) j false) ↔ IsLeastOfOne facets n p (z ∷ zs) (get_or (level levels n) j [])

  -- the answer of the marks
  pub least_told : (zs : List Cochain) (old new : List Bool) (told : Bool) (z : Cochain) (row : List (ℕ × ℕ)) → HasValues p (level levels n) z row → AreLeads facets n p (level levels n) zs old → IsLeadTaken p old (Some row) new told
      → MatchBool told (HasNewLeast facets n p zs z × AreLeads facets n p (level levels n) (z ∷ zs) new) (HasNewLeast facets n p zs z → ⊥)
  least_told zs old new told z row v leads h = elim h.1 [
    | inl e ↦ subst (λ (b : Bool). Told b new) (sym e.1) (not_new zs old new z leads (subst (HasValues p (level levels n) z) e.0 v))
    | inr q ↦
        let l = least_place z row q.0 v h.0 q.1 in
        subst (λ (b : Bool). Told b new) (sym q.2) (subst (Told (not (get_or old q.0 false))) (sym q.3) (by_mark q.0 l.0 l.1 (get_or old q.0 false) refl))
  ]
    where
      Told : Bool → List Bool → Type 0
      Told b marks = MatchBool b (HasNewLeast facets n p zs z × AreLeads facets n p (level levels n) (z ∷ zs) marks) (HasNewLeast facets n p zs z → ⊥)

      by_mark : (k : ℕ) (inside : k < length (level levels n)) → IsLeastSimplex facets n p z (get_or (level levels n) k []) → (b : Bool) → get_or old k false ≡ b → Told (not b) (set old k true)
      by_mark k inside least true e = taken zs old new z leads k inside least e
      by_mark k inside least false e = (new_least zs old new z leads k inside least e, marked zs old new z leads k inside least e)

-- no cochain, no mark
pub no_leads : (facets : List (List ℕ)) (n p : ℕ) (ss : List (List ℕ)) (marks : List Bool) (count : ℕ) → marks ≡ replicate count false → count ≡ length ss → AreLeads facets n p ss [] marks
no_leads facets n p ss marks count e l = record {
  len = ap (λ (ms : List Bool). length ms) e ∙ length-replicate count false ∙ l;
  told = λ k b. (λ t. absurd (false≢true (sym (ap (λ (ms : List Bool). get_or ms k false) e ∙ get_or-replicate count k false false (omega (arith, b, l))) ∙ t)), λ o. absurd o.1);
}

-- ---- answers

match_map : (b : Bool) {A B C D : Type 0} → (A → C) → (B → D) → MatchBool b A B → MatchBool b C D
match_map true f g h = f h
match_map false f g h = g h

module _ (p : ℕ) (large : 1 < p) (c : ComplexPart) (levels : List (List (List ℕ))) (index : IsIndexOf c.facets levels) (n : ℕ) (before : List Chain) (chain : Chain) (old new : List Bool) (told : Bool) where
  pub below_answer : (found : Option (List (ℕ × ℕ))) → IsCoboundaryRowIn p levels n chain found → AreLeads c.facets n p (level levels n) (others_of p Below c n before) old → IsLeadTaken p old found new told
      → IsAnswerOf p Below c n (level levels n) before chain new told
  below_answer None h leads t = subst (λ (b : Bool). IsAnswerOf p Below c n (level levels n) before chain new b) (sym t) (λ a. h c.facets index a.on)
  below_answer (Some row) h leads t =
      match_map told (λ (a : _ × _). (record { on = h.on c.facets index; new = a.0 }, a.1)) (λ none a. none a.new)
      (least_told c.facets levels index n p large (coboundaries_of p before) old new told (coboundary p (cochain_of chain)) row h.values leads t)

  pub class_answer : (found : Option (List (ℕ × ℕ))) → IsRowIn levels n chain found → AreReady p Class (stands_in Class c n before chain ∷ []) → AreLeads c.facets n p (level levels n) (others_of p Class c n before) old → IsLeadTaken p old found new told
      → IsAnswerOf p Class c n (level levels n) before chain new told
  class_answer None h ready leads t = absurd (h c.facets index ready.0.1.on)
  class_answer (Some row) h ready leads t =
      least_told c.facets levels index n p large (others_of p Class c n before) old new told (cochain_of chain) row (row_values c.facets levels index n p chain row h) leads t

-- ---- cocycles

-- above the dimension each cochain is a cocycle
pub closed_past : (facets : List (List ℕ)) (levels : List (List (List ℕ))) (n p : ℕ) (chain : Chain) → IsIndexOf facets levels → length levels ≤ n → IsCocycle facets n p (cochain_of chain)
closed_past facets levels n p chain index b = record {
  at = λ s on.
      let q = (index.lists (n + 1)).whole s on in
      let none : q.0 < 0 = subst (λ (ss : List (List ℕ)). q.0 < length ss) (past_levels levels (n + 1) (omega (arith, b))) q.1 in
      absurd (omega (arith, none));
}

module _ (facets : List (List ℕ)) (levels : List (List (List ℕ))) (index : IsIndexOf facets levels) (n p : ℕ) (large : 1 < p) (chain : Chain) where
  -- a cochain is a cocycle where the row of its coboundary is empty
  pub closed_row : (row : List (ℕ × ℕ)) → HasValues p (level levels (n + 1)) (coboundary p (cochain_of chain)) row → row ≡ [] → IsCocycle facets n p (cochain_of chain)
  closed_row row v e = zero_on facets levels index (n + 1) p large (coboundary p (cochain_of chain)) (subst (HasValues p (level levels (n + 1)) (coboundary p (cochain_of chain))) e v)

  -- and else none
  pub open_row : (row : List (ℕ × ℕ)) (k : ℕ) → HasValues p (level levels (n + 1)) (coboundary p (cochain_of chain)) row → IsRow p row → IsFirst row k → IsCocycle facets n p (cochain_of chain) → ⊥
  open_row row k v r f closed =
      let l = (least_place facets levels index (n + 1) p large (coboundary p (cochain_of chain)) row k v r f).1 in
      not_zero p (coboundary p (cochain_of chain) (get_or (level levels (n + 1)) k [])) l.nonzero (closed.at (get_or (level levels (n + 1)) k []) l.on)

  pub cocycle_told : (row : List (ℕ × ℕ)) (lead : Option ℕ) (closed : Bool) → IsOn facets n chain → HasValues p (level levels (n + 1)) (coboundary p (cochain_of chain)) row → IsRow p row
      → MatchOption lead (row ≡ []) (IsFirst row) → is_some lead ≡ not closed → MatchBool closed (IsOn facets n chain × IsCocycle facets n p (cochain_of chain)) (IsOn facets n chain → IsCocycle facets n p (cochain_of chain) → ⊥)
  cocycle_told row None true on v r h e = (on, closed_row row v h)
  cocycle_told row None false on v r h e = absurd cc
  cocycle_told row (Some k) true on v r h e = absurd cc
  cocycle_told row (Some k) false on v r h e = λ _ closed. open_row row k v r h closed
