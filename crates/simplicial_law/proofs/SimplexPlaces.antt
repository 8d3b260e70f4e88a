-- Between vectors by places and cochains: leads, pivots and canonical vectors, and simplices at ascending places.
use Rattle.std.proofs.Common.{◌≡◌, ℕ, zero, suc, ◌%◌, ◌<◌, List, [], ◌∷◌, map, length, get_or, arith, sym, subst, ◌∙◌, ap}
use Rattle.std.specs.Cmp.Lexicographic.{nat_list_cmp_total}
use Rattle.linear_law.specs.Names.{Congruent, Each, IsAscending, ListsAll, IsCanonical, IsLead, IsPivot, LeadsAt}
use Rattle.linear_law.proofs.Names.{Congruent_of, Congruent_trans, each_get_or, unit_sum-lead, unit_sum-value}
use Rattle.simplicial_law.specs.Names.{IsInOrder, IsSimplex, Precedes, AgreesOnSimplices, Cochain, unit_cochain, cochain_at}
use Rattle.simplicial_law.proofs.Order.{lists_compare, lists_strict}
use Rattle.simplicial_law.proofs.UnitCochains.{unit_away, unit_here}

module _ (facets : List (List ℕ)) (n p : ℕ) (here : List (List ℕ)) (all_here : ListsAll (IsSimplex facets n) here) where
  pub simplex_at : (x : ℕ) → x < length here → IsSimplex facets n (get_or here x [])
  simplex_at x b = each_get_or (IsSimplex facets n) here x [] b all_here.sound

  pub cochain_at-value : (v : ℕ → ℕ) (x : ℕ) → x < length here → cochain_at here v (get_or here x []) ≡ v x
  cochain_at-value v x b = unit_sum-value unit_cochain unit_here unit_away (IsSimplex facets n) here all_here [] v x b

  -- cochains that agree at each place agree
  pub agree_by_place : (f g : Cochain) → ((x : ℕ) → x < length here → Congruent p (f (get_or here x [])) (g (get_or here x []))) → AgreesOnSimplices facets n p f g
  agree_by_place f g h = record {
    at = λ s on.
        let q = all_here.whole s on in
        let P : List ℕ → Type 0 = λ t. Congruent p (f t) (g t) in
        subst P (q.2 []) (h q.0 q.1);
  }

  module _ (ordered : IsInOrder here) where
    pub lead_up : (v : ℕ → ℕ) (x : ℕ) → LeadsAt p (length here) v x → IsLead p (IsSimplex facets n) Precedes (cochain_at here v) (get_or here x [])
    lead_up v x l =
        unit_sum-lead unit_cochain unit_here unit_away (IsSimplex facets n) here all_here [] Precedes lists_compare lists_strict (λ x y z. nat_list_cmp_total.trans x y z) ordered p v x l.on l.nonzero
        (λ j b. l.least j (let c = l.on in omega arith) b)

    module _ {M : (ℕ → ℕ) → Type 0} {N : Cochain → Type 0} (to : (v : ℕ → ℕ) → M v → N (cochain_at here v)) (from : (f : Cochain) → N f → M (λ x. f (get_or here x []))) where
      pub pivot_up : (x : ℕ) → IsPivot p (λ x. x < length here) (λ a b. a < b) M x → IsPivot p (IsSimplex facets n) Precedes N (get_or here x [])
      pivot_up x h = record { vector = cochain_at here h.vector; member = to h.vector h.member; lead = lead_up h.vector x h.lead }

      pub pivot_down : (s : List ℕ) → IsPivot p (IsSimplex facets n) Precedes N s → (x : ℕ) × (x < length here) × (get_or here x [] ≡ s) × IsPivot p (λ x. x < length here) (λ a b. a < b) M x
      pivot_down s h =
          let q = all_here.whole s h.lead.on in
          let f = h.vector in (
            q.0,
            q.1,
            q.2 [],
            record {
              vector = λ x. f (get_or here x []);
              member = from f h.member;
              lead = record {
                on = q.1;
                nonzero = λ e. h.lead.nonzero (ap (λ (t : List ℕ). f t % p) (sym (q.2 [])) ∙ e);
                least = λ y b less. h.lead.least (get_or here y []) (simplex_at y b) (subst (λ (t : List ℕ). Precedes (get_or here y []) t) (q.2 []) (ordered y q.0 less q.1));
              };
            },
          )

      pub canonical_up : (x : ℕ) (v : ℕ → ℕ) → IsCanonical p (λ x. x < length here) (λ a b. a < b) M x v → IsCanonical p (IsSimplex facets n) Precedes N (get_or here x []) (cochain_at here v)
      canonical_up x v h = record {
        pivot = pivot_up x h.pivot;
        member = to v h.member;
        one = Congruent_trans (Congruent_of (cochain_at-value v x h.pivot.lead.on)) h.one;
        others = λ s q n.
            let d = pivot_down s q in
            let P : List ℕ → Type 0 = λ t. Congruent p (cochain_at here v t) 0 in
            subst P d.2 (Congruent_trans (Congruent_of (cochain_at-value v d.0 d.1)) (h.others d.0 d.3 (λ e. n (sym d.2 ∙ ap (λ i. get_or here i []) e))));
      }

-- ---- lists in order

pub in_order_more : (s : List ℕ) (ss : List (List ℕ)) → Each (Precedes s) ss → IsInOrder ss → IsInOrder (s ∷ ss)
in_order_more s ss h o zero zero b c = absurd (omega arith)
in_order_more s ss h o zero (suc k) b c = each_get_or (Precedes s) ss k [] (omega arith) h
in_order_more s ss h o (suc j) zero b c = absurd (omega arith)
in_order_more s ss h o (suc j) (suc k) b c = o j k (omega arith) (omega arith)

-- the simplices at ascending places are in order
pub ordered_places : {R : Type 0} (here : List (List ℕ)) → IsInOrder here → (place : R → ℕ) (rs : List R) → IsAscending (map place rs) → Each (λ r. place r < length here) rs
    → IsInOrder (map (λ r. get_or here (place r) []) rs)
ordered_places here o place [] a b = λ j k c d. absurd (omega arith)
ordered_places {R} here o place (r ∷ rs) a b =
    in_order_more (get_or here (place r) []) (map (λ s. get_or here (place s) []) rs) (after rs a.0 b.1) (ordered_places here o place rs a.1 b.1)
  where
    after : (ss : List R) → Each (λ w. place r < w) (map place ss) → Each (λ s. place s < length here) ss → Each (Precedes (get_or here (place r) [])) (map (λ s. get_or here (place s) []) ss)
    after [] h c = tt
    after (s ∷ ss) h c = (o (place r) (place s) h.0 c.0, after ss h.1 c.1)
