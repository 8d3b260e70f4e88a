-- Canonical cycles: they are cycles, and they read the coordinates of a class.
use Rattle.std.{proofs.Common.{◌≡◌, ◌≢◌, ℕ, zero, suc, ◌+◌, ◌*◌, ◌-◌, ◌<◌, inl, inr, List, [], ◌∷◌, map, length, get_or, arith, refl, sym, ap, ap₂, subst, ◌∙◌}, specs.List.AllZip, proofs.lemmas.List.length-map}
use native.Mathlib.Nat.{zero-mod}
use Rattle.linear_law.{specs.Names.{Congruent, IsField, negated, sum_over, Among, Each, IsAscending, IsReduced, combination, expansion}, proofs.Names.{Congruent_add, Congruent_from, Congruent_mul, Congruent_of, Congruent_refl, Congruent_scale, Congruent_sym, Congruent_trans, add-negated, each_among, each_get_or, each_itself, each_map, each_of_map, one-nonzero, same_or_not, combination_vanishes, sum_map}}
use Rattle.simplicial_law.{specs.Names.{IsInOrder, IsSimplex, Precedes, AgreesOnSimplices, Chain, Cochain, HasCoordinates, IsCoboundary, coboundary, pairing, unit_cochain, IsCanonicalClass, IsCanonicalCoboundary, IsCoboundaryPivot, canonical_cycle, AreCanonicalClasses, cochain_of, of_degree}, specs.ListedSimplices.simplices, proofs.Names.{listed_simplices_law, lists_compare, lists_strict, unit_away, unit_here}}
use Rattle.report_law.{specs.Names.{IsCycleAt, IsCycle}, proofs.BoundRows.{BoundRows, Row, lead, value}, proofs.CanonicalData.{are_classes, before_rest, bound_expanded, canonical-bounds, class_reduced, class_rows, class_values, classes_zero, rest_in_order, rows}}

-- ---- pairings as sums over the simplices

sum-agrees : {X : Type 0} (p : ℕ) (f g : X → ℕ) (xs : List X) → Each (λ x. Congruent p (f x) (g x)) xs → Congruent p (sum_over f xs) (sum_over g xs)
sum-agrees p f g [] h = Congruent_refl 0
sum-agrees p f g (x ∷ xs) h = Congruent_add h.0 (sum-agrees p f g xs h.1)

sum-away : (t : List ℕ) (f : Cochain) (ss : List (List ℕ)) → Each (λ s. t ≢ s) ss → sum_over (λ x. unit_cochain t x * f x) ss ≡ 0
sum-away t f [] h = refl
sum-away t f (s ∷ ss) h = let u = unit_away t s h.0 in let r = sum-away t f ss h.1 in ap (λ (k : ℕ). k * f s + sum_over (λ x. unit_cochain t x * f x) ss) u ∙ omega (arith, r)

sum-unit : (t : List ℕ) (f : Cochain) (ss : List (List ℕ)) → IsInOrder ss → Among t ss → sum_over (λ x. unit_cochain t x * f x) ss ≡ f t
sum-unit t f [] o m = elim m [ ]
sum-unit t f (s ∷ ss) o m =
    let later = before_rest s ss o in
    elim m [
      | inl e ↦
          let away = sum-away t f ss (each_map (λ r b q. lists_strict r (subst (λ (x : List ℕ). Precedes x r) (e ∙ q) b)) ss later) in
          let one : unit_cochain t s ≡ 1 = ap (unit_cochain t) e ∙ unit_here t in
          let same : f s ≡ f t = ap f e in
          ap (λ (k : ℕ). k * f s + sum_over (λ x. unit_cochain t x * f x) ss) one ∙ omega (arith, away, same)
      | inr n ↦
          let b : Precedes s t = each_among (Precedes s) t ss later n in
          let u : unit_cochain t s ≡ 0 = unit_away t s (λ q. lists_strict t (subst (λ (x : List ℕ). Precedes x t) (sym q) b)) in
          ap (λ (k : ℕ). k * f s + sum_over (λ x. unit_cochain t x * f x) ss) u ∙ (let r = sum-unit t f ss (rest_in_order s ss o) n in omega (arith, r))
    ]

sum-more : (k : ℕ) (t : List ℕ) (g f : Cochain) (ss : List (List ℕ)) → sum_over (λ x. (k * unit_cochain t x + g x) * f x) ss ≡ k * sum_over (λ x. unit_cochain t x * f x) ss + sum_over (λ x. g x * f x) ss
sum-more k t g f [] = omega arith
sum-more k t g f (s ∷ ss) = let h = sum-more k t g f ss in omega (arith, h)

sum-none : (f : Cochain) (ss : List (List ℕ)) → sum_over (λ (x : List ℕ). 0 * f x) ss ≡ 0
sum-none f [] = refl
sum-none f (s ∷ ss) = omega (arith, sum-none f ss)

pairing-sum : (f : Cochain) (c : Chain) (ss : List (List ℕ)) → IsInOrder ss → Each (λ e. Among e.1 ss) c → pairing f c ≡ sum_over (λ x. cochain_of c x * f x) ss
pairing-sum f [] ss o h = sym (sum-none f ss)
pairing-sum f (e ∷ c) ss o h =
    let a = sum-unit e.1 f ss o h.0 in
    let b = pairing-sum f c ss o h.1 in
    let d = sum-more e.0 e.1 (cochain_of c) f ss in
    ap₂ (λ (x y : ℕ). e.0 * x + y) (sym a) b ∙ sym d

-- ---- the coefficients of a combination at the leads

picks : (p : ℕ) (cs : List ℕ) (rs : List Row) (i : ℕ) (d : Row) → length cs ≡ length rs → i < length rs → IsReduced p lead value rs → Congruent p (combination cs (map value rs) (lead (get_or rs i d))) (get_or cs i 0)
picks p [] [] i d l b h = absurd (omega (arith, b))
picks p (c ∷ cs) (r ∷ rs) zero d l b h =
    Congruent_from (Congruent_add (Congruent_scale c h.0) (combination_vanishes p lead value (lead r) cs rs (each_map (λ s k. k.1) rs h.1))) (omega arith)
picks p (c ∷ cs) (r ∷ rs) (suc i) d l b h =
    let b' : i < length rs = omega (arith, b) in
    let z = (each_get_or (λ s. Congruent p (value r (lead s)) 0 × Congruent p (value s (lead r)) 0) rs i d b' h.1).0 in
    Congruent_from (Congruent_add (Congruent_scale c z) (picks p cs rs i d (omega (arith, l)) b' h.2)) (omega arith)
picks p _ _ i d l b h = absurd (omega (arith, l))

leads-table : (bound : List ℕ → Cochain) (ts : List (List ℕ)) → map lead (map (λ t. (t, bound t)) ts) ≡ ts
leads-table bound [] = refl
leads-table bound (t ∷ ts) = ap (λ (us : List (List ℕ)). t ∷ us) (leads-table bound ts)

row-at : (ss : List (List ℕ)) (ts : List Chain) (i : ℕ) → length ss ≡ length ts → i < length ts → value (get_or (class_rows ss ts) i ([], λ s. 0)) ≡ cochain_of (get_or ts i [])
row-at [] [] i l b = absurd (omega (arith, b))
row-at (s ∷ ss) (t ∷ ts) zero l b = refl
row-at (s ∷ ss) (t ∷ ts) (suc i) l b = row-at ss ts i (omega (arith, l)) (omega (arith, b))
row-at _ _ i l b = absurd (omega (arith, l))

module _ (facets : List (List ℕ)) (ascending : Each IsAscending facets) (n p : ℕ) (field : IsField p) (s : List ℕ) (on : IsSimplex facets n s) (terms : Chain) (cycle : IsCycleAt facets n p s terms) where
  abbrev here : List (List ℕ)
  here = of_degree n (simplices facets)

  among_here : (t : List ℕ) → IsSimplex facets n t → Among t here
  among_here t h =
      let q = (listed_simplices_law.of_one_degree facets n ascending).whole t h in
      subst (λ (u : List ℕ). Among u here) (q.2 []) (each_get_or (λ u. Among u here) here q.0 [] q.1 (each_itself here))

  abbrev bounds : List Row
  bounds = map (λ t. (t, cycle.bound t)) cycle.pivots

  canonical : Each (λ r. IsCanonicalCoboundary facets n p r.0 r.1) bounds
  canonical = each_of_map (λ (r : Row). IsCanonicalCoboundary facets n p r.0 r.1) (λ t. (t, cycle.bound t)) cycle.pivots cycle.canonical

  in_order : IsInOrder (map lead bounds)
  in_order = subst (λ (ss : List (List ℕ)). IsInOrder ss) (sym (leads-table cycle.bound cycle.pivots)) cycle.are.in_order

  all : (t : List ℕ) → IsCoboundaryPivot facets n p t → Among t (map lead bounds)
  all t h = subst (λ (ss : List (List ℕ)). Among t ss) (sym (leads-table cycle.bound cycle.pivots)) (cycle.are.all t h)

  abbrev given : BoundRows facets n p
  given = canonical-bounds facets ascending n p field bounds canonical in_order all

  abbrev chain : Chain
  chain = canonical_cycle p cycle.bound cycle.pivots s

  chain_here : Each (λ e. Among e.1 here) chain
  chain_here = (
    among_here s on,
    each_of_map (λ (e : ℕ × List ℕ). Among e.1 here) (λ t. (negated p (cycle.bound t s), t)) cycle.pivots (each_map (λ t q. among_here t q.lead.on) cycle.pivots cycle.are.each),
  )

  -- the printed chain pairs as the canonical cycle does
  pairs-alike : (f : Cochain) → Congruent p (pairing f terms) (pairing f chain)
  pairs-alike f =
      let o = listed_simplices_law.degree_in_order facets n in
      let left = pairing-sum f terms here o (each_map (λ e h. among_here e.1 h) terms cycle.terms_are.simplices) in
      let right = pairing-sum f chain here o chain_here in
      Congruent_trans (Congruent_of left)
      (Congruent_trans
      (sum-agrees p (λ x. cochain_of terms x * f x) (λ x. cochain_of chain x * f x) here
      (each_map (λ x h. Congruent_mul (cycle.same.at x h) (Congruent_refl (f x))) here (listed_simplices_law.of_one_degree facets n ascending).sound))
      (Congruent_of (sym right)))

  -- the value at s of the coboundary with the values of f at the pivots
  abbrev at_pivots : Cochain → ℕ
  at_pivots f = sum_over (λ t. f t * cycle.bound t s) cycle.pivots

  chain-pairing : (f : Cochain) → pairing f chain ≡ f s + (p - 1) * at_pivots f
  chain-pairing f = let h = go cycle.pivots in omega (arith, h)
    where
      go : (ts : List (List ℕ)) → sum_over (λ (e : ℕ × List ℕ). e.0 * f e.1) (map (λ t. (negated p (cycle.bound t s), t)) ts) ≡ (p - 1) * sum_over (λ t. f t * cycle.bound t s) ts
      go [] = omega arith
      go (t ∷ ts) = let k = go ts in omega (arith, k)

  pub cycle-pairing : (f : Cochain) → Congruent p (pairing f terms) (f s + (p - 1) * at_pivots f)
  cycle-pairing f = Congruent_trans (pairs-alike f) (Congruent_of (chain-pairing f))

  -- a coboundary pairs to 0
  bound-zero : (f : Cochain) → IsCoboundary facets n p f → Congruent p (f s + (p - 1) * at_pivots f) 0
  bound-zero f f_in =
      let e = (bound_expanded facets ascending n p field given f f_in).at s on in
      let q : expansion lead value bounds f s ≡ at_pivots f = sum_map (λ (r : Row). f r.0 * r.1 s) (λ t. (t, cycle.bound t)) cycle.pivots in
      Congruent_trans (Congruent_add (Congruent_trans e (Congruent_of q)) (Congruent_refl ((p - 1) * at_pivots f))) (add-negated p (at_pivots f) field.large)

  pub pairs-to-zero : (f : Cochain) → IsCoboundary facets n p f → Congruent p (pairing f terms) 0
  pairs-to-zero f f_in = Congruent_trans (cycle-pairing f) (bound-zero f f_in)

  -- cochains that agree pair alike
  pub pairs-alike-on : (f g : Cochain) → AgreesOnSimplices facets n p f g → Congruent p (pairing f terms) (pairing g terms)
  pairs-alike-on f g h = sum-agrees p (λ (e : ℕ × List ℕ). e.0 * f e.1) (λ (e : ℕ × List ℕ). e.0 * g e.1) terms (each_map (λ e on. Congruent_scale e.0 (h.at e.1 on)) terms cycle.terms_are.simplices)

  pub is_cycle : IsCycle facets n p terms
  is_cycle = record {
    chain = cycle.terms_are;
    closed = λ m t h. pairs-to-zero (coboundary p (unit_cochain t)) (record {
      below = unit_cochain t;
      nothing = unit_away t [] (λ e. let l = h.size in let k = ap length e in omega (arith, l, k));
      same = record { at = λ x k. Congruent_refl (coboundary p (unit_cochain t) x) };
    });
  }

  -- the pairing with a cochain is its coordinate at the class of s
  module _ (classes : List Chain) (are : AreCanonicalClasses facets n p classes) (i : ℕ) (inside : i < length classes) (class : IsCanonicalClass facets n p s (cochain_of (get_or classes i []))) where
    abbrev class_list : List Row
    class_list = rows facets ascending n p field given classes are

    class_count : length class_list ≡ length classes
    class_count =
        sym (length-map class_list value) ∙ ap length (class_values facets ascending n p field given classes are) ∙ length-map classes cochain_of

    abbrev here_row : Row
    here_row = get_or class_list i ([], λ x. 0)

    -- s is the pivot of that class
    same_pivot : lead here_row ≡ s
    same_pivot =
        let k = each_get_or (λ (r : Row). IsCanonicalClass facets n p r.0 r.1) class_list i ([], λ x. 0) (omega (arith, inside, class_count)) (are_classes facets ascending n p field given classes are) in
        let v : value here_row ≡ cochain_of (get_or classes i []) = row-at are.pivots classes i pivot-count inside in
        elim (same_or_not Precedes lists_compare lists_strict s (lead here_row)) [
          | inl e ↦ sym e
          | inr d ↦
              let z = k.canonical.others s class.canonical.pivot d in
              let w : Congruent p (cochain_of (get_or classes i []) s) 0 = subst (λ (c : Cochain). Congruent p (c s) 0) v z in
              absurd (one-nonzero p (cochain_of (get_or classes i []) s) field.large class.canonical.one (w.same ∙ zero-mod p))
        ]
      where
        pivot-count : length are.pivots ≡ length classes
        pivot-count = go are.pivots classes are.canonical
          where
            go : (ss : List (List ℕ)) (ts : List Chain) → AllZip (λ s terms. IsCanonicalClass facets n p s (cochain_of terms)) ss ts → length ss ≡ length ts
            go [] [] h = refl
            go (s ∷ ss) (t ∷ ts) h = let k = go ss ts h.1 in omega (arith, k)
            go _ _ h = absurd h

    pub reads : (d : Cochain) (cs : List ℕ) → HasCoordinates facets n p (map cochain_of classes) d cs → Congruent p (pairing d terms) (get_or cs i 0)
    reads d cs h =
        let zs : List Cochain = map cochain_of classes in
        let comb : Cochain = combination cs zs in
        let g : Cochain = λ x. d x + negated p (comb x) in
        let values = class_values facets ascending n p field given classes are in
        let at_s : Congruent p (comb s) (get_or cs i 0) =
        subst (λ (us : List Cochain). Congruent p (combination cs us s) (get_or cs i 0)) values
        (subst (λ (x : List ℕ). Congruent p (combination cs (map value class_list) x) (get_or cs i 0)) same_pivot
        (picks p cs class_list i ([], λ x. 0) (h.count ∙ length-map classes cochain_of ∙ sym class_count) (omega (arith, inside, class_count)) (class_reduced facets ascending n p field given classes are))) in
        let zero_at : Each (λ t. Congruent p (g t * cycle.bound t s) (d t * cycle.bound t s)) cycle.pivots =
        each_among-all cycle.pivots (λ t m.
        let z = subst (λ (us : List Cochain). Congruent p (combination cs us t) 0) values
        (combination_vanishes p lead value t cs class_list (classes_zero facets ascending n p field given classes are t (subst (λ (ss : List (List ℕ)). Among t ss) (sym (leads-table cycle.bound cycle.pivots)) m))) in
        Congruent_mul (Congruent_from (Congruent_scale (p - 1) z) (omega arith)) (Congruent_refl (cycle.bound t s))) in
        let pivots_alike : Congruent p (at_pivots g) (at_pivots d) = sum-agrees p (λ t. g t * cycle.bound t s) (λ t. d t * cycle.bound t s) cycle.pivots zero_at in
        let none = bound-zero g h.rest in
        Congruent_trans (cycle-pairing d)
        (Congruent_from
        (Congruent_add none (Congruent_add (Congruent_sym (Congruent_scale (p - 1) pivots_alike)) (Congruent_add at_s (Congruent_sym (add-negated p (comb s) field.large)))))
        (omega arith))
      where
        each_among-all : {P : List ℕ → Type 0} (ts : List (List ℕ)) → ((t : List ℕ) → Among t ts → P t) → Each P ts
        each_among-all [] f = tt
        each_among-all (t ∷ ts) f = (f t (inl refl), each_among-all ts (λ u m. f u (inr m)))
