-- The laws of compositions of surjections, which the impl cites: the terms are surjections, their
-- arity is the sum of the two less 1, and their degrees sum.
use Rattle.std.{proofs.Common.{◌≡◌, ℕ, zero, suc, ◌+◌, ◌-◌, ◌<◌, ◌≤◌, ◌≢◌, ◌⊎◌, Bool, true, false, cond, eqb, List, [], ◌∷◌, ◌++◌, length, map, drop, refl, sym, ap, ◌∙◌, inl, inr, arith, subst, length-append}, specs.Prelude.{ℤ, ◌+ℤ◌, All, nat_lt}, proofs.lemmas.Bool.{cases_eq, eq-eqb, ne_eqb}, proofs.lemmas.Bool.Decides.nat_tests, proofs.lemmas.List.{length-map, length-drop}, proofs.lemmas.List.Elements.{All-cons, All-map, All-nil, All-weaker, All-head, All-tail}}
use Rattle.signed_sum.{specs.Names.{is_degenerate, numbers_from, occurs, kept_terms, signed, value_at}, proofs.Names.{All-kept_terms, occurs-01, occurs-apart, occurs-cons, occurs-later, occurs-more, occurs-range, occurs-self, occurs-tail, range-in, range-out}}
use Rattle.surjection_law.{specs.Names.{caesura_count, arity, IsOnto, IsSurjection, multiplicity, surjection_degree, surjection_boundary}, proofs.Multiplicity.{multiplicity-other, multiplicity-same}, proofs.SurjectionTerms.{arity-le, arity-positive, multiplicity-at_least}, proofs.Caesuras.caesura_law}
use Rattle.surjection.specs.ActionLaws.{InRange, arity-is, in_numbers, in_range, range-append}
use Rattle.table_reduction_law.proofs.Permutations.{map-in}
use Rattle.composition_law.{proofs.Surjections.{grown-high, grown-low, surjection_leibniz}, specs.Surjections.{IsWithinLimits, composition, cut_entries, cut_term, cuts_at, grown, lifted, numbered, piece, spliced, values_of, with_values, IsRising}, proofs.Cuts.{IsCutOf, each_cut, rising-bound}}

-- ---- values

low_or_high : (x k : ℕ) → (x ≤ k) ⊎ (k < x)
low_or_high zero k = inl (omega arith)
low_or_high (suc x) zero = inr (omega arith)
low_or_high (suc x) (suc k) = elim (low_or_high x k) [ inl h ↦ inl (omega (arith, h)) | inr h ↦ inr (omega (arith, h)) ]

same-test : (k s x : ℕ) → eqb k (grown k s x) ≡ eqb k x
same-test k s x = elim (low_or_high x k) [
  | inl h ↦ ap (eqb k) (grown-low k s x h)
  | inr h ↦ ne_eqb k (grown k s x) (λ e. let g = grown-high k s x h in omega (arith, e, g, h)) ∙ sym (ne_eqb k x (λ e. omega (arith, e, h)))
]

pub multiplicity-grown : (k s : ℕ) (u : List ℕ) → multiplicity k (map (grown k s) u) ≡ multiplicity k u
multiplicity-grown k s [] = refl
multiplicity-grown k s (x ∷ u) = λ i. cond (same-test k s x i) (suc (multiplicity-grown k s u i)) (multiplicity-grown k s u i)

range-mapped : (f : ℕ → ℕ) (m n : ℕ) (u : List ℕ) → ((x : ℕ) → 1 ≤ x → x ≤ m → (1 ≤ f x) × (f x ≤ n)) → InRange m u → InRange n (map f u)
range-mapped f m n [] h r = tt
range-mapped f m n (x ∷ u) h r = let w = h x r.0 r.1 in (w.0, w.1, range-mapped f m n u h r.2)

onto-covered : (n : ℕ) (w : List ℕ) → InRange n w → ((x : ℕ) → 1 ≤ x → x ≤ n → occurs x w ≡ 1) → IsOnto n w
onto-covered n w r h = occurs-range 1 n w (λ v o. range-out v 1 n (in_numbers n w r v o)) (λ v a b. h v a (omega (arith, b)))

pub values-numbered : (n : ℕ) (u : List ℕ) → values_of (numbered n u) ≡ u
values-numbered n [] = refl
values-numbered n (x ∷ u) = ap (λ w. x ∷ w) (values-numbered (n + occurs x u) u)

module _ {S : Type 0} where
  pub values-with_values : (f : ℕ → ℕ) (es : List (ℕ × S)) → values_of (with_values f es) ≡ map f (values_of es)
  values-with_values f [] = refl
  values-with_values f (e ∷ es) = ap (λ w. f e.0 ∷ w) (values-with_values f es)

  values-append : (es fs : List (ℕ × S)) → values_of (es ++ fs) ≡ values_of es ++ values_of fs
  values-append [] fs = refl
  values-append (e ∷ es) fs = ap (λ w. e.0 ∷ w) (values-append es fs)

  pub length-values : (es : List (ℕ × S)) → length (values_of es) ≡ length es
  length-values [] = refl
  length-values (e ∷ es) = ap suc (length-values es)

  -- ---- pieces

  length-piece : (g : ℕ) (es : List (ℕ × S)) (s : S) → g < length es → length (piece g es s) ≡ suc g
  length-piece g [] s h = absurd (omega arith)
  length-piece zero (e ∷ es) s h = refl
  length-piece (suc g) (e ∷ es) s h = ap suc (length-piece g es s (omega arith))

  range-piece : (n g : ℕ) (es : List (ℕ × S)) (s : S) → InRange n (values_of es) → InRange n (values_of (piece g es s))
  range-piece n g [] s r = tt
  range-piece n zero (e ∷ es) s r = (r.0, r.1, tt)
  range-piece n (suc g) (e ∷ es) s r = (r.0, r.1, range-piece n g es s r.2)

  range-drop : (n g : ℕ) (es : List (ℕ × S)) → InRange n (values_of es) → InRange n (values_of (drop g es))
  range-drop n zero es r = r
  range-drop n (suc g) [] r = tt
  range-drop n (suc g) (e ∷ es) r = range-drop n g es r.2

  in_piece : (x g : ℕ) (es : List (ℕ × S)) (s : S) → occurs x (values_of es) ≡ 1 → (occurs x (values_of (piece g es s)) ≡ 1) ⊎ (occurs x (values_of (drop g es)) ≡ 1)
  in_piece x g [] s h = absurd (omega (arith, h))
  in_piece x zero (e ∷ es) s h = inr h
  in_piece x (suc g) (e ∷ es) s h = elim (occurs-cons x e.0 (values_of es)) [
    | inl q ↦ inl (ap (λ z. occurs z (e.0 ∷ values_of (piece g es s))) q ∙ occurs-self e.0 (values_of (piece g es s)))
    | inr q ↦ elim (in_piece x g es s (sym q ∙ h)) [ inl i ↦ inl (occurs-tail x e.0 (values_of (piece g es s)) i) | inr d ↦ inr d ]
  ]

  -- ---- spliced entries

  range-spliced : (n k a : ℕ) (rest u : List (ℕ × S)) (p : List ℕ) → InRange n (values_of rest) → InRange n (values_of u) → InRange n (values_of (spliced k a rest u p))
  range-spliced n k a rest [] p r q = tt
  range-spliced n k a rest (e ∷ u) [] r q =
      elim (eqb k e.0) as (λ b. InRange n (values_of (cond b (rest ++ spliced k a rest u []) (e ∷ spliced k a rest u [])))) [
        | true ↦ rw (values-append rest (spliced k a rest u [])) (range-append n (values_of rest) (values_of (spliced k a rest u [])) r (range-spliced n k a rest u [] r q.2))
        | false ↦ (q.0, q.1, range-spliced n k a rest u [] r q.2)
      ]
  range-spliced n k a rest (e ∷ u) (c ∷ p) r q =
      elim (eqb k e.0) as (λ b. InRange n (values_of (cond b (piece (c - a) rest e.1 ++ spliced k c (drop (c - a) rest) u p) (e ∷ spliced k a rest u (c ∷ p))))) [
        | true ↦
            rw (values-append (piece (c - a) rest e.1) (spliced k c (drop (c - a) rest) u p))
            (range-append n (values_of (piece (c - a) rest e.1)) (values_of (spliced k c (drop (c - a) rest) u p)) (range-piece n (c - a) rest e.1 r) (range-spliced n k c (drop (c - a) rest) u p (range-drop n (c - a) rest r) q.2))
        | false ↦ (q.0, q.1, range-spliced n k a rest u (c ∷ p) r q.2)
      ]

  outer-spliced : (x k a : ℕ) (rest u : List (ℕ × S)) (p : List ℕ) → x ≢ k → occurs x (values_of u) ≡ 1 → occurs x (values_of (spliced k a rest u p)) ≡ 1
  outer-spliced x k a rest [] p d h = absurd (omega (arith, h))
  outer-spliced x k a rest (e ∷ u) [] d h = elim (cases_eq k e.0) [
    | inl q ↦
        let o : occurs x (values_of u) ≡ 1 = sym (occurs-apart x e.0 (values_of u) (λ z. d (z ∙ sym q))) ∙ h in
        rw (eq-eqb k e.0 q, values-append rest (spliced k a rest u [])) (occurs-later x (values_of rest) (values_of (spliced k a rest u [])) (outer-spliced x k a rest u [] d o))
    | inr q ↦ rw (ne_eqb k e.0 q) (elim (occurs-cons x e.0 (values_of u)) [
      | inl z ↦ ap (λ y. occurs y (e.0 ∷ values_of (spliced k a rest u []))) z ∙ occurs-self e.0 (values_of (spliced k a rest u []))
      | inr z ↦ occurs-tail x e.0 (values_of (spliced k a rest u [])) (outer-spliced x k a rest u [] d (sym z ∙ h))
    ])
  ]
  outer-spliced x k a rest (e ∷ u) (c ∷ p) d h = elim (cases_eq k e.0) [
    | inl q ↦
        let o : occurs x (values_of u) ≡ 1 = sym (occurs-apart x e.0 (values_of u) (λ z. d (z ∙ sym q))) ∙ h in
        rw (eq-eqb k e.0 q, values-append (piece (c - a) rest e.1) (spliced k c (drop (c - a) rest) u p))
        (occurs-later x (values_of (piece (c - a) rest e.1)) (values_of (spliced k c (drop (c - a) rest) u p)) (outer-spliced x k c (drop (c - a) rest) u p d o))
    | inr q ↦ rw (ne_eqb k e.0 q) (elim (occurs-cons x e.0 (values_of u)) [
      | inl z ↦ ap (λ y. occurs y (e.0 ∷ values_of (spliced k a rest u (c ∷ p)))) z ∙ occurs-self e.0 (values_of (spliced k a rest u (c ∷ p)))
      | inr z ↦ occurs-tail x e.0 (values_of (spliced k a rest u (c ∷ p))) (outer-spliced x k a rest u (c ∷ p) d (sym z ∙ h))
    ])
  ]

  -- without k, nothing is put in
  length-without : (k a : ℕ) (rest u : List (ℕ × S)) → multiplicity k (values_of u) ≡ 0 → length (spliced k a rest u []) ≡ length u
  length-without k a rest [] m = refl
  length-without k a rest (e ∷ u) m = elim (cases_eq k e.0) [
    | inl q ↦ absurd (let z : suc (multiplicity k (values_of u)) ≡ 0 = sym (multiplicity-same k e.0 (values_of u) q) ∙ m in omega (arith, z))
    | inr q ↦ rw (ne_eqb k e.0 q) (ap suc (length-without k a rest u (sym (multiplicity-other k e.0 (values_of u) q) ∙ m)))
  ]

  -- the places of the cut from a on, where `rest` is what goes from a to n
  abbrev IsRest : ℕ → ℕ → List (ℕ × S) → Type 0
  IsRest a n rest = a + length rest ≡ suc n

  rest-drop : (a b n : ℕ) (rest : List (ℕ × S)) → a ≤ b → b ≤ n → IsRest a n rest → IsRest b n (drop (b - a) rest)
  rest-drop a b n rest h l r = omega (arith, length-drop (b - a) rest)

  -- what a splice of k's that come is known by: both lists are put together, and one place is lost
  pub record IsWhole (rest u es : List (ℕ × S)) : Type 0 where
    pub long : length es + 1 ≡ length u + length rest
    pub covers : (x : ℕ) → occurs x (values_of rest) ≡ 1 → occurs x (values_of es) ≡ 1

  whole-other : (rest u es : List (ℕ × S)) (e : ℕ × S) → IsWhole rest u es → IsWhole rest (e ∷ u) (e ∷ es)
  whole-other rest u es e w = record {
    long = let l = w.long in omega arith;
    covers = λ x h. occurs-tail x e.0 (values_of es) (w.covers x h);
  }

  pub whole : (k a n : ℕ) (rest u : List (ℕ × S)) (p : List ℕ) → IsRest a n rest → IsRising a p n → length p + 1 ≡ multiplicity k (values_of u) → IsWhole rest u (spliced k a rest u p)
  whole k a n rest [] p r c m = absurd (omega (arith, m))
  whole k a n rest (e ∷ u) [] r c m = elim (cases_eq k e.0) [
    | inl q ↦
        let z : suc (multiplicity k (values_of u)) ≡ 1 = sym (multiplicity-same k e.0 (values_of u) q) ∙ sym m in
        let l = length-without k a rest u (omega (arith, z)) in
        rw (eq-eqb k e.0 q) (record {
          long = omega (arith, l, length-append rest (spliced k a rest u []));
          covers = λ x h. rw (values-append rest (spliced k a rest u [])) (occurs-more x (values_of rest) (values_of (spliced k a rest u [])) h);
        })
    | inr q ↦
        rw (ne_eqb k e.0 q) (whole-other rest u (spliced k a rest u []) e (whole k a n rest u [] r c (m ∙ multiplicity-other k e.0 (values_of u) q)))
  ]
  whole k a n rest (e ∷ u) (b ∷ p) r c m = elim (cases_eq k e.0) [
    | inl q ↦
        let z : length (b ∷ p) + 1 ≡ suc (multiplicity k (values_of u)) = m ∙ multiplicity-same k e.0 (values_of u) q in
        let h : a ≤ b = c.0 in
        let l : b ≤ n = rising-bound b n p c.1 in
        let w = whole k b n (drop (b - a) rest) u p (rest-drop a b n rest h l r) c.1 (omega (arith, z)) in
        let wl = w.long in
        rw (eq-eqb k e.0 q) (record {
          long = omega (arith, length-append (piece (b - a) rest e.1) (spliced k b (drop (b - a) rest) u p), length-piece (b - a) rest e.1 (omega arith), length-drop (b - a) rest);
          covers = λ x o. rw (values-append (piece (b - a) rest e.1) (spliced k b (drop (b - a) rest) u p)) (elim (in_piece x (b - a) rest e.1 o) [
            | inl i ↦ occurs-more x (values_of (piece (b - a) rest e.1)) (values_of (spliced k b (drop (b - a) rest) u p)) i
            | inr d ↦ occurs-later x (values_of (piece (b - a) rest e.1)) (values_of (spliced k b (drop (b - a) rest) u p)) (w.covers x d)
          ]);
        })
    | inr q ↦
        rw (ne_eqb k e.0 q) (whole-other rest u (spliced k a rest u (b ∷ p)) e (whole k a n rest u (b ∷ p) r c (m ∙ multiplicity-other k e.0 (values_of u) q)))
  ]

-- ---- the term of a cut

-- what is asked of u composed with v at k
pub record AreComposed (k : ℕ) (u v : List ℕ) : Type 0 where
  pub outer : IsSurjection u
  pub inner : IsSurjection v
  pub some : 1 ≤ k
  pub within : k ≤ arity u
  pub limits : IsWithinLimits u v

module _ {S : Type 0} (k : ℕ) (u v : List ℕ) (outer inner : List (ℕ × S)) (c : AreComposed k u v) (eo : values_of outer ≡ map (grown k (arity v)) u) (ei : values_of inner ≡ map (lifted k) v) (cut : List ℕ)
    (r : IsRising 0 cut (length v - 1)) (l : length cut + 1 ≡ multiplicity k u) where
  abbrev n : ℕ
  n = arity u + arity v - 1

  abbrev term : List ℕ
  term = values_of (spliced k 0 inner outer cut)

  put : IsWhole inner outer (spliced k 0 inner outer cut)
  put =
      let li : length inner ≡ length v = sym (length-values inner) ∙ ap length ei ∙ length-map v (lifted k) in
      let s = c.inner.some in
      whole k 0 (length v - 1) inner outer cut (omega (arith, li)) r (l ∙ sym (ap (multiplicity k) eo ∙ multiplicity-grown k (arity v) u))

  pub length-term : length term + 1 ≡ length u + length v
  length-term =
      let w = put in
      let wl = w.long in
      let li : length inner ≡ length v = sym (length-values inner) ∙ ap length ei ∙ length-map v (lifted k) in
      let lo : length outer ≡ length u = sym (length-values outer) ∙ ap length eo ∙ length-map u (grown k (arity v)) in
      omega (arith, length-values (spliced k 0 inner outer cut))

  ranges : InRange n term
  ranges =
      let some = c.some in
      let within = c.within in
      let av = arity-positive v c.inner in
      range-spliced n k 0 inner outer cut
      (subst (λ (w : List ℕ). InRange n w) (sym ei) (range-mapped (lifted k) (arity v) n v (λ y a b. (omega (arith, a), omega (arith, a, b))) (in_range v c.inner)))
      (subst (λ (w : List ℕ). InRange n w) (sym eo)
      (range-mapped (grown k (arity v)) (arity u) n u
      (λ x a b. elim (low_or_high x k) [
        | inl h ↦ let g = grown-low k (arity v) x h in (omega (arith, a, g), omega (arith, b, g))
        | inr h ↦ let g = grown-high k (arity v) x h in (omega (arith, a, g), omega (arith, b, g))
      ]) (in_range u c.outer)))

  from-outer : (x : ℕ) → 1 ≤ x → x ≤ arity u → grown k (arity v) x ≢ k → occurs (grown k (arity v) x) term ≡ 1
  from-outer x a b d =
      let o : occurs x u ≡ 1 = c.outer.onto x ∙ range-in x 1 (arity u) a (omega (arith, b)) in
      outer-spliced (grown k (arity v) x) k 0 inner outer cut d (ap (occurs (grown k (arity v) x)) eo ∙ map-in (grown k (arity v)) x u o)

  from-inner : (y : ℕ) → 1 ≤ y → y ≤ arity v → occurs (lifted k y) term ≡ 1
  from-inner y a b =
      let o : occurs y v ≡ 1 = c.inner.onto y ∙ range-in y 1 (arity v) a (omega (arith, b)) in
      put.covers (lifted k y) (ap (occurs (lifted k y)) ei ∙ map-in (lifted k) y v o)

  covered : (x : ℕ) → 1 ≤ x → x ≤ n → occurs x term ≡ 1
  covered x a b =
      let some = c.some in
      let within = c.within in
      let av = arity-positive v c.inner in
      elim (low_or_high k x) [
        | inr h ↦
            let g = grown-low k (arity v) x (omega (arith, h)) in
            subst (λ (y : ℕ). occurs y term ≡ 1) g (from-outer x a (omega (arith, h, within)) (λ e. omega (arith, e, g, h)))
        | inl h ↦ elim (low_or_high (k + arity v) x) [
          | inl j ↦
              let y : ℕ = x - (arity v - 1) in
              let g : grown k (arity v) (x - (arity v - 1)) ≡ x = grown-high k (arity v) (x - (arity v - 1)) (omega (arith, j, av)) ∙ omega (arith, j, av) in
              subst (λ (y : ℕ). occurs y term ≡ 1) g (from-outer (x - (arity v - 1)) (omega (arith, j, av)) (omega (arith, j, av, b)) (λ e. omega (arith, e, g, j, av)))
          | inr j ↦
              let g : lifted k (x - (k - 1)) ≡ x = omega (arith, h, some) in
              subst (λ (y : ℕ). occurs y term ≡ 1) g (from-inner (x - (k - 1)) (omega (arith, h, some)) (omega (arith, j, some, h)))
        ]
      ]

  onto : IsOnto n term
  onto = onto-covered n term ranges covered

  arity-n : arity term ≡ n
  arity-n = arity-is n term onto (let av = arity-positive v c.inner in let au = arity-positive u c.outer in omega arith)

  pub arity-term : arity term + 1 ≡ arity u + arity v
  arity-term = let e = arity-n in let av = arity-positive v c.inner in omega (arith, e, av)

  pub IsSurjection-term : is_degenerate term ≡ false → IsSurjection term
  IsSurjection-term plain =
      let long = length-term in
      let e = arity-n in
      let su = c.outer.some in
      let sv = c.inner.some in
      let short = c.limits.short in
      let narrow = c.limits.narrow in
      record {
        some = omega (arith, long, su, sv);
        short = omega (arith, long, short);
        narrow = omega (arith, e, narrow);
        onto = subst (λ (m : ℕ). IsOnto m term) (sym e) onto;
        plain = plain;
      }

-- ---- the laws

module _ (k : ℕ) (u v : List ℕ) (c : AreComposed k u v) where
  abbrev outer : List (ℕ × List ℕ)
  outer = with_values (grown k (arity v)) (numbered 0 u)

  abbrev inner : List (ℕ × List ℕ)
  inner = with_values (lifted k) (numbered (caesura_count u) v)

  eo : values_of outer ≡ map (grown k (arity v)) u
  eo = values-with_values (grown k (arity v)) (numbered 0 u) ∙ ap (map (grown k (arity v))) (values-numbered 0 u)

  ei : values_of inner ≡ map (lifted k) v
  ei = values-with_values (lifted k) (numbered (caesura_count u) v) ∙ ap (map (lifted k)) (values-numbered (caesura_count u) v)

  pub occurs-k : 1 ≤ multiplicity k u
  occurs-k = let h = c.within in multiplicity-at_least k u (c.outer.onto k ∙ range-in k 1 (arity u) c.some (omega (arith, h)))

  pub each_term : (P : List ℕ → Type 0) → ((cut : List ℕ) → IsRising 0 cut (length v - 1) → length cut + 1 ≡ multiplicity k u → is_degenerate (values_of (cut_entries k u v cut)) ≡ false → P (values_of (cut_entries k u v cut))) → All (λ t. P t.0) (composition k u v)
  each_term P h =
      let m = occurs-k in
      All-kept_terms is_degenerate P (map (cut_term k u v) (cuts_at k u v))
      (All-map (λ t. is_degenerate t.0 ≡ false → P t.0) (cut_term k u v) (cuts_at k u v)
      (All-weaker (IsCutOf 0 (length v - 1) (multiplicity k u - 1)) (λ p. is_degenerate (cut_term k u v p).0 ≡ false → P (cut_term k u v p).0)
      (λ p q. h p q.0 (let w = q.1 in omega arith)) (cuts_at k u v) (each_cut (multiplicity k u - 1) (length v - 1) 0 (length v - 1) (omega arith))))

  pub surjections : All (λ t. IsSurjection t.0) (composition k u v)
  surjections = each_term IsSurjection (λ cut r l. IsSurjection-term k u v outer inner c eo ei cut r l)

  pub arities : All (λ t. arity t.0 + 1 ≡ arity u + arity v) (composition k u v)
  arities = each_term (λ w. arity w + 1 ≡ arity u + arity v) (λ cut r l d. arity-term k u v outer inner c eo ei cut r l)

  pub degrees : All (λ t. surjection_degree t.0 ≡ surjection_degree u + surjection_degree v) (composition k u v)
  degrees = each_term (λ w. surjection_degree w ≡ surjection_degree u + surjection_degree v)
      (λ cut r l d. let a = arity-term k u v outer inner c eo ei cut r l in let b = length-term k u v outer inner c eo ei cut r l in omega (arith, a, b, arity-le u c.outer, arity-le v c.inner))

are_composed : (k : ℕ) (u v : List ℕ) → IsSurjection u → IsSurjection v → 1 ≤ k → k ≤ arity u → IsWithinLimits u v → AreComposed k u v
are_composed k u v a b c d e = record { outer = a; inner = b; some = c; within = d; limits = e }

pub compose_valid : (k : ℕ) (u v : List ℕ) → IsSurjection u → IsSurjection v → 1 ≤ k → k ≤ arity u → IsWithinLimits u v → All (λ t. IsSurjection t.0) (composition k u v)
compose_valid k u v a b c d e = surjections k u v (are_composed k u v a b c d e)

pub compose_arity : (k : ℕ) (u v : List ℕ) → IsSurjection u → IsSurjection v → 1 ≤ k → k ≤ arity u → IsWithinLimits u v → All (λ t. arity t.0 + 1 ≡ arity u + arity v) (composition k u v)
compose_arity k u v a b c d e = arities k u v (are_composed k u v a b c d e)

pub compose_degree : (k : ℕ) (u v : List ℕ) → IsSurjection u → IsSurjection v → 1 ≤ k → k ≤ arity u → IsWithinLimits u v → All (λ t. surjection_degree t.0 ≡ surjection_degree u + surjection_degree v) (composition k u v)
compose_degree k u v a b c d e = degrees k u v (are_composed k u v a b c d e)

-- ---- the Leibniz rule
pub leibniz : (phi : List ℕ → ℤ) (k : ℕ) (u v : List ℕ) → IsSurjection u → IsSurjection v → 1 ≤ k → k ≤ arity u →
    value_at (λ w. value_at phi (surjection_boundary w)) (composition k u v)
    ≡ value_at (λ x. value_at phi (composition k x v)) (surjection_boundary u) +ℤ signed (surjection_degree u) (value_at (λ y. value_at phi (composition k u y)) (surjection_boundary v))
leibniz phi k u v s t a b =
    surjection_leibniz.boundary k (arity u) (arity v) u v phi a b (arity-positive v t) s.onto t.onto
    ∙ ap (λ d. value_at (λ x. value_at phi (composition k x v)) (surjection_boundary u) +ℤ signed d (value_at (λ y. value_at phi (composition k u y)) (surjection_boundary v))) (sym (caesura_law.degree u s))
