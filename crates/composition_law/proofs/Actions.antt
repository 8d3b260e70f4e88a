-- The value of a composition of surjections on cochains.
use Rattle.std.proofs.{Common.{◌≡◌, ℕ, zero, suc, ◌+◌, ◌-◌, ◌*◌, ◌<◌, ◌≤◌, ◌⊎◌, inl, inr, Bool, true, false, cond, List, [], ◌∷◌, ◌++◌, length, map, refl, sym, ◌∙◌, ap, arith, ℤ, pos, ◌*ℤ◌, sum}, lemmas.Bool.cases_lt, lemmas.List.map-append}
use Rattle.interval_cut_law.{proofs.BoundaryLaws.{degeneracy_law, product_normalized}, proofs.WalkSums.walk_sum-signed, proofs.Walks.{gaps_below, walk_exponent, walk_faces, walk_sum, walk_term}, specs.Names.{AreNormalized, operation_value, value_product}}
use Rattle.linear_law.specs.Names.{Each}
use Rattle.signed_sum.{proofs.Names.{mul_assoc, mul_comm, signed-mul, length-numbers_from, numbers_from-append, less-yes}, specs.Names.{if_zero, is_degenerate, numbers_from, occurs, signed, normalized, value_at}}
use Rattle.simplicial_law.specs.Names.{HaveDegrees}
use Rattle.composition_law.{specs.Surjections.{composition, grown, lifted}, proofs.CutByCut.{left-steps, walk_of}, proofs.CutValues.{cells_as, faces-agree, occurs-as, product-split, terms-as, walk_sum-as}, proofs.Degrees.degrees-sign, proofs.OntoTerms.{IsPositive, no-zero, occurs-from, walks-positive}, proofs.Renaming.{Back, caesuras-map, occurs-renamed}, proofs.States.AllKind, proofs.StepSigns.{IsStep, step-sign, triple-cong}, proofs.Steps.{Gap, Step, cut_of, inner_of, named, outer_as, triple, zero_face}, proofs.Surjections.{composition-walks, grown-high, grown-low, inner-of, k-occurs, kind, kind-high, kind-in, kind-low, lifted_back, renamed, renamed-k, renamed-other, renamed_back, there_back, values-of, within, zero-occurs}, proofs.Walks.{Cell, expo, values}, specs.Laws.SurjectionAction, proofs.ActionLemmas.{IsOuter, cut-walk, grown-mono, grown-numbers-high, grown-numbers-low, less-same, lifted-mono, lifted-numbers, right-any, some-entry, triple-signed, walk_sum-outer, walk_sum-scale}}
use Rattle.surjection_law.specs.Names.{caesura_count, IsOnto}

module _ (u v s qs : List ℕ) (ls bs cs : List (List ℕ → ℤ)) (normal : AreNormalized (ls ++ (bs ++ cs))) (dq : HaveDegrees qs ls) (sb : 1 ≤ length bs) (ss : 1 ≤ length s)
    (ou : IsOnto (length ls + suc (length cs)) u) (ov : IsOnto (length bs) v) where
  abbrev p : ℕ
  p = length ls

  abbrev m : ℕ
  m = length bs

  abbrev q : ℕ
  q = length cs

  abbrev k : ℕ
  k = suc p

  abbrev r : ℕ
  r = p + suc q

  abbrev all : ℕ
  all = p + (m + q)

  k1 : 1 ≤ k
  k1 = omega arith

  kr : k ≤ r
  kr = omega arith

  abbrev K : ℕ → ℕ
  K = kind k m

  abbrev U : List ℕ
  U = map (renamed k m) u

  abbrev V : List ℕ
  V = map (lifted k) v

  back_u : Back (renamed k m) (renamed_back k m) u
  back_u = (values-of k r m k1 kr sb u (within k r m k1 kr sb r u ou)).1

  kinds_u : AllKind K 1 U
  kinds_u = (values-of k r m k1 kr sb u (within k r m k1 kr sb r u ou)).2

  back_v : Back (lifted k) (lifted_back k) v
  back_v = (inner-of k r m k1 kr sb v (within k r m k1 kr sb m v ov)).0

  kinds_v : AllKind K 0 V
  kinds_v = (inner-of k r m k1 kr sb v (within k r m k1 kr sb m v ov)).1

  zero-there : occurs 0 U ≡ 1
  zero-there = zero-occurs k r m k1 kr sb u ou

  kind_zero : K 0 ≡ 1
  kind_zero = kind-low k r m k1 kr sb 0 (omega arith)

  apart : (x : ℕ) → K x ≡ 1 → (x < k) ⊎ (k + m ≤ x)
  apart x h = elim (cases_lt x k) [
    | inl l ↦ inl l
    | inr l ↦ elim (cases_lt x (k + m)) [ inl n ↦ absurd (let z = kind-in k r m k1 kr sb x l n in omega (arith, z, h)) | inr n ↦ inr n ]
  ]

  inside : (y : ℕ) → K y ≡ 0 → (k ≤ y) × (y < k + m)
  inside y h = elim (cases_lt y k) [
    | inl l ↦ absurd (let z = kind-low k r m k1 kr sb y l in omega (arith, z, h))
    | inr l ↦ elim (cases_lt y (k + m)) [ inl n ↦ (l, n) | inr n ↦ absurd (let z = kind-high k r m k1 kr sb y n in omega (arith, z, h)) ]
  ]

  not-k : (x : ℕ) → K x ≡ 1 → x ≡ k → ⊥
  not-k x h e = elim (apart x h) [ inl l ↦ omega (arith, l, e) | inr l ↦ omega (arith, l, e, sb) ]

  abbrev unz : ℕ → ℕ
  unz = named k

  -- the values of the entries of the terms
  onto-low : (x : ℕ) → suc x < k → occurs (suc x) U ≡ occurs (suc x) (numbers_from 1 all)
  onto-low x l =
      let e : renamed k m (suc x) ≡ suc x = renamed-other k m (suc x) (λ z. omega (arith, z, l)) ∙ grown-low k m (suc x) (omega (arith, l)) in
      ap (λ z. occurs z U) (sym e) ∙ occurs-renamed (renamed k m) (renamed_back k m) (suc x) u (there_back k r m k1 kr sb (suc x) (omega arith)) back_u
      ∙ ou (suc x) ∙ occurs-from (suc x) 1 r (omega arith) ∙ less-yes (suc x) (1 + r) (omega (arith, l)) ∙ sym (occurs-from (suc x) 1 all (omega arith) ∙ less-yes (suc x) (1 + all) (omega (arith, l)))

  onto-inside : (x : ℕ) → k ≤ suc x → suc x < k + m → occurs (suc x) V ≡ occurs (suc x) (numbers_from 1 all)
  onto-inside x l n =
      let y : ℕ = suc x - (k - 1) in
      let e : lifted k (suc x - (k - 1)) ≡ suc x = omega (arith, l) in
      ap (λ z. occurs z V) (sym e) ∙ occurs-as (lifted k) (lifted-mono k) (suc x - (k - 1)) v
      ∙ ov (suc x - (k - 1)) ∙ occurs-from (suc x - (k - 1)) 1 m (omega (arith, l)) ∙ less-yes (suc x - (k - 1)) (1 + m) (omega (arith, l, n))
      ∙ sym (occurs-from (suc x) 1 all (omega arith) ∙ less-yes (suc x) (1 + all) (omega (arith, n)))

  onto-high : (x : ℕ) → k + m ≤ suc x → occurs (suc x) U ≡ occurs (suc x) (numbers_from 1 all)
  onto-high x l =
      let e : renamed k m (suc x - (m - 1)) ≡ suc x = renamed-other k m (suc x - (m - 1)) (λ z. omega (arith, z, l, sb)) ∙ grown-high k m (suc x - (m - 1)) (omega (arith, l, sb)) ∙ omega (arith, l, sb) in
      ap (λ z. occurs z U) (sym e) ∙ occurs-renamed (renamed k m) (renamed_back k m) (suc x - (m - 1)) u (there_back k r m k1 kr sb (suc x - (m - 1)) (omega (arith, l, sb))) back_u
      ∙ ou (suc x - (m - 1)) ∙ occurs-from (suc x - (m - 1)) 1 r (omega (arith, l, sb))
      ∙ less-same (suc x) (1 + all) (suc x - (m - 1)) (1 + r) (λ h. omega (arith, h, l, sb)) (λ h. omega (arith, h, l, sb))
      ∙ sym (occurs-from (suc x) 1 all (omega arith))

  terms-onto : (c : List Cell) → IsPositive K U V c → IsOnto all (values c)
  terms-onto c w zero = w.positive ∙ sym (no-zero 1 all (omega arith))
  terms-onto c w (suc x) = elim (cases_lt (suc x) k) [
    | inl l ↦ w.walk.outs x (kind-low k r m k1 kr sb (suc x) l) ∙ onto-low x l
    | inr l ↦ elim (cases_lt (suc x) (k + m)) [
      | inl n ↦ w.walk.ins (suc x) (kind-in k r m k1 kr sb (suc x) l n) ∙ ap (λ j. if_zero j 0 (occurs (suc x) V)) zero-there ∙ onto-inside x l n
      | inr n ↦ w.walk.outs x (kind-high k r m k1 kr sb (suc x) n) ∙ onto-high x n
    ]
  ]

  -- the product of all values, and the value of a term
  abbrev product : List (List ℕ) → ℤ
  product fs = value_product (ls ++ (bs ++ cs)) fs

  abbrev value : List ℕ → ℤ
  value w = operation_value all w (ls ++ (bs ++ cs)) s

  value-walks : (c : List Cell) → IsPositive K U V c → normalized value (values c) ≡ walk_sum (values c) s (walk_term product (numbers_from 1 all))
  value-walks c w = go (is_degenerate (values c)) refl
    where
      o : IsOnto all (values c)
      o = terms-onto c w

      long : 1 ≤ length (values c)
      long = some-entry 1 (values c) (o 1 ∙ occurs-from 1 1 all (omega arith) ∙ less-yes 1 (1 + all) (omega (arith, sb)))

      same : value (values c) ≡ walk_sum (values c) s (walk_term product (numbers_from 1 all))
      same = cut-walk product all (values c) s long ss

      go : (b : Bool) → is_degenerate (values c) ≡ b → cond b (pos 0) (value (values c)) ≡ walk_sum (values c) s (walk_term product (numbers_from 1 all))
      go true d = sym (degeneracy_law.surjections product all (values c) s (product_normalized (ls ++ (bs ++ cs)) normal) o ss d) ∙ same
      go false d = same

  left-side : value_at value (composition k u v) ≡ triple U V s (λ t. signed (expo (walk_of t)) (walk_term product (numbers_from 1 all) (cut_of t)))
  left-side =
      composition-walks k r m k1 kr sb u v value ou ov
      ∙ walks-positive K kind_zero U V (λ c. signed (expo c) (normalized value (values c))) (λ c. walk_sum (values c) s (λ g. signed (expo c) (walk_term product (numbers_from 1 all) g))) kinds_u kinds_v
      (λ c w. ap (signed (expo c)) (value-walks c w) ∙ sym (walk_sum-signed (expo c) (values c) s (walk_term product (numbers_from 1 all))))
      ∙ left-steps U V s (λ c g. signed (expo c) (walk_term product (numbers_from 1 all) g))

  -- the values on the faces: of the cochains before the composed place, in it, and behind it
  abbrev before : List Gap → ℤ
  before c = value_product ls (walk_faces (numbers_from 1 p) c)

  abbrev within_piece : List Gap → ℤ
  within_piece d = value_product bs (walk_faces (numbers_from k m) d)

  abbrev behind : List Gap → ℤ
  behind c = value_product cs (walk_faces (numbers_from (k + m) q) c)

  abbrev both : List Gap → List Gap → ℤ
  both c d = signed (walk_exponent c) (signed (walk_exponent d) (before c *ℤ (within_piece d *ℤ behind c)))

  numbers : numbers_from 1 all ≡ numbers_from 1 p ++ (numbers_from k m ++ numbers_from (k + m) q)
  numbers =
      let e : 1 + p ≡ k = omega arith in
      numbers_from-append 1 p (m + q) ∙ ap (λ j. numbers_from 1 p ++ numbers_from j (m + q)) e ∙ ap (λ w. numbers_from 1 p ++ w) (numbers_from-append k m q)

  faces-value : (t : List Step) → IsStep K k m apart inside sb k1 U V t → product (walk_faces (numbers_from 1 all) (cut_of t)) ≡ before (outer_as k t) *ℤ (within_piece (inner_of t) *ℤ behind (outer_as k t))
  faces-value t w =
      let g : List Gap = cut_of t in
      ap (λ ns. product (walk_faces ns g)) numbers
      ∙ product-split ls (bs ++ cs) (numbers_from 1 p) (numbers_from k m ++ numbers_from (k + m) q) g (sym (length-numbers_from 1 p))
      ∙ ap (λ z. before g *ℤ z) (product-split bs cs (numbers_from k m) (numbers_from (k + m) q) g (sym (length-numbers_from k m)))
      ∙ (λ i. value_product ls (faces-agree (λ x. K x ≡ 1) g (outer_as k t) w.outer_face 1 p (λ x a b. kind-low k r m k1 kr sb x (omega (arith, b))) i)
      *ℤ (value_product bs (faces-agree (λ x. K x ≡ 0) g (inner_of t) w.inner_face k m (λ x a b. kind-in k r m k1 kr sb x a b) i)
      *ℤ value_product cs (faces-agree (λ x. K x ≡ 1) g (outer_as k t) w.outer_face (k + m) q (λ x a b. kind-high k r m k1 kr sb x a) i)))

  -- u with the values of the terms
  outer-name : (x : ℕ) → 1 ≤ x → unz (renamed k m x) ≡ grown k m x
  outer-name zero h = absurd (omega (arith, h))
  outer-name (suc x) h = elim (cases_lt (suc x) k) [
    | inl l ↦ let g = grown-low k m (suc x) (omega (arith, l)) in ap unz (renamed-other k m (suc x) (λ e. omega (arith, e, l)) ∙ g) ∙ sym g
    | inr l ↦ elim (cases_lt k (suc x)) [
      | inl n ↦
          let z : suc x + (m - 1) ≡ suc (x + (m - 1)) = omega arith in
          let g : grown k m (suc x) ≡ suc (x + (m - 1)) = grown-high k m (suc x) n ∙ z in
          ap unz (renamed-other k m (suc x) (λ e. omega (arith, e, n)) ∙ g) ∙ sym g
      | inr n ↦ let e : suc x ≡ k = omega (arith, l, n) in ap unz (renamed-k k m (suc x) e) ∙ sym (grown-low k m (suc x) n ∙ e)
    ]
  ]

  outer-names : (w : List ℕ) → Each (λ x. (1 ≤ x) × (x ≤ r)) w → map unz (map (renamed k m) w) ≡ map (grown k m) w
  outer-names [] h = refl
  outer-names (x ∷ w) h = (λ i. outer-name x h.0.0 i ∷ outer-names w h.1 i)

  names-of_u : map unz U ≡ map (grown k m) u
  names-of_u = outer-names u (within k r m k1 kr sb r u ou)

  value-occurs : (i : ℕ) → 1 ≤ i → i < 1 + p → occurs i (map unz U) ≡ 1
  value-occurs i a b =
      ap (occurs i) names-of_u ∙ ap (λ z. occurs z (map (grown k m) u)) (sym (grown-low k m i (omega (arith, b)))) ∙ occurs-as (grown k m) (grown-mono k m) i u
      ∙ ou i ∙ occurs-from i 1 r a ∙ less-yes i (1 + r) (omega (arith, b))

  abbrev exponent : ℕ
  exponent = caesura_count V * (caesura_count U + sum qs)

  term-sign : (t : List Step) → IsStep K k m apart inside sb k1 U V t →
      signed (expo (walk_of t)) (walk_term product (numbers_from 1 all) (cut_of t)) ≡ signed exponent (both (outer_as k t) (inner_of t))
  term-sign t w =
      let o : List Gap = outer_as k t in
      let x : ℤ = within_piece (inner_of t) *ℤ behind o in
      let y : ℤ = signed (walk_exponent o) (signed (walk_exponent (inner_of t)) x) in
      let move : both o (inner_of t) ≡ before o *ℤ y = ap (signed (walk_exponent o)) (signed-mul (walk_exponent (inner_of t)) (before o) x) ∙ signed-mul (walk_exponent o) (before o) (signed (walk_exponent (inner_of t)) x) in
      let e : k ≡ 1 + p = omega arith in
      let z : caesura_count U + gaps_below 1 o + sum qs ≡ caesura_count U + sum qs = (let n = w.positive in omega (arith, n)) in
      step-sign K k m apart inside sb k1 U V t (product (walk_faces (numbers_from 1 all) (cut_of t))) w
      ∙ ap (λ f. signed (caesura_count V * (caesura_count U + gaps_below k o)) (signed (walk_exponent o) (signed (walk_exponent (inner_of t)) f))) (faces-value t w)
      ∙ (λ i. signed (caesura_count V * (caesura_count U + gaps_below (e i) o)) (move i))
      ∙ degrees-sign ls qs 1 (caesura_count V) (caesura_count U) o y dq (λ i a b. ap (occurs i) w.outer_values ∙ value-occurs i a b)
      ∙ (λ i. signed (caesura_count V * z i) (sym move i))

  -- the other side
  abbrev inner_value : List ℕ → ℤ
  inner_value f = operation_value m v bs f

  abbrev outer_product : List (List ℕ) → ℤ
  outer_product fs = value_product (ls ++ (inner_value ∷ cs)) fs

  abbrev outer_numbers : List ℕ
  outer_numbers = numbers_from 1 p ++ (k ∷ numbers_from (k + m) q)

  outer-numbers : map (grown k m) (numbers_from 1 r) ≡ outer_numbers
  outer-numbers =
      let e : 1 + p ≡ k = omega arith in
      let z : suc k + (m - 1) ≡ k + m = omega (arith, sb) in
      ap (map (grown k m)) (numbers_from-append 1 p (suc q) ∙ ap (λ j. numbers_from 1 p ++ numbers_from j (suc q)) e)
      ∙ map-append (grown k m) (numbers_from 1 p) (numbers_from k (suc q))
      ∙ (λ i. grown-numbers-low k m 1 p (omega arith) i ++ (grown-low k m k (omega arith) i ∷ (grown-numbers-high k m (suc k) q (omega arith) ∙ ap (λ j. numbers_from j q) z) i))

  inner-numbers : map (lifted k) (numbers_from 1 m) ≡ numbers_from k m
  inner-numbers = lifted-numbers k 1 m ∙ (let z : 1 + (k - 1) ≡ k = omega arith in ap (λ j. numbers_from j m) z)

  inner-walks : (f : List ℕ) → 1 ≤ length f → inner_value f ≡ walk_sum V f (λ d. signed (walk_exponent d) (within_piece d))
  inner-walks f l =
      cut-walk (value_product bs) m v f (some-entry 1 v (ov 1 ∙ occurs-from 1 1 m (omega arith) ∙ less-yes 1 (1 + m) (omega (arith, sb)))) l
      ∙ terms-as (lifted k) (lifted-mono k) (value_product bs) (numbers_from 1 m) v f
      ∙ ap (λ ns. walk_sum V f (walk_term (value_product bs) ns)) inner-numbers

  outer-term : (g : List Gap) → IsOuter K k unz refl (λ x. refl) not-k U g → walk_term outer_product outer_numbers (cells_as unz g) ≡ walk_sum V (zero_face g) (λ d. both (cells_as unz g) d)
  outer-term g w =
      let c : List Gap = cells_as unz g in
      let f : List ℕ = zero_face g in
      let sum_of : ℤ = walk_sum V f (λ d. signed (walk_exponent d) (within_piece d)) in
      let x : ℤ = before c *ℤ behind c in
      let one : outer_product (walk_faces outer_numbers c) ≡ before c *ℤ (sum_of *ℤ behind c) =
      product-split ls (inner_value ∷ cs) (numbers_from 1 p) (k ∷ numbers_from (k + m) q) c (sym (length-numbers_from 1 p))
      ∙ ap (λ z. before c *ℤ (z *ℤ behind c)) (ap inner_value w.face ∙ inner-walks f (w.some zero-there)) in
      let two : before c *ℤ (sum_of *ℤ behind c) ≡ walk_sum V f (λ d. signed (walk_exponent d) (before c *ℤ (within_piece d *ℤ behind c))) =
      swapped (before c) sum_of (behind c) ∙ sym (walk_sum-scale x V f (λ d. signed (walk_exponent d) (within_piece d)))
      ∙ ap (walk_sum V f) (λ i d. (sym (signed-mul (walk_exponent d) x (within_piece d)) ∙ ap (signed (walk_exponent d)) (sym (swapped (before c) (within_piece d) (behind c)))) i) in
      ap (signed (walk_exponent c)) (one ∙ two) ∙ sym (walk_sum-signed (walk_exponent c) V f (λ d. signed (walk_exponent d) (before c *ℤ (within_piece d *ℤ behind c))))
    where
      swapped : (a b c : ℤ) → a *ℤ (b *ℤ c) ≡ (a *ℤ c) *ℤ b
      swapped a b c = ap (λ z. a *ℤ z) (mul_comm b c) ∙ sym (mul_assoc a c b)

  right-side : operation_value r u (ls ++ (inner_value ∷ cs)) s ≡ triple U V s (λ t. both (outer_as k t) (inner_of t))
  right-side =
      cut-walk outer_product r u s (some-entry k u (k-occurs k r m k1 kr sb u ou)) ss
      ∙ terms-as (grown k m) (grown-mono k m) outer_product (numbers_from 1 r) u s
      ∙ (λ i. walk_sum (sym names-of_u i) s (walk_term outer_product (outer-numbers i)))
      ∙ walk_sum-as unz U s (walk_term outer_product outer_numbers)
      ∙ walk_sum-outer K k unz refl (λ x. refl) not-k U s (λ g. walk_term outer_product outer_numbers (cells_as unz g)) (λ g. walk_sum V (zero_face g) (λ d. both (cells_as unz g) d)) kinds_u outer-term
      ∙ right-any U V s (λ g d. both (cells_as unz g) d) (some-entry (lifted k 1) V (occurs-as (lifted k) (lifted-mono k) 1 v ∙ ov 1 ∙ occurs-from 1 1 m (omega arith) ∙ less-yes 1 (1 + m) (omega (arith, sb)))) zero-there

  pub action : value_at value (composition k u v) ≡ signed (caesura_count v * (caesura_count u + sum qs)) (operation_value r u (ls ++ (inner_value ∷ cs)) s)
  action =
      left-side
      ∙ triple-cong K k m apart inside sb k1 U V s (λ t. signed (expo (walk_of t)) (walk_term product (numbers_from 1 all) (cut_of t))) (λ t. signed exponent (both (outer_as k t) (inner_of t))) kinds_u kinds_v term-sign
      ∙ triple-signed exponent U V s (λ t. both (outer_as k t) (inner_of t))
      ∙ (λ i. signed (caesuras-map (lifted k) (lifted_back k) v back_v i * (caesuras-map (renamed k m) (renamed_back k m) u back_u i + sum qs)) (sym right-side i))

pub surjection_action : SurjectionAction
surjection_action u v s qs ls bs cs normal dq sb ss ou ov = action u v s qs ls bs cs normal dq sb ss ou ov
