-- The degrees of D and of the primitives.
use Rattle.std.proofs.{Common.{◌≡◌, ℕ, zero, suc, ◌+◌, ◌-◌, ◌*◌, ◌%◌, ◌≤◌, true, false, Bool, cond, ◌==◌, List, [], ◌∷◌, ◌++◌, map, length, refl, sym, ◌∙◌, ap, arith, inl, inr, length-append, eq-eqb, ℤ, pos, ne_eqb}, Math.IntN.*ℤ-zero, lemmas.Int.ints, lemmas.Bool.Decides.eqb_tells, lemmas.List.length-map}
use Rattle.interval_cut_law.{proofs.BoundaryLaws.{degeneracy_law, product_normalized}, proofs.CutsAsWalks.cut_sum-walk_sum, proofs.FaceBoundary.more, proofs.WalkBoundary.occurs-cell_values, proofs.WalkSums.IsWalk, proofs.Walks.{Cell, cell_value, cell_values, cell_vertex, edge, edge_count, ends, next, walk_exponent, walk_face, walk_faces, walk_sum, walk_term}, specs.Names.{operation_value, value_product}}
use Rattle.signed_sum.{proofs.Names.{numbers_from-distinct, occurs-later, occurs-mid, occurs-self, one_if, signed-zero, degree-append}, specs.Names.{IsDistinct, difference, is_degenerate, numbers_from, occurs, signed}}
use Rattle.simplicial_law.{proofs.Names.{CongruentInt-signed, CongruentInt_of}, specs.Names.{HaveDegrees, integral_coboundary}}
use Rattle.linear_law.proofs.Names.{length-copies}
use Rattle.steenrod_law.{proofs.AdditiveMaps.adds-zero, proofs.CycleFaces.{counts, degrees-or-zero, onto-cycle, sum_of}, proofs.Forms.{AreTerms, HasDegreeBelow, IsCochain, IsMayFamily, IsPrime, SurjectionTerm, operation_of, value_over, word_sum}, proofs.Staircase.{AlikeOn, degree-copies, steps-alike}, proofs.WordBoundary.{letters-copies, letters-normalized, some}, proofs.WordCochains.{coboundary-cochain, degree-sum, degrees-letters, over-equal, over-sum}, proofs.WordLemmas.step-sum, specs.Names.{applied, cycle_less_one_power, orbit_sum, staircase_sum, sum_above, sum_to, sum_value, word_cochains, HaveLength, IsOrbitTable, choice, contraction, copies, letter_degree, staircase, step, turn_back, word_degree}}
use Rattle.surjection_law.{proofs.Caesuras.caesura_law, specs.Names.{caesura_count, IsOnto}}
use Rattle.table_reduction_law.specs.Names.{cycle, turned_values}

-- the places of faces, counted

face_total : List ℕ → List Cell → ℕ
face_total [] c = 0
face_total (k ∷ ks) c = length (walk_face k c) + face_total ks c

face_total-none : (ks : List ℕ) → face_total ks [] ≡ 0
unfolding face_total
face_total-none [] = refl
face_total-none (k ∷ ks) = let h = face_total-none ks in omega arith

face_total-cons : (ks : List ℕ) (d : Cell) (c : List Cell) → IsDistinct ks → face_total ks (d ∷ c) ≡ occurs (cell_value d) ks + face_total ks c
unfolding face_total
face_total-cons [] d c q = refl
face_total-cons (k ∷ ks) d c q =
    let ih = face_total-cons ks d c q.1 in
    let m = more (k == cell_value d) (cell_vertex d) (walk_face k c) in
    elim (eqb_tells (cell_value d) k) [
      | inl e ↦
          let a : one_if (k == cell_value d) ≡ 1 = ap one_if (eq-eqb k (cell_value d) (sym e.1)) in
          let b : occurs (cell_value d) (k ∷ ks) ≡ 1 = ap (λ t. cond t 1 (occurs (cell_value d) ks)) e.0 in
          let z : occurs (cell_value d) ks ≡ 0 = ap (λ j. occurs j ks) e.1 ∙ q.0 in
          omega arith
      | inr n ↦
          let a : one_if (k == cell_value d) ≡ 0 = ap one_if (ne_eqb k (cell_value d) (λ e. n.1 (sym e))) in
          let b : occurs (cell_value d) (k ∷ ks) ≡ occurs (cell_value d) ks = ap (λ t. cond t 1 (occurs (cell_value d) ks)) n.0 in
          omega arith
    ]

face_total-cells : (ks : List ℕ) (c : List Cell) → IsDistinct ks → ((v : ℕ) → occurs v (cell_values c) ≡ 1 → occurs v ks ≡ 1) → face_total ks c ≡ edge_count c + length (ends c)
face_total-cells ks [] q s = face_total-none ks
face_total-cells ks (edge v x ∷ c) q s =
    let a = face_total-cons ks (edge v x) c q in
    let b = s v (occurs-mid v [] (cell_values c)) in
    let ih = face_total-cells ks c q (λ z y. s z (occurs-later z (v ∷ []) (cell_values c) y)) in
    omega arith
face_total-cells ks (next v x ∷ c) q s =
    let a = face_total-cons ks (next v x) c q in
    let b = s v (occurs-mid v [] (cell_values c)) in
    let ih = face_total-cells ks c q (λ z y. s z (occurs-later z (v ∷ []) (cell_values c) y)) in
    omega arith

-- products

counts-faces : (ks : List ℕ) (c : List Cell) → counts (walk_faces ks c) ≡ face_total ks c
unfolding face_total
counts-faces [] c = refl
counts-faces (k ∷ ks) c = ap (λ j. length (walk_face k c) + j) (counts-faces ks c)

product-degree : (qs : List ℕ) (cs : List (List ℕ → ℤ)) (fs : List (List ℕ)) → HaveDegrees qs cs → (sum_of qs + length qs ≡ counts fs → ⊥) → value_product cs fs ≡ pos 0
product-degree qs cs fs d ne = elim (degrees-or-zero qs cs fs d) [ inl z ↦ z | inr s ↦ absurd (ne (sym s.1)) ]

-- values

walks-none : (u s : List ℕ) (f : List Cell → ℤ) → ((c : List Cell) → IsWalk u c → suc (edge_count c) ≡ length s → f c ≡ pos 0) → walk_sum u s f ≡ pos 0
walks-none [] [] f h = refl
walks-none [] (x ∷ []) f h = h [] (record { ending = refl; closed = tt }) refl
walks-none [] (x ∷ y ∷ s) f h = refl
walks-none (v ∷ u) [] f h = refl
walks-none (v ∷ u) (x ∷ s) f h =
    let a = walks-none u (x ∷ s) (λ c. f (next v x ∷ c)) (λ c k e. h (next v x ∷ c) (record { ending = ap (λ r. v ∷ r) k.ending; closed = k.closed }) e) in
    let b = walks-none (v ∷ u) s (λ c. f (edge v x ∷ c)) (λ c k e. h (edge v x ∷ c) (record { ending = k.ending; closed = (ap (λ r. occurs v (r ++ [])) k.ending ∙ occurs-self v (u ++ []), k.closed) }) (ap suc e)) in
    omega (arith, ints)

pub value-size : (r : ℕ) (u s qs : List ℕ) (cs : List (List ℕ → ℤ)) → IsOnto r u → 1 ≤ r → 1 ≤ length s → HaveDegrees qs cs → length qs ≡ r → (length s + caesura_count u ≡ suc (sum_of qs) → ⊥) → operation_value r u cs s ≡ pos 0
value-size r [] s qs cs onto le hs d lq ne = absurd (let h = some r [] le onto in omega (arith, h))
value-size r (v ∷ u) [] qs cs onto le hs d lq ne = absurd (omega (arith, hs))
value-size r (v ∷ u) (x ∷ s) qs cs onto le hs d lq ne =
    cut_sum-walk_sum (value_product cs) r v u x s
    ∙ walks-none (v ∷ u) (x ∷ s) (walk_term (value_product cs) (numbers_from 1 r))
    (λ c k e. ap (signed (walk_exponent c)) (product-degree qs cs (walk_faces (numbers_from 1 r) c) d (λ h. ne (sizes c k e h))) ∙ signed-zero (walk_exponent c))
  where
    sizes : (c : List Cell) → IsWalk (v ∷ u) c → suc (edge_count c) ≡ length (x ∷ s) → sum_of qs + length qs ≡ counts (walk_faces (numbers_from 1 r) c) → length (x ∷ s) + caesura_count (v ∷ u) ≡ suc (sum_of qs)
    sizes c k e h =
        let a = counts-faces (numbers_from 1 r) c in
        let b = face_total-cells (numbers_from 1 r) c (numbers_from-distinct 1 r) (λ z y. sym (onto z) ∙ ap (occurs z) (sym k.ending) ∙ sym (occurs-cell_values z c k.closed) ∙ y) in
        let q = ap length k.ending in
        let w = caesura_law.places r (v ∷ u) onto in
        omega arith

pub over-none : (p m : ℕ) (x : List SurjectionTerm) (h : List ℕ → ℤ) → AreTerms p m x → ((u : List ℕ) → IsOnto p u → caesura_count u ≡ m → h u ≡ pos 0) → value_over x h ≡ pos 0
over-none p m x h k e = over-equal p m x h (λ u. pos 0) k e ∙ adds-zero (value_over x) (over-sum x)

module _ (p m : ℕ) (deg : Bool → ℕ) (x : List SurjectionTerm) (k : AreTerms p m x) (a b : List ℕ → ℤ) (ca : IsCochain (deg false) a) (cb : IsCochain (deg true) b) (le : 1 ≤ p) (w : List Bool) (size : length w ≡ p) where
  word-size : (s : List ℕ) → 1 ≤ length s → (length s + m ≡ suc (word_degree deg w) → ⊥) → sum_value p x (word_cochains a b w) s ≡ pos 0
  word-size s hs ne =
      over-none p m x (λ u. operation_value p u (word_cochains a b w) s) k
      (λ u o e. value-size p u s (map deg w) (word_cochains a b w) o le hs (degrees-letters deg a b ca.degree cb.degree w) (length-map w deg ∙ size)
      (λ h. ne (let q = degree-sum deg w in omega arith)))

  word-plain : (s : List ℕ) → is_degenerate s ≡ true → sum_value p x (word_cochains a b w) s ≡ pos 0
  word-plain s r = over-none p m x (λ u. operation_value p u (word_cochains a b w) s) k (λ u o e. degeneracy_law.simplices (value_product (word_cochains a b w)) p u s (product_normalized (word_cochains a b w) (letters-normalized a b ca.plain cb.plain w)) o (some p u le o) r)

-- T keeps the degree

of-difference : (p m : ℕ) (x : List SurjectionTerm) → 1 ≤ p → AreTerms p m x → AreTerms p m (applied (difference (turned_values p)) x)
of-difference p m [] le k = tt
of-difference p m (t ∷ x) le k =
    let o = onto-cycle p t.0 le k.0 in
    let a = caesura_law.places p t.0 k.0 in
    let b = caesura_law.places p (map (cycle p) t.0) o in
    let c = length-map t.0 (cycle p) in
    let e = k.1 in
    (o, omega arith, (k.0, k.1, of-difference p m x le k.2))

pub of-power : (p m k : ℕ) (x : List SurjectionTerm) → 1 ≤ p → AreTerms p m x → AreTerms p m (cycle_less_one_power p k x)
of-power p m zero x le o = o
of-power p m (suc k) x le o = of-difference p m (cycle_less_one_power p k x) le (of-power p m k x le o)

pub of-upper : (p d : ℕ) (x : ℕ → List SurjectionTerm) → 1 ≤ p → IsMayFamily p x → AreTerms p (suc d) (sum_above p d x)
of-upper p d x le may = go (d % 2)
  where
    go : (c : ℕ) → AreTerms p (suc d) (choice c (cycle_less_one_power p (p - 2) (x (suc d))) (x (suc d)))
    go zero = of-power p (suc d) (p - 2) (x (suc d)) le (may.terms (suc d))
    go (suc c) = may.terms (suc d)

-- stairs

step-none : (deg : Bool → ℕ) (m d p r : ℕ) (h : List Bool → ℤ) → ((w : List Bool) → length w ≡ m → word_degree deg w ≡ d → h w ≡ pos 0) →
    (w : List Bool) → length w ≡ m → word_degree deg w ≡ d → step deg p r h w ≡ pos 0
step-none deg m d p r h a w e q =
    let none = adds-zero (λ f. step deg p r f w) (λ f g. step-sum deg p r f g w) in
    let c = steps-alike (λ v. (length v ≡ m) × (word_degree deg v ≡ d)) 0 deg deg back p r h (λ v. pos 0) (λ v o. CongruentInt_of (a v o.0 o.1)) w (e, q) in
    let z = *ℤ-zero c.multiple in
    omega (arith, ints)
  where
    back : (f g : List Bool → ℤ) → AlikeOn (λ v. (length v ≡ m) × (word_degree deg v ≡ d)) 0 f g → AlikeOn (λ v. (length v ≡ m) × (word_degree deg v ≡ d)) 0 (turn_back deg f) (turn_back deg g)
    back f g a [] o = a [] o
    back f g a (l ∷ w) o =
        let long = o.0 in
        let total = o.1 in
        let x = length-append w (l ∷ []) in
        let y = degree-append deg w (l ∷ []) in
        CongruentInt-signed (deg l * word_degree deg w) (a (w ++ (l ∷ [])) (omega arith, omega arith))

pub stair-only : (p n d : ℕ) → 1 ≤ p → (j : ℕ) (h : List Bool → ℤ) → ((w : List Bool) → length w ≡ p → word_degree (letter_degree n) w + suc j ≡ p * suc n → h w ≡ pos 0) → staircase p n d j h ≡ pos 0
stair-only zero n d le j h a = absurd (omega (arith, le))
stair-only (suc k) n d le zero h a =
    let e : suc k - 1 ≡ k = omega arith in
    let q = degree-copies (letter_degree n) k true in
    ap (λ i. h (false ∷ copies i true)) e ∙ a (false ∷ copies k true) (ap suc (length-copies k true)) (omega arith)
stair-only (suc k) n d le (suc j) h a =
    stair-only (suc k) n d le j (step (letter_degree n) (suc k) (d - j) (contraction h))
    (λ w e q. step-none (letter_degree n) (suc k) (word_degree (letter_degree n) w) (suc k) (d - j) (contraction h) (λ v y z. short v y (omega arith)) w e refl)
  where
    short : (v : List Bool) → length v ≡ suc k → word_degree (letter_degree n) v + suc j ≡ suc k * suc n → contraction h v ≡ pos 0
    short [] e q = refl
    short (false ∷ v) e q = refl
    short (true ∷ v) e q = a (false ∷ v) e (omega arith)

pub sum_to-none : (d : ℕ) (f : ℕ → ℤ) → ((j : ℕ) → j ≤ d → f j ≡ pos 0) → sum_to d f ≡ pos 0
sum_to-none zero f e = e 0 (omega arith)
sum_to-none (suc d) f e = let a = sum_to-none d f (λ j l. e j (omega arith)) in let b = e (suc d) (omega arith) in omega (arith, ints)

pub word_sum-none : (p : ℕ) (ms : List (List Bool)) (h : List Bool → ℤ) → HaveLength p ms → ((w : List Bool) → length w ≡ p → h w ≡ pos 0) → word_sum ms h ≡ pos 0
word_sum-none p [] h k e = refl
word_sum-none p (w ∷ ms) h k e = let a = word_sum-none p ms h k.1 e in let b = e w k.0 in omega (arith, ints)

pub degree-even : (q : ℕ) (w : List Bool) → word_degree (λ l. q) w ≡ length w * q
degree-even q [] = omega arith
degree-even q (l ∷ w) = let h = degree-even q w in omega arith

pub operation-size : (p d q : ℕ) (x : ℕ → List SurjectionTerm) (a : List ℕ → ℤ) → IsPrime p → IsMayFamily p x → IsCochain q a → HasDegreeBelow d (p * q) (operation_of p (x d) a)
operation-size p d q x a prime may ca =
    let le : 1 ≤ p = (let t = prime.two in omega arith) in
    let w : List Bool = copies p true in
    let lw : length w ≡ p = length-copies p true in
    let dw : word_degree (λ l. q) w ≡ p * q = degree-copies (λ l. q) p true in
    record {
      other = λ s hs ne. ap (λ cs. sum_value p (x d) cs s) (sym (letters-copies a a p)) ∙ word-size p d (λ l. q) (x d) (may.terms d) a a ca ca le w lw s hs (λ e. ne (omega arith));
      plain = λ s r. ap (λ cs. sum_value p (x d) cs s) (sym (letters-copies a a p)) ∙ word-plain p d (λ l. q) (x d) (may.terms d) a a ca ca le w lw s r;
    }

pub orbit_sum-size : (p d q : ℕ) (x : ℕ → List SurjectionTerm) (ms : List (List Bool)) (a c : List ℕ → ℤ) → IsPrime p → IsMayFamily p x → IsOrbitTable p ms → IsCochain q a → IsCochain q c → HasDegreeBelow (suc d) (p * q) (orbit_sum p d x ms a c)
orbit_sum-size p d q x ms a c prime may orbits ca cc =
    let le : 1 ≤ p = (let t = prime.two in omega arith) in
    record {
      other =
          λ s hs ne.
          word_sum-none p ms (λ w. sum_value p (sum_above p d x) (word_cochains a c w) s) orbits.long
          (λ w lw. word-size p (suc d) (λ l. q) (sum_above p d x) (of-upper p d x le may) a c ca cc le w lw s hs (λ e. ne (e ∙ ap suc (degree-even q w ∙ ap (λ j. j * q) lw))));
      plain =
          λ s r.
          word_sum-none p ms (λ w. sum_value p (sum_above p d x) (word_cochains a c w) s) orbits.long
          (λ w lw. word-plain p (suc d) (λ l. q) (sum_above p d x) (of-upper p d x le may) a c ca cc le w lw s r);
    }

pub staircase_sum-size : (p d n : ℕ) (x : ℕ → List SurjectionTerm) (y : List ℕ → ℤ) → IsPrime p → IsMayFamily p x → IsCochain n y → HasDegreeBelow (suc d) (p * suc n) (staircase_sum p n d x y)
staircase_sum-size p d n x y prime may cy =
    let le : 1 ≤ p = (let t = prime.two in omega arith) in
    let cb = coboundary-cochain n y cy in
    record {
      other =
          λ s hs ne.
          sum_to-none d (λ j. signed (d - j) (staircase p n d j (λ w. sum_value p (x (d - j)) (word_cochains y (integral_coboundary y) w) s)))
          (λ j lj. ap (signed (d - j)) (stair-only p n d le j (λ w. sum_value p (x (d - j)) (word_cochains y (integral_coboundary y) w) s)
          (λ w lw dw. word-size p (d - j) (letter_degree n) (x (d - j)) (may.terms (d - j)) y (integral_coboundary y) cy cb le w lw s hs (λ e. ne (omega arith))))
          ∙ signed-zero (d - j));
      plain =
          λ s r.
          sum_to-none d (λ j. signed (d - j) (staircase p n d j (λ w. sum_value p (x (d - j)) (word_cochains y (integral_coboundary y) w) s)))
          (λ j lj. ap (signed (d - j)) (stair-only p n d le j (λ w. sum_value p (x (d - j)) (word_cochains y (integral_coboundary y) w) s)
          (λ w lw dw. word-plain p (d - j) (letter_degree n) (x (d - j)) (may.terms (d - j)) y (integral_coboundary y) cy cb le w lw s r))
          ∙ signed-zero (d - j));
    }
