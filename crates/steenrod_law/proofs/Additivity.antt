-- D is additive up to the coboundary of a sum over orbits.
use Rattle.std.proofs.{Common.{◌≡◌, ℕ, zero, suc, ◌-◌, ◌*◌, ◌%◌, ◌≤◌, true, false, Bool, List, [], ◌∷◌, ◌++◌, map, length, refl, sym, ◌∙◌, ap, arith, ◌⊎◌, ℤ, pos, ◌+ℤ◌, ◌*ℤ◌, neg_ℤ}, Math.IntN.*ℤ-zero, lemmas.Int.ints}
use Rattle.interval_cut_law.{proofs.CochainLaws.cut_sum-sum, specs.Names.{cut_sum, operation_value, value_product}}
use Rattle.signed_sum.{proofs.Names.{add-mul, mul-add, mul_assoc, value_at-append}, specs.Names.{difference as turn_difference, unless_empty, signed, value_at, without_one}}
use Rattle.simplicial_law.{proofs.Names.{CongruentInt-neg, CongruentInt-signed, CongruentInt-sum, CongruentInt_from, CongruentInt_of, CongruentInt_refl, CongruentInt_sym, CongruentInt_trans}, specs.Names.{CongruentInt, HasDegree, integral_coboundary}}
use Rattle.steenrod_law.{proofs.AdditiveMaps.{adds-coboundary, adds-neg, adds-over, adds-scale, adds-signed, adds-zero}, proofs.Binomials.{difference, difference-prime}, proofs.ClosedValues.closed-law, proofs.Degrees.{degree-even, of-power}, proofs.Forms.{AreTerms, IsFaceClosed, IsIntegralCocycle, IsMayFamily, IsPrime, IsWeakFace, SurjectionTerm, boundary_over, drop, none, operation_of, take, value_over, word_sum}, proofs.Staircase.{Alike, back-alike, minus-alike, norms-alike, sign-turn}, proofs.WordBoundary.{letters-copies, letters-first, relation, sum-turned}, proofs.WordCochains.over-sum, proofs.WordLemmas.{minus-sum, norm-sum_below, power-back}, specs.Names.{applied, cycle_less_one_power, orbit_sum, sum_above, sum_value, word_cochains, HaveLength, IsOrbitTable, all_words, choice, copies, norm, step, turn_back, turn_back_less_one, turn_back_power, word_degree}}
use Rattle.table_reduction_law.specs.Names.{turned_values}

-- powers of T on words

abbrev t_words : (Bool → ℕ) → ℕ → (List Bool → ℤ) → List Bool → ℤ
t_words deg zero h w = h w
t_words deg (suc k) h w = turn_back_less_one deg (t_words deg k h) w

module _ (deg : Bool → ℕ) where
  t-inner : (k : ℕ) (h : List Bool → ℤ) (w : List Bool) → t_words deg k (turn_back_less_one deg h) w ≡ t_words deg (suc k) h w
  t-inner zero h w = refl
  t-inner (suc k) h w = ap (λ g. turn_back_less_one deg g w) (λ i v. t-inner k h v i)

  t-sum : (k : ℕ) (h g : List Bool → ℤ) (w : List Bool) → t_words deg k (λ v. h v +ℤ g v) w ≡ t_words deg k h w +ℤ t_words deg k g w
  t-sum zero h g w = refl
  t-sum (suc k) h g w = ap (λ f. turn_back_less_one deg f w) (λ i v. t-sum k h g v i) ∙ minus-sum deg (t_words deg k h) (t_words deg k g) w

  t-alike : (p m k : ℕ) (h g : List Bool → ℤ) → Alike p m h g → Alike p m (t_words deg k h) (t_words deg k g)
  t-alike p m zero h g a = a
  t-alike p m (suc k) h g a = minus-alike p deg m (t_words deg k h) (t_words deg k g) (t-alike p m k h g a)

  t-difference : (k : ℕ) (h : List Bool → ℤ) (w : List Bool) → t_words deg k h w ≡ difference k (λ i. turn_back_power deg i h w)
  t-difference zero h w = refl
  t-difference (suc k) h w =
      let a = t-inner k h w in
      let b = t-sum k (turn_back deg h) (λ v. neg_ℤ (h v)) w in
      let c = adds-neg (λ f. t_words deg k f w) (λ f g. t-sum k f g w) h in
      let d = t-difference k (turn_back deg h) w ∙ ap (difference k) (λ i j. power-back deg j h w i) in
      let e = t-difference k h w in
      omega (arith, ints)

  -- T^(p-1) is N
  t-norm : (p : ℕ) → IsPrime p → (k : ℕ) → suc k ≡ p → (h : List Bool → ℤ) (w : List Bool) → CongruentInt p (t_words deg k h w) (norm deg p h w)
  t-norm zero prime k e h w = absurd (omega (arith, e))
  t-norm (suc n) prime k e h w =
      let q : k ≡ n = omega arith in
      let a : ℕ → ℤ = λ i. turn_back_power deg i h w in
      CongruentInt_trans
      (CongruentInt_of (ap (λ j. t_words deg j h w) q ∙ t-difference n h w))
      (CongruentInt_trans (difference-prime n a prime)
      (CongruentInt_of (sym (norm-sum_below deg (suc n) h w))))

-- powers of T on sums of surjections

over-scaled : (c : ℤ) (x : List SurjectionTerm) (h : List ℕ → ℤ) → value_over (map (λ t. (t.0, c *ℤ t.1)) x) h ≡ c *ℤ value_over x h
over-scaled c [] h = sym (*ℤ-zero c)
over-scaled c (t ∷ x) h =
    let a = over-scaled c x h in
    let b = mul_assoc c t.1 (h t.0) in
    let d = mul-add c (t.1 *ℤ h t.0) (value_over x h) in
    omega (arith, ints)

over-applied : (f : List ℕ → List SurjectionTerm) (x : List SurjectionTerm) (h : List ℕ → ℤ) → value_over (applied f x) h ≡ value_over x (λ u. value_at h (f u))
over-applied f [] h = refl
over-applied f (t ∷ x) h = value_at-append h (map (λ s. (s.0, t.1 *ℤ s.1)) (f t.0)) (applied f x) ∙ (λ i. over-scaled t.1 (f t.0) h i +ℤ over-applied f x h i)

-- T on the sum is T on the words
power-words : (p : ℕ) (deg : Bool → ℕ) (a b : List ℕ → ℤ) → HasDegree (deg false) a → HasDegree (deg true) b → (t : List ℕ) → 1 ≤ p → (m : ℕ) (x : List SurjectionTerm) → AreTerms p m x → (k : ℕ) →
    Alike p p (λ w. sum_value p (cycle_less_one_power p k x) (word_cochains a b w) t) (t_words deg k (λ w. sum_value p x (word_cochains a b w) t))
power-words p deg a b da db t le m x o zero w e = CongruentInt_refl (sum_value p x (word_cochains a b w) t)
power-words p deg a b da db t le m x o (suc k) w e =
    let y : List SurjectionTerm = cycle_less_one_power p k x in
    CongruentInt_trans
    (CongruentInt_of (over-applied (turn_difference (turned_values p)) y (λ u. operation_value p u (word_cochains a b w) t) ∙ sum-turned p deg a b da db t le m y (of-power p m k x le o) w e))
    (minus-alike p deg p (λ v. sum_value p y (word_cochains a b v) t) (t_words deg k (λ v. sum_value p x (word_cochains a b v) t)) (power-words p deg a b da db t le m x o k) w e)

-- coboundaries modulo p

weak-refl : (s : List ℕ) → IsWeakFace s s
weak-refl [] = none
weak-refl (x ∷ s) = take (drop (weak-refl s))

without_one-faces : (p : ℕ) (s : List ℕ) (h g : List ℕ → ℤ) → ((t : List ℕ) → IsWeakFace t s → CongruentInt p (h t) (g t)) → CongruentInt p (without_one s h) (without_one s g)
without_one-faces p [] h g e = CongruentInt_refl (pos 0)
without_one-faces p (x ∷ s) h g e =
    CongruentInt-sum (e s (drop (weak-refl s)))
    (CongruentInt-neg (without_one-faces p s (λ r. h (x ∷ r)) (λ r. g (x ∷ r)) (λ r w. e (x ∷ r) (take (drop w)))))

pub coboundary-faces : (p : ℕ) (s : List ℕ) (a b : List ℕ → ℤ) → ((t : List ℕ) → IsWeakFace t s → CongruentInt p (a t) (b t)) → CongruentInt p (integral_coboundary a s) (integral_coboundary b s)
coboundary-faces p s a b e = without_one-faces p s (λ g. unless_empty g (a g)) (λ g. unless_empty g (b g)) part
  where
    part : (g : List ℕ) → IsWeakFace g s → CongruentInt p (unless_empty g (a g)) (unless_empty g (b g))
    part [] w = CongruentInt_refl (pos 0)
    part (x ∷ g) w = e (x ∷ g) w

-- turns without signs

plain-back : (p q : ℕ) → (p ≡ 2) ⊎ (p % 2 ≡ 1) → (h : List Bool → ℤ) → Alike p p (turn_back (λ l. 0) h) (turn_back (λ l. q) h)
plain-back p q prime h [] e = CongruentInt_refl (h [])
plain-back p q prime h (l ∷ w) e =
    let z : ℤ = h (w ++ (l ∷ [])) in
    let zero_times : 0 * word_degree (λ m. 0) w ≡ 0 = omega arith in
    CongruentInt_trans
    (CongruentInt_of (ap (λ j. signed j z) zero_times))
    (CongruentInt_sym
    (CongruentInt_trans
    (CongruentInt_of (ap (λ j. signed (q * j) z) (degree-even q w)))
    (sign-turn p (length w) q z prime e)))

plain-norm : (p q : ℕ) → (p ≡ 2) ⊎ (p % 2 ≡ 1) → (k : ℕ) (h : List Bool → ℤ) → Alike p p (norm (λ l. 0) k h) (norm (λ l. q) k h)
plain-norm p q prime k h =
    norms-alike (λ w. length w ≡ p) p (λ l. 0) (λ l. q) (λ f g a w e. CongruentInt_trans (plain-back p q prime f w e) (back-alike p (λ l. q) p f g a w e)) k h h (λ w e. CongruentInt_refl (h w))

-- the sum over an orbit is a coboundary

module _ (K : List ℕ → Type 0) (fc : IsFaceClosed K) (p d q : ℕ) (x : ℕ → List SurjectionTerm) (a c : List ℕ → ℤ) (s : List ℕ) (prime : IsPrime p) (may : IsMayFamily p x) (ca : IsIntegralCocycle K p q a) (cc : IsIntegralCocycle K p q c) (ks : K s) (pos_p : 1 ≤ p) (hs : 1 ≤ length s) where
  abbrev deg : Bool → ℕ
  deg l = q

  abbrev here : List Bool → ℤ
  here w = sum_value p (x d) (word_cochains a c w) s

  abbrev above : List Bool → ℤ
  above w = integral_coboundary (sum_value p (x (suc d)) (word_cochains a c w)) s

  step-above : (w : List Bool) → length w ≡ p → CongruentInt p (step (λ l. q) p (suc d) here w) (signed d (above w))
  step-above w e =
      let b : ℤ = boundary_over (x (suc d)) (λ u. operation_value p u (word_cochains a c w) s) in
      let z : ℤ = signed d (above w) in
      CongruentInt_trans
      (CongruentInt_sym (relation p (λ l. q) a c ca.cochain cc.cochain s pos_p hs x may d w e))
      (CongruentInt_from (closed-law K fc p (suc d) q (x (suc d)) a c s w (may.terms (suc d)) ca cc ks pos_p hs) (omega (arith, ints)))

  orbit : (w : List Bool) → length w ≡ p → CongruentInt p (norm (λ l. q) p here w) (signed d (integral_coboundary (sum_value p (sum_above p d x) (word_cochains a c w)) s))
  orbit w e = go (d % 2) refl
    where
      go : (k : ℕ) → d % 2 ≡ k → CongruentInt p (norm (λ l. q) p here w) (signed d (integral_coboundary (sum_value p (choice k (cycle_less_one_power p (p - 2) (x (suc d))) (x (suc d))) (word_cochains a c w)) s))
      go (suc k) m =
          let odd : suc d % 2 ≡ 0 = omega arith in
          CongruentInt_trans
          (CongruentInt_of (ap (λ j. choice j (norm (λ l. q) p here w) (turn_back_less_one (λ l. q) here w)) (sym odd)))
          (step-above w e)
      go zero m =
          let odd : suc d % 2 ≡ 1 = omega arith in
          let two = prime.two in
          let k : ℕ = p - 2 in
          let size : suc (suc k) ≡ p = omega arith in
          let minus : Alike p p (turn_back_less_one (λ l. q) here) (λ v. signed d (above v)) =
          (λ v r. CongruentInt_trans
          (CongruentInt_of (ap (λ j. choice j (norm (λ l. q) p here v) (turn_back_less_one (λ l. q) here v)) (sym odd)))
          (step-above v r)) in
          let y : List SurjectionTerm = cycle_less_one_power p k (x (suc d)) in
          let z : ℤ = integral_coboundary (sum_value p y (word_cochains a c w)) s in
          let tz : ℤ = t_words (λ l. q) k above w in
          let last : CongruentInt p tz z =
          CongruentInt_trans
          (CongruentInt_of
          (adds-coboundary (λ f. t_words (λ l. q) k f w) (λ f g. t-sum (λ l. q) k f g w) (λ v t. sum_value p (x (suc d)) (word_cochains a c v) t) s))
          (coboundary-faces p s (λ t. t_words (λ l. q) k (λ v. sum_value p (x (suc d)) (word_cochains a c v) t) w) (sum_value p y (word_cochains a c w))
          (λ t v. CongruentInt_sym
          (power-words p (λ l. q) a c ca.cochain.degree cc.cochain.degree t pos_p (suc d) (x (suc d)) (may.terms (suc d)) k w e))) in
          CongruentInt_trans
          (CongruentInt_sym (t-norm (λ l. q) p prime (suc k) size here w))
          (CongruentInt_trans
          (CongruentInt_trans
          (CongruentInt_of (sym (t-inner (λ l. q) k here w)))
          (t-alike (λ l. q) p p k (turn_back_less_one (λ l. q) here) (λ v. signed d (above v)) minus w e))
          (CongruentInt_trans
          (CongruentInt_of (adds-signed (λ f. t_words (λ l. q) k f w) (λ f g. t-sum (λ l. q) k f g w) d above))
          (CongruentInt-signed d last)))

-- all words

all-sum : (k : ℕ) (h g : List Bool → ℤ) → all_words k (λ w. h w +ℤ g w) ≡ all_words k h +ℤ all_words k g
all-sum zero h g = refl
all-sum (suc k) h g =
    let a = all-sum k (λ w. h (false ∷ w)) (λ w. g (false ∷ w)) in
    let b = all-sum k (λ w. h (true ∷ w)) (λ w. g (true ∷ w)) in
    omega (arith, ints)

adds-all : {A : Type 0} (F : (A → ℤ) → ℤ) → ((h g : A → ℤ) → F (λ a. h a +ℤ g a) ≡ F h +ℤ F g) → (k : ℕ) (H : List Bool → A → ℤ) → F (λ a. all_words k (λ w. H w a)) ≡ all_words k (λ w. F (H w))
adds-all F adds zero H = refl
adds-all F adds (suc k) H =
    adds (λ a. all_words k (λ w. H (false ∷ w) a)) (λ a. all_words k (λ w. H (true ∷ w) a))
    ∙ (λ i. adds-all F adds k (λ w. H (false ∷ w)) i +ℤ adds-all F adds k (λ w. H (true ∷ w)) i)

product-words : (a c : List ℕ → ℤ) (k : ℕ) (fs : List (List ℕ)) → value_product (copies k (λ f. a f +ℤ c f)) fs ≡ all_words k (λ w. value_product (word_cochains a c w) fs)
product-words a c zero fs = refl
product-words a c (suc k) [] = let z = adds-zero (all_words k) (all-sum k) in omega (arith, ints)
product-words a c (suc k) (f ∷ fs) =
    ap (λ z. (a f +ℤ c f) *ℤ z) (product-words a c k fs)
    ∙ add-mul (a f) (c f) (all_words k (λ w. value_product (word_cochains a c w) fs))
    ∙ (λ i. sym (adds-scale (all_words k) (all-sum k) (a f) (λ w. value_product (word_cochains a c w) fs)) i +ℤ sym (adds-scale (all_words k) (all-sum k) (c f) (λ w. value_product (word_cochains a c w) fs)) i)

expand : (p : ℕ) (x : List SurjectionTerm) (a c : List ℕ → ℤ) (s : List ℕ) → operation_of p x (λ f. a f +ℤ c f) s ≡ all_words p (λ w. sum_value p x (word_cochains a c w) s)
expand p x a c s = ap (value_over x) (λ i u. one u i) ∙ adds-all (value_over x) (over-sum x) p (λ w u. operation_value p u (word_cochains a c w) s)
  where
    one : (u : List ℕ) → operation_value p u (copies p (λ f. a f +ℤ c f)) s ≡ all_words p (λ w. operation_value p u (word_cochains a c w) s)
    one u = ap (λ phi. cut_sum phi p u s) (λ i fs. product-words a c p fs i) ∙ adds-all (λ phi. cut_sum phi p u s) (cut_sum-sum p u s) p (λ w fs. value_product (word_cochains a c w) fs)

pub word_sum-sum : (ms : List (List Bool)) (h g : List Bool → ℤ) → word_sum ms (λ w. h w +ℤ g w) ≡ word_sum ms h +ℤ word_sum ms g
word_sum-sum [] h g = refl
word_sum-sum (w ∷ ms) h g = let a = word_sum-sum ms h g in omega (arith, ints)

pub word_sum-same : (p : ℕ) (ms : List (List Bool)) (h g : List Bool → ℤ) → HaveLength p ms → Alike p p h g → CongruentInt p (word_sum ms h) (word_sum ms g)
word_sum-same p [] h g k e = CongruentInt_refl (pos 0)
word_sum-same p (w ∷ ms) h g k e = CongruentInt-sum (e w k.0) (word_sum-same p ms h g k.1 e)

pub additive : (K : List ℕ → Type 0) (p d q : ℕ) (x : ℕ → List SurjectionTerm) (ms : List (List Bool)) (a c : List ℕ → ℤ) (s : List ℕ) →
    IsFaceClosed K → IsPrime p → IsMayFamily p x → IsOrbitTable p ms → IsIntegralCocycle K p q a → IsIntegralCocycle K p q c → K s → 1 ≤ length s →
    CongruentInt p (operation_of p (x d) (λ f. a f +ℤ c f) s) ((operation_of p (x d) a s +ℤ operation_of p (x d) c s) +ℤ signed d (integral_coboundary (orbit_sum p d x ms a c) s))
additive K p d q x ms a c s fc prime may orbits ca cc ks hs =
    CongruentInt_trans
    (CongruentInt_of (expand p (x d) a c s ∙ orbits.once v))
    (CongruentInt-sum
    (CongruentInt_of (λ i. sum_value p (x d) (letters-first a c p i) s +ℤ sum_value p (x d) (letters-copies a c p i) s))
    (CongruentInt_trans
    (word_sum-same p ms (norm (λ l. 0) p v) g orbits.long
    (λ w e. CongruentInt_trans (plain-norm p q prime.parity p v w e) (orbit K fc p d q x a c s prime may ca cc ks (let t = prime.two in omega arith) hs w e)))
    (CongruentInt_of
    (adds-signed (word_sum ms) (word_sum-sum ms) d (λ w. integral_coboundary (sum_value p (sum_above p d x) (word_cochains a c w)) s)
    ∙ ap (signed d) (adds-coboundary (word_sum ms) (word_sum-sum ms) (λ w t. sum_value p (sum_above p d x) (word_cochains a c w) t) s)))))
  where
    v : List Bool → ℤ
    v w = sum_value p (x d) (word_cochains a c w) s

    g : List Bool → ℤ
    g w = signed d (integral_coboundary (sum_value p (sum_above p d x) (word_cochains a c w)) s)
