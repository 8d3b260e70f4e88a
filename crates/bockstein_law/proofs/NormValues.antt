-- The sum over the turns of a word of cocycles: in even degrees its value is a coboundary, modulo p.
use Rattle.std.proofs.{Common.{◌≡◌, ℕ, zero, suc, ◌%◌, ◌≤◌, true, false, Bool, cond, List, map, length, refl, sym, ap, arith, ℤ, pos, ◌+ℤ◌, ◌*ℤ◌, neg_ℤ}, Math.IntN.{suc_ℤ-*ℤ, zero-*ℤ}, lemmas.Int.ints}
use Rattle.interval_cut_law.specs.Names.{one_coboundary, operation_value}
use Rattle.signed_sum.{proofs.Names.{mul_comm, signed-parity}, specs.Names.signed}
use Rattle.simplicial_law.{proofs.Names.{CongruentInt-sum, CongruentInt_from, CongruentInt_multiple, CongruentInt_of, CongruentInt_refl, CongruentInt_sym, CongruentInt_trans}, specs.Names.{CongruentInt, integral_coboundary}}
use Rattle.steenrod_law.{proofs.AdditiveMaps.{adds-coboundary, adds-zero}, proofs.Forms.{IsFaceClosed, IsIntegralCocycle, IsMayFamily, SurjectionTerm, boundary_over, value_over}, proofs.Staircase.{Alike, norm-alike}, proofs.ValuesOnFaces.value-none-at, proofs.WordBoundary.{letters-normalized, relation, some, sum-law}, proofs.WordCochains.{degrees-letters, over-same, over-sum, word-closed}, proofs.WordLemmas.{norm-minus, norm-sum}, specs.Names.{sum_value, word_cochains, choice, norm, turn_back_less_one}}

-- the sum of the sums of the first 0, 1, .., k - 1 inverse turns
abbrev pub norms : (Bool → ℕ) → ℕ → (List Bool → ℤ) → List Bool → ℤ
norms deg zero h w = pos 0
norms deg (suc k) h w = norms deg k h w +ℤ norm deg k h w

module _ (deg : Bool → ℕ) where
  norms-sum : (k : ℕ) (h g : List Bool → ℤ) (w : List Bool) → norms deg k (λ v. h v +ℤ g v) w ≡ norms deg k h w +ℤ norms deg k g w
  norms-sum zero h g w = refl
  norms-sum (suc k) h g w = let a = norms-sum k h g w in let b = norm-sum deg k h g w in omega (arith, ints)

  -- of the differences of turns only the ends are left
  norms-minus : (k : ℕ) (h : List Bool → ℤ) (w : List Bool) → norms deg k (turn_back_less_one deg h) w ≡ norm deg k h w +ℤ neg_ℤ (pos k *ℤ h w)
  norms-minus zero h w = let z = zero-*ℤ (h w) in omega (arith, ints)
  norms-minus (suc k) h w =
      let a = norms-minus k h w in
      let b = norm-minus deg k h w in
      let m = suc_ℤ-*ℤ (pos k) (h w) in
      omega (arith, ints)

  norms-alike : (p m k : ℕ) (h g : List Bool → ℤ) → Alike p m h g → Alike p m (norms deg k h) (norms deg k g)
  norms-alike p m zero h g a w e = CongruentInt_refl (pos 0)
  norms-alike p m (suc k) h g a w e = CongruentInt-sum (norms-alike p m k h g a w e) (norm-alike p deg m k h g a w e)

module _ (K : List ℕ → Type 0) (fc : IsFaceClosed K) (p : ℕ) (deg : Bool → ℕ) (x : ℕ → List SurjectionTerm) (may : IsMayFamily p x) (a b : List ℕ → ℤ) (ca : IsIntegralCocycle K p (deg false) a) (cb : IsIntegralCocycle K p (deg true) b) (pos_p : 1 ≤ p) (s : List ℕ) (ks : K s) (hs : 1 ≤ length s) where
  -- the boundary law on a word of cocycles
  closed-word : (m : ℕ) (w : List Bool) →
      CongruentInt p (boundary_over (x m) (λ u. operation_value p u (word_cochains a b w) s) +ℤ signed m (integral_coboundary (sum_value p (x m) (word_cochains a b w)) s)) (pos 0)
  closed-word m w =
      let f : List ℕ → ℤ = λ u. one_coboundary (map deg w) (word_cochains a b w) (λ bs. operation_value p u bs s) in
      CongruentInt_trans
      (CongruentInt_of (sym (sum-law p m (x m) (map deg w) (word_cochains a b w) s (may.terms m) (letters-normalized a b ca.cochain.plain cb.cochain.plain w) (degrees-letters deg a b ca.cochain.degree cb.cochain.degree w) pos_p hs)))
      (CongruentInt_trans
      (over-same p m (x m) f (λ u. pos 0) (may.terms m)
      (λ u o e. word-closed p deg a b w (λ bs. operation_value p u bs s) (λ l pre post. value-none-at p p u s pre post (integral_coboundary (cond l b a)) (some p u pos_p o) hs (λ g v. closed-letter l g (fc g s v ks)))))
      (CongruentInt_of (adds-zero (value_over (x m)) (over-sum (x m)))))
    where
      closed-letter : (l : Bool) (g : List ℕ) → K g → CongruentInt p (integral_coboundary (cond l b a) g) (pos 0)
      closed-letter true = cb.closed
      closed-letter false = ca.closed

  abbrev here : ℕ → List Bool → ℤ
  here d w = sum_value p (x d) (word_cochains a b w) s

  abbrev above : ℕ → List Bool → ℤ
  above d w = integral_coboundary (sum_value p (x (suc d)) (word_cochains a b w)) s

  turn-above : (d : ℕ) → d % 2 ≡ 0 → Alike p p (turn_back_less_one deg (here d)) (above d)
  turn-above d e w l =
      let odd : suc d % 2 ≡ 1 = omega (arith, e) in
      let sign : signed (suc d) (above d w) ≡ neg_ℤ (above d w) = signed-parity (suc d) 1 (above d w) (omega (arith, odd)) in
      CongruentInt_trans
      (CongruentInt_of (ap (λ j. choice j (norm deg p (here d) w) (turn_back_less_one deg (here d) w)) (sym odd)))
      (CongruentInt_trans
      (CongruentInt_sym (relation p deg a b ca.cochain cb.cochain s pos_p hs x may d w l))
      (CongruentInt_from (closed-word (suc d) w) (omega (arith, ints))))

  -- the sum over the turns
  pub norm-above : (d : ℕ) → d % 2 ≡ 0 → (w : List Bool) → length w ≡ p →
      CongruentInt p (norm deg p (here d) w) (integral_coboundary (λ t. norms deg p (λ v. sum_value p (x (suc d)) (word_cochains a b v) t) w) s)
  norm-above d e w l =
      let n : ℤ = norm deg p (here d) w in
      let y : ℤ = pos p *ℤ here d w in
      let m = norms-minus deg p (here d) w in
      let none : CongruentInt p y (pos 0) = CongruentInt_trans (CongruentInt_of (mul_comm (pos p) (here d w))) (CongruentInt_multiple p (here d w)) in
      CongruentInt_trans
      (CongruentInt_from none (let k : n ≡ norms deg p (turn_back_less_one deg (here d)) w +ℤ y = omega (arith, ints) in omega (arith, ints)))
      (CongruentInt_trans
      (norms-alike deg p p p (turn_back_less_one deg (here d)) (above d) (turn-above d e) w l)
      (CongruentInt_of (adds-coboundary (λ f. norms deg p f w) (λ f g. norms-sum deg p f g w) (λ v t. sum_value p (x (suc d)) (word_cochains a b v) t) s)))
