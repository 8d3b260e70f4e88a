-- The Bockstein of a power.
use Rattle.std.{proofs.Common.{◌≡◌, ℕ, zero, suc, ◌+◌, ◌*◌, ◌-◌, ◌%◌, ◌≤◌, false, List, [], length, refl, sym, ◌∙◌, ap, arith, ℤ, pos, ◌+ℤ◌, ◌*ℤ◌, neg_ℤ}, specs.Int.int_div_euclid, specs.List.AllZip, proofs.Math.IntN.{pos-*ℤ-pos, *ℤ-zero}, proofs.Math.Nat.zero-div, proofs.lemmas.Int.ints}
use Rattle.linear_law.{proofs.Names.{multiple_in, Congruent_of, Congruent_trans, coordinates-apart, length-copies}, specs.Names.{Congruent, IsField, negated, Each, copies, matrix_times}}
use Rattle.signed_sum.proofs.Names.{mul-add, mul-neg, mul_comm}
use Rattle.simplicial_law.{proofs.Names.{coboundaries, cocycles, integral_congruence_law, negated_whole, CongruentInt-neg, CongruentInt-scale, CongruentInt-sum, CongruentInt_from, CongruentInt_multiple, CongruentInt_of, CongruentInt_sym, CongruentInt_trans}, specs.Names.{AgreesOnSimplices, Cochain, HasCoordinates, IsCoboundary, IsCocycle, IsCohomologyBasis, CongruentInt, integral_coboundary, IsSimplex}}
use Rattle.steenrod_law.{proofs.AdditiveMaps.{adds-neg, coboundary-sum}, proofs.Complexes.{extended-cochain, extended-cocycle, weak-closed, weak_of_simplex}, proofs.Forms.{IsCochain, IsIntegralCocycle}, proofs.OperationLaws.{above_one, family_here, may_operation-closed, positive_here, value-same, vertices, whole_operation}, proofs.PowerLaws.bockstein-as, proofs.Staircase.even-times, proofs.WordCochains.{coboundary-cochain, coboundary-twice}, specs.Names.{IsBocksteinPower, IsPower, IsWeakSimplex, extended, may_operation, power_degree, scaled_operation, sum_value, word_cochains, boundary_value, letter_degree}}
use Rattle.table_reduction_law.specs.Names.{may_element}
use Rattle.bockstein_law.{specs.Bockstein.bockstein, specs.Laws.{BocksteinRows, PowerLaw}, proofs.Lifts.{closed, coboundary-scale, each-lift, matrix}, proofs.NormValues.{norm-above, norms}, proofs.Quotients.{cancelled, divided, mul_swap}, proofs.SimplexFaces.on_faces, proofs.WholeValues.whole-coboundary, proofs.WordPlaces.{boundary-norm, one_true}}

module _ (k : ℕ) (field : IsField (suc k)) (even : k % 2 ≡ 0) (facets : List (List ℕ)) (q e : ℕ) (odd : e % 2 ≡ 1) (z : Cochain) (cocycle : IsCocycle facets q (suc k) z) where
  abbrev p : ℕ
  p = suc k

  -- the cocycle with whole values, and the quotient of its coboundary
  abbrev a : List ℕ → ℤ
  a = extended q z

  abbrev b : List ℕ → ℤ
  b f = int_div_euclid (integral_coboundary a f) (pos p)

  za : IsIntegralCocycle (IsWeakSimplex facets) p q a
  za = extended-cocycle facets q p z (above_one p field) cocycle

  multiple : (f : List ℕ) → IsWeakSimplex facets f → integral_coboundary a f ≡ pos p *ℤ b f
  multiple f kf = divided p (integral_coboundary a f) (positive_here p field) (za.closed f kf)

  none : (f : List ℕ) → integral_coboundary a f ≡ pos 0 → b f ≡ pos 0
  none f h = ap (λ y. int_div_euclid y (pos p)) h ∙ ap pos (zero-div p)

  cb : IsCochain (suc q) b
  cb =
      let c = coboundary-cochain q a (extended-cochain q z) in
      record { degree = record { other = λ f n. none f (c.degree.other f n) }; plain = λ f d. none f (c.plain f d) }

  zb : IsIntegralCocycle (IsWeakSimplex facets) p (suc q) b
  zb = record {
    cochain = cb;
    closed = λ f kf. CongruentInt_of (cancelled p (integral_coboundary b f) (pos 0) (positive_here p field)
        (sym (coboundary-scale (pos p) b f)
        ∙ sym (on_faces (IsWeakSimplex facets) (weak-closed facets) (integral_coboundary a) (λ t. pos p *ℤ b t) f kf multiple)
        ∙ coboundary-twice a f ∙ sym (*ℤ-zero (pos p))));
  }

  -- the values of x_(e + 1) on the words with one b
  abbrev places : List ℕ → ℤ
  places s = boundary_value q (λ v. sum_value p (may_element p (suc e)) (word_cochains a b v) s) (copies p false)

  abbrev primitive : List ℕ → ℤ
  primitive t = norms (letter_degree q) p (λ v. sum_value p (may_element p (suc (suc e))) (word_cochains a b v) t) (one_true 0 k)

  places-bound : (s : List ℕ) → IsWeakSimplex facets s → 1 ≤ length s → CongruentInt p (places s) (integral_coboundary primitive s)
  places-bound s ks hs =
      let l = above_one p field in
      CongruentInt_trans
      (CongruentInt_of (boundary-norm q (λ v. sum_value p (may_element p (suc e)) (word_cochains a b v) s) k (omega (arith, l)) even))
      (norm-above (IsWeakSimplex facets) (weak-closed facets) p (letter_degree q) (may_element p) (family_here p field) a b za zb (positive_here p field) s ks hs (suc e) (omega (arith, odd)) (one_true 0 k) (ap suc (length-copies k false)))

  -- c times the value of x_(e + 1) on p times a, less a multiple of p
  abbrev power_lift : ℕ → List ℕ → ℤ
  power_lift c t = pos c *ℤ (whole_operation p (suc e) a t +ℤ neg_ℤ (pos p *ℤ primitive t))

  abbrev quotient_of : ℕ → List ℕ → ℤ
  quotient_of c s = pos c *ℤ ((places s +ℤ neg_ℤ (whole_operation p e a s)) +ℤ neg_ℤ (integral_coboundary primitive s))

  power_lift-coboundary : (c : ℕ) (s : List ℕ) → IsWeakSimplex facets s → 1 ≤ length s → integral_coboundary (power_lift c) s ≡ pos p *ℤ quotient_of c s
  power_lift-coboundary c s ks hs =
      let x : ℤ = places s +ℤ neg_ℤ (whole_operation p e a s) in
      let y : ℤ = integral_coboundary primitive s in
      let w = whole-coboundary (IsWeakSimplex facets) (weak-closed facets) k q (may_element p) (family_here p field) a b (extended-cochain q z) cb even s ks hs e odd multiple in
      let m = mul-add (pos p) x (neg_ℤ y) in
      let n = mul-neg (pos p) y in
      let less : integral_coboundary (λ t. neg_ℤ (pos p *ℤ primitive t)) s ≡ neg_ℤ (pos p *ℤ y) = adds-neg (λ f. integral_coboundary f s) (coboundary-sum s) (λ t. pos p *ℤ primitive t) ∙ ap neg_ℤ (coboundary-scale (pos p) primitive s) in
      let inner : integral_coboundary (λ t. whole_operation p (suc e) a t +ℤ neg_ℤ (pos p *ℤ primitive t)) s ≡ pos p *ℤ (x +ℤ neg_ℤ y) = coboundary-sum s (whole_operation p (suc e) a) (λ t. neg_ℤ (pos p *ℤ primitive t)) ∙ (let r : integral_coboundary (whole_operation p (suc e) a) s +ℤ integral_coboundary (λ t. neg_ℤ (pos p *ℤ primitive t)) s ≡ pos p *ℤ (x +ℤ neg_ℤ y) = omega (arith, ints) in r) in
      coboundary-scale (pos c) (λ t. whole_operation p (suc e) a t +ℤ neg_ℤ (pos p *ℤ primitive t)) s ∙ ap (λ v. pos c *ℤ v) inner ∙ mul_swap (pos c) (pos p) (x +ℤ neg_ℤ y)

  power_lift-same : (c : ℕ) (t : List ℕ) → 1 ≤ length t → CongruentInt p (power_lift c t) (pos (c * may_operation p (suc e) q z t))
  power_lift-same c t ht =
      let none : CongruentInt p (pos p *ℤ primitive t) (pos 0) = CongruentInt_trans (CongruentInt_of (mul_comm (pos p) (primitive t))) (CongruentInt_multiple p (primitive t)) in
      CongruentInt_trans
      (CongruentInt-scale (pos c) (CongruentInt_trans (CongruentInt-sum (CongruentInt_sym (value-same p field (suc e) q z t ht)) (CongruentInt-neg none)) (CongruentInt_of (plain (pos (may_operation p (suc e) q z t))))))
      (CongruentInt_of (pos-*ℤ-pos c (may_operation p (suc e) q z t)))
    where
      plain : (x : ℤ) → x +ℤ neg_ℤ (pos 0) ≡ x
      plain x = omega (arith, ints)

  quotient-same : (c : ℕ) (s : List ℕ) → IsWeakSimplex facets s → 1 ≤ length s → CongruentInt p (pos (negated p c * may_operation p e q z s)) (quotient_of c s)
  quotient-same c s ks hs =
      let m : ℕ = may_operation p e q z s in
      let v : ℤ = whole_operation p e a s in
      let r : negated p c * m ≡ negated p (c * m) = assoc (p - 1) c m in
      let one : CongruentInt p ((places s +ℤ neg_ℤ v) +ℤ neg_ℤ (integral_coboundary primitive s)) (neg_ℤ (pos m)) =
      CongruentInt_from (CongruentInt-sum (places-bound s ks hs) (value-same p field e q z s hs)) (omega (arith, ints)) in
      CongruentInt_trans (CongruentInt_of (ap pos r))
      (CongruentInt_trans (CongruentInt_sym (negated_whole p (c * m) (above_one p field)))
      (CongruentInt_trans (CongruentInt_of (ap neg_ℤ (sym (pos-*ℤ-pos c m)) ∙ sym (mul-neg (pos c) (pos m))))
      (CongruentInt-scale (pos c) (CongruentInt_sym one))))
    where
      assoc : (r c m : ℕ) → (r * c) * m ≡ r * (c * m)
      assoc r c m = omega arith

  bockstein-operation : (n c : ℕ) (x y : Cochain) → ((t : List ℕ) → IsSimplex facets n t → Congruent p (x t) (scaled_operation p (suc e) c q z t)) →
      ((s : List ℕ) → IsSimplex facets (n + 1) s → Congruent p (y s) (scaled_operation p e (negated p c) q z s)) → IsCoboundary facets (n + 1) p (λ s. bockstein p x s + negated p (y s))
  bockstein-operation n c x y hx hy =
      each-lift p field facets n x (power_lift c) (quotient_of c) y
      (λ t on. CongruentInt_trans (power_lift-same c t (vertices p field facets n t on)) (CongruentInt_sym (integral_congruence_law.whole p (x t) (scaled_operation p (suc e) c q z t) (hx t on))))
      (λ s on. power_lift-coboundary c s (weak_of_simplex facets (n + 1) s on) (vertices p field facets (n + 1) s on))
      (λ s on. CongruentInt_trans (integral_congruence_law.whole p (y s) (scaled_operation p e (negated p c) q z s) (hy s on)) (quotient-same c s (weak_of_simplex facets (n + 1) s on) (vertices p field facets (n + 1) s on)))

positive : (a b : ℕ) → 1 ≤ a → 1 ≤ b → 1 ≤ a * b
positive zero b h k = absurd (omega (arith, h))
positive (suc a) b h k = omega (arith, k)

bockstein-of-power : (facets : List (List ℕ)) (p s q : ℕ) (z b c : Cochain) → IsField p → IsCocycle facets q p z → IsPower facets p s q z b → IsBocksteinPower facets p s q z c →
    IsCoboundary facets (q + 2 * s * (p - 1) + 1) p (λ t. bockstein p b t + negated p (c t))
bockstein-of-power facets zero s q z b c field cocycle x y = absurd (let l = field.large in omega (arith, l))
bockstein-of-power facets (suc k) s q z b c field cocycle x y =
    let large = field.large in
    let odd = y.odd in
    let lt = y.defined in
    let d : ℕ = power_degree (suc k) s q in
    let one : 1 ≤ d = positive (q - 2 * s) (suc k - 1) (omega (arith, lt)) (omega (arith, large)) in
    let up : d ≡ suc (d - 1) = omega (arith, one) in
    let two : d % 2 ≡ 0 = even-times (q - 2 * s) (suc k - 1) (omega (arith, odd)) in
    let w = bockstein-as (suc k) field facets s q x.scale z c x.is_scale y in
    bockstein-operation k field (omega (arith, odd)) facets q (d - 1) (omega (arith, up, two)) z cocycle (q + 2 * s * (suc k - 1)) x.scale b c
    (λ t on. Congruent_trans (x.value.at t on) (Congruent_of (ap (λ j. scaled_operation (suc k) j x.scale q z t) up)))
    w.at

-- matrices
module _ (p : ℕ) (field : IsField p) (facets : List (List ℕ)) where
  scaled-closed : (n d c q : ℕ) (z b : Cochain) → IsCocycle facets q p z → AgreesOnSimplices facets n p b (scaled_operation p d c q z) → IsCocycle facets n p b
  scaled-closed n d c q z b h same =
      (cocycles facets n p (above_one p field)).alike b (scaled_operation p d c q z) same (multiple_in (cocycles facets n p (above_one p field)) c (may_operation p d q z) (may_operation-closed p field facets d q n z h))

  module _ (s q : ℕ) (vs : List Cochain) (basis : IsCohomologyBasis facets (q + 2 * s * (p - 1) + 1) p vs) where
    column-is : (us : List Cochain) (columns : List (List ℕ)) → Each (IsCocycle facets (q + 2 * s * (p - 1)) p) us →
        AllZip (λ column u. HasCoordinates facets (q + 2 * s * (p - 1) + 1) p vs (bockstein p u) column) columns us →
        (z b c : Cochain) (power both : List ℕ) → IsCocycle facets q p z → IsPower facets p s q z b → IsBocksteinPower facets p s q z c →
        HasCoordinates facets (q + 2 * s * (p - 1)) p us b power → HasCoordinates facets (q + 2 * s * (p - 1) + 1) p vs c both → both ≡ matrix_times p (length vs) columns power
    column-is us columns cu h z b c power both closed_z x y here above =
        let n : ℕ = q + 2 * s * (p - 1) in
        basis.only (bockstein p b) both (matrix_times p (length vs) columns power)
        (closed p field facets n b (scaled-closed n (power_degree p s q) x.scale q z b closed_z x.value))
        (coordinates-apart p (above_one p field) (coboundaries facets (n + 1) p (above_one p field)) vs (bockstein p b) c both (bockstein-of-power facets p s q z b c field closed_z x y) above)
        (matrix p field facets n us vs columns cu h b power here)

    zero-column : IsCohomologyBasis facets (q + 2 * s * (p - 1)) p [] → (z c : Cochain) (both : List ℕ) → IsCocycle facets q p z → IsBocksteinPower facets p s q z c →
        HasCoordinates facets (q + 2 * s * (p - 1) + 1) p vs c both → both ≡ copies (length vs) 0
    zero-column between z c both closed_z y above =
        let d : ℕ = power_degree p s q in
        let b : Cochain = scaled_operation p d y.scale q z in
        let same : AgreesOnSimplices facets (q + 2 * s * (p - 1)) p b b = record { at = λ t on. Congruent_of refl } in
        let here = between.coordinates b (scaled-closed (q + 2 * s * (p - 1)) d y.scale q z b closed_z same) in
        column-is [] [] tt tt z b c here.0 both closed_z (record { odd = y.odd; defined = (let l = y.defined in omega (arith, l)); scale = y.scale; is_scale = y.is_scale; value = same }) y here.1 above

pub power_law : PowerLaw
power_law = record {
  bockstein_of_power = bockstein-of-power;
  product = λ facets p s q us vs columns field cu basis h. column-is p field facets s q vs basis us columns cu h;
  nothing_between = λ facets p s q vs field between basis. zero-column p field facets s q vs basis between;
}

pub bockstein_rows : BocksteinRows
bockstein_rows = record { one = refl; none = refl; minus = refl }
