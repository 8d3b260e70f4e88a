-- Lifts, and the laws of the Bockstein on classes.
use Rattle.std.{proofs.Common.{◌≡◌, ℕ, ◌+◌, ◌*◌, ◌%◌, List, map, sym, ◌∙◌, ap, arith, ℤ, pos, ◌+ℤ◌, ◌*ℤ◌, ◌-ℤ◌}, specs.Int.int_div_euclid, proofs.Math.IntN.{pos-*ℤ-pos, *ℤ-zero}, proofs.lemmas.Int.ints}
use Rattle.linear_law.{proofs.Names.{IsLinearOnClasses, class_matrix, on_classes, Congruent_mod, Congruent_of, Congruent_sym}, specs.Names.{CarriesCoordinates, IsField, negated, Each, combination}}
use Rattle.signed_sum.proofs.Names.{mul-add}
use Rattle.simplicial_law.{proofs.Names.{bounds_close, coboundaries, cocycles, integral_coboundary_law, integral_congruence_law, CongruentInt-scale, CongruentInt-sum, CongruentInt_from, CongruentInt_of, CongruentInt_refl, CongruentInt_sym, CongruentInt_trans}, specs.Names.{Cochain, HasCoordinates, IsCoboundary, IsCocycle, coboundary, CongruentInt, integral_coboundary, IsSimplex}}
use Rattle.steenrod_law.{proofs.AdditiveMaps.{adds-scale, coboundary-sum}, proofs.Complexes.{coboundary-residues, difference-same, residue-same, residue_cochain-empty}, proofs.OperationLaws.{above_one, positive_here, to_residues}, proofs.WordCochains.coboundary-twice, specs.Names.{residue, residue_cochain}}
use Rattle.bockstein_law.{specs.Bockstein.{bockstein, lift}, specs.Laws.ClassLaw, proofs.Quotients.{cancelled, divided, mul_swap, quotient}, proofs.SimplexFaces.on_simplices}

-- the coboundary of a multiple
pub coboundary-scale : (c : ℤ) (a : List ℕ → ℤ) (s : List ℕ) → integral_coboundary (λ t. c *ℤ a t) s ≡ c *ℤ integral_coboundary a s
coboundary-scale c a s = adds-scale (λ b. integral_coboundary b s) (coboundary-sum s) c a

abbrev pub whole_bockstein : ℕ → Cochain → List ℕ → ℤ
whole_bockstein p z s = int_div_euclid (integral_coboundary (lift p z) s) (pos p)

-- how many times p the lift of z is above a
abbrev pub lift_difference : ℕ → Cochain → (List ℕ → ℤ) → List ℕ → ℤ
lift_difference p z a t = int_div_euclid (lift p z t -ℤ a t) (pos p)

module _ (p : ℕ) (field : IsField p) where
  pub lift-same : (z : Cochain) (t : List ℕ) → CongruentInt p (lift p z t) (pos (z t))
  lift-same z t = integral_congruence_law.whole p (z t % p) (z t) (Congruent_mod p (z t))

  pub bockstein-same : (z : Cochain) (s : List ℕ) → CongruentInt p (pos (bockstein p z s)) (whole_bockstein p z s)
  bockstein-same z s = residue-same p (whole_bockstein p z s) (above_one p field)

  module _ (facets : List (List ℕ)) where
    -- what is congruent to the coboundary of v is a coboundary
    pub bounded-by : (n : ℕ) (g : Cochain) (v : List ℕ → ℤ) → ((s : List ℕ) → IsSimplex facets n s → CongruentInt p (pos (g s)) (integral_coboundary v s)) → IsCoboundary facets n p g
    bounded-by n g v e = record {
      below = residue_cochain p v;
      nothing = residue_cochain-empty p v;
      same = record { at = λ s on. to_residues p field (CongruentInt_trans (e s on) (coboundary-residues p v s (above_one p field))) };
    }

    -- a lift a of z with a coboundary that is p times b: the quotient is b up to the coboundary of the difference
    pub another-lift : (q : ℕ) (z : Cochain) (a b : List ℕ → ℤ) → ((t : List ℕ) → IsSimplex facets q t → CongruentInt p (a t) (pos (z t))) →
        ((s : List ℕ) → IsSimplex facets (q + 1) s → integral_coboundary a s ≡ pos p *ℤ b s) → (s : List ℕ) → IsSimplex facets (q + 1) s →
        CongruentInt p (pos (bockstein p z s)) (b s +ℤ integral_coboundary (lift_difference p z a) s)
    another-lift q z a b e d s on =
        let v : List ℕ → ℤ = lift_difference p z a in
        let whole : integral_coboundary (lift p z) s ≡ pos p *ℤ (b s +ℤ integral_coboundary v s) =
        on_simplices facets q (lift p z) (λ t. a t +ℤ pos p *ℤ v t) s on at ∙ coboundary-sum s a (λ t. pos p *ℤ v t)
        ∙ (λ i. d s on i +ℤ coboundary-scale (pos p) v s i) ∙ sym (mul-add (pos p) (b s) (integral_coboundary v s)) in
        CongruentInt_trans (bockstein-same z s)
        (CongruentInt_of (ap (λ y. int_div_euclid y (pos p)) whole ∙ quotient p (b s +ℤ integral_coboundary v s) (positive_here p field)))
      where
        at : (t : List ℕ) → IsSimplex facets q t → lift p z t ≡ a t +ℤ pos p *ℤ lift_difference p z a t
        at t k =
            let f = divided p (lift p z t -ℤ a t) (positive_here p field) (CongruentInt_from (CongruentInt_trans (lift-same z t) (CongruentInt_sym (e t k))) (omega (arith, ints))) in
            omega (arith, ints)

    pub each-lift : (q : ℕ) (z : Cochain) (a b : List ℕ → ℤ) (c : Cochain) → ((t : List ℕ) → IsSimplex facets q t → CongruentInt p (a t) (pos (z t))) →
        ((s : List ℕ) → IsSimplex facets (q + 1) s → integral_coboundary a s ≡ pos p *ℤ b s) → ((s : List ℕ) → IsSimplex facets (q + 1) s → CongruentInt p (pos (c s)) (b s)) →
        IsCoboundary facets (q + 1) p (λ s. bockstein p z s + negated p (c s))
    each-lift q z a b c e d g =
        bounded-by (q + 1) (λ s. bockstein p z s + negated p (c s)) (lift_difference p z a)
        (λ s on. CongruentInt_from (difference-same p (bockstein p z s) (c s) (b s +ℤ integral_coboundary (lift_difference p z a) s) (b s) (above_one p field) (another-lift q z a b e d s on) (g s on)) (omega (arith, ints)))

    -- the coboundary of the lift of a cocycle is p times the quotient
    multiple-of : (q : ℕ) (z : Cochain) → IsCocycle facets q p z → (s : List ℕ) → IsSimplex facets (q + 1) s → integral_coboundary (lift p z) s ≡ pos p *ℤ whole_bockstein p z s
    multiple-of q z h s on = divided p (integral_coboundary (lift p z) s) (positive_here p field)
        (CongruentInt_trans (integral_coboundary_law.above_vertices p (lift p z) z s (above_one p field) (let l = on.size in omega arith) (lift-same z))
        (integral_congruence_law.whole p (coboundary p z s) 0 (h.at s on)))

    pub closed : (q : ℕ) (z : Cochain) → IsCocycle facets q p z → IsCocycle facets (q + 1) p (bockstein p z)
    closed q z h = record {
      at = λ s on. to_residues p field
          (CongruentInt_trans (CongruentInt_sym (integral_coboundary_law.above_vertices p (whole_bockstein p z) (bockstein p z) s (above_one p field) (let l = on.size in omega arith) (λ t. CongruentInt_sym (bockstein-same z t))))
          (CongruentInt_of (cancelled p (integral_coboundary (whole_bockstein p z) s) (pos 0) (positive_here p field)
          (sym (coboundary-scale (pos p) (whole_bockstein p z) s)
          ∙ sym (on_simplices facets (q + 1) (integral_coboundary (lift p z)) (λ t. pos p *ℤ whole_bockstein p z t) s on (multiple-of q z h))
          ∙ coboundary-twice (lift p z) s ∙ sym (*ℤ-zero (pos p))))));
    }

    on-classes : (q : ℕ) → IsLinearOnClasses p (IsSimplex facets q) (IsSimplex facets (q + 1)) (IsCocycle facets q p) (IsCoboundary facets q p) (IsCoboundary facets (q + 1) p) (bockstein p)
    on-classes q = record {
      alike = λ v w h. record { at = λ s on. Congruent_of (ap (λ y. residue p (int_div_euclid y (pos p))) (on_simplices facets q (lift p v) (lift p w) s on (λ t k. ap pos (h.at t k).same))) };
      plus = λ k v w hv hw.
          each-lift q (λ t. v t + k * w t) (λ t. lift p v t +ℤ (pos k *ℤ lift p w t)) (λ s. whole_bockstein p v s +ℤ (pos k *ℤ whole_bockstein p w s)) (λ s. bockstein p v s + k * bockstein p w s)
          (λ t on. sums k (lift-same v t) (lift-same w t))
          (λ s on. coboundary-sum s (lift p v) (λ t. pos k *ℤ lift p w t)
          ∙ (λ i. multiple-of q v hv s on i +ℤ (coboundary-scale (pos k) (lift p w) s ∙ ap (λ m. pos k *ℤ m) (multiple-of q w hw s on) ∙ mul_swap (pos k) (pos p) (whole_bockstein p w s)) i)
          ∙ sym (mul-add (pos p) (whole_bockstein p v s) (pos k *ℤ whole_bockstein p w s)))
          (λ s on. CongruentInt_sym (sums k (CongruentInt_sym (bockstein-same v s)) (CongruentInt_sym (bockstein-same w s))));
      bound = λ z h.
          let y : List ℕ → ℤ = λ t. pos (h.below t) in
          (coboundaries facets (q + 1) p (above_one p field)).alike (bockstein p z) (λ s. bockstein p z s + negated p 0) (record { at = λ s on. Congruent_of (omega arith) })
          (each-lift q z (integral_coboundary y) (λ s. pos 0) (λ s. 0)
          (λ t on. CongruentInt_trans (integral_coboundary_law.everywhere p y h.below t (above_one p field) h.nothing (λ u. CongruentInt_refl (y u)))
          (integral_congruence_law.whole p (coboundary p h.below t) (z t) (Congruent_sym (h.same.at t on))))
          (λ s on. coboundary-twice y s ∙ sym (*ℤ-zero (pos p))) (λ s on. CongruentInt_refl (pos 0)));
    }
      where
        sums : {x y : ℤ} {v w : ℕ} (k : ℕ) → CongruentInt p x (pos v) → CongruentInt p y (pos w) → CongruentInt p (x +ℤ (pos k *ℤ y)) (pos (v + k * w))
        sums {x} {y} {v} {w} k h g =
            let m = pos-*ℤ-pos k w in
            let e : pos v +ℤ (pos k *ℤ pos w) ≡ pos (v + k * w) = omega (arith, ints) in
            CongruentInt_trans (CongruentInt-sum h (CongruentInt-scale (pos k) g)) (CongruentInt_of e)

    pub linear : (q : ℕ) (zs : List Cochain) (z : Cochain) (cs : List ℕ) → Each (IsCocycle facets q p) zs → HasCoordinates facets q p zs z cs →
        IsCoboundary facets (q + 1) p (λ s. bockstein p z s + negated p (combination cs (map (bockstein p) zs) s))
    linear q =
        on_classes p (above_one p field) (coboundaries facets (q + 1) p (above_one p field)) (cocycles facets q p (above_one p field)) (bounds_close facets q p (above_one p field)) (bockstein p) (on-classes q)

    pub matrix : (q : ℕ) → CarriesCoordinates p (IsCocycle facets q p) (IsCoboundary facets q p) (IsCoboundary facets (q + 1) p) (bockstein p)
    matrix q =
        class_matrix p (above_one p field) (coboundaries facets (q + 1) p (above_one p field)) (cocycles facets q p (above_one p field)) (bounds_close facets q p (above_one p field)) (bockstein p) (on-classes q)

pub class_law : ClassLaw
class_law = record {
  closed = λ facets p q z field. closed p field facets q z;
  each_lift = λ facets p q z a b field e d. each-lift p field facets q z a b (λ s. residue p (b s)) e d (λ s on. residue-same p (b s) (above_one p field));
  linear = λ facets p q zs z cs field. linear p field facets q zs z cs;
  matrix = λ facets p q field. matrix p field facets q;
}
