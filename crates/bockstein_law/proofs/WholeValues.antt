-- The coboundary of the value of a May element on p times one cochain, with whole values.
use Rattle.std.proofs.{Common.{◌≡◌, ℕ, zero, suc, ◌*◌, ◌%◌, ◌≤◌, false, Bool, List, [], ◌∷◌, ◌++◌, map, length, refl, sym, ◌∙◌, ap, arith, ℤ, pos, ◌+ℤ◌, ◌*ℤ◌, neg_ℤ}, Math.IntN.{*ℤ-zero, suc_ℤ-*ℤ, zero-*ℤ}, lemmas.Int.ints}
use Rattle.interval_cut_law.{proofs.CochainLaws.cut_sum-sum, specs.Names.{cut_sum, one_coboundary, operation_value, value_product}}
use Rattle.signed_sum.{proofs.Names.{mul-add, mul-neg, mul_assoc, signed-mul, signed-parity, bound-false, value_at-sum}, specs.Names.{signed, value_at, word_boundary, cycle, power_sum, turned}}
use Rattle.linear_law.proofs.Names.{length-copies}
use Rattle.simplicial_law.{proofs.Names.CongruentInt_of, specs.Names.{CongruentInt, integral_coboundary}}
use Rattle.steenrod_law.{proofs.AdditiveMaps.{adds-over, adds-scale}, proofs.Forms.{IsCochain, IsFaceClosed, IsMayFamily, IsWeakFace, SurjectionTerm, boundary_over, operation_of, value_over}, proofs.Staircase.{copies-end, degree-copies, even-times}, proofs.ValuesOnFaces.{at-mid, value-at}, proofs.WordBoundary.{letters-first, letters-normalized, some, sum-law}, proofs.WordCochains.{degrees-letters, over-equal, over-sum, word-cycle}, specs.Names.{sum_value, word_cochains, copies, letter_degree, boundary_value}}
use Rattle.bockstein_law.proofs.Quotients.{mul_swap}
use Rattle.surjection_law.specs.Names.{IsOnto}
use Rattle.table_reduction_law.{proofs.Permutations.{onto-turned, turned-at}, specs.Names.turned_values}

over-scale : (x : List SurjectionTerm) (c : ℤ) (h : List ℕ → ℤ) → value_over x (λ u. c *ℤ h u) ≡ c *ℤ value_over x h
over-scale x c h = adds-scale (value_over x) (over-sum x) c h

-- a multiple of one cochain
product-multiple : (c : ℤ) (pre post : List (List ℕ → ℤ)) (b : List ℕ → ℤ) (fs : List (List ℕ)) → value_product (pre ++ ((λ f. c *ℤ b f) ∷ post)) fs ≡ c *ℤ value_product (pre ++ (b ∷ post)) fs
product-multiple c [] post b [] = sym (*ℤ-zero c)
product-multiple c [] post b (f ∷ fs) = mul_assoc c (b f) (value_product post fs)
product-multiple c (a ∷ pre) post b [] = sym (*ℤ-zero c)
product-multiple c (a ∷ pre) post b (f ∷ fs) =
    ap (λ z. a f *ℤ z) (product-multiple c pre post b fs) ∙ mul_swap (a f) c (value_product (pre ++ (b ∷ post)) fs)

-- congruent modulo 0 is equal
equal_of : (a b : ℤ) → CongruentInt 0 a b → a ≡ b
equal_of a b h = let e = h.same in let z = *ℤ-zero h.multiple in omega (arith, ints)

-- a cochain that is c times b on the faces of s
value-multiple : (r : ℕ) (c : ℤ) (u s : List ℕ) (pre post : List (List ℕ → ℤ)) (z b : List ℕ → ℤ) → 1 ≤ length u → 1 ≤ length s → ((f : List ℕ) → IsWeakFace f s → z f ≡ c *ℤ b f) →
    operation_value r u (pre ++ (z ∷ post)) s ≡ c *ℤ operation_value r u (pre ++ (b ∷ post)) s
value-multiple r c u s pre post z b hu hs e =
    equal_of (operation_value r u (pre ++ (z ∷ post)) s) (operation_value r u (pre ++ ((λ f. c *ℤ b f) ∷ post)) s)
    (value-at 0 r u s (pre ++ (z ∷ post)) (pre ++ ((λ f. c *ℤ b f) ∷ post)) hu hs (at-mid 0 s pre post z (λ f. c *ℤ b f) (λ f w. CongruentInt_of (e f w))))
    ∙ ap (λ h. cut_sum h r u s) (λ i fs. product-multiple c pre post b fs i)
    ∙ adds-scale (λ phi. cut_sum phi r u s) (cut_sum-sum r u s) c (value_product (pre ++ (b ∷ post)))

-- one cochain replaced by its coboundary, which is c times b
one-multiple : (c : ℤ) (n k : ℕ) (a b : List ℕ → ℤ) (h : List (List ℕ → ℤ) → ℤ) → ((pre post : List (List ℕ → ℤ)) → h (pre ++ (integral_coboundary a ∷ post)) ≡ c *ℤ h (pre ++ (b ∷ post))) →
    one_coboundary (map (letter_degree n) (copies k false)) (word_cochains a b (copies k false)) h ≡ c *ℤ boundary_value n (λ v. h (word_cochains a b v)) (copies k false)
one-multiple c n zero a b h e = sym (*ℤ-zero c)
one-multiple c n (suc k) a b h e =
    let x : ℤ = h (b ∷ word_cochains a b (copies k false)) in
    let y : ℤ = boundary_value n (λ v. h (a ∷ word_cochains a b v)) (copies k false) in
    (λ i. e [] (word_cochains a b (copies k false)) i +ℤ signed n (one-multiple c n k a b (λ bs. h (a ∷ bs)) (λ pre post. e (a ∷ pre) post) i))
    ∙ ap (λ z. (c *ℤ x) +ℤ z) (signed-mul n c y) ∙ sym (mul-add c x (signed n y)) ∙ ap (λ z. c *ℤ z) (sym (bound-false n (λ v. h (word_cochains a b v)) (copies k false)))

module _ (K : List ℕ → Type 0) (fc : IsFaceClosed K) (k q : ℕ) (x : ℕ → List SurjectionTerm) (may : IsMayFamily (suc k) x) (a b : List ℕ → ℤ) (ca : IsCochain q a) (cb : IsCochain (suc q) b) (even : k % 2 ≡ 0) (s : List ℕ) (ks : K s) (hs : 1 ≤ length s) where
  abbrev p : ℕ
  p = suc k

  abbrev here : List ℕ → ℤ
  here u = operation_value p u (word_cochains a b (copies p false)) s

  pos_p : 1 ≤ p
  pos_p = omega arith

  -- turns do not change the value on p times one cochain
  here-cycle : (u : List ℕ) → IsOnto p u → here (map (cycle p) u) ≡ here u
  here-cycle u o =
      let m = even-times (q * q) k even in
      let v : List Bool → ℤ = λ w. operation_value p u (word_cochains a b w) s in
      word-cycle p (letter_degree q) a b ca.degree cb.degree s pos_p u (copies p false) o (length-copies p false)
      ∙ (λ i. signed (q * degree-copies (letter_degree q) k false i) (v (copies-end k false i)))
      ∙ signed-parity (q * (k * q)) 0 (here u) (let g : q * (k * q) ≡ (q * q) * k = omega arith in omega (arith, m, g))

  here-turned : (j : ℕ) (u : List ℕ) → IsOnto p u → here (turned p j u) ≡ here u
  here-turned zero u o = refl
  here-turned (suc j) u o = here-cycle (turned p j u) (onto-turned p j u o) ∙ here-turned j u o

  here-total : (j : ℕ) (u : List ℕ) → IsOnto p u → value_at here (power_sum (turned_values p) j u) ≡ pos j *ℤ here u
  here-total zero u o = sym (zero-*ℤ (here u))
  here-total (suc j) u o =
      let a = here-total j u o in
      let b = turned-at p j here u ∙ here-turned j u o in
      let c = suc_ℤ-*ℤ (pos j) (here u) in
      omega (arith, ints)

  -- the boundary of x_(e + 1), for odd e
  boundary-here : (e : ℕ) → e % 2 ≡ 1 → boundary_over (x (suc e)) here ≡ pos p *ℤ value_over (x e) here
  boundary-here e o =
      may.odd e o here
      ∙ over-equal p e (x e) (λ u. value_at here (power_sum (turned_values p) p u)) (λ u. pos p *ℤ here u) (may.terms e) (λ u on c. here-total p u on)
      ∙ over-scale (x e) (pos p) here

  -- where the coboundary of a is p times b, that of the value of x_(e + 1) on p times a is p times this
  pub whole-coboundary : (e : ℕ) → e % 2 ≡ 1 → ((f : List ℕ) → K f → integral_coboundary a f ≡ pos p *ℤ b f) →
      integral_coboundary (operation_of p (x (suc e)) a) s
      ≡ pos p *ℤ (boundary_value q (λ v. sum_value p (x (suc e)) (word_cochains a b v) s) (copies p false) +ℤ neg_ℤ (operation_of p (x e) a s))
  whole-coboundary e o d =
      let w : List Bool = copies p false in
      let cs : List (List ℕ → ℤ) = word_cochains a b w in
      let n : ℤ = integral_coboundary (sum_value p (x (suc e)) cs) s in
      let y : ℤ = boundary_value q (λ v. sum_value p (x (suc e)) (word_cochains a b v) s) w in
      let z : ℤ = value_over (x e) here in
      let law = sum-law p (suc e) (x (suc e)) (map (letter_degree q) w) cs s (may.terms (suc e)) (letters-normalized a b ca.plain cb.plain w) (degrees-letters (letter_degree q) a b ca.degree cb.degree w) pos_p hs in
      let left : value_over (x (suc e)) (λ u. one_coboundary (map (letter_degree q) w) cs (λ bs. operation_value p u bs s)) ≡ pos p *ℤ y =
      over-equal p (suc e) (x (suc e)) (λ u. one_coboundary (map (letter_degree q) w) cs (λ bs. operation_value p u bs s)) (λ u. pos p *ℤ boundary_value q (λ v. operation_value p u (word_cochains a b v) s) w) (may.terms (suc e))
      (λ u on c. one-multiple (pos p) q p a b (λ bs. operation_value p u bs s) (λ pre post. value-multiple p (pos p) u s pre post (integral_coboundary a) b (some p u pos_p on) hs (λ f v. d f (fc f s v ks))))
      ∙ over-scale (x (suc e)) (pos p) (λ u. boundary_value q (λ v. operation_value p u (word_cochains a b v) s) w)
      ∙ ap (λ m. pos p *ℤ m) (sym (adds-over (λ f. boundary_value q f w) (λ f g. value_at-sum f g (word_boundary q w)) (x (suc e)) (λ u v. operation_value p u (word_cochains a b v) s))) in
      let r = boundary-here e o in
      let plain : signed (suc e) n ≡ n = signed-parity (suc e) 0 n (omega (arith, o)) in
      let m = mul-add (pos p) y (neg_ℤ z) in
      let neg = mul-neg (pos p) z in
      let whole : n ≡ pos p *ℤ (y +ℤ neg_ℤ z) = omega (arith, ints) in
      ap (λ bs. integral_coboundary (sum_value p (x (suc e)) bs) s) (sym (letters-first a b p)) ∙ whole
      ∙ ap (λ bs. pos p *ℤ (y +ℤ neg_ℤ (sum_value p (x e) bs s))) (letters-first a b p)
