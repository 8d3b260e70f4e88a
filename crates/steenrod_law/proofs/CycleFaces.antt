-- The permutation law at the cycle: the last face goes to the front.
use Rattle.std.proofs.{Common.{◌≡◌, ℕ, zero, suc, ◌+◌, ◌*◌, ◌≤◌, cond, List, [], ◌∷◌, ◌++◌, map, length, refl, sym, ◌∙◌, ap, arith, append_assoc, length-append, ◌⊎◌, inl, inr, ℤ, pos, ◌*ℤ◌, ne_eqb, pred}, Math.IntN.{zero-*ℤ, *ℤ-zero, *ℤ_comm}, lemmas.List.length-map}
use native.Mathlib.Decide.{ℕ_discrete}
use Rattle.interval_cut_law.{proofs.CochainLaws.cut_sum-signed, proofs.Relabellings.relabelling_law, specs.Names.{cut_faces, cut_sum, cuts, sign_exponent, vertex_at, operation_value, value_product, degrees_passed, exchange_exponent, face_at, relabelled_faces}}
use Rattle.signed_sum.{proofs.Names.{less-no, occurs-01, mul_assoc, signed-zero, less-yes, length-numbers_from}, specs.Names.{less, numbers_from, occurs, signed, total}}
use Rattle.simplicial_law.specs.Names.{HasDegree, HaveDegrees, degree}
use Rattle.surjection_law.specs.Names.{IsOnto, IsRelabelling}
use Rattle.table_reduction_law.{proofs.Permutations.{cycle-last, cycle-other, moves-cycle, onto-moved, uncycle}, specs.Names.cycle}

uncycle-first : (p : ℕ) → uncycle p 1 ≡ p
uncycle-first p = refl

uncycle-other : (p v : ℕ) → (v ≡ 1 → ⊥) → uncycle p v ≡ pred v
uncycle-other p v n = ap (λ t. cond t p (pred v)) (ne_eqb v 1 n)

-- a turned surjection takes the same values
pub onto-cycle : (p : ℕ) (u : List ℕ) → 1 ≤ p → IsOnto p u → IsOnto p (map (cycle p) u)
onto-cycle p u le onto = onto-moved p (cycle p) (uncycle p) u (moves-cycle p) onto

-- the last face goes to the front
nth-mid : (pre : List (List ℕ)) (g : List ℕ) (gs : List (List ℕ)) → face_at (pre ++ (g ∷ gs)) (suc (length pre)) ≡ g
nth-mid [] g gs = refl
nth-mid (f ∷ pre) g gs = nth-mid pre g gs

pick-up : (p : ℕ) (pre gs : List (List ℕ)) (f : List ℕ) (n : ℕ) → length pre ≡ n → map (λ j. face_at (pre ++ (gs ++ (f ∷ []))) (uncycle p j)) (numbers_from (suc (suc n)) (length gs)) ≡ gs
pick-up p pre [] f n e = refl
pick-up p pre (g ∷ gs) f n e =
    let q = length-append pre (g ∷ []) in
    let one : face_at (pre ++ (g ∷ (gs ++ (f ∷ [])))) (uncycle p (suc (suc n))) ≡ g =
    ap (face_at (pre ++ (g ∷ (gs ++ (f ∷ []))))) (uncycle-other p (suc (suc n)) (λ q. absurd (omega arith)) ∙ ap suc (sym e)) ∙ nth-mid pre g (gs ++ (f ∷ [])) in
    let two : map (λ j. face_at (pre ++ (g ∷ (gs ++ (f ∷ [])))) (uncycle p j)) (numbers_from (suc (suc (suc n))) (length gs)) ≡ gs =
    ap (λ fs. map (λ j. face_at fs (uncycle p j)) (numbers_from (suc (suc (suc n))) (length gs))) (sym (append_assoc pre (g ∷ []) (gs ++ (f ∷ [])))) ∙ pick-up p (pre ++ (g ∷ [])) gs f (suc n) (omega arith) in
    (λ i. one i ∷ two i)

moved-cycle : (gs : List (List ℕ)) (f : List ℕ) → relabelled_faces (uncycle (suc (length gs))) (suc (length gs)) (gs ++ (f ∷ [])) ≡ f ∷ gs
moved-cycle gs f =
    let p : ℕ = suc (length gs) in
    (λ i. (ap (face_at (gs ++ (f ∷ []))) (uncycle-first p) ∙ nth-mid gs f []) i ∷ pick-up p [] gs f 0 refl i)

abbrev pub face_degrees : List (List ℕ) → ℕ
face_degrees [] = 0
face_degrees (g ∷ gs) = degree g + face_degrees gs

passing-cycle : (p m b : ℕ) (gs : List (List ℕ)) (f : List ℕ) → b + length gs ≡ p → 2 ≤ m → m ≤ suc b → degrees_passed (cycle p) m b (gs ++ (f ∷ [])) ≡ degree f
passing-cycle p m b [] f e h l =
    let q : cycle p b ≡ 1 = ap (cycle p) (omega arith) ∙ cycle-last p in
    let r : less (cycle p b) m * degree f ≡ 1 * degree f = ap (λ j. j * degree f) (ap (λ j. less j m) q ∙ less-yes 1 m h) in
    omega arith
passing-cycle p m b (g ∷ gs) f e h l =
    let q : cycle p b ≡ suc b = cycle-other p b (λ z. absurd (omega arith)) in
    let r : less (cycle p b) m * degree g ≡ 0 * degree g = ap (λ j. j * degree g) (ap (λ j. less j m) q ∙ less-no (suc b) m l) in
    let ih = passing-cycle p m (suc b) gs f (omega arith) h (omega arith) in
    omega arith

turned-cycle : (p b : ℕ) (gs : List (List ℕ)) (f : List ℕ) → b + length gs ≡ p → 1 ≤ b → exchange_exponent (cycle p) b (gs ++ (f ∷ [])) ≡ face_degrees gs * degree f
turned-cycle p b [] f e h = omega arith
turned-cycle p b (g ∷ gs) f e h =
    let q : cycle p b ≡ suc b = cycle-other p b (λ z. absurd (omega arith)) in
    let a : degrees_passed (cycle p) (cycle p b) (suc b) (gs ++ (f ∷ [])) ≡ degree f = ap (λ j. degrees_passed (cycle p) j (suc b) (gs ++ (f ∷ []))) q ∙ passing-cycle p (suc b) (suc b) gs f (omega arith) (omega arith) (omega arith) in
    let c : degree g * degrees_passed (cycle p) (cycle p b) (suc b) (gs ++ (f ∷ [])) ≡ degree g * degree f = ap (λ j. degree g * j) a in
    let ih = turned-cycle p (suc b) gs f (omega arith) (omega arith) in
    omega arith

product-end : (cs : List (List ℕ → ℤ)) (c : List ℕ → ℤ) (gs : List (List ℕ)) (f : List ℕ) → value_product (cs ++ (c ∷ [])) (gs ++ (f ∷ [])) ≡ value_product cs gs *ℤ c f
product-end [] c [] f = *ℤ_comm (c f) (pos 1)
product-end [] c (g ∷ []) f = *ℤ-zero (c g) ∙ sym (zero-*ℤ (c f))
product-end [] c (g ∷ h ∷ gs) f = *ℤ-zero (c g) ∙ sym (zero-*ℤ (c f))
product-end (a ∷ []) c [] f = *ℤ-zero (a f) ∙ sym (zero-*ℤ (c f))
product-end (a ∷ b ∷ cs) c [] f = *ℤ-zero (a f) ∙ sym (zero-*ℤ (c f))
product-end (a ∷ cs) c (g ∷ gs) f = ap (λ z. a g *ℤ z) (product-end cs c gs f) ∙ sym (mul_assoc (a g) (value_product cs gs) (c f))

abbrev pub sum_of : List ℕ → ℕ
sum_of [] = 0
sum_of (q ∷ qs) = q + sum_of qs

-- the places of faces
abbrev pub counts : List (List ℕ) → ℕ
counts [] = 0
counts (f ∷ fs) = length f + counts fs

-- the product is nothing, or the faces have the degrees of the cochains
pub degrees-or-zero : (qs : List ℕ) (cs : List (List ℕ → ℤ)) (gs : List (List ℕ)) → HaveDegrees qs cs → (value_product cs gs ≡ pos 0) ⊎ ((face_degrees gs ≡ sum_of qs) × (counts gs ≡ sum_of qs + length qs))
degrees-or-zero [] [] [] d = inr (refl, refl)
degrees-or-zero [] [] (g ∷ gs) d = inl refl
degrees-or-zero [] (a ∷ cs) gs d = absurd d
degrees-or-zero (q ∷ qs) [] gs d = absurd d
degrees-or-zero (q ∷ qs) (a ∷ cs) [] d = inl refl
degrees-or-zero (q ∷ qs) (a ∷ cs) (g ∷ gs) d = elim (ℕ_discrete (length g) (suc q)) [
  | no n ↦ inl (ap (λ z. z *ℤ value_product cs gs) (d.0.other g n) ∙ zero-*ℤ (value_product cs gs))
  | yes e ↦ elim (degrees-or-zero qs cs gs d.1) [
    | inl z ↦ inl (ap (λ y. a g *ℤ y) z ∙ *ℤ-zero (a g))
    | inr s ↦ inr ((λ i. pred (e i) + s.0 i), (let k = s.1 in omega arith))
  ]
]

turn-product : (q : ℕ) (qs : List ℕ) (c : List ℕ → ℤ) (cs : List (List ℕ → ℤ)) (gs : List (List ℕ)) (f : List ℕ) → HasDegree q c → HaveDegrees qs cs →
    signed (exchange_exponent (cycle (suc (length gs))) 1 (gs ++ (f ∷ []))) (value_product (c ∷ cs) (relabelled_faces (uncycle (suc (length gs))) (suc (length gs)) (gs ++ (f ∷ []))))
    ≡ signed (q * sum_of qs) (value_product (cs ++ (c ∷ [])) (gs ++ (f ∷ [])))
turn-product q qs c cs gs f d ds =
    (λ i. signed (turned-cycle (suc (length gs)) 1 gs f (omega arith) (omega arith) i) (value_product (c ∷ cs) (moved-cycle gs f i)))
    ∙ signs
    ∙ ap (signed (q * sum_of qs)) (*ℤ_comm (c f) (value_product cs gs) ∙ sym (product-end cs c gs f))
  where
    both : c f *ℤ value_product cs gs ≡ pos 0 → signed (face_degrees gs * degree f) (c f *ℤ value_product cs gs) ≡ signed (q * sum_of qs) (c f *ℤ value_product cs gs)
    both z = ap (signed (face_degrees gs * degree f)) z ∙ signed-zero (face_degrees gs * degree f) ∙ sym (ap (signed (q * sum_of qs)) z ∙ signed-zero (q * sum_of qs))

    signs : signed (face_degrees gs * degree f) (c f *ℤ value_product cs gs) ≡ signed (q * sum_of qs) (c f *ℤ value_product cs gs)
    signs = elim (ℕ_discrete (length f) (suc q)) [
      | no n ↦ both (ap (λ z. z *ℤ value_product cs gs) (d.other f n) ∙ zero-*ℤ (value_product cs gs))
      | yes e ↦ elim (degrees-or-zero qs cs gs ds) [
        | inl z ↦ both (ap (λ y. c f *ℤ y) z ∙ *ℤ-zero (c f))
        | inr s ↦ let k : sum_of qs * q ≡ q * sum_of qs = omega arith in ap (λ j. signed j (c f *ℤ value_product cs gs)) ((λ i. s.0 i * pred (e i)) ∙ k)
      ]
    ]

record LastForm (k : ℕ) (fs : List (List ℕ)) : Type 0 where
  front : List (List ℕ)
  final : List ℕ
  whole : fs ≡ front ++ (final ∷ [])
  size : length front ≡ k

last-form : (k : ℕ) (fs : List (List ℕ)) → length fs ≡ suc k → LastForm k fs
last-form k [] e = absurd (omega (arith, e))
last-form zero (f ∷ []) e = record { front = []; final = f; whole = refl; size = refl }
last-form zero (f ∷ g ∷ fs) e = absurd (omega (arith, e))
last-form (suc k) (f ∷ fs) e =
    let r = last-form k fs (omega (arith, e)) in
    record { front = f ∷ r.front; final = r.final; whole = ap (λ j. f ∷ j) r.whole; size = ap suc r.size }

length-faces : (ks u p : List ℕ) → length (cut_faces ks u p) ≡ length ks
length-faces [] u p = refl
length-faces (k ∷ ks) u p = ap suc (length-faces ks u p)

pub cut_sum-cong : (r : ℕ) (u s : List ℕ) (phi psi : List (List ℕ) → ℤ) → ((fs : List (List ℕ)) → length fs ≡ r → phi fs ≡ psi fs) → cut_sum phi r u s ≡ cut_sum psi r u s
cut_sum-cong r u s phi psi e =
    ap (λ h. total h (cuts u (pred (length s))))
    (λ i p. signed (sign_exponent u 0 p)
    (e (map (λ f. map (λ m. vertex_at s m) f) (cut_faces (numbers_from 1 r) u p)) (length-map (cut_faces (numbers_from 1 r) u p) (λ f. map (λ m. vertex_at s m) f) ∙ length-faces (numbers_from 1 r) u p ∙ length-numbers_from 1 r) i))

-- turning the surjection back is turning the cochains
pub value-cycle : (k q : ℕ) (u s qs : List ℕ) (c : List ℕ → ℤ) (cs : List (List ℕ → ℤ)) → IsOnto (suc k) u → HasDegree q c → HaveDegrees qs cs →
    operation_value (suc k) (map (cycle (suc k)) u) (c ∷ cs) s ≡ signed (q * sum_of qs) (operation_value (suc k) u (cs ++ (c ∷ [])) s)
value-cycle k q u s qs c cs onto d ds =
    relabelling_law (value_product (c ∷ cs)) (suc k) (cycle (suc k)) (uncycle (suc k)) u s (moves-cycle (suc k)) onto
    ∙ cut_sum-cong (suc k) u s (λ fs. signed (exchange_exponent (cycle (suc k)) 1 fs) (value_product (c ∷ cs) (relabelled_faces (uncycle (suc k)) (suc k) fs))) (λ fs. signed (q * sum_of qs) (value_product (cs ++ (c ∷ [])) fs)) one
    ∙ cut_sum-signed (suc k) u s (q * sum_of qs) (value_product (cs ++ (c ∷ [])))
  where
    shape : (gs : List (List ℕ)) (f : List ℕ) (j : ℕ) → length gs ≡ j →
        signed (exchange_exponent (cycle (suc j)) 1 (gs ++ (f ∷ []))) (value_product (c ∷ cs) (relabelled_faces (uncycle (suc j)) (suc j) (gs ++ (f ∷ [])))) ≡ signed (q * sum_of qs) (value_product (cs ++ (c ∷ [])) (gs ++ (f ∷ [])))
    shape gs f j e =
        ap (λ r. signed (exchange_exponent (cycle (suc r)) 1 (gs ++ (f ∷ []))) (value_product (c ∷ cs) (relabelled_faces (uncycle (suc r)) (suc r) (gs ++ (f ∷ []))))) (sym e)
        ∙ turn-product q qs c cs gs f d ds

    one : (fs : List (List ℕ)) → length fs ≡ suc k → signed (exchange_exponent (cycle (suc k)) 1 fs) (value_product (c ∷ cs) (relabelled_faces (uncycle (suc k)) (suc k) fs)) ≡ signed (q * sum_of qs) (value_product (cs ++ (c ∷ [])) fs)
    one fs e =
        let r = last-form k fs e in
        ap (λ gs. signed (exchange_exponent (cycle (suc k)) 1 gs) (value_product (c ∷ cs) (relabelled_faces (uncycle (suc k)) (suc k) gs))) r.whole
        ∙ shape r.front r.final k r.size
        ∙ ap (λ gs. signed (q * sum_of qs) (value_product (cs ++ (c ∷ [])) gs)) (sym r.whole)
