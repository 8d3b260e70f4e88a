-- The value of one surjection: on cocycles, and turned.
use Rattle.std.{proofs.Common.{◌≡◌, ℕ, suc, ◌+◌, ◌*◌, ◌≤◌, ◌<◌, List, [], ◌∷◌, ◌++◌, map, length, sum, refl, sym, ◌∙◌, ap, arith, ℤ, pos, ◌+ℤ◌}, specs.List.AllZip, proofs.lemmas.Int.ints, proofs.lemmas.List.Sums.sum_by-cons}
use Rattle.interval_cut_law.{proofs.BoundaryLaws.cochain_boundary_law, specs.Names.{AreNormalized, one_coboundary, operation_value}}
use Rattle.fp_field.specs.Element.{sign_power}
use Rattle.linear_law.proofs.Names.{length_alike}
use Rattle.signed_sum.{proofs.Names.{one-mul, signed-+, signed-parity, signed-signed, signed-zero}, specs.Names.{cycle, signed, unit_terms, value_at}}
use Rattle.simplicial_law.{proofs.Names.{CongruentInt-signed, CongruentInt-sum, CongruentInt_of, CongruentInt_refl, CongruentInt_sym, CongruentInt_trans}, specs.Names.{Cochain, IsCocycle, coboundary, CongruentInt, HaveDegrees, integral_coboundary}}
use Rattle.surjection_law.specs.Names.{caesura_count, surjection_boundary}
use Rattle.steenrod_law.{proofs.Complexes.{coboundary-residues, extended-cochain, extended-cocycle, residue_cochain-same, weak-closed, weak_of_simplex}, proofs.CycleFaces.{sum_of, value-cycle}, proofs.Forms.IsWeakFace, proofs.OperationLaws.{above_one, sign-same, to_residues, vertices}, proofs.ValuesOnFaces.value-none-at, specs.Names.{CocycleValueLaw, TurnedValueLaw, IsWeakSimplex, all_extended, extended, value_on, sum_value}}

-- the value of a sum of one surjection
one-value : (r : ℕ) (u : List ℕ) (cs : List (List ℕ → ℤ)) (s : List ℕ) → sum_value r (unit_terms (u ∷ [])) cs s ≡ operation_value r u cs s
one-value r u cs s = let e = one-mul (operation_value r u cs s) in omega (arith, ints)

-- z is 0 modulo p on the faces of s
abbrev IsNothing : ℕ → List ℕ → (List ℕ → ℤ) → Type 0
IsNothing p s z = (f : List ℕ) → IsWeakFace f s → CongruentInt p (z f) (pos 0)

-- the coboundaries of all cochains are
abbrev AreClosed : ℕ → List ℕ → List (List ℕ → ℤ) → Type 0
AreClosed p s [] = Unit {0}
AreClosed p s (a ∷ cs) = IsNothing p s (integral_coboundary a) × AreClosed p s cs

all-closed : (p : ℕ) (s qs : List ℕ) (cs : List (List ℕ → ℤ)) (h : List (List ℕ → ℤ) → ℤ) → AreClosed p s cs →
    ((pre post : List (List ℕ → ℤ)) (z : List ℕ → ℤ) → IsNothing p s z → CongruentInt p (h (pre ++ (z ∷ post))) (pos 0)) →
    CongruentInt p (one_coboundary qs cs h) (pos 0)
all-closed p s [] cs h k e = CongruentInt_refl (pos 0)
all-closed p s (q ∷ qs) [] h k e = CongruentInt_refl (pos 0)
all-closed p s (q ∷ qs) (a ∷ cs) h k e =
    let ih = CongruentInt-signed q (all-closed p s qs cs (λ bs. h (a ∷ bs)) k.1 (λ pre post z n. e (a ∷ pre) post z n)) in
    CongruentInt_trans (CongruentInt-sum (e [] cs (integral_coboundary a) k.0) ih)
    (CongruentInt_of (let z = signed-zero q in omega (arith, ints)))

module _ (facets : List (List ℕ)) (p : ℕ) (large : 1 < p) where
  are-closed : (s qs : List ℕ) (bs : List Cochain) → IsWeakSimplex facets s → AllZip (λ q a. IsCocycle facets q p a) qs bs → AreClosed p s (all_extended qs bs)
  are-closed s [] [] k z = tt
  are-closed s [] (a ∷ bs) k z = tt
  are-closed s (q ∷ qs) [] k z = tt
  are-closed s (q ∷ qs) (a ∷ bs) k z =
      ((λ f w. (extended-cocycle facets q p a large z.0).closed f (weak-closed facets f s w k)), are-closed s qs bs k z.1)

are-normalized : (qs : List ℕ) (bs : List Cochain) → AreNormalized (all_extended qs bs)
are-normalized [] bs = tt
are-normalized (q ∷ qs) [] = tt
are-normalized (q ∷ qs) (a ∷ bs) = ((extended-cochain q a).plain, are-normalized qs bs)

have-degrees : (qs : List ℕ) (bs : List Cochain) → length qs ≡ length bs → HaveDegrees qs (all_extended qs bs)
have-degrees [] bs e = tt
have-degrees (q ∷ qs) [] e = absurd (omega (arith, e))
have-degrees (q ∷ qs) (a ∷ bs) e = ((extended-cochain q a).degree, have-degrees qs bs (omega (arith, e)))

-- from x + (-1)^d y congruent to 0
other-side : (p d : ℕ) (x y : ℤ) → CongruentInt p (x +ℤ signed d y) (pos 0) → CongruentInt p y (signed (suc d) x)
other-side p d x y h =
    let e : signed d (x +ℤ signed d y) ≡ signed d x +ℤ y = signed-+ d x (signed d y) ∙ ap (λ z. signed d x +ℤ z) (signed-signed d d y ∙ signed-parity (d + d) 0 y (omega arith)) in
    let t = CongruentInt_trans (CongruentInt_of (sym e)) (CongruentInt_trans (CongruentInt-signed d h) (CongruentInt_of (signed-zero d))) in
    CongruentInt_trans (CongruentInt_of (let z : y ≡ (signed d x +ℤ y) +ℤ signed (suc d) x = omega (arith, ints) in z))
    (CongruentInt_trans (CongruentInt-sum t (CongruentInt_refl (signed (suc d) x))) (CongruentInt_of (omega (arith, ints))))

pub cocycle_value_law : CocycleValueLaw
cocycle_value_law facets p r n u qs bs field onto some z = record { at = λ s on. to_residues p field (at s (vertices p field facets n s on) (weak_of_simplex facets n s on)) }
  where
    large : 1 < p
    large = above_one p field

    cs : List (List ℕ → ℤ)
    cs = all_extended qs bs

    d : ℕ
    d = caesura_count u

    at : (s : List ℕ) → 1 ≤ length s → IsWeakSimplex facets s →
        CongruentInt p (pos (coboundary p (value_on p r (unit_terms (u ∷ [])) qs bs) s)) (pos (sign_power p (d + 1) * value_on p r (surjection_boundary u) qs bs s))
    at s h k =
        let x : ℤ = value_at (λ w. operation_value r w cs s) (surjection_boundary u) in
        let y : ℤ = integral_coboundary (λ t. operation_value r u cs t) s in
        let whole : one_coboundary qs cs (λ bs. operation_value r u bs s) ≡ x +ℤ signed d y
        = cochain_boundary_law r u s qs cs (are-normalized qs bs) (have-degrees qs bs (sym (length_alike (λ q a. IsCocycle facets q p a) qs bs z))) onto h some in
        let none = all-closed p s qs cs (λ bs. operation_value r u bs s) (are-closed facets p large s qs bs k z) (λ pre post c e. value-none-at p r u s pre post c some h e) in
        CongruentInt_trans (CongruentInt_sym (coboundary-residues p (sum_value r (unit_terms (u ∷ [])) cs) s large))
        (CongruentInt_trans (CongruentInt_of (ap (λ b. integral_coboundary b s) (λ i t. one-value r u cs t i)))
        (CongruentInt_trans (other-side p d x y (CongruentInt_trans (CongruentInt_of (sym whole)) none))
        (CongruentInt_trans (CongruentInt-signed (suc d) (CongruentInt_sym (residue_cochain-same p (sum_value r (surjection_boundary u) cs) s large h)))
        (CongruentInt_trans (sign-same p field (suc d) (value_on p r (surjection_boundary u) qs bs s))
        (CongruentInt_of (let e : suc d ≡ d + 1 = omega arith in ap (λ j. pos (sign_power p j * value_on p r (surjection_boundary u) qs bs s)) e))))))

sum-same : (qs : List ℕ) → sum_of qs ≡ sum qs
sum-same [] = refl
sum-same (q ∷ qs) = ap (λ k. q + k) (sum-same qs) ∙ sym (sum_by-cons (λ k. k) q qs)

extended-end : (q : ℕ) (a : Cochain) (qs : List ℕ) (bs : List Cochain) → length qs ≡ length bs →
    all_extended (qs ++ (q ∷ [])) (bs ++ (a ∷ [])) ≡ all_extended qs bs ++ (extended q a ∷ [])
extended-end q a [] [] e = refl
extended-end q a [] (b ∷ bs) e = absurd (omega (arith, e))
extended-end q a (k ∷ qs) [] e = absurd (omega (arith, e))
extended-end q a (k ∷ qs) (b ∷ bs) e = ap (λ cs. extended k b ∷ cs) (extended-end q a qs bs (omega (arith, e)))

pub turned_value_law : TurnedValueLaw
turned_value_law p q u qs s a bs field e onto h =
    let r : ℕ = suc (length bs) in
    let large = above_one p field in
    let cs : List (List ℕ → ℤ) = all_extended qs bs in
    let c : List ℕ → ℤ = extended q a in
    let v : ℕ = value_on p r (unit_terms (u ∷ [])) (qs ++ (q ∷ [])) (bs ++ (a ∷ [])) s in
    to_residues p field
    (CongruentInt_trans (residue_cochain-same p (sum_value r (unit_terms (map (cycle r) u ∷ [])) (c ∷ cs)) s large h)
    (CongruentInt_trans (CongruentInt_of (one-value r (map (cycle r) u) (c ∷ cs) s
    ∙ value-cycle (length bs) q u s qs c cs onto (extended-cochain q a).degree (have-degrees qs bs e)
    ∙ (λ i. signed (q * sum-same qs i) (operation_value r u (sym (extended-end q a qs bs e) i) s))
    ∙ ap (signed (q * sum qs)) (sym (one-value r u (all_extended (qs ++ (q ∷ [])) (bs ++ (a ∷ []))) s))))
    (CongruentInt_trans (CongruentInt-signed (q * sum qs) (CongruentInt_sym (residue_cochain-same p (sum_value r (unit_terms (u ∷ [])) (all_extended (qs ++ (q ∷ [])) (bs ++ (a ∷ [])))) s large h)))
    (sign-same p field (q * sum qs) v))))
