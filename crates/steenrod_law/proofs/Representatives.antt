-- D of a coboundary is a coboundary.
use Rattle.std.proofs.Common.{◌≡◌, ℕ, suc, ◌-◌, ◌≤◌, Bool, List, map, length, sym, ◌∙◌, ap, arith, ℤ, ◌+ℤ◌}
use Rattle.interval_cut_law.specs.Names.{one_coboundary, operation_value}
use Rattle.signed_sum.{specs.Names.{signed, word_boundary}, proofs.Names.value_at-sum}
use Rattle.simplicial_law.{proofs.Names.{CongruentInt_of, CongruentInt_sym, CongruentInt_trans}, specs.Names.{CongruentInt, integral_coboundary}}
use Rattle.steenrod_law.{proofs.AdditiveMaps.{adds-coboundary, adds-over, adds-signed, adds-sum_to, coboundary-sum}, proofs.Forms.{IsCochain, IsMayFamily, IsPrime, SurjectionTerm, boundary_over, operation_of}, proofs.Staircase.{stair-sum, whole-stair}, proofs.ValuesOnFaces.value-none-at, proofs.WordBoundary.{letters-copies, letters-normalized, relation, relation-first, some, sum-law}, proofs.WordCochains.{coboundary-cochain, coboundary-twice, degrees-letters, over-same, word-bound}, specs.Names.{staircase_sum, sum_to, sum_value, word_cochains, letter_degree, staircase, boundary_value}}

pub representatives : (p d n : ℕ) (x : ℕ → List SurjectionTerm) (y : List ℕ → ℤ) (s : List ℕ) → IsPrime p → IsMayFamily p x → IsCochain n y → 1 ≤ length s →
    CongruentInt p (operation_of p (x d) (integral_coboundary y) s) (integral_coboundary (staircase_sum p n d x y) s)
representatives p d n x y s prime may cy hs =
    CongruentInt_trans
    (CongruentInt_of (ap (λ cs. sum_value p (x d) cs s) (sym (letters-copies y b p))))
    (CongruentInt_trans
    (whole-stair p n prime.parity prime.two d V dV B law (relation p (letter_degree n) y b cy cb s pos_p hs x may) (relation-first p (letter_degree n) y b cy cb s pos_p hs x may))
    (CongruentInt_of out))
  where
    b : List ℕ → ℤ
    b = integral_coboundary y

    pos_p : 1 ≤ p
    pos_p = let t = prime.two in omega arith

    cb : IsCochain (suc n) b
    cb = coboundary-cochain n y cy

    V : ℕ → List Bool → ℤ
    V m w = sum_value p (x m) (word_cochains y b w) s

    dV : ℕ → List Bool → ℤ
    dV m w = integral_coboundary (sum_value p (x m) (word_cochains y b w)) s

    B : ℕ → List Bool → ℤ
    B m w = boundary_over (x m) (λ u. operation_value p u (word_cochains y b w) s)

    law : (m : ℕ) (w : List Bool) → length w ≡ p → CongruentInt p (boundary_value n (V m) w) (B m w +ℤ signed m (dV m w))
    law m w e =
        let f : List ℕ → ℤ = λ u. boundary_value n (λ v. operation_value p u (word_cochains y b v) s) w in
        let g : List ℕ → ℤ = λ u. one_coboundary (map (letter_degree n) w) (word_cochains y b w) (λ bs. operation_value p u bs s) in
        CongruentInt_trans
        (CongruentInt_of (adds-over (λ h. boundary_value n h w) (λ h1 h2. value_at-sum h1 h2 (word_boundary n w)) (x m) (λ u v. operation_value p u (word_cochains y b v) s)))
        (CongruentInt_trans
        (over-same p m (x m) f g (may.terms m)
        (λ u o c. CongruentInt_sym
        (word-bound p n y w (λ bs. operation_value p u bs s) (λ pre post. value-none-at p p u s pre post (integral_coboundary b) (some p u pos_p o) hs (λ t v. CongruentInt_of (coboundary-twice y t))))))
        (CongruentInt_of (sum-law p m (x m) (map (letter_degree n) w) (word_cochains y b w) s (may.terms m) (letters-normalized y b cy.plain cb.plain w) (degrees-letters (letter_degree n) y b cy.degree cb.degree w) pos_p hs)))

    out : sum_to d (λ i. signed (d - i) (staircase p n d i (dV (d - i)))) ≡ integral_coboundary (staircase_sum p n d x y) s
    out =
        ap (sum_to d)
        (λ k i. (ap (signed (d - i)) (adds-coboundary (staircase p n d i) (stair-sum p n prime.parity prime.two d i) (λ w. sum_value p (x (d - i)) (word_cochains y b w)) s)
        ∙ sym (adds-signed (λ a. integral_coboundary a s) (coboundary-sum s) (d - i) (λ t. staircase p n d i (λ w. sum_value p (x (d - i)) (word_cochains y b w) t)))) k)
        ∙ sym (adds-sum_to (λ a. integral_coboundary a s) (coboundary-sum s) d (λ i t. signed (d - i) (staircase p n d i (λ w. sum_value p (x (d - i)) (word_cochains y b w) t))))
