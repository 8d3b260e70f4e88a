-- Squares from the values of the closed formula.
use Rattle.std.proofs.{Common.{◌≡◌, ℕ, zero, suc, ◌+◌, ◌-◌, ◌*◌, ◌<◌, ◌≤◌, List, [], ◌∷◌, length, get_or, arith, refl, sym, ap, subst, ◌∙◌, ℤ, pos, ◌*ℤ◌, IsTrue}, lemmas.Int.ints}
use Rattle.fp_field.{specs.Served.served, proofs.ServedLemmas.served_large}
use Rattle.linear_law.{specs.Names.Congruent, proofs.Names.{Congruent_multiple, Congruent_of, Congruent_sym, Congruent_trans}}
use Rattle.simplicial_law.{specs.Names.{AgreesOnSimplices, CongruentInt, Cochain}, proofs.Names.{CongruentInt_of, CongruentInt_trans, whole}}
use Rattle.interval_cut_law.specs.Names.{operation_value}
use Rattle.table_reduction_law.{specs.Names.{in_turn, may_element}, proofs.MayTwo.may_two_law}
use Rattle.complex_index.specs.Names.{IsIndexOf, level}
use Rattle.signed_sum.specs.Names.{is_degenerate}
use Rattle.steenrod_law.{proofs.Complexes.{ascending-plain, extended-cochain, extended-there}, specs.Names.{IsSquare, copies, cup_product, extended, may_operation, residue_cochain, sum_value}}
use Rattle.cup_i_law.{specs.ClosedFormula.cup_i_value, specs.SharedSums.shared_sum, proofs.CutSums.{closed_formula_law, formula-shared}, proofs.FormulaSums.shared_sum-many}
use Rattle.may_steenrod.{specs.Cochains.{HasValues, IsClosed, IsOn, IsRowOfFirst, cochain_in}, proofs.OperationLemmas.operation-closed, proofs.PlaceLemmas.{extended-row, has_values, residue-value, row-degree}}
use Rattle.sparse_rows.specs.Rows.{IsBelow}

-- the May element of degree d at 2 is the one list 1 2 1 ..
at-two : (p d : ℕ) (g : List ℕ → ℤ) (s : List ℕ) → p ≡ 2 → operation_value 2 (in_turn 1 2 (d + 2)) (g ∷ g ∷ []) s ≡ sum_value p (may_element p d) (copies p g) s
at-two p d g s two = sym (ap (λ m. sum_value m (may_element m d) (copies m g) s) two ∙ may_two_law d (λ u. operation_value 2 u (copies 2 g) s))

-- where there is a simplex of degree n, n is one of the degrees
pub level-inside : (ls : List (List (List ℕ))) (n x : ℕ) → x < length (level ls n) → n < length ls
level-inside [] n x h = absurd (omega arith)
level-inside (l ∷ ls) zero x h = omega arith
level-inside (l ∷ ls) (suc n) x h = let r = level-inside ls n x h in omega arith

module _ (p : ℕ) (levels : List (List (List ℕ))) (q n d : ℕ) (row : List (ℕ × ℕ)) (two : p ≡ 2) where
  pub square-values : IsOn p levels q row → (h : List ℕ → ℕ) (vs : List ℕ) (out : List (ℕ × ℕ)) → h ≡ cochain_in levels q row → length vs ≡ length (level levels n)
      → ((x : ℕ) → x < length (level levels n) → CongruentInt p (pos (get_or vs x 0))
      (operation_value 2 (in_turn 1 2 (d + 2)) ((λ f. pos (h f)) ∷ (λ f. pos (h f)) ∷ []) (get_or (level levels n) x [])))
      → IsRowOfFirst vs (length vs) out → HasValues p levels n (may_operation p d q (cochain_in levels q row)) out
  square-values on h vs out same long at first =
      let a : Cochain = cochain_in levels q row in
      has_values p levels n (may_operation p d q a) vs out long
      (λ x b size. (
      let s : List ℕ = get_or (level levels n) x [] in
      residue-value p (get_or vs x 0) (sum_value p (may_element p d) (copies p (extended q a))) s (served_large p on.prime) (omega (arith, size))
      (CongruentInt_trans (at x b)
      (CongruentInt_of (ap (λ (k : List ℕ → ℕ). operation_value 2 (in_turn 1 2 (d + 2)) ((λ f. pos (k f)) ∷ (λ f. pos (k f)) ∷ []) s) same
      ∙ ap (λ (g : List ℕ → ℤ). operation_value 2 (in_turn 1 2 (d + 2)) (g ∷ g ∷ []) s) (extended-row q a (row-degree p levels q row on))
      ∙ at-two p d (extended q a) s two))))) first

  pub square-closed : (out : List (ℕ × ℕ)) → HasValues p levels n (may_operation p d q (cochain_in levels q row)) out → IsClosed p levels q row → IsClosed p levels n out
  square-closed out h =
      let a : Cochain = cochain_in levels q row in
      operation-closed p levels q n d 1 row out (subst (λ m. IsTrue (served m)) (sym two) refl)
      (record { inside = h.inside; values = λ facets i. record { at = λ s on. Congruent_trans ((h.values facets i).at s on) (Congruent_of (omega arith)) } })

pub is_square : (p : ℕ) (levels : List (List (List ℕ))) (q k : ℕ) (row out : List (ℕ × ℕ)) → p ≡ 2 → k ≤ q → HasValues p levels (q + k) (may_operation p (q - k) q (cochain_in levels q row)) out
    → (facets : List (List ℕ)) → IsIndexOf facets levels → IsSquare facets k q (cochain_in levels q row) (cochain_in levels (q + k) out)
is_square p levels q k row out two d h facets i = record {
  defined = d;
  value = (subst (λ x. HasValues x levels (q + k) (may_operation x (q - k) q (cochain_in levels q row)) out) two h).values facets i;
}

-- ---- the square of a degree of its own: the cup square

pub square-cup : (p : ℕ) (levels : List (List (List ℕ))) (q k : ℕ) (a : Cochain) (out : List (ℕ × ℕ)) → p ≡ 2 → k ≡ q → HasValues p levels (q + q) (cup_product p q q a a) out
    → HasValues p levels (q + k) (may_operation p (q - k) q a) out
square-cup p levels q k a out two top h =
    let same : cup_product p q q a a ≡ may_operation p 0 q a = ap (residue_cochain p) (λ i s. at-two p 0 (extended q a) s two i) in
    let none : 0 ≡ q - k = omega arith in
    let there : q + q ≡ q + k = omega arith in
    subst (λ (n : ℕ). HasValues p levels n (may_operation p (q - k) q a) out) there
    (subst (λ (d : ℕ). HasValues p levels (q + q) (may_operation p d q a) out) none (subst (λ (b : Cochain). HasValues p levels (q + q) b out) same h))

-- ---- the square of degree 0: the cochain itself

-- all of a list is shared in one way
shared-all : (h : List ℕ → List ℕ → ℤ) (s : List ℕ) → shared_sum h (length s) s ≡ h s s
shared-all h [] = refl
shared-all h (v ∷ s) =
    let one = shared-all (λ f g. h (v ∷ g) (v ∷ f)) s in
    let none = shared_sum-many (λ f g. h (v ∷ f) g) (suc (length s)) s (omega arith) in
    omega (arith, ints)

-- a number and its square have one parity
even-gap : (v : ℕ) → (c : ℕ) × (v * v ≡ v + 2 * c)
even-gap zero = (0, refl)
even-gap (suc v) = let r = even-gap v in (r.0 + v, omega (arith, r.1))

square-bit : (v : ℕ) → CongruentInt 2 (pos v) (pos v *ℤ pos v)
square-bit v = let gap = even-gap v in whole 2 v (v * v) (Congruent_sym (subst (λ (n : ℕ). Congruent 2 n v) (sym gap.1) (Congruent_multiple 2 v gap.0)))

-- on the simplices of its degree, a cochain is its own square of degree 0
pub square-identity : (facets : List (List ℕ)) (q : ℕ) (a : Cochain) → AgreesOnSimplices facets q 2 a (may_operation 2 q q a)
square-identity facets q a = record {
  at = λ s on.
      let g : List ℕ → ℤ = extended q a in
      let size : length s ≡ suc q = omega (arith, on.size) in
      let some : 1 ≤ length s = omega (arith, size) in
      let plain : (t : List ℕ) → IsTrue (is_degenerate t) → g t ≡ pos 0 = (extended-cochain q a).plain in
      let here : g s ≡ pos (a s) = extended-there q a s size (ascending-plain s on.ascending) in
      let once : g s *ℤ g s ≡ cup_i_value q g g s = sym (shared-all (λ f h. g f *ℤ g h) s) ∙ ap (λ k. shared_sum (λ f h. g f *ℤ g h) k s) size ∙ sym (formula-shared q g g s some) in
      residue-value 2 (a s) (sum_value 2 (may_element 2 q) (copies 2 g)) s (omega arith) some
      (CongruentInt_trans (square-bit (a s)) (CongruentInt_trans (CongruentInt_of (ap (λ (z : ℤ). z *ℤ z) (sym here) ∙ once))
      (CongruentInt_trans (closed_formula_law.value q g g s plain plain some) (CongruentInt_of (at-two 2 q g s refl)))));
}

module _ (p : ℕ) (levels : List (List (List ℕ))) (q : ℕ) (row : List (ℕ × ℕ)) (two : p ≡ 2) (inside : IsBelow (length (level levels q)) row) where
  abbrev a : Cochain
  a = cochain_in levels q row

  itself : HasValues p levels q (may_operation p q q a) row
  itself = record { inside = inside; values = λ facets i. subst (λ (m : ℕ). AgreesOnSimplices facets q m a (may_operation m q q a)) (sym two) (square-identity facets q a) }

  pub square-copy : (k : ℕ) (out : List (ℕ × ℕ)) → k ≡ 0 → out ≡ row → HasValues p levels (q + k) (may_operation p (q - k) q a) out
  square-copy k out none same =
      let all : q ≡ q - k = omega arith in
      let there : q ≡ q + k = omega arith in
      subst (λ (n : ℕ). HasValues p levels n (may_operation p (q - k) q a) out) there
      (subst (λ (d : ℕ). HasValues p levels q (may_operation p d q a) out) all
      (subst (λ (r : List (ℕ × ℕ)). HasValues p levels q (may_operation p q q a) r) (sym same) itself))
