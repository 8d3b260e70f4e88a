-- Lines of Sq^0, which is the identity: both sides are the product of the two cochains.
use Rattle.std.{proofs.Common.{◌≡◌, ◌&&◌, cond, false, ℕ, ◌+◌, ◌-◌, ◌*◌, ◌<◌, [], ◌∷◌, List, arith, ap₂, subst, sym}, proofs.lemmas.Bool.{false≢true, le-leb}, specs.List.AllZip}
use Rattle.linear_law.{specs.Names.negated, proofs.Names.{Congruent_multiple, Congruent_of, Congruent_sym, Congruent_trans}}
use Rattle.simplicial_law.{specs.Names.{AgreesOnSimplices, Cochain}, proofs.Names.coboundaries}
use Rattle.steenrod_law.specs.Names.{IsSquare, cup_product, may_operation}
use Rattle.may_steenrod.proofs.SquareLemmas.{square-identity}
use Rattle.report.specs.declared.{columns.CartanAnswer.TheVariants.{Yes as ListedYes}, plan.Line.Line}
use Rattle.report_law.specs.Names.{Classes, IsCartanDifference, IsCartanProduct, IsVerdict, cartan_pairs, class_at, line_degree}

-- a cochain is its own square of degree 0
own-square : (facets : List (List ℕ)) (q : ℕ) (a : Cochain) → IsSquare facets 0 q a a
own-square facets q a =
    let all : q ≡ q - 0 = omega arith in
    let there : q ≡ q + 0 = omega arith in
    record {
      defined = omega arith;
      value = subst (λ (n : ℕ). AgreesOnSimplices facets n 2 a (may_operation 2 (q - 0) q a)) there (subst (λ (d : ℕ). AgreesOnSimplices facets q 2 a (may_operation 2 d q a)) all (square-identity facets q a));
    }

-- 0 is the sum of 0 and 0 alone
zero-pairs : (a b : ℕ) → cartan_pairs 2 a b 0 ≡ (0, 0) ∷ []
zero-pairs a b = ap₂ (λ u v. cond (u && v) ((0, 0) ∷ []) []) (le-leb 0 a (omega arith)) (le-leb 0 b (omega arith))

-- the two sides are one cochain, so their difference is 0
no-difference : (facets : List (List ℕ)) (a b : ℕ) (x y : Cochain) → IsCartanDifference facets 2 a b 0 x y (λ s. 0)
no-difference facets a b x y =
    let product : Cochain = cup_product 2 a b x y in
    let left : a ≡ a + 0 = omega arith in
    let right : b ≡ b + 0 = omega arith in
    record {
      whole = product;
      is_whole = own-square facets (a + b) product;
      parts = product ∷ [];
      are_parts = subst (λ (pairs : List (ℕ × ℕ)). AllZip (λ e w. IsCartanProduct facets 2 a b x y e.0 e.1 w) pairs (product ∷ [])) (sym (zero-pairs a b)) (record { left = x; right = y; is_left = own-square facets a x; is_right = own-square facets b y; product = ap₂ (λ (m n : ℕ). cup_product 2 m n x y) left right }, tt);
      difference = record {
        at = λ s on.
            let twice : product s + negated 2 (product s + 0) ≡ 0 + 2 * product s = omega arith in
            Congruent_sym (Congruent_trans (Congruent_of twice) (Congruent_multiple 2 0 (product s)));
      };
    }

-- the answer is yes
pub identity-verdict : (p : ℕ) (facets : List (List ℕ)) (all : Classes) (line : Line) → p ≡ 2 → line.n ≡ 0 → IsVerdict false facets p all line (ListedYes [])
identity-verdict p facets all line two none = record {
  difference = λ s. 0;
  is_difference = subst (λ (m : ℕ). IsCartanDifference facets p line.a line.b m (class_at all line.a line.i) (class_at all line.b line.j) (λ s. 0)) (sym none)
      (subst (λ (m : ℕ). IsCartanDifference facets m line.a line.b 0 (class_at all line.a line.i) (class_at all line.b line.j) (λ s. 0)) (sym two)
      (no-difference facets line.a line.b (class_at all line.a line.i) (class_at all line.b line.j)));
  is_answer = ((coboundaries facets (line_degree p line) p (let large : 1 < p = omega (arith, two) in large)).zero_in, λ t. absurd (false≢true t));
}
