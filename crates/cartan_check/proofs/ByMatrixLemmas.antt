-- The sides of a line by coordinates, and the verdict on it.
use Rattle.std.proofs.Common.{◌≡◌, ◌∙◌, Bool, true, false, ℕ, ◌+◌, ◌-◌, ◌<◌, ◌≤◌, List, [], ◌∷◌, ◌++◌, length, get_or, arith, sym, ap, ap₂, subst, IsTrue, None}
use Rattle.fp_field.{specs.Served.served, proofs.ServedLemmas.served_field}
use Rattle.linear_law.{specs.Names.{negated, sum_over, Each}, proofs.Names.{Congruent_refl, each_get_or, zip_push, sum_append}}
use Rattle.simplicial_law.specs.Names.{Chain, Cochain as SimplexCochain, HasCoordinates, cochain_of}
use Rattle.steenrod_law.specs.Names.{cup_product, scaled_operation}
use Rattle.complex_index.specs.{declared.indexed.Cochain.Cochain, Names.level}
use Rattle.cohomology.specs.Names.{chains_at, cochains_at}
use Rattle.report.specs.declared.plan.{Line.Line, Op.Op}
use Rattle.report_law.{specs.Names.{IsAnswer, IsCartanProduct, IsOperation, cartan_op, cartan_pairs, element_degree, is_defined, target_degree, Classes, IsVerdict, class_at, line_degree}, proofs.Names.{bound-of-zeros, scaled}}
use Rattle.op_matrix.specs.Columns.{AreListedAs}
use Rattle.class_matrices.{specs.declared.coordinates.Coordinates.Coordinates, specs.declared.matrices.Matrices.Matrices, specs.Names.{HasThese, IsSetting, unit_coordinates}, proofs.ClassCoordinates.class-has}
use Rattle.cartan_check.{specs.declared.Verdict.Verdict, specs.declared.Verdict.TheVariants.Yes, specs.ByMatrices.{HasPart, IsLessParts}, specs.Verdicts.listed_answer, proofs.VerdictLemmas.all-zero}
use Rattle.line_difference.proofs.DifferenceLemmas.{IsDefinedPair, defined-pairs, targets-add}

never : IsTrue false → ⊥
never q = cc

some-result : (p : ℕ) (is_served : IsTrue (served p)) (facets : List (List ℕ)) (op : Op) (q : ℕ) (z : SimplexCochain) → is_defined p q op ≡ true → (b : SimplexCochain) × IsOperation facets p op q z b
some-result p is_served facets op q z defined =
    let form = scaled p op q is_served defined in
    let b : SimplexCochain = scaled_operation p (element_degree p q op) form.scale q z in
    (b, form.back facets z b (record { at = λ s on. Congruent_refl (b s) }))

module _ (p : ℕ) (is_served : IsTrue (served p)) (facets : List (List ℕ)) (levels : List (List (List ℕ))) (classes : ℕ → List (Cochain p)) where
  abbrev Has : SimplexCochain → Coordinates p → Type 0
  Has z c = HasThese {p = p} facets levels classes z c

  pub part-has : (x y left right r : Coordinates p) (pair : ℕ × ℕ) (z w : SimplexCochain) → is_defined p x.degree (cartan_op p pair.0) ≡ true → is_defined p y.degree (cartan_op p pair.1) ≡ true
      → left.degree ≡ target_degree p x.degree (cartan_op p pair.0) → ((b : SimplexCochain) → IsOperation facets p (cartan_op p pair.0) x.degree z b → Has b left)
      → right.degree ≡ target_degree p y.degree (cartan_op p pair.1) → ((b : SimplexCochain) → IsOperation facets p (cartan_op p pair.1) y.degree w b → Has b right)
      → ((u v : SimplexCochain) → Has u left → Has v right → Has (cup_product p left.degree right.degree u v) r) → HasPart {p = p} facets levels classes x.degree y.degree z w pair r
  part-has x y left right r pair z w dx dy left_end lefts right_end rights product =
      let u = some-result p is_served facets (cartan_op p pair.0) x.degree z dx in
      let v = some-result p is_served facets (cartan_op p pair.1) y.degree w dy in
      record {
        product = cup_product p left.degree right.degree u.0 v.0;
        is_product = record { left = u.0; right = v.0; is_left = u.1; is_right = v.1; product = ap₂ (λ (a b : ℕ). cup_product p a b u.0 v.0) left_end right_end };
        has = product u.0 v.0 (lefts u.0 u.1) (rights v.0 v.1);
      }

  -- ---- the pairs of a line

  module _ (line : Line) (z w whole : SimplexCochain) where
    abbrev Less : List (ℕ × ℕ) → Coordinates p → Type 0
    Less pairs c = IsLessParts {p = p} facets levels classes line z w whole pairs c

    pub no-parts : (c : Coordinates p) → Has whole c → Less [] c
    no-parts c h =
        let same : (s : List ℕ) → whole s ≡ whole s + negated p 0 = λ s. omega arith in
        record { parts = []; are_parts = tt; has = subst (λ (f : SimplexCochain). Has f c) (λ i s. same s i) h }

    pub one-more : (pairs : List (ℕ × ℕ)) (pair : ℕ × ℕ) (old part new : Coordinates p) → Less pairs old → HasPart {p = p} facets levels classes line.a line.b z w pair part
        → ((f g : SimplexCochain) → Has f old → Has g part → Has (λ s. f s + negated p (g s)) new) → Less (pairs ++ pair ∷ []) new
    one-more pairs pair old part new h k less =
        let sum : List SimplexCochain → SimplexCochain = λ vs s. sum_over (λ (v : SimplexCochain). v s) vs in
        let same : (s : List ℕ) → (whole s + negated p (sum h.parts s)) + negated p (k.product s) ≡ whole s + negated p (sum (h.parts ++ k.product ∷ []) s) =
        λ s. omega arith ∙ ap (λ (v : ℕ). whole s + negated p v) (sym (sum_append (λ (v : SimplexCochain). v s) h.parts (k.product ∷ []))) in
        record {
          parts = h.parts ++ k.product ∷ [];
          are_parts = zip_push (λ e v. IsCartanProduct facets p line.a line.b z w e.0 e.1 v) pairs h.parts pair k.product h.are_parts k.is_product;
          has = subst (λ (f : SimplexCochain). Has f new) (λ i s. same s i) (less (λ s. whole s + negated p (sum h.parts s)) k.product h.has k.has);
        }

  -- ---- verdicts

  pub yes-answer : (n : ℕ) (zs : List (Cochain p)) (z : SimplexCochain) (values : List ℕ) → HasCoordinates facets n p (cochains_at {p = p} levels n zs) z values → ((i : ℕ) → i < length zs → get_or values i 0 ≡ 0)
      → IsAnswer false facets n p (chains_at {p = p} (level levels n) zs) z (listed_answer {p = p} levels n (Yes None))
  yes-answer n zs z values h zeros =
      (bound-of-zeros facets n p (served_field p is_served).large (cochains_at {p = p} levels n zs) z values h (all-zero p levels n zs facets z values h zeros), λ t. absurd (never t))

-- ---- the pairs of a line

-- the degree of the product for a pair
pub part-degree : (p : ℕ) → IsTrue (served p) → (line : Line) (pair : ℕ × ℕ) (a b r : ℕ) → a ≡ line.a → b ≡ line.b → pair.0 + pair.1 ≡ line.n → r ≡ target_degree p a (cartan_op p pair.0) + target_degree p b (cartan_op p pair.1) → r ≡ line_degree p line
part-degree p is_served line pair a b r ea eb en e =
    e ∙ ap₂ (λ (x y : ℕ). target_degree p x (cartan_op p pair.0) + target_degree p y (cartan_op p pair.1)) ea eb
    ∙ targets-add p line.a line.b pair.0 pair.1 is_served ∙ ap (λ (m : ℕ). target_degree p (line.a + line.b) (cartan_op p m)) en

-- a pair that stands in the list
pub pair-at : (p : ℕ) (line : Line) (items : List (ℕ × ℕ)) (i : ℕ) → items ≡ cartan_pairs p line.a line.b line.n → i < length items → IsDefinedPair p line.a line.b line.n (get_or items i (0, 0))
pair-at p line items i e l = each_get_or (IsDefinedPair p line.a line.b line.n) items i (0, 0) l (subst (Each (IsDefinedPair p line.a line.b line.n)) (sym e) (defined-pairs p line.a line.b line.n))

-- ---- the verdict on a line

module _ (p : ℕ) (is_served : IsTrue (served p)) (detailed : Bool) (facets : List (List ℕ)) (levels : List (List (List ℕ))) (classes : ℕ → List (Cochain p)) (m : Matrices p)
    (on : IsSetting {p = p} detailed facets levels classes m) (all : Classes) (as_listed : AreListedAs {p = p} levels classes all) where
  abbrev Having : SimplexCochain → Coordinates p → Type 0
  Having z c = HasThese {p = p} facets levels classes z c

  -- the i-th class of degree n, as it is listed
  class-listed : (n i : ℕ) (c : Coordinates p) → 1 ≤ i → i ≤ length (classes n) → c.degree ≡ n → c.values.items ≡ unit_coordinates (length (classes n)) (i - 1) → Having (class_at all n i) c
  class-listed n i c a b degree values =
      subst (λ (ts : List Chain). Having (cochain_of (get_or ts (i - 1) [])) c) (sym (as_listed.each n)) (class-has p is_served detailed facets levels classes m on n i c a b degree values)

  pub verdict-is : (line : Line) → is_defined p (line.a + line.b) (cartan_op p line.n) ≡ true → (1 ≤ line.i) × (line.i ≤ length (classes line.a)) → (1 ≤ line.j) × (line.j ≤ length (classes line.b)) → (x y product whole rest : Coordinates p) (verdict : Verdict p)
      → x.degree ≡ line.a → x.values.items ≡ unit_coordinates (length (classes line.a)) (line.i - 1) → y.degree ≡ line.b → y.values.items ≡ unit_coordinates (length (classes line.b)) (line.j - 1)
      → product.degree ≡ x.degree + y.degree → ((z w : SimplexCochain) → Having z x → Having w y → Having (cup_product p x.degree y.degree z w) product)
      → ((z b : SimplexCochain) → Having z product → IsOperation facets p (cartan_op p line.n) product.degree z b → Having b whole)
      → rest.degree ≡ line_degree p line → ((z w u : SimplexCochain) → Having z x → Having w y → Having u whole → IsLessParts {p = p} facets levels classes line z w u (cartan_pairs p line.a line.b line.n) rest)
      → ((d : SimplexCochain) → HasCoordinates facets rest.degree p (cochains_at {p = p} levels rest.degree (classes rest.degree)) d rest.values.items
      → IsAnswer false facets rest.degree p (chains_at {p = p} (level levels rest.degree) (classes rest.degree)) d (listed_answer {p = p} levels rest.degree verdict))
      → IsVerdict false facets p all line (listed_answer {p = p} levels (line_degree p line) verdict)
  verdict-is line defined first second x y product whole rest verdict x_end x_values y_end y_values product_end products results rest_end less answer =
      let op : Op = cartan_op p line.n in
      let z : SimplexCochain = class_at all line.a line.i in
      let w : SimplexCochain = class_at all line.b line.j in
      let hz = class-listed line.a line.i x first.0 first.1 x_end x_values in
      let hw = class-listed line.b line.j y second.0 second.1 y_end y_values in
      let zw : SimplexCochain = cup_product p line.a line.b z w in
      let here : product.degree ≡ line.a + line.b = product_end ∙ ap₂ (λ (a b : ℕ). a + b) x_end y_end in
      let hp : Having zw product = subst (λ (a : ℕ). Having (cup_product p a line.b z w) product) x_end (subst (λ (b : ℕ). Having (cup_product p x.degree b z w) product) y_end (products z w hz hw)) in
      let b = some-result p is_served facets op (line.a + line.b) zw defined in
      let hb : Having b.0 whole = results zw b.0 hp (subst (λ (k : ℕ). IsOperation facets p op k zw b.0) (sym here) b.1) in
      let l = less z w b.0 hz hw hb in
      let n : ℕ = line_degree p line in
      let d : SimplexCochain = λ s. b.0 s + negated p (sum_over (λ (v : SimplexCochain). v s) l.parts) in
      let at_n = subst (λ (k : ℕ). IsAnswer false facets k p (chains_at {p = p} (level levels k) (classes k)) d (listed_answer {p = p} levels k verdict)) rest_end (answer d l.has.coordinates) in
      record {
        difference = d;
        is_difference = record { whole = b.0; is_whole = b.1; parts = l.parts; are_parts = l.are_parts; difference = record { at = λ s on. Congruent_refl (d s) } };
        is_answer = subst (λ (ts : List Chain). IsAnswer false facets n p ts d (listed_answer {p = p} levels n verdict)) (sym (as_listed.each n)) at_n;
      }
