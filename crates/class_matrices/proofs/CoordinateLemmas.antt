-- What the coordinates are that were added up.
use Rattle.std.{proofs.Common.{◌≡◌, ◌∙◌, Bool, true, ℕ, ◌+◌, ◌*◌, ◌%◌, List, [], ◌∷◌, length, map, arith, refl, sym, ap, ap₂, subst, IsTrue, None, Some, if◌then◌else◌, unwrap_or}, specs.declared.option.Option.Option}
use Rattle.fp_field.{specs.Served.served, proofs.ServedLemmas.served_field}
use Rattle.linear_law.specs.Names.{copies}
use Rattle.simplicial_law.specs.Names.{Cochain as SimplexCochain, HasCoordinates, IsCocycle}
use Rattle.steenrod_law.specs.Names.{coefficient_products, cup_product}
use Rattle.complex_index.specs.declared.indexed.Cochain.{Cochain}
use Rattle.cohomology.specs.{declared.basis.Column.Column, Names.cochains_at}
use Rattle.report.specs.declared.plan.Op.{Op}
use Rattle.report_law.specs.Names.{IsOperation, is_defined, target, target_degree}
use Rattle.op_matrix.specs.Columns.{values_of}
use Rattle.class_matrices.{specs.Names.{Coordinates, Matrices, OperationMatrix, ProductMatrix, HasThese, IsSetting, IsFound, Fits, sum_onto}, proofs.CarryLemmas.{closed-product, closed-result, product-values, result-values}, proofs.SumLemmas.bit-mod}

-- the degree of a result
pub target-is : (p q d : ℕ) (op : Op) → is_defined p q op ≡ true → target p op q ≡ Some d → d ≡ target_degree p q op
target-is p q d op h k = the-some d (target_degree p q op) (sym k ∙ ap (λ (b : Bool). if b then Some (target_degree p q op) else None) h)
  where
    the-some : (a b : ℕ) → ◌≡◌ {A = Option ℕ} (Some a) (Some b) → a ≡ b
    the-some a b s = ap (λ (o : Option ℕ). unwrap_or o a) s

module _ (p : ℕ) (is_served : IsTrue (served p)) (detailed : Bool) (facets : List (List ℕ)) (levels : List (List (List ℕ))) (classes : ℕ → List (Cochain p)) (m : Matrices p)
    (on : IsSetting {p = p} detailed facets levels classes m) where
  pub product-is : (first second r : Coordinates p) (z w : SimplexCochain) (columns : List (Column p)) (zeros cs ds : List ℕ)
      → IsFound (λ (y : ProductMatrix p). y.product) (λ (y : ProductMatrix p). y.columns.items) m.products.items (record { a = first.degree; b = second.degree }) columns
      → r.degree ≡ first.degree + second.degree → zeros ≡ copies (length (classes (first.degree + second.degree))) 0 → cs ≡ first.values.items → ds ≡ second.values.items
      → (Fits p (values_of {p = p} columns) zeros → r.values.items ≡ sum_onto p zeros (values_of {p = p} columns) (coefficient_products cs ds))
      → HasThese {p = p} facets levels classes z first → HasThese {p = p} facets levels classes w second → HasThese {p = p} facets levels classes (cup_product p first.degree second.degree z w) r
  product-is first second r z w columns zeros cs ds found degree zeros_are cs_are ds_are made hz hw =
      let a : ℕ = first.degree in
      let b : ℕ = second.degree in
      let zw : SimplexCochain = cup_product p a b z w in
      let n : ℕ = a + b in
      let none : List ℕ = copies (length (classes n)) 0 in
      let values : Fits p (values_of {p = p} columns) none → r.values.items ≡ sum_onto p none (values_of {p = p} columns) (coefficient_products first.values.items second.values.items) =
      λ fits. made (subst (Fits p (values_of {p = p} columns)) (sym zeros_are) fits)
      ∙ ap₂ (λ (s es : List ℕ). sum_onto p s (values_of {p = p} columns) es) zeros_are (ap₂ coefficient_products cs_are ds_are) in
      record {
        closed = subst (λ (k : ℕ). IsCocycle facets k p zw) (sym degree) (closed-product p is_served detailed facets levels classes m on a b z w first.values.items second.values.items hz.closed hw.closed hz.coordinates hw.coordinates);
        coordinates = subst (λ (k : ℕ). HasCoordinates facets k p (cochains_at {p = p} levels k (classes k)) zw r.values.items) (sym degree)
            (product-values p is_served detailed facets levels classes m on a b z w first.values.items second.values.items hz.closed hw.closed hz.coordinates hw.coordinates columns r.values.items found values);
      }

  once : (one : ℕ) (cs : List ℕ) → one ≡ 1 % p → map (λ c. one * c) cs ≡ cs
  once one [] e = refl
  once one (c ∷ cs) e = ap₂ ◌∷◌ (ap (λ (k : ℕ). k * c) (e ∙ bit-mod p (served_field p is_served).large true) ∙ omega arith) (once one cs e)

  pub result-is : (of r : Coordinates p) (op : Op) (z b : SimplexCochain) (columns : List (Column p)) (zeros cs : List ℕ) (one : ℕ) → is_defined p of.degree op ≡ true → target p op of.degree ≡ Some r.degree
      → IsFound (λ (y : OperationMatrix p). y.block) (λ (y : OperationMatrix p). y.columns.items) m.operations.items (record { op = op; from = of.degree; to = r.degree }) columns
      → zeros ≡ copies (length (classes r.degree)) 0 → one ≡ 1 % p → cs ≡ of.values.items
      → (Fits p (values_of {p = p} columns) zeros → r.values.items ≡ sum_onto p zeros (values_of {p = p} columns) (map (λ c. one * c) cs))
      → HasThese {p = p} facets levels classes z of → IsOperation facets p op of.degree z b → HasThese {p = p} facets levels classes b r
  result-is of r op z b columns zeros cs one defined to found zeros_are one_is cs_are made hz is_result =
      let q : ℕ = of.degree in
      let t : ℕ = target_degree p q op in
      let e : r.degree ≡ t = target-is p q r.degree op defined to in
      let none : List ℕ = copies (length (classes t)) 0 in
      let same : zeros ≡ none = zeros_are ∙ ap (λ (k : ℕ). copies (length (classes k)) 0) e in
      let values : Fits p (values_of {p = p} columns) none → r.values.items ≡ sum_onto p none (values_of {p = p} columns) of.values.items =
      λ fits. made (subst (Fits p (values_of {p = p} columns)) (sym same) fits)
      ∙ ap₂ (λ (s es : List ℕ). sum_onto p s (values_of {p = p} columns) es) same (once one cs one_is ∙ cs_are) in
      let found_at = subst (λ (k : ℕ). IsFound (λ (y : OperationMatrix p). y.block) (λ (y : OperationMatrix p). y.columns.items) m.operations.items (record { op = op; from = q; to = k }) columns) e found in
      record {
        closed = subst (λ (k : ℕ). IsCocycle facets k p b) (sym e) (closed-result p is_served detailed facets levels classes m on op q z b of.values.items defined hz.closed hz.coordinates is_result);
        coordinates = subst (λ (k : ℕ). HasCoordinates facets k p (cochains_at {p = p} levels k (classes k)) b r.values.items) (sym e)
            (result-values p is_served detailed facets levels classes m on op q z b of.values.items defined hz.closed hz.coordinates is_result columns r.values.items found_at values);
      }
