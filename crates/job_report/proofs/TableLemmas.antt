-- From matrices and verdicts by place to the parts of a report.
use Rattle.std.{proofs.Common.{◌≡◌, ◌∙◌, ℕ, ◌+◌, ◌-◌, ◌≤◌, Bool, List, arith, map, length, refl, sym, ap, ap₂, subst, IsTrue}, specs.List.AllZip, proofs.lemmas.List.length-map}
use Rattle.linear_law.{specs.Names.{Among, Each}, proofs.Names.{among_map, length_alike}}
use Rattle.steenrod_law.specs.Names.{cochain_products, pull_back}
use Rattle.simplicial_law.specs.Names.{Cochain as SimplexCochain}
use Rattle.complex_index.specs.{declared.indexed.Cochain.Cochain, Names.IsIndexOf}
use Rattle.cohomology.specs.{declared.basis.Column.Column, Names.AreCanonicalIn}
use Rattle.report_law.specs.{Types.{CartanAnswer, Column as ListedColumn, PairColumn, Block, Line, Op, Product}, Names.{IsColumn, rest_of, Classes, IsOperationBlock, IsOperationColumn, classes_in, cochains_in, line_degree, number_pairs, numbers_of, op_named, unnumbered}}
use Rattle.op_matrix.specs.{Columns.{AreListedAs, listed_columns}, Tables.{IsOperationMatrix, IsProductMatrix}}
use Rattle.induced_map.specs.Induced.{IsInducedMatrix}
use Rattle.cartan_check.specs.{declared.Verdict.Verdict, Verdicts.{IsVerdictOf, listed_answer}}
use Rattle.class_matrices.{specs.declared.matrices.Matrices.Matrices, specs.declared.matrices.ProductMatrix.ProductMatrix, specs.Names.{class_counts, listed_classes, AreMatrices}, proofs.ListLemmas.numbers-count, proofs.ClassLemmas.as-listed}
use Rattle.line_difference.proofs.PlanLemmas.{product-low}
use Rattle.job_report.{specs.Listed.{IsInside, IsListedColumn}, specs.Parts.{IsInsideVerdict, IsListedInduced, IsListedLine, IsListedOperation, IsListedProduct, IsSameAnswer}, proofs.ColumnLemmas.{answer-alike, column-alike, columns-inside, pairs-count, relisted, verdict-inside}}

module _ (p : ℕ) (detailed : Bool) (levels : List (List (List ℕ))) (classes : ℕ → List (Cochain p)) (canonical : (n : ℕ) → AreCanonicalIn p levels n (classes n)) where
  abbrev all : Classes
  all = listed_classes {p = p} levels classes

  abbrev pub inside : ℕ → Column p → Type 0
  inside n c = IsTrue detailed → IsInside {p = p} levels (n - 1) c.primitive

  here : (facets : List (List ℕ)) → IsIndexOf facets levels → AreListedAs {p = p} levels classes all
  here facets is = as-listed p levels classes canonical facets is

  -- ---- products

  module _ (x : Product) (cs : List (Column p)) (h : IsProductMatrix {p = p} detailed levels classes x cs) where
    abbrev product-column : List (List ℕ) → SimplexCochain → ListedColumn → Type 0
    product-column facets z c = IsColumn detailed facets (x.a + x.b) p (cochains_in all (x.a + x.b)) z c.values c.primitive

    abbrev the-products : List SimplexCochain
    the-products = cochain_products p x.a x.b (cochains_in all x.a) (cochains_in all x.b)

    rows : (facets : List (List ℕ)) → (is : IsIndexOf facets levels) → AllZip (product-column facets) the-products (listed_columns {p = p} levels (x.a + x.b) cs)
    rows facets is = h.listed facets all is (here facets is)

    pub products-inside : (facets : List (List ℕ)) → IsIndexOf facets levels → Each (inside (x.a + x.b)) cs
    products-inside facets is = columns-inside facets levels p detailed (x.a + x.b) (product-column facets) (λ z d k. (rest_of p (cochains_in all (x.a + x.b)) z d.values, k.rest)) the-products cs (rows facets is)

    classes-count : (facets : List (List ℕ)) → IsIndexOf facets levels → (n : ℕ) → length (classes_in all n) ≡ length (classes n)
    classes-count facets is n = ap (λ (ts : List _). length ts) ((here facets is).each n) ∙ length-map (classes n) _

    cochains-count : (facets : List (List ℕ)) → IsIndexOf facets levels → (n : ℕ) → length (cochains_in all n) ≡ length (classes n)
    cochains-count facets is n = length-map (classes_in all n) _ ∙ classes-count facets is n

    pub same-count : (facets : List (List ℕ)) → IsIndexOf facets levels → (pairs : List (ℕ × ℕ)) → pairs ≡ number_pairs (length (classes x.a)) (length (classes x.b)) → length pairs ≡ length cs
    same-count facets is pairs e =
        let a = cochains-count facets is x.a in
        let b = cochains-count facets is x.b in
        ap (λ (ps : List (ℕ × ℕ)). length ps) (e ∙ ap₂ number_pairs (sym a) (sym b)) ∙ pairs-count p x.a x.b (cochains_in all x.a) (cochains_in all x.b)
        ∙ sym (length_alike (product-column facets) the-products (listed_columns {p = p} levels (x.a + x.b) cs) (rows facets is)) ∙ length-map cs _

    pub listed-product : (ds : List PairColumn) → map numbers_of ds ≡ number_pairs (length (classes x.a)) (length (classes x.b)) → AllZip (IsListedColumn {p = p} detailed levels (x.a + x.b)) cs (map unnumbered ds)
        → IsListedProduct {p = p} detailed levels classes x (record { a = x.a; b = x.b; columns = ds })
    listed-product ds e k = record {
      headed = refl;
      part = λ facets is. record {
        numbers = e ∙ ap₂ number_pairs (sym (classes-count facets is x.a)) (sym (classes-count facets is x.b));
        block = relisted {p = p} detailed levels (x.a + x.b) (product-column facets) (λ z c d. column-alike detailed facets (x.a + x.b) p (cochains_in all (x.a + x.b)) z c d) the-products cs (map unnumbered ds) (rows facets is) k;
      };
    }

  -- the degrees of a live product
  pub product-sum : (m : Matrices p) → AreMatrices {p = p} detailed levels classes (class_counts {p = p} levels classes) m → length levels ≤ 16 → (x : ProductMatrix p) → Among x m.products.items → x.product.a + x.product.b ≤ 30
  product-sum m h few x on =
      let ranks : List ℕ = class_counts {p = p} levels classes in
      let count = numbers-count (λ n. length (classes n)) (length levels) in
      let here = among_map (λ (y : ProductMatrix p). y.product) x x.product m.products.items on refl in
      let low = product-low ranks (omega (arith, count, few)) x.product (subst (λ (xs : List Product). Among x.product xs) h.products here) in
      let a = low.0 in
      let b = low.1 in
      omega (arith, a, b)

  -- ---- operations

  module _ (x : Block) (cs : List (Column p)) (h : IsOperationMatrix {p = p} detailed levels classes x cs) where
    abbrev operation-column : List (List ℕ) → SimplexCochain → ListedColumn → Type 0
    operation-column facets = IsOperationColumn detailed facets p all x

    pub operations-inside : (facets : List (List ℕ)) → IsIndexOf facets levels → Each (inside x.to) cs
    operations-inside facets is = columns-inside facets levels p detailed x.to (operation-column facets) (λ z d k. (rest_of p (cochains_in all x.to) k.result d.values, k.is_column.rest)) (cochains_in all x.from) cs (h.listed facets all is (here facets is))

    pub listed-operation : (word : _) (number : ℕ) (ds : List ListedColumn) → op_named word number ≡ x.op → AllZip (IsListedColumn {p = p} detailed levels x.to) cs ds
        → IsListedOperation {p = p} detailed levels classes x (record { word = word; number = number; from = x.from; to = x.to; columns = ds })
    listed-operation word number ds e k = record {
      headed = ap (λ (op : Op). record { op = op; from = x.from; to = x.to }) e;
      part = λ facets is. subst (λ (op : Op). IsOperationBlock detailed facets p all (record { op = op; from = x.from; to = x.to }) ds) (sym e)
          (relisted {p = p} detailed levels x.to (operation-column facets)
          (λ z c d v q r. record { result = r.result; is_result = r.is_result; is_column = column-alike detailed facets x.to p (cochains_in all x.to) r.result c d v q r.is_column })
          (cochains_in all x.from) cs ds (h.listed facets all is (here facets is)) k);
    }

  -- ---- verdicts

  module _ (l : Line) (v : Verdict p) (h : IsVerdictOf {p = p} detailed levels classes l v) where
    pub verdict-fits : (facets : List (List ℕ)) → IsIndexOf facets levels → IsTrue detailed → IsInsideVerdict {p = p} levels (line_degree p l) v
    verdict-fits facets is t = let k = h.listed facets all is (here facets is) in verdict-inside facets levels p detailed (line_degree p l) (classes_in all (line_degree p l)) k.difference v k.is_answer t

    pub listed-line : (a : CartanAnswer) → IsSameAnswer detailed (listed_answer {p = p} levels (line_degree p l) v) a
        → IsListedLine {p = p} detailed levels classes l (record { a = l.a; i = l.i; b = l.b; j = l.j; n = l.n; answer = a })
    listed-line a e = record {
      headed = refl;
      part = λ facets is.
          let k = h.listed facets all is (here facets is) in
          record { difference = k.difference; is_difference = k.is_difference; is_answer = answer-alike detailed facets (line_degree p l) p (classes_in all (line_degree p l)) k.difference _ a e k.is_answer };
    }

-- ---- maps

module _ (p : ℕ) (detailed : Bool) (f : ℕ → ℕ) (from to : List (List (List ℕ))) (source target : ℕ → List (Cochain p))
    (canonical : (n : ℕ) → AreCanonicalIn p from n (source n)) (canonical_to : (n : ℕ) → AreCanonicalIn p to n (target n)) (others : List (List ℕ)) (is_to : IsIndexOf others to)
    (q : ℕ) (cs : List (Column p)) (h : IsInducedMatrix {p = p} detailed f from to source target q cs) where
  abbrev sources : Classes
  sources = listed_classes {p = p} from source

  abbrev targets : Classes
  targets = listed_classes {p = p} to target

  abbrev induced-column : List (List ℕ) → SimplexCochain → ListedColumn → Type 0
  induced-column facets z c = IsColumn detailed facets q p (cochains_in sources q) (pull_back f z) c.values c.primitive

  induced-rows : (facets : List (List ℕ)) → IsIndexOf facets from → AllZip (induced-column facets) (cochains_in targets q) (listed_columns {p = p} from q cs)
  induced-rows facets is = h.listed facets sources targets is (as-listed p from source canonical facets is) (as-listed p to target canonical_to others is_to)

  pub induced-inside : (facets : List (List ℕ)) → IsIndexOf facets from → Each (λ (c : Column p). IsTrue detailed → IsInside {p = p} from (q - 1) c.primitive) cs
  induced-inside facets is = columns-inside facets from p detailed q (induced-column facets) (λ z d k. (rest_of p (cochains_in sources q) (pull_back f z) d.values, k.rest)) (cochains_in targets q) cs (induced-rows facets is)

  pub listed-induced : (ds : List ListedColumn) → AllZip (IsListedColumn {p = p} detailed from q) cs ds → IsListedInduced {p = p} detailed f from to source target q (record { q = q; columns = ds })
  listed-induced ds k = record {
    headed = refl;
    part = λ facets is. relisted {p = p} detailed from q (induced-column facets) (λ z c d. column-alike detailed facets q p (cochains_in sources q) (pull_back f z) c d) (cochains_in targets q) cs ds (induced-rows facets is) k;
  }
