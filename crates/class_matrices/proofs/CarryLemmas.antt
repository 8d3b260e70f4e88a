-- Coordinates of products and of results of operations, by the matrices that are found.
use Rattle.std.{proofs.Common.{◌≡◌, ◌≢◌, ◌∙◌, ℕ, zero, suc, ◌+◌, ◌<◌, ◌⊎◌, inl, inr, Bool, true, List, [], ◌∷◌, length, arith, refl, sym, ap, subst, IsTrue}, specs.List.AllZip, proofs.lemmas.List.length-map}
use Rattle.fp_field.{specs.Served.served, proofs.ServedLemmas.served_field}
use Rattle.linear_law.{specs.Names.{IsField, Among, Each, copies}, proofs.Names.{each_among, length-copies}}
use Rattle.simplicial_law.specs.Names.{Cochain as SimplexCochain, HasCoordinates, IsCocycle, IsCohomologyBasis, cochain_of}
use Rattle.steenrod_law.{specs.Names.{coefficient_products, cup_product}, proofs.ClassLaws.product-closed}
use Rattle.complex_index.specs.declared.indexed.Cochain.{Cochain}
use Rattle.cohomology.specs.{declared.basis.Column.Column, Names.cochains_at}
use Rattle.report.specs.declared.{columns.Column.{Column as ListedColumn}, plan.Block.Block, plan.Op.Op, plan.Product.Product}
use Rattle.report_law.{specs.Names.{IsColumn, IsOperation, block_on, has_class, is_defined, target_degree, Classes, IsOperationColumn, classes_in, cochains_in}, proofs.Names.{in-blocks, no-coordinates, scaled, scaled-closed}}
use Rattle.op_matrix.{specs.Columns.{listed_column, listed_columns, values_of}, specs.Tables.{IsOperationMatrix, IsProductMatrix, IsPairColumn, IsResultColumn}, proofs.TableLemmas.{basis-in, operation-matrix, pairs_of, product-matrix-of}}
use Rattle.class_matrices.{specs.Names.{Matrices, OperationMatrix, ProductMatrix, IsSetting, class_counts, listed_classes, IsFound, IsOperationOf, IsProductOf, Fits, sum_onto}, proofs.ClassLemmas.{as-listed, class-or-none}, proofs.ListLemmas.no-heading, proofs.PlanLemmas.in-products, proofs.SumLemmas.sum-matrix}

zeros-small : (p h : ℕ) → 1 < p → Each (λ x. x < p) (copies h 0)
zeros-small p zero large = tt
zeros-small p (suc h) large = (omega (arith, large), zeros-small p h large)

module _ (p : ℕ) (is_served : IsTrue (served p)) (detailed : Bool) (facets : List (List ℕ)) (levels : List (List (List ℕ))) (classes : ℕ → List (Cochain p)) (m : Matrices p)
    (on : IsSetting {p = p} detailed facets levels classes m) where
  abbrev field : IsField p
  field = served_field p is_served

  abbrev ranks : List ℕ
  ranks = class_counts {p = p} levels classes

  abbrev all : Classes
  all = listed_classes {p = p} levels classes

  abbrev us : ℕ → List SimplexCochain
  us n = cochains_at {p = p} levels n (classes n)

  live-or-none : (n : ℕ) → (has_class ranks n ≡ true) ⊎ (classes n ≡ [])
  live-or-none n = class-or-none p levels classes on.canonical facets on.index n

  -- ---- even columns

  listed-count : (n : ℕ) → length (cochains_in all n) ≡ length (classes n)
  listed-count n = length-map (classes_in all n) cochain_of ∙ ap (λ (ts : List _). length ts) ((as-listed p levels classes on.canonical facets on.index).each n) ∙ length-map (classes n) _

  module _ (n : ℕ) (S : SimplexCochain → ListedColumn → Type 0) (count : (z : SimplexCochain) (d : ListedColumn) → S z d → length d.values ≡ length (cochains_in all n)) where
    evens : (zs : List SimplexCochain) (cs : List (Column p)) → AllZip S zs (listed_columns {p = p} levels n cs) → Each (λ column. length column ≡ length (copies {X = ℕ} (length (classes n)) 0)) (values_of {p = p} cs)
    evens [] [] h = tt
    evens [] (c ∷ cs) h = absurd h
    evens (z ∷ zs) [] h = absurd h
    evens (z ∷ zs) (c ∷ cs) h = (count z (listed_column {p = p} levels n c) h.0 ∙ listed-count n ∙ sym (length-copies (length (classes n)) 0), evens zs cs h.1)

  fits : (n : ℕ) (cs : List (Column p)) → Each (λ column. length column ≡ length (copies {X = ℕ} (length (classes n)) 0)) (values_of {p = p} cs) → Fits p (values_of {p = p} cs) (copies (length (classes n)) 0)
  fits n cs h = record { even = h; small = zeros-small p (length (classes n)) field.large }

  abbrev Values : ℕ → List (Column p) → List ℕ → List ℕ → Type 0
  Values n cs coefficients values = Fits p (values_of {p = p} cs) (copies (length (classes n)) 0) → values ≡ sum_onto p (copies (length (classes n)) 0) (values_of {p = p} cs) coefficients

  -- where the target degree has no class
  empty : (n : ℕ) (b : SimplexCochain) (coefficients values : List ℕ) → classes n ≡ [] → IsCocycle facets n p b → Values n [] coefficients values → HasCoordinates facets n p (us n) b values
  empty n b coefficients values none closed is =
      let e : values ≡ [] = is (fits n [] tt) ∙ ap (λ (zs : List (Cochain p)). copies (length zs) 0) none in
      let basis : IsCohomologyBasis facets n p [] = subst (λ (zs : List (Cochain p)). IsCohomologyBasis facets n p (cochains_at {p = p} levels n zs)) none (basis-in p detailed levels classes on.canonical is_served facets on.index n) in
      subst (λ (vs : List ℕ). HasCoordinates facets n p (us n) b vs) (sym e)
      (subst (λ (zs : List (Cochain p)). HasCoordinates facets n p (cochains_at {p = p} levels n zs) b []) (sym none) (no-coordinates facets n p b basis closed))

  -- ---- products

  module _ (a b : ℕ) (z w : SimplexCochain) (cs ds : List ℕ) (cz : IsCocycle facets a p z) (cw : IsCocycle facets b p w) (hz : HasCoordinates facets a p (us a) z cs) (hw : HasCoordinates facets b p (us b) w ds) where
    abbrev x : Product
    x = record { a = a; b = b }

    abbrev n : ℕ
    n = a + b

    abbrev zw : SimplexCochain
    zw = cup_product p a b z w

    pub closed-product : IsCocycle facets n p zw
    closed-product = product-closed p field facets a b n z w cz cw

    by-matrix : (columns : List (Column p)) (values : List ℕ) → IsProductMatrix {p = p} detailed levels classes x columns → Values n columns (coefficient_products cs ds) values → HasCoordinates facets n p (us n) zw values
    by-matrix columns values h is =
        let rows = h.listed facets all on.index (as-listed p levels classes on.canonical facets on.index) in
        let even = evens n (λ u d. IsColumn detailed facets n p (cochains_in all n) u d.values d.primitive) (λ u d k. k.coordinates.count) _ columns rows in
        subst (λ (vs : List ℕ). HasCoordinates facets n p (us n) zw vs) (sym (is (fits n columns even) ∙ sum-matrix p (length (classes n)) (values_of {p = p} columns) (coefficient_products cs ds)))
        (h.carries facets z w cs ds on.index cz cw hz hw).1

    no-pairs : (zs ws : List (Cochain p)) → ws ≡ [] → pairs_of zs ws ≡ []
    no-pairs [] ws e = refl
    no-pairs (y ∷ ys) ws e = subst (λ (vs : List (Cochain p)). pairs_of (y ∷ ys) vs ≡ []) (sym e) (no-pairs ys [] refl)

    no-matrix : pairs_of (classes a) (classes b) ≡ [] → IsProductMatrix {p = p} detailed levels classes x []
    no-matrix e = product-matrix-of p detailed levels classes on.canonical is_served x [] (subst (λ (us : List (Cochain p × Cochain p)). AllZip (IsPairColumn {p = p} detailed levels classes x) us []) (sym e) tt)

    not-found : (values : List ℕ) → Each (λ (y : ProductMatrix p). y.product ≢ x) m.products.items → Values n [] (coefficient_products cs ds) values → HasCoordinates facets n p (us n) zw values
    not-found values others is = elim (live-or-none n) [
      | inr e ↦ empty n zw (coefficient_products cs ds) values e closed-product is
      | inl here ↦ elim (live-or-none b) [
        | inr e ↦ by-matrix [] values (no-matrix (no-pairs (classes a) (classes b) e)) is
        | inl second ↦ elim (live-or-none a) [
          | inr e ↦ by-matrix [] values (no-matrix (ap (λ (zs : List (Cochain p)). pairs_of zs (classes b)) e)) is
          | inl first ↦ absurd (no-heading (λ (y : ProductMatrix p). y.product) x m.products.items others
              (subst (λ (hs : List Product). Among x hs) (sym on.matrices.products) (in-products ranks a b first second here)))
        ]
      ]
    ]

    pub product-values : (columns : List (Column p)) (values : List ℕ) → IsFound (λ (y : ProductMatrix p). y.product) (λ (y : ProductMatrix p). y.columns.items) m.products.items x columns
        → Values n columns (coefficient_products cs ds) values → HasCoordinates facets n p (us n) zw values
    product-values columns values (inl f) is =
        let h = each_among (IsProductOf {p = p} detailed levels classes) f.0 m.products.items on.matrices.product_matrices f.1 in
        let k : IsProductMatrix {p = p} detailed levels classes x f.0.columns.items = subst (λ (y : Product). IsProductMatrix {p = p} detailed levels classes y f.0.columns.items) f.2 h in
        by-matrix columns values (subst (λ (c : List (Column p)). IsProductMatrix {p = p} detailed levels classes x c) (sym f.3) k) is
    product-values columns values (inr f) is = not-found values f.0 (subst (λ (c : List (Column p)). Values n c (coefficient_products cs ds) values) f.1 is)

  -- ---- operations

  module _ (op : Op) (q : ℕ) (z b : SimplexCochain) (cs : List ℕ) (defined : is_defined p q op ≡ true) (cz : IsCocycle facets q p z) (hz : HasCoordinates facets q p (us q) z cs) (is_result : IsOperation facets p op q z b) where
    abbrev y : Block
    y = block_on p q op

    abbrev t : ℕ
    t = target_degree p q op

    pub closed-result : IsCocycle facets t p b
    closed-result = let constant = scaled p op q is_served defined in scaled-closed facets p _ constant.scale q t z b field cz (constant.there facets z b is_result)

    by-columns : (columns : List (Column p)) (values : List ℕ) → IsOperationMatrix {p = p} detailed levels classes y columns → Values t columns cs values → HasCoordinates facets t p (us t) b values
    by-columns columns values h is =
        let rows = h.listed facets all on.index (as-listed p levels classes on.canonical facets on.index) in
        let even = evens t (IsOperationColumn detailed facets p all y) (λ u d k. k.is_column.coordinates.count) _ columns rows in
        subst (λ (vs : List ℕ). HasCoordinates facets t p (us t) b vs) (sym (is (fits t columns even) ∙ sum-matrix p (length (classes t)) (values_of {p = p} columns) cs))
        (h.carries facets z b cs on.index cz hz is_result).1

    none-found : (values : List ℕ) → Each (λ (u : OperationMatrix p). u.block ≢ y) m.operations.items → Values t [] cs values → HasCoordinates facets t p (us t) b values
    none-found values others is = elim (live-or-none t) [
      | inr e ↦ empty t b cs values e closed-result is
      | inl there ↦ elim (live-or-none q) [
        | inr e ↦ by-columns [] values (operation-matrix p detailed levels classes on.canonical is_served y [] defined refl (subst (λ (zs : List (Cochain p)). AllZip (IsResultColumn {p = p} detailed levels classes y) zs []) (sym e) tt)) is
        | inl here ↦ absurd (no-heading (λ (u : OperationMatrix p). u.block) y m.operations.items others
            (subst (λ (hs : List Block). Among y hs) (sym on.matrices.blocks) (in-blocks p ranks q op defined here there)))
      ]
    ]

    pub result-values : (columns : List (Column p)) (values : List ℕ) → IsFound (λ (u : OperationMatrix p). u.block) (λ (u : OperationMatrix p). u.columns.items) m.operations.items y columns
        → Values t columns cs values → HasCoordinates facets t p (us t) b values
    result-values columns values (inl f) is =
        let h = each_among (IsOperationOf {p = p} detailed levels classes) f.0 m.operations.items on.matrices.operation_matrices f.1 in
        let k : IsOperationMatrix {p = p} detailed levels classes y f.0.columns.items = subst (λ (u : Block). IsOperationMatrix {p = p} detailed levels classes u f.0.columns.items) f.2 h in
        by-columns columns values (subst (λ (c : List (Column p)). IsOperationMatrix {p = p} detailed levels classes y c) (sym f.3) k) is
    result-values columns values (inr f) is = none-found values f.0 (subst (λ (c : List (Column p)). Values t c cs values) f.1 is)
