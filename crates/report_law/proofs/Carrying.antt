-- The bases of a listed complex, and what its matrices carry.
use Rattle.std.{proofs.Common.{◌≡◌, Bool, ℕ, ◌+◌, inl, inr, true, List, [], ◌∷◌, map, length, arith, refl, sym, ap, subst, ◌∙◌, IsTrue}, specs.List.AllZip, proofs.lemmas.List.length-map}
use Rattle.fp_field.{specs.Served.served, proofs.ServedLemmas.served_field, specs.Orbits.orbit_words}
use Rattle.linear_law.{specs.Names.{IsField, Among, Each, matrix_times}, proofs.Names.{Congruent_refl, among_map, each_among}}
use Rattle.simplicial_law.specs.Names.{Chain, Cochain, HasCoordinates, IsCocycle, IsCohomologyBasis, cochain_of}
use Rattle.steenrod_law.{proofs.ClassLaws.{matrix-law, product-closed, product-matrix}, proofs.OrbitTables.orbit_words_law, specs.Names.{cochain_products, scaled_operation, copies}}
use Rattle.report_law.{specs.Types.{Column, OperationPart, PairColumn, ProductPart, ComplexPart, Block, Op}, specs.Names.{IsColumn, IsOperation, BasesPromise, listed, OperationPromise, ProductPromise, block_on, blocks, element_degree, is_defined, target_degree, IsOperationColumn, classes_in, ranks, block_of, classes_of, matrix_of, op_of, operation_matrix, unnumbered, IsOperationPart, IsProductPart}, proofs.Blocks.{in-blocks, matrix-found, of-blocks, rank-or-none}, proofs.Coordinates.{AreBases, agrees-sym, coordinates-alike, no-coordinates}, proofs.Lists.each-of, proofs.ScaledForms.{IsScaled, scaled, scaled-closed}}

module _ (facets : List (List ℕ)) (p : ℕ) (is_served : IsTrue (served p)) (c : ComplexPart) (are : AreBases facets p (classes_of c)) where
  abbrev field : IsField p
  field = served_field p is_served

  -- ---- bases

  -- also past the dimension
  pub any_basis : (n : ℕ) → IsCohomologyBasis facets n p (listed c n)
  any_basis = are.basis

  pub bases_promise : BasesPromise facets p c
  bases_promise = record { whole = λ n s on. (let w = are.whole n s on in let k = length-map c.degrees (λ d. d.classes) in omega (arith, k, w)); basis = λ n l. any_basis n }

  -- ---- products

  module _ (detailed : Bool) (x : ProductPart) (part : IsProductPart detailed facets p (classes_of c) x) where
    product-columns : (us : List Cochain) (ys : List PairColumn) → AllZip (λ u y. IsColumn detailed facets (x.a + x.b) p (listed c (x.a + x.b)) u y.values y.primitive) us (map unnumbered ys)
        → AllZip (λ column u. HasCoordinates facets (x.a + x.b) p (listed c (x.a + x.b)) u column) (map (λ y. y.values) ys) us
    product-columns [] [] h = tt
    product-columns (u ∷ us) (y ∷ ys) h = (h.0.coordinates, product-columns us ys h.1)
    product-columns _ _ h = absurd h

    pub product_promise : ProductPromise facets p c x
    product_promise z w cs ds cz cw hz hw = (
      product-closed p field facets x.a x.b (x.a + x.b) z w cz cw,
      product-matrix p field facets x.a x.b (x.a + x.b) (listed c x.a) (listed c x.b) (listed c (x.a + x.b)) (map (λ y. y.values) x.columns)
          (any_basis x.a).cocycles (any_basis x.b).cocycles (product-columns (cochain_products p x.a x.b (listed c x.a) (listed c x.b)) x.columns part.block) z w cs ds hz hw,
    )

  -- ---- operations

  module _ (op : Op) (q : ℕ) (constant : IsScaled p op q) where
    abbrev n : ℕ
    n = target_degree p q op

    abbrev pub made : Cochain → Cochain
    made z = scaled_operation p (element_degree p q op) constant.scale q z

    abbrev pub IsMadeColumn : List ℕ → Cochain → Type 0
    IsMadeColumn column z = HasCoordinates facets n p (listed c n) (made z) column

    -- the columns of a listed block
    block-columns : (detailed : Bool) (o : OperationPart) → o.from ≡ q → op ≡ op_of o → o.to ≡ n → (zs : List Cochain) (ys : List Column) → AllZip (IsOperationColumn detailed facets p (classes_of c) (block_of o)) zs ys → AllZip IsMadeColumn (matrix_of ys) zs
    block-columns detailed o a b t [] [] h = tt
    block-columns detailed o a b t (z ∷ zs) (y ∷ ys) h =
        let r = h.0.result in
        let is : IsOperation facets p op q z r = subst (λ (x : Op). IsOperation facets p x q z r) (sym b) (subst (λ (m : ℕ). IsOperation facets p (op_of o) m z r) a h.0.is_result) in
        let has : HasCoordinates facets n p (listed c n) r y.values = subst (λ (m : ℕ). HasCoordinates facets m p (listed c m) r y.values) t h.0.is_column.coordinates in
        (coordinates-alike facets n p field.large (listed c n) (made z) r y.values (agrees-sym (constant.there facets z r is)) has, block-columns detailed o a b t zs ys h.1)
    block-columns detailed o a b t _ _ h = absurd h

    pub listed-columns : (detailed : Bool) (o : OperationPart) → o.from ≡ q → op ≡ op_of o → o.to ≡ n → IsOperationPart detailed facets p (classes_of c) o → AllZip IsMadeColumn (matrix_of o.columns) (listed c q)
    listed-columns detailed o a b t h = block-columns detailed o a b t (listed c q) o.columns (subst (λ (m : ℕ). AllZip (IsOperationColumn detailed facets p (classes_of c) (block_of o)) (listed c m) o.columns) a h)

    -- the columns without rows, where the target degree has no classes
    no-rows : classes_in (classes_of c) n ≡ [] → (ts : List Chain) → Each (IsCocycle facets q p) (map cochain_of ts) → AllZip IsMadeColumn (copies (length ts) []) (map cochain_of ts)
    no-rows e [] h = tt
    no-rows e (t ∷ ts) h =
        let z = cochain_of t in
        let closed = scaled-closed facets p (element_degree p q op) constant.scale q n z (made z) field h.0 (record { at = λ s on. Congruent_refl (made z s) }) in
        let empty : IsCohomologyBasis facets n p [] = subst (λ (us : List Chain). IsCohomologyBasis facets n p (map cochain_of us)) e (any_basis n) in
        (subst (λ (us : List Chain). HasCoordinates facets n p (map cochain_of us) (made z) []) (sym e) (no-coordinates facets n p (made z) empty closed), no-rows e ts h.1)

  -- each matrix of an operation, listed or not
  module _ (detailed : Bool) (are_blocks : map block_of c.operations ≡ blocks p (ranks (classes_of c))) (each : Each (IsOperationPart detailed facets p (classes_of c)) c.operations) where
    live-block : (o : OperationPart) → Among o c.operations → (is_defined p o.from (op_of o) ≡ true) × (o.to ≡ target_degree p o.from (op_of o))
    live-block o m =
        let a : Among (block_of o) (map block_of c.operations) = among_map block_of o (block_of o) c.operations m refl in
        let live = of-blocks p (ranks (classes_of c)) (block_of o) (subst (λ (bs : List Block). Among (block_of o) bs) are_blocks a) in
        (live.defined, live.target)

    pub matrix-columns : (op : Op) (q : ℕ) (constant : IsScaled p op q) → is_defined p q op ≡ true → AllZip (IsMadeColumn op q constant) (operation_matrix c op q) (listed c q)
    matrix-columns op q constant defined =
        let n : ℕ = target_degree p q op in
        elim (matrix-found p (copies (length (classes_in (classes_of c) q)) []) op q c.operations) [
          | inl g ↦
              let o = g.block in
              let live = live-block o g.listed in
              let to : o.to ≡ n = live.1 ∙ ap (λ (m : ℕ). target_degree p m (op_of o)) g.from ∙ ap (target_degree p q) (sym g.op_is) in
              subst (λ (m : List (List ℕ)). AllZip (IsMadeColumn op q constant) m (listed c q)) (sym g.matrix_is)
              (listed-columns op q constant detailed o g.from g.op_is to (each_among (IsOperationPart detailed facets p (classes_of c)) o c.operations each g.listed))
          | inr none ↦
              subst (λ (m : List (List ℕ)). AllZip (IsMadeColumn op q constant) m (listed c q)) (sym none.0)
              (elim (rank-or-none (classes_of c) n) [
                | inr e ↦ no-rows op q constant e (classes_in (classes_of c) q) (any_basis q).cocycles
                | inl here ↦ elim (rank-or-none (classes_of c) q) [
                  | inr e ↦ subst (λ (ts : List Chain). AllZip (IsMadeColumn op q constant) (copies (length ts) []) (map cochain_of ts)) (sym e) tt
                  | inl there ↦ absurd (none.1 (subst (λ (bs : List Block). Among (block_on p q op) bs) (sym are_blocks) (in-blocks p (ranks (classes_of c)) q op defined there here)))
                ]
              ])
        ]

    pub operation_promise : (o : OperationPart) → Among o c.operations → OperationPromise facets p c o
    operation_promise o m z b cs closed coordinates is =
        let q : ℕ = o.from in
        let live = live-block o m in
        let constant = scaled p (op_of o) q is_served live.0 in
        let n : ℕ = target_degree p q (op_of o) in
        let same = constant.there facets z b is in
        let columns = listed-columns (op_of o) q constant detailed o refl refl live.1 (each_among (IsOperationPart detailed facets p (classes_of c)) o c.operations each m) in
        let carried = matrix-law p field facets (element_degree p q (op_of o)) constant.scale q n (orbit_words p) (listed c q) (listed c n) (matrix_of o.columns) (orbit_words_law p is_served) (any_basis q).cocycles columns z cs coordinates in
        subst (λ (t : ℕ). IsCocycle facets t p b × HasCoordinates facets t p (listed c t) b (matrix_times p (length (listed c t)) (matrix_of o.columns) cs)) (sym live.1) (
          scaled-closed facets p (element_degree p q (op_of o)) constant.scale q n z b field closed same,
          coordinates-alike facets n p field.large (listed c n) b (made (op_of o) q constant z) (matrix_times p (length (listed c n)) (matrix_of o.columns) cs) same carried,
        )

    pub operation_promises : Each (OperationPromise facets p c) c.operations
    operation_promises = each-of (OperationPromise facets p c) c.operations operation_promise
