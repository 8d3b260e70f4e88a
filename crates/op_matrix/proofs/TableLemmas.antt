-- Matrices from their columns.
use Rattle.std.{proofs.Common.{◌≡◌, ℕ, zero, suc, ◌+◌, Bool, true, List, [], ◌∷◌, ◌++◌, map, length, refl, sym, ap, ap₂, subst, ◌∙◌, IsTrue, flat_map, slice_get, Some, None}, specs.declared.option.Option.Option, specs.List.AllZip, proofs.lemmas.List.{length-map, map-append}}
use Rattle.fp_field.{specs.Served.served, proofs.ServedLemmas.served_field, specs.Orbits.orbit_words}
use Rattle.linear_law.{specs.Names.{IsField, negated, Each, combination, matrix_times}, proofs.Names.{Congruent_add, Congruent_refl, Congruent_sym}}
use Rattle.simplicial_law.specs.Names.{AgreesOnSimplices, Cochain as SimplexCochain, HasCoordinates, IsCocycle, IsCohomologyBasis, cochain_of, terms_of}
use Rattle.steenrod_law.{specs.Names.{cochain_products, coefficient_products, cup_product, scaled_operation}, proofs.ClassLaws.{matrix-law, product-closed, product-matrix}, proofs.OrbitTables.orbit_words_law}
use Rattle.complex_index.specs.{declared.indexed.Cochain.Cochain, Names.{IsIndexOf, level}}
use Rattle.cohomology.specs.{declared.basis.Column.Column, Names.{AreCanonicalIn, IsPlaced, chains_at, cochain_in, IsClosedIn, IsColumnOf, cochains_at}}
use Rattle.report.specs.declared.plan.{Block.Block, Product.Product}
use Rattle.may_steenrod.specs.Cochains.{HasValues, IsClosed}
use Rattle.sparse_rows.specs.Rows.{IsBelow}
use Rattle.report_law.{specs.Names.{IsColumn, rest_of, IsOperation, element_degree, is_defined, target_degree, Classes, IsOperationColumn, cochains_in}, proofs.Names.{agrees-sym, coordinates-alike, IsScaled, scaled, scaled-closed}}
use Rattle.op_matrix.{specs.Columns.{AreListedAs, IsColumnFor, listed_column, listed_columns, primitive_terms, values_of}, proofs.ColumnLemmas.{column-for, primitive-alike}, specs.Tables.{IsOperationMatrix, IsPairColumn, IsProductMatrix, IsResultColumn}}

-- the pairs of two lists, by the first and then the second
abbrev pub pairs_of : {X : Type 0} → List X → List X → List (X × X)
pairs_of zs ws = flat_map (λ z. map (λ w. (z, w)) ws) zs

module _ (p : ℕ) (detailed : Bool) (levels : List (List (List ℕ))) (classes : ℕ → List (Cochain p)) (canonical : (n : ℕ) → AreCanonicalIn p levels n (classes n)) (is_served : IsTrue (served p)) where
  abbrev field : IsField p
  field = served_field p is_served

  abbrev made_in : ℕ → Cochain p → SimplexCochain
  made_in n z = cochain_in levels n z.row

  -- columns of cochains that agree
  pub column-alike : (facets : List (List ℕ)) (n : ℕ) (zs : List (Cochain p)) (z u : SimplexCochain) (c : Column p) → AgreesOnSimplices facets n p z u → IsColumnFor {p = p} detailed facets levels n zs z c → IsColumnFor {p = p} detailed facets levels n zs u c
  column-alike facets n zs z u c same h =
      let us : List SimplexCochain = cochains_at {p = p} levels n zs in
      record {
        coordinates = coordinates-alike facets n p field.large us u z c.values.items (agrees-sym same) h.coordinates;
        rest = λ t. primitive-alike facets p n (rest_of p us u c.values.items) (rest_of p us z c.values.items) (primitive_terms {p = p} levels n c.primitive)
            (record { at = λ s on. Congruent_add (Congruent_sym (same.at s on)) (Congruent_refl (negated p (combination c.values.items us s))) }) (h.rest t);
      }

  pub count-classes : (n : ℕ) → length (cochains_at {p = p} levels n (classes n)) ≡ length (classes n)
  count-classes n = length-map (chains_at {p = p} (level levels n) (classes n)) cochain_of ∙ length-map (classes n) (λ (c : Cochain p). terms_of (level levels n) c.row)

  module _ (facets : List (List ℕ)) (is : IsIndexOf facets levels) where
    pub basis-in : (n : ℕ) → IsCohomologyBasis facets n p (cochains_at {p = p} levels n (classes n))
    basis-in n = ((canonical n).basis facets is).basis

    -- classes listed and kept
    listed-classes : (all : Classes) → AreListedAs {p = p} levels classes all → (n : ℕ) → cochains_in all n ≡ cochains_at {p = p} levels n (classes n)
    listed-classes all h n = ap (map cochain_of) (h.each n)

    -- ---- operations

    module _ (block : Block) where
      operation-column : (z : Cochain p) (c : Column p) → IsResultColumn {p = p} detailed levels classes block z c → (all : Classes) → AreListedAs {p = p} levels classes all
          → IsOperationColumn detailed facets p all block (made_in block.from z) (listed_column {p = p} levels block.to c)
      operation-column z c h all as_listed = record {
        result = h.result;
        is_result = h.is_result facets is;
        is_column = subst (λ (zs : List SimplexCochain). IsColumn detailed facets block.to p zs h.result c.values.items (primitive_terms {p = p} levels block.to c.primitive)) (sym (listed-classes all as_listed block.to)) (h.is_column facets is);
      }

      operation-columns : (zs : List (Cochain p)) (cs : List (Column p)) → AllZip (IsResultColumn {p = p} detailed levels classes block) zs cs → (all : Classes) → AreListedAs {p = p} levels classes all
          → AllZip (IsOperationColumn detailed facets p all block) (cochains_at {p = p} levels block.from zs) (listed_columns {p = p} levels block.to cs)
      operation-columns [] [] h all as_listed = tt
      operation-columns [] (c ∷ cs) h all as_listed = absurd h
      operation-columns (z ∷ zs) [] h all as_listed = absurd h
      operation-columns (z ∷ zs) (c ∷ cs) h all as_listed = (operation-column z c h.0 all as_listed, operation-columns zs cs h.1 all as_listed)

      module _ (constant : IsScaled p block.op block.from) (to : block.to ≡ target_degree p block.from block.op) where
        abbrev made : SimplexCochain → SimplexCochain
        made z = scaled_operation p (element_degree p block.from block.op) constant.scale block.from z

        made-column : (z : Cochain p) (c : Column p) → IsResultColumn {p = p} detailed levels classes block z c
            → HasCoordinates facets block.to p (cochains_at {p = p} levels block.to (classes block.to)) (made (made_in block.from z)) c.values.items
        made-column z c h =
            let same = subst (λ (n : ℕ). AgreesOnSimplices facets n p h.result (made (made_in block.from z))) (sym to) (constant.there facets (made_in block.from z) h.result (h.is_result facets is)) in
            coordinates-alike facets block.to p field.large (cochains_at {p = p} levels block.to (classes block.to)) (made (made_in block.from z)) h.result c.values.items (agrees-sym same) (h.is_column facets is).coordinates

        made-columns : (zs : List (Cochain p)) (cs : List (Column p)) → AllZip (IsResultColumn {p = p} detailed levels classes block) zs cs
            → AllZip (λ column z. HasCoordinates facets block.to p (cochains_at {p = p} levels block.to (classes block.to)) (made z) column) (values_of {p = p} cs) (cochains_at {p = p} levels block.from zs)
        made-columns [] [] h = tt
        made-columns [] (c ∷ cs) h = absurd h
        made-columns (z ∷ zs) [] h = absurd h
        made-columns (z ∷ zs) (c ∷ cs) h = (made-column z c h.0, made-columns zs cs h.1)

        carried : (cs : List (Column p)) → AllZip (IsResultColumn {p = p} detailed levels classes block) (classes block.from) cs → (z b : SimplexCochain) (ds : List ℕ) → IsCocycle facets block.from p z
            → HasCoordinates facets block.from p (cochains_at {p = p} levels block.from (classes block.from)) z ds → IsOperation facets p block.op block.from z b
            → IsCocycle facets block.to p b
            × HasCoordinates facets block.to p (cochains_at {p = p} levels block.to (classes block.to)) b (matrix_times p (length (classes block.to)) (values_of {p = p} cs) ds)
        carried cs h z b ds closed coordinates operation =
            let us : List SimplexCochain = cochains_at {p = p} levels block.to (classes block.to) in
            let d : ℕ = element_degree p block.from block.op in
            let same = subst (λ (n : ℕ). AgreesOnSimplices facets n p b (made z)) (sym to) (constant.there facets z b operation) in
            let whole = matrix-law p field facets d constant.scale block.from block.to (orbit_words p) (cochains_at {p = p} levels block.from (classes block.from)) us (values_of {p = p} cs) (orbit_words_law p is_served)
            (basis-in block.from).cocycles (made-columns (classes block.from) cs h) z ds coordinates in (
              scaled-closed facets p d constant.scale block.from block.to z b field closed same,
              subst (λ (k : ℕ). HasCoordinates facets block.to p us b (matrix_times p k (values_of {p = p} cs) ds)) (count-classes block.to)
                  (coordinates-alike facets block.to p field.large us b (made z) (matrix_times p (length us) (values_of {p = p} cs) ds) same whole),
            )

    -- ---- products

    module _ (x : Product) where
      abbrev product_of : Cochain p × Cochain p → SimplexCochain
      product_of pair = cup_product p x.a x.b (made_in x.a pair.0) (made_in x.b pair.1)

      pair-columns : (us : List (Cochain p × Cochain p)) (cs : List (Column p)) → AllZip (IsPairColumn {p = p} detailed levels classes x) us cs → (zs : List SimplexCochain) → zs ≡ cochains_at {p = p} levels (x.a + x.b) (classes (x.a + x.b))
          → AllZip (λ z c. IsColumn detailed facets (x.a + x.b) p zs z c.values c.primitive) (map product_of us) (listed_columns {p = p} levels (x.a + x.b) cs)
      pair-columns [] [] h zs e = tt
      pair-columns [] (c ∷ cs) h zs e = absurd h
      pair-columns (u ∷ us) [] h zs e = absurd h
      pair-columns (u ∷ us) (c ∷ cs) h zs e = (
        subst (λ (ws : List SimplexCochain). IsColumn detailed facets (x.a + x.b) p ws (product_of u) c.values.items (primitive_terms {p = p} levels (x.a + x.b) c.primitive)) (sym e) (h.0.is_column facets is),
        pair-columns us cs h.1 zs e,
      )

      value-columns : (us : List (Cochain p × Cochain p)) (cs : List (Column p)) → AllZip (IsPairColumn {p = p} detailed levels classes x) us cs
          → AllZip (λ column u. HasCoordinates facets (x.a + x.b) p (cochains_at {p = p} levels (x.a + x.b) (classes (x.a + x.b))) u column) (values_of {p = p} cs) (map product_of us)
      value-columns [] [] h = tt
      value-columns [] (c ∷ cs) h = absurd h
      value-columns (u ∷ us) [] h = absurd h
      value-columns (u ∷ us) (c ∷ cs) h = ((h.0.is_column facets is).coordinates, value-columns us cs h.1)

      -- the products of the pairs are the products of the lists
      row-of-products : (z : Cochain p) (ws : List (Cochain p)) → map product_of (map (λ (w : Cochain p). (z, w)) ws) ≡ map (λ w. cup_product p x.a x.b (made_in x.a z) w) (cochains_at {p = p} levels x.b ws)
      row-of-products z [] = refl
      row-of-products z (w ∷ ws) = ap (λ us. cup_product p x.a x.b (made_in x.a z) (made_in x.b w) ∷ us) (row-of-products z ws)

      all-products : (zs ws : List (Cochain p)) → map product_of (pairs_of zs ws) ≡ cochain_products p x.a x.b (cochains_at {p = p} levels x.a zs) (cochains_at {p = p} levels x.b ws)
      all-products [] ws = refl
      all-products (z ∷ zs) ws =
          map-append product_of (map (λ (w : Cochain p). (z, w)) ws) (pairs_of zs ws)
          ∙ (λ i. row-of-products z ws i ++ all-products zs ws i)

  -- ---- one column

  same-item : {X : Type 0} (o : Option X) (x z : X) → o ≡ Some x → o ≡ Some z → x ≡ z
  same-item o x z e f = inside (sym e ∙ f)
    where
      inside : Some x ≡ Some z → x ≡ z
      inside q = cc

  placed-item : (n : ℕ) (zs : List (Cochain p)) (i : ℕ) (z : Cochain p) → slice_get zs i ≡ Some z → Each (IsPlaced p levels n) zs → IsPlaced p levels n z
  placed-item n [] i z e h = absurd (never e)
    where
      never : {X : Type 0} {x : X} → None ≡ Some x → ⊥
      never q = cc
  placed-item n (y ∷ zs) zero z e h = subst (IsPlaced p levels n) (same-item (Some y) y z refl e) h.0
  placed-item n (y ∷ zs) (suc i) z e h = placed-item n zs i z e h.1

  closed-item : (facets : List (List ℕ)) (n : ℕ) (zs : List (Cochain p)) (i : ℕ) (z : Cochain p) → slice_get zs i ≡ Some z → Each (IsCocycle facets n p) (cochains_at {p = p} levels n zs) → IsCocycle facets n p (made_in n z)
  closed-item facets n [] i z e h = absurd (never e)
    where
      never : {X : Type 0} {x : X} → None ≡ Some x → ⊥
      never q = cc
  closed-item facets n (y ∷ zs) zero z e h = subst (λ (x : Cochain p). IsCocycle facets n p (made_in n x)) (same-item (Some y) y z refl e) h.0
  closed-item facets n (y ∷ zs) (suc i) z e h = closed-item facets n zs i z e h.1

  pub class-placed : (n i : ℕ) (z : Cochain p) → slice_get (classes n) i ≡ Some z → IsPlaced p levels n z
  class-placed n i z e = placed-item n (classes n) i z e (canonical n).placed

  pub class-closed : (n i : ℕ) (z : Cochain p) → slice_get (classes n) i ≡ Some z → IsClosed p levels n z.row
  class-closed n i z e facets is = closed-item facets n (classes n) i z e (basis-in facets is n).cocycles

  -- a class has the degree that it stands in, and its places
  pub class-inside : (n i : ℕ) (z : Cochain p) → slice_get (classes n) i ≡ Some z → IsBelow (length (level levels z.degree)) z.row
  class-inside n i z e = let h = class-placed n i z e in subst (λ (m : ℕ). IsBelow (length (level levels m)) z.row) (sym h.degree) h.inside

  pub result-column : (block : Block) (i : ℕ) (z w r : Cochain p) (c : Column p) → block.to ≡ target_degree p block.from block.op → slice_get (classes block.from) i ≡ Some z → slice_get (classes block.from) i ≡ Some w
      → r.degree ≡ target_degree p z.degree block.op
      → ((facets : List (List ℕ)) → IsIndexOf facets levels → IsOperation facets p block.op z.degree (cochain_in levels z.degree z.row) (cochain_in levels (target_degree p z.degree block.op) r.row))
      → (IsClosed p levels z.degree z.row → IsClosed p levels (target_degree p z.degree block.op) r.row)
      → (IsClosedIn p levels r → IsColumnOf p detailed levels (classes r.degree) r c.values.items c.primitive)
      → IsResultColumn {p = p} detailed levels classes block w c
  result-column block i z w r c to at_z at_w degree operation closed column =
      let q : ℕ = block.from in
      let here = (class-placed q i z at_z).degree in
      let t : ℕ = target_degree p q block.op in
      let there : r.degree ≡ block.to = degree ∙ ap (λ (m : ℕ). target_degree p m block.op) here ∙ sym to in
      let same : z ≡ w = same-item (slice_get (classes q) i) z w at_z at_w in
      let is_closed : IsClosed p levels t r.row = subst (λ (m : ℕ). IsClosed p levels m z.row → IsClosed p levels (target_degree p m block.op) r.row) here closed (class-closed q i z at_z) in
      let at_r : IsClosedIn p levels r = subst (λ (m : ℕ). IsClosed p levels m r.row) (sym (there ∙ to)) is_closed in
      record {
        result = cochain_in levels block.to r.row;
        is_result = λ facets is.
            let one = subst (λ (m : ℕ). IsOperation facets p block.op m (cochain_in levels m z.row) (cochain_in levels (target_degree p m block.op) r.row)) here (operation facets is) in
            let two = subst (λ (m : ℕ). IsOperation facets p block.op q (made_in q z) (cochain_in levels m r.row)) (sym to) one in
            subst (λ (x : Cochain p). IsOperation facets p block.op q (made_in q x) (cochain_in levels block.to r.row)) same two;
        is_column = λ facets is. column-for facets levels p is detailed classes block.to r c there (column at_r);
      }

  pub pair-column : (x : Product) (i j : ℕ) (y v z w r : Cochain p) (c : Column p) → slice_get (classes x.a) i ≡ Some y → slice_get (classes x.b) j ≡ Some v → slice_get (classes x.a) i ≡ Some z → slice_get (classes x.b) j ≡ Some w
      → HasValues p levels (y.degree + v.degree) (cup_product p y.degree v.degree (cochain_in levels y.degree y.row) (cochain_in levels v.degree v.row)) r.row
      → r.degree ≡ y.degree + v.degree
      → (IsClosed p levels y.degree y.row → IsClosed p levels v.degree v.row → IsClosed p levels (y.degree + v.degree) r.row)
      → (IsClosedIn p levels r → IsColumnOf p detailed levels (classes r.degree) r c.values.items c.primitive)
      → IsPairColumn {p = p} detailed levels classes x (z, w) c
  pair-column x i j y v z w r c at_y at_v at_z at_w values degree closed column =
      let n : ℕ = x.a + x.b in
      let dy = (class-placed x.a i y at_y).degree in
      let dv = (class-placed x.b j v at_v).degree in
      let there : r.degree ≡ n = degree ∙ ap₂ (λ (m k : ℕ). m + k) dy dv in
      let one = subst (λ (m : ℕ). IsClosed p levels m y.row → IsClosed p levels v.degree v.row → IsClosed p levels (m + v.degree) r.row) dy closed in
      let two = subst (λ (k : ℕ). IsClosed p levels x.a y.row → IsClosed p levels k v.row → IsClosed p levels (x.a + k) r.row) dv one in
      let at_r : IsClosedIn p levels r = subst (λ (m : ℕ). IsClosed p levels m r.row) (sym there) (two (class-closed x.a i y at_y) (class-closed x.b j v at_v)) in
      let three = subst (λ (m : ℕ). HasValues p levels (m + v.degree) (cup_product p m v.degree (cochain_in levels m y.row) (cochain_in levels v.degree v.row)) r.row) dy values in
      let four = subst (λ (k : ℕ). HasValues p levels (x.a + k) (cup_product p x.a k (made_in x.a y) (cochain_in levels k v.row)) r.row) dv three in
      let sy : y ≡ z = same-item (slice_get (classes x.a) i) y z at_y at_z in
      let sv : v ≡ w = same-item (slice_get (classes x.b) j) v w at_v at_w in
      let five = subst (λ (s : Cochain p). HasValues p levels n (cup_product p x.a x.b (made_in x.a s) (made_in x.b v)) r.row) sy four in
      let six = subst (λ (s : Cochain p). HasValues p levels n (cup_product p x.a x.b (made_in x.a z) (made_in x.b s)) r.row) sv five in
      record {
        is_column = λ facets is.
            let u : SimplexCochain = cup_product p x.a x.b (made_in x.a z) (made_in x.b w) in
            let h = column-for facets levels p is detailed classes n r c there (column at_r) in
            column-alike facets n (classes n) (cochain_in levels n r.row) u c (six.values facets is) h;
      }

  pub operation-matrix : (block : Block) (cs : List (Column p)) → is_defined p block.from block.op ≡ true → block.to ≡ target_degree p block.from block.op
      → AllZip (IsResultColumn {p = p} detailed levels classes block) (classes block.from) cs → IsOperationMatrix {p = p} detailed levels classes block cs
  operation-matrix block cs defined to h = record {
    listed = λ facets all is as_listed. subst (λ (zs : List SimplexCochain). AllZip (IsOperationColumn detailed facets p all block) zs (listed_columns {p = p} levels block.to cs))
        (sym (listed-classes facets is all as_listed block.from)) (operation-columns facets is block (classes block.from) cs h all as_listed);
    carries = λ facets z b ds is closed coordinates operation. carried facets is block (scaled p block.op block.from is_served defined) to cs h z b ds closed coordinates operation;
  }

  pub product-matrix-of : (x : Product) (cs : List (Column p)) → AllZip (IsPairColumn {p = p} detailed levels classes x) (pairs_of (classes x.a) (classes x.b)) cs → IsProductMatrix {p = p} detailed levels classes x cs
  product-matrix-of x cs h = record {
    listed = λ facets all is as_listed.
        let n : ℕ = x.a + x.b in
        let e = listed-classes facets is all as_listed n in
        let here = pair-columns facets is x (pairs_of (classes x.a) (classes x.b)) cs h (cochains_in all n) e in
        let R : List SimplexCochain → Type 0 = λ us. AllZip (λ z c. IsColumn detailed facets n p (cochains_in all n) z c.values c.primitive) us (listed_columns {p = p} levels n cs) in
        subst R (all-products facets is x (classes x.a) (classes x.b) ∙ (λ i. cochain_products p x.a x.b (sym (listed-classes facets is all as_listed x.a) i) (sym (listed-classes facets is all as_listed x.b) i))) here;
    carries = λ facets z w ds es is cz cw hz hw.
        let n : ℕ = x.a + x.b in
        let us : List SimplexCochain = cochains_at {p = p} levels n (classes n) in
        let columns = subst (λ (vs : List SimplexCochain). AllZip (λ column u. HasCoordinates facets n p us u column) (values_of {p = p} cs) vs) (all-products facets is x (classes x.a) (classes x.b))
        (value-columns facets is x (pairs_of (classes x.a) (classes x.b)) cs h) in (
          product-closed p field facets x.a x.b n z w cz cw,
          subst (λ (k : ℕ). HasCoordinates facets n p us (cup_product p x.a x.b z w) (matrix_times p k (values_of {p = p} cs) (coefficient_products ds es))) (count-classes n)
              (product-matrix p field facets x.a x.b n (cochains_at {p = p} levels x.a (classes x.a)) (cochains_at {p = p} levels x.b (classes x.b)) us (values_of {p = p} cs)
              (basis-in facets is x.a).cocycles (basis-in facets is x.b).cocycles columns z w ds es hz hw),
        );
  }
