-- The columns that certify are coordinates: the blocks of a certificate are those of the listed classes.
use Rattle.std.{proofs.Common.{◌≡◌, ℕ, suc, ◌+◌, ◌-◌, ◌<◌, ◌≤◌, refl, sym, ◌∙◌, ap, ap₂, subst, arith, ◌&&◌, true, false, List, [], ◌∷◌, ◌++◌, length, map, get_or, flat_map, slice_get, Some}, specs.List.AllZip, proofs.lemmas.Bool.and_parts, proofs.lemmas.List.{length-map, map-append}, proofs.lemmas.List.Folds.flat_map-map, proofs.lemmas.Simd.map-map}
use Rattle.signed_sum.specs.Names.{numbers_from}
use Rattle.linear_law.{specs.Names.{Each, combination}, proofs.Names.{Congruent_from, Congruent_refl, add-negated, zip_left}}
use Rattle.simplicial_law.specs.Names.{AgreesOnSimplices, Chain, Cochain, cochain_of}
use Rattle.steenrod_law.specs.Names.{cochain_products, cup_product, pull_back}
use Rattle.certificate_law.{specs.Types.{Column, OperationPart, PairColumn, ProductPart, ComplexPart, InducedPart, MapPart, column_line, pair_line}, specs.Names.{column_sum, IsOnBelow, rank_in, sent_by, induced_column, induced_stated, operation_column, operation_stated, product_column, product_stated, with_stands}, proofs.Asked.IsAsAsked, proofs.ListedBases.nowhere, proofs.Places.{at_each, at_map, at_start, each_at, placed_from_start, zip_places_of}, proofs.WellFormed.values_below}
use Rattle.report_law.{specs.Names.{IsColumn, listed, IsOperationColumn, class_at, classes_in, block_of, classes_of, number_pairs, numbers_of, unnumbered, IsInducedPart, IsOperationPart, IsProductPart}, proofs.Names.coordinates-alike}
use Rattle.report_text_law.specs.Names.{are_values, is_line, is_u32}

-- ---- lists by numbers

map_numbers : {X Y : Type 0} (f : X → Y) (d : X) (full : List X) (k : ℕ) (xs : List X) → ((i : ℕ) → i < length xs → get_or full (k + i) d ≡ get_or xs i d) →
    map (λ i. f (get_or full (i - 1) d)) (numbers_from (suc k) (length xs)) ≡ map f xs
map_numbers f d full k [] h = refl
map_numbers f d full k (x ∷ xs) h =
    let e : suc k - 1 ≡ k + 0 = omega arith in
    let here : get_or full (suc k - 1) d ≡ x = ap (λ j. get_or full j d) e ∙ h 0 (omega arith) in
    let rest = map_numbers f d full (suc k) xs (λ i b. let g : suc k + i ≡ k + suc i = omega arith in ap (λ j. get_or full j d) g ∙ h (suc i) (omega arith)) in
    ap₂ (λ y ys. f y ∷ ys) here rest

map_flat : {X Y Z : Type 0} (g : Y → Z) (F : X → List Y) (xs : List X) → map g (flat_map F xs) ≡ flat_map (λ x. map g (F x)) xs
map_flat g F [] = refl
map_flat g F (x ∷ xs) = map-append g (F x) (flat_map F xs) ∙ ap (λ zs. map g (F x) ++ zs) (map_flat g F xs)

-- the products of the cochains of chains, by the numbers of the pairs
pub products_by_pairs : (p q k : ℕ) (zs ws : List Chain) →
    map (λ (t : ℕ × ℕ). cup_product p q k (cochain_of (get_or zs (t.0 - 1) [])) (cochain_of (get_or ws (t.1 - 1) []))) (number_pairs (length zs) (length ws))
    ≡ cochain_products p q k (map cochain_of zs) (map cochain_of ws)
products_by_pairs p q k zs ws =
    let g : ℕ × ℕ → Cochain = λ t. cup_product p q k (cochain_of (get_or zs (t.0 - 1) [])) (cochain_of (get_or ws (t.1 - 1) [])) in
    let right : Cochain → List Cochain = λ z. map (cup_product p q k z) (map cochain_of ws) in
    let row : (i : ℕ) → map g (map (λ j. (i, j)) (numbers_from 1 (length ws))) ≡ right (cochain_of (get_or zs (i - 1) [])) =
    λ i. map-map g (λ j. (i, j)) (numbers_from 1 (length ws))
    ∙ map_numbers (λ w. cup_product p q k (cochain_of (get_or zs (i - 1) [])) (cochain_of w)) [] ws 0 ws (λ j b. at_start ws [] j)
    ∙ sym (map-map (cup_product p q k (cochain_of (get_or zs (i - 1) []))) cochain_of ws) in
    map_flat g (λ i. map (λ j. (i, j)) (numbers_from 1 (length ws))) (numbers_from 1 (length zs))
    ∙ (λ k. flat_map (λ i. row i k) (numbers_from 1 (length zs)))
    ∙ sym (flat_map-map right (λ i. cochain_of (get_or zs (i - 1) [])) (numbers_from 1 (length zs)))
    ∙ ap (flat_map right) (map_numbers cochain_of [] zs 0 zs (λ j b. at_start zs [] j))

-- ---- columns

-- the values of a column are coordinates of its sum, and of each cochain that agrees with it
column : (facets : List (List ℕ)) (n p : ℕ) (us : List Cochain) (z : Cochain) (values : List ℕ) (primitive : Chain) → 1 < p → IsOnBelow facets n primitive → length values ≡ length us → Each (λ v. v < p) values →
    AgreesOnSimplices facets n p z (column_sum p us values primitive) → IsColumn false facets n p us z values primitive
column facets n p us z values primitive large on size small same = record {
  coordinates = coordinates-alike facets n p large us z (column_sum p us values primitive) values same (record {
    count = size;
    small = small;
    rest = record {
      below = cochain_of primitive;
      nothing = nowhere facets n primitive on;
      same = record { at = λ s o. Congruent_from (add-negated p (combination values us s) large) (omega arith) };
    };
  });
  rest = λ none. absurd cc;
}

column_values : (p j : ℕ) (values : List ℕ) → is_line p (column_line (j + 1) values) ≡ true → Each (λ v. v < p) values
column_values p j values h = values_below p values (and_parts (is_u32 (j + 1)) (are_values p values) h).1

module _ (p : ℕ) (large : 1 < p) (c : ComplexPart) where
  rank_is : (n : ℕ) → length (listed c n) ≡ rank_in c n
  rank_is n = length-map (classes_in (classes_of c) n) cochain_of

  pub operation_part : (x : OperationPart) (k : ℕ) → Each (IsAsAsked p) (operation_stated c k x) → rank_in c x.from ≤ length x.columns → IsOperationPart false c.facets p (classes_of c) x
  operation_part x k asked whole =
      zip_left (λ z y. IsOperationColumn false c.facets p (classes_of c) (block_of x) (cochain_of z) y) (IsOperationColumn false c.facets p (classes_of c) (block_of x)) cochain_of (λ z y h. h) (classes_in (classes_of c) x.from) x.columns
      (zip_places_of (λ j y. IsAsAsked p (operation_column c x j y)) (λ z y. IsOperationColumn false c.facets p (classes_of c) (block_of x) (cochain_of z) y) [] (classes_in (classes_of c) x.from) x.columns
      (λ j y h. (
        (h.asked 5).inside,
        record {
          result = column_sum p (listed c x.to) y.values y.primitive;
          is_result = (h.asked 6).same;
          is_column = column c.facets x.to p (listed c x.to) (column_sum p (listed c x.to) y.values y.primitive) y.values y.primitive large (h.asked 6).on ((h.asked 5).size ∙ sym (rank_is x.to)) (column_values p j y.values h.formed)
              (record { at = λ s on. Congruent_refl (column_sum p (listed c x.to) y.values y.primitive s) });
        },
      ))
      whole (each_at (IsAsAsked p) (operation_column c x) (λ y. with_stands y.primitive) 0 x.columns asked.1))

  pub product_part : (x : ProductPart) (k : ℕ) → Each (IsAsAsked p) (product_stated c k x) → length (number_pairs (rank_in c x.a) (rank_in c x.b)) ≤ length x.columns → IsProductPart false c.facets p (classes_of c) x
  product_part x k asked whole =
      let n : ℕ = x.a + x.b in
      let product : ℕ × ℕ → Cochain = λ t. cup_product p x.a x.b (class_at (classes_of c) x.a t.0) (class_at (classes_of c) x.b t.1) in
      let R : Cochain → Column → Type 0 = λ z y. IsColumn false c.facets n p (listed c n) z y.values y.primitive in
      let lines = each_at (IsAsAsked p) (product_column c x) (λ y. with_stands y.primitive) 0 x.columns asked.1 in
      let numbers = placed_from_start numbers_of (number_pairs (rank_in c x.a) (rank_in c x.b)) x.columns
      (at_map (λ j y. IsAsAsked p (product_column c x j y)) (λ j y. slice_get (number_pairs (rank_in c x.a) (rank_in c x.b)) j ≡ Some (numbers_of y)) (λ j y h. (h.asked 5).pair) 0 x.columns lines) whole in
      let each : Each (λ y. R (product (numbers_of y)) (unnumbered y)) x.columns =
      at_each (λ j y. IsAsAsked p (product_column c x j y)) (λ y. R (product (numbers_of y)) (unnumbered y))
      (λ j y h. column c.facets n p (listed c n) (product (numbers_of y)) y.values y.primitive large (h.asked 6).on ((h.asked 5).size ∙ sym (rank_is n)) (pair_values y h.formed) (h.asked 6).same) 0 x.columns lines in
      record {
        numbers = numbers;
        block = subst (λ (zs : List Cochain). AllZip R zs (map unnumbered x.columns)) (ap (map product) numbers ∙ products_by_pairs p x.a x.b (classes_in (classes_of c) x.a) (classes_in (classes_of c) x.b))
            (zip_of_each R product numbers_of unnumbered x.columns each);
      }
    where
      pair_values : (y : PairColumn) → is_line p (pair_line y.i y.j y.values) ≡ true → Each (λ v. v < p) y.values
      pair_values y h = values_below p y.values (and_parts (is_u32 y.j) (are_values p y.values) (and_parts (is_u32 y.i) (is_u32 y.j && are_values p y.values) h).1).1

      zip_of_each : {X A B C : Type 0} (R : C → B → Type 0) (g : A → C) (f : X → A) (u : X → B) (xs : List X) → Each (λ x. R (g (f x)) (u x)) xs → AllZip R (map g (map f xs)) (map u xs)
      zip_of_each R g f u [] h = tt
      zip_of_each R g f u (x ∷ xs) h = (h.0, zip_of_each R g f u xs h.1)

pub induced_part : (p : ℕ) → 1 < p → (from to : ComplexPart) (m : MapPart) (x : InducedPart) (k : ℕ) → Each (IsAsAsked p) (induced_stated from to m k x) → rank_in to x.q ≤ length x.columns →
    IsInducedPart false (sent_by m) from.facets p (classes_of from) (classes_of to) x
induced_part p large from to m x k asked whole =
    let R : Cochain → Column → Type 0 = λ z y. IsColumn false from.facets x.q p (listed from x.q) (pull_back (sent_by m) z) y.values y.primitive in
    zip_left (λ z y. R (cochain_of z) y) R cochain_of (λ z y h. h) (classes_in (classes_of to) x.q) x.columns
    (zip_places_of (λ j y. IsAsAsked p (induced_column from to m x j y)) (λ z y. R (cochain_of z) y) [] (classes_in (classes_of to) x.q) x.columns
    (λ j y h. (
      (h.asked 5).inside,
      column from.facets x.q p (listed from x.q) (pull_back (sent_by m) (cochain_of (get_or (classes_in (classes_of to) x.q) ((j + 1) - 1) []))) y.values y.primitive large (h.asked 7).on
          ((h.asked 5).size ∙ sym (length-map (classes_in (classes_of from) x.q) cochain_of)) (column_values p j y.values h.formed) (h.asked 7).same,
    ))
    whole (each_at (IsAsAsked p) (induced_column from to m x) (λ y. with_stands y.primitive) 0 x.columns asked.1))
