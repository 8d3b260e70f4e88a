-- Operations and products on cochains of a complex.
use Rattle.std.proofs.Common.{◌≡◌, ℕ, suc, ◌+◌, ◌*◌, ◌%◌, ◌<◌, List, [], ◌∷◌, length, take, drop, get_or, arith, ap, ap₂, subst, ℤ, pos, ◌*ℤ◌, IsTrue}
use Rattle.fp_field.{specs.Served.served, proofs.ServedLemmas.{served_field, served_large}}
use Rattle.linear_law.{specs.Names.Congruent, proofs.Names.{Congruent_mod, Congruent_mul, Congruent_of, Congruent_refl, Congruent_trans}}
use Rattle.simplicial_law.{specs.Names.{CongruentInt, Cochain}, proofs.Names.{cocycles, residues, CongruentInt-scale, CongruentInt_of, CongruentInt_sym, CongruentInt_trans}}
use Rattle.complex_index.specs.{declared.indexed.Cochain.{Cochain as ComplexCochain}, Names.{IsIndexOf, level}}
use Rattle.sparse_rows.specs.Rows.{IsBelow, value_in}
use Rattle.table_reduction_law.specs.Names.{may_element}
use Rattle.interval_cut_law.specs.Names.{operation_value}
use Rattle.interval_cut.specs.Names.{IsOfDegree}
use Rattle.steenrod_law.{specs.Names.{cup_product, extended, may_operation, scaled_operation, sum_value, copies}, proofs.Complexes.residue_cochain-same, proofs.LawProofs.{closed_law, product_law}}
use Rattle.may_steenrod.{specs.Cochains.{HasValues, IsClosed, IsOn, IsRowOfFirst, cochain_in}, specs.FaceSums.face_sum, specs.Fronts.AddsFronts, proofs.CupLemmas.at-faces, proofs.FrontLemmas.fronts-value, proofs.PlaceLemmas.{extended-row, has_values, has_values_by_place, residue-value, row-degree, simplex-size}}

-- ---- operations

module _ (p : ℕ) (levels : List (List (List ℕ))) (q n d c : ℕ) (row : List (ℕ × ℕ)) (on : IsOn p levels q row) where
  abbrev values : List ℕ → ℤ
  values f = pos (cochain_in levels q row f)

  whole : List ℕ → ℤ
  whole = sum_value p (may_element p d) (copies p (extended q (cochain_in levels q row)))

  pub operation-values : (h : List ℕ → ℕ) (ts : List (ℕ × List (List ℕ))) (vs : List ℕ) (out : List (ℕ × ℕ)) → h ≡ cochain_in levels q row
      → ((a : List ℕ → ℕ) (s : List ℕ) → IsOfDegree q a → length s ≡ suc n → CongruentInt p (face_sum (λ f. pos (a f)) s ts) (sum_value p (may_element p d) (copies p (λ f. pos (a f))) s))
      → length vs ≡ length (level levels n)
      → ((x : ℕ) → x < length (level levels n) → CongruentInt p (pos (get_or vs x 0)) (pos c *ℤ face_sum (λ f. pos (h f)) (get_or (level levels n) x []) ts))
      → IsRowOfFirst vs (length vs) out → HasValues p levels n (scaled_operation p d c q (cochain_in levels q row)) out
  operation-values h ts vs out same sum long at first =
      has_values p levels n (scaled_operation p d c q (cochain_in levels q row)) vs out long
      (λ x b size. (
      let s : List ℕ = get_or (level levels n) x [] in
      let a : Cochain = cochain_in levels q row in
      let large : 1 < p = served_large p on.prime in
      let degree = row-degree p levels q row on in
      let one : CongruentInt p (face_sum values s ts) (sum_value p (may_element p d) (copies p (extended q a)) s) =
      CongruentInt_trans (sum a s degree size) (CongruentInt_of (ap (λ (g : List ℕ → ℤ). sum_value p (may_element p d) (copies p g) s) (extended-row q a degree))) in
      let two : CongruentInt p (pos (may_operation p d q a s)) (sum_value p (may_element p d) (copies p (extended q a)) s) =
      residue_cochain-same p (sum_value p (may_element p d) (copies p (extended q a))) s large (omega (arith, size)) in
      residues p (get_or vs x 0) (c * may_operation p d q a s)
      (CongruentInt_trans (at x b) (CongruentInt-scale (pos c)
      (CongruentInt_trans (CongruentInt_of (ap (λ (k : List ℕ → ℕ). face_sum (λ f. pos (k f)) s ts) same)) (CongruentInt_trans one (CongruentInt_sym two))))))) first

-- an operation with another multiple that is the same modulo p
pub rescaled : (p : ℕ) (levels : List (List (List ℕ))) (q n d c e : ℕ) (a : Cochain) (row : List (ℕ × ℕ)) → Congruent p c e
    → HasValues p levels n (scaled_operation p d c q a) row → HasValues p levels n (scaled_operation p d e q a) row
rescaled p levels q n d c e a row k h = record {
  inside = h.inside;
  values = λ facets i. record { at = λ s on. Congruent_trans ((h.values facets i).at s on) (Congruent_mul k (Congruent_refl (may_operation p d q a s))) };
}

pub unscaled : (p : ℕ) (levels : List (List (List ℕ))) (q n d c : ℕ) (a : Cochain) (row : List (ℕ × ℕ)) → Congruent p c 1
    → HasValues p levels n (scaled_operation p d c q a) row → HasValues p levels n (may_operation p d q a) row
unscaled p levels q n d c a row k h = record {
  inside = h.inside;
  values = λ facets i. record {
    at = λ s on. Congruent_trans ((h.values facets i).at s on) (Congruent_trans (Congruent_mul k (Congruent_refl (may_operation p d q a s))) (Congruent_of (omega arith)));
  };
}

-- a multiple of an operation takes cocycles to cocycles
pub operation-closed : (p : ℕ) (levels : List (List (List ℕ))) (q n d c : ℕ) (row out : List (ℕ × ℕ)) → IsTrue (served p)
    → HasValues p levels n (scaled_operation p d c q (cochain_in levels q row)) out → IsClosed p levels q row → IsClosed p levels n out
operation-closed p levels q n d c row out prime h closed facets i =
    let large : 1 < p = served_large p prime in
    let a : Cochain = cochain_in levels q row in
    let space = cocycles facets n p large in
    let one = closed_law facets p d q n a (served_field p prime) (closed facets i) in
    space.alike (cochain_in levels n out) (λ s. 0 + c * may_operation p d q a s)
    (record { at = λ s on. Congruent_trans ((h.values facets i).at s on) (Congruent_of (omega arith)) })
    (space.plus c (λ s. 0) (may_operation p d q a) space.zero_in one)

-- ---- products

module _ (p : ℕ) (levels : List (List (List ℕ))) (q k : ℕ) (first second : List (ℕ × ℕ)) (prime : IsTrue (served p)) where
  pub product-values : (facets : List (List ℕ)) (pairs out : List (ℕ × ℕ)) → IsIndexOf facets levels → IsOn p levels q first → IsOn p levels k second → IsBelow (length (level levels q)) first
      → AddsFronts p (level levels q) (level levels (q + k)) (cochain_in levels k second) first pairs → ((x : ℕ) → value_in out x ≡ value_in pairs x % p) → IsBelow (length (level levels (q + k))) out
      → HasValues p levels (q + k) (cup_product p q k (cochain_in levels q first) (cochain_in levels k second)) out
  product-values facets pairs out index on_first on_second inside adds sum below =
      let a : Cochain = cochain_in levels q first in
      let b : Cochain = cochain_in levels k second in
      let large : 1 < p = served_large p prime in
      has_values_by_place p levels (q + k) (cup_product p q k a b) out below
      (λ x h size. (
      let s : List ℕ = get_or (level levels (q + k)) x [] in
      let value : Congruent p (value_in out x) (a (take (q + 1) s) * b (drop q s)) =
      Congruent_trans (Congruent_of (sum x)) (Congruent_trans (Congruent_mod p (value_in pairs x)) (Congruent_trans (Congruent_of (adds.sum x h))
      (fronts-value p q (level levels q) b s first (λ y l. simplex-size levels facets q y index l) inside))) in
      residue-value p (value_in out x) (operation_value 2 (1 ∷ 2 ∷ []) (extended q a ∷ extended k b ∷ [])) s large (omega (arith, size))
      (CongruentInt_trans (at-faces p q k a b s on_first.long size (value_in out x) value)
      (CongruentInt_of (ap₂ (λ (f g : List ℕ → ℤ). operation_value 2 (1 ∷ 2 ∷ []) (f ∷ g ∷ []) s)
      (extended-row q a (row-degree p levels q first on_first)) (extended-row k b (row-degree p levels k second on_second)))))))

  pub product-closed : (out : List (ℕ × ℕ)) → HasValues p levels (q + k) (cup_product p q k (cochain_in levels q first) (cochain_in levels k second)) out
      → IsClosed p levels q first → IsClosed p levels k second → IsClosed p levels (q + k) out
  product-closed out h closed_first closed_second facets i =
      let a : Cochain = cochain_in levels q first in
      let b : Cochain = cochain_in levels k second in
      (cocycles facets (q + k) p (served_large p prime)).alike (cochain_in levels (q + k) out) (cup_product p q k a b) (h.values facets i)
      (product_law.closed facets p q k (q + k) a b (served_field p prime) (closed_first facets i) (closed_second facets i))

-- what is known of a cochain is known of the same cochain
pub on-same : (p : ℕ) (i j : List (List (List ℕ))) (x y : ComplexCochain p) → i ≡ j → x ≡ y → IsOn p i x.degree x.row → IsOn p j y.degree y.row
on-same p i j x y e f h = subst (λ (z : ComplexCochain p). IsOn p j z.degree z.row) f (subst (λ (k : List (List (List ℕ))). IsOn p k x.degree x.row) e h)

pub values-same : (p : ℕ) (i j : List (List (List ℕ))) (x y : ComplexCochain p) → i ≡ j → x ≡ y → cochain_in i x.degree x.row ≡ cochain_in j y.degree y.row
values-same p i j x y e f = ap₂ (λ (k : List (List (List ℕ))) (z : ComplexCochain p). cochain_in k z.degree z.row) e f
