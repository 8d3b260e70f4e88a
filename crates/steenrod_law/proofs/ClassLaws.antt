-- The laws of operations and products on classes of cochains of residues.
use Rattle.std.{proofs.Common.{◌≡◌, ℕ, zero, suc, ◌+◌, ◌*◌, ◌≤◌, ◌-◌, Bool, List, [], ◌∷◌, ◌++◌, map, length, refl, sym, ◌∙◌, ap, arith, ℤ, pos, ◌+ℤ◌, ◌*ℤ◌, length-append}, specs.List.AllZip, proofs.Math.IntN.pos-*ℤ-pos, proofs.lemmas.Int.ints, proofs.lemmas.List.length-map}
use Rattle.interval_cut_law.proofs.CochainLaws.{naturality_law}
use Rattle.linear_law.{proofs.Names.{IsLinearOnClasses, IsSameClass, class_combination, class_matrix, class_of, class_trans, member_of, multiple_in, nothing, on_classes, Congruent_add, Congruent_from, Congruent_of, Congruent_refl, Congruent_scale, Congruent_trans, add-negated, each_map, from_columns}, specs.Names.{AgreesOn, Congruent, IsField, negated, Each, matrix_times, IsSubspace, combination}}
use Rattle.fp_field.specs.Element.{sign_power}
use Rattle.signed_sum.{proofs.Names.fun_ext, specs.Names.signed}
pub use Rattle.simplicial_law.proofs.Names.{coboundary-vertex}
use Rattle.simplicial_law.{proofs.Names.{bounds_close, coboundaries, cocycles, CongruentInt-scale, CongruentInt-sum, CongruentInt_of, CongruentInt_refl, CongruentInt_sym, CongruentInt_trans}, specs.Names.{AgreesOnSimplices, Cochain, HasCoordinates, IsCoboundary, IsCocycle, coboundary, CongruentInt, integral_coboundary, IsSimplex}}
use Rattle.steenrod_law.{proofs.AdditiveMaps.adds-scale, proofs.Complexes.{coboundary-residues, extended-coboundary, extended-cochain, extended-cocycle, extended-same, residue_cochain-empty, residue_cochain-same, weak-closed, weak_of_simplex}, proofs.Forms.{IsWeakFace, cup}, proofs.OperationLaws.{above_one, additivity-law, extended-add, extended-scale, family_here, positive_here, prime_here, pulled, pulled-value, residue-none, scaling-law, to_residues, value-same, vertices, whole_operation}, proofs.Products.{cup-closed, cup-degree, cup-left, cup-mod, cup-right, left-bound, right-bound}, proofs.Representatives.representatives, proofs.ValuesOnFaces.operation-mod, specs.Names.{IsWeakSimplex, cochain_products, coefficient_products, cup_product, extended, may_operation, orbit_primitive, orbit_sum, pull_back, residue_cochain, scaled_operation, staircase_sum, IsOrbitTable}}
use Rattle.table_reduction_law.specs.Names.{may_element}

-- combinations of products
combination-append : (cs ds : List ℕ) (Fs Gs : List Cochain) (s : List ℕ) → length cs ≡ length Fs → combination (cs ++ ds) (Fs ++ Gs) s ≡ combination cs Fs s + combination ds Gs s
combination-append [] ds [] Gs s e = omega arith
combination-append [] ds (F ∷ Fs) Gs s e = absurd (omega (arith, e))
combination-append (c ∷ cs) ds [] Gs s e = absurd (omega (arith, e))
combination-append (c ∷ cs) ds (F ∷ Fs) Gs s e = let h = combination-append cs ds Fs Gs s (omega (arith, e)) in omega arith

combination-times : (c : ℕ) (ds : List ℕ) (Fs : List Cochain) (s : List ℕ) → combination (map (λ d. c * d) ds) Fs s ≡ c * combination ds Fs s
combination-times c [] Fs s = omega arith
combination-times c (d ∷ ds) [] s = omega arith
combination-times c (d ∷ ds) (F ∷ Fs) s = let h = combination-times c ds Fs s in omega arith

combination-products : (p q k : ℕ) (cs ds : List ℕ) (zs ws : List Cochain) (s : List ℕ) → length cs ≡ length zs → length ds ≡ length ws →
    combination (coefficient_products cs ds) (cochain_products p q k zs ws) s ≡ combination cs (map (λ a. combination ds (map (cup_product p q k a) ws)) zs) s
combination-products p q k [] ds [] ws s e g = refl
combination-products p q k [] ds (z ∷ zs) ws s e g = absurd (omega (arith, e))
combination-products p q k (c ∷ cs) ds [] ws s e g = absurd (omega (arith, e))
combination-products p q k (c ∷ cs) ds (z ∷ zs) ws s e g =
    let a = combination-append (map (λ d. c * d) ds) (coefficient_products cs ds) (map (cup_product p q k z) ws) (cochain_products p q k zs ws) s (length-map ds (λ d. c * d) ∙ g ∙ sym (length-map ws (cup_product p q k z))) in
    let b = combination-times c ds (map (cup_product p q k z) ws) s in
    let h = combination-products p q k cs ds zs ws s (omega (arith, e)) g in
    omega arith

products-length : (p q k : ℕ) (cs ds : List ℕ) (zs ws : List Cochain) → length cs ≡ length zs → length ds ≡ length ws → length (coefficient_products cs ds) ≡ length (cochain_products p q k zs ws)
products-length p q k [] ds [] ws e g = refl
products-length p q k [] ds (z ∷ zs) ws e g = absurd (omega (arith, e))
products-length p q k (c ∷ cs) ds [] ws e g = absurd (omega (arith, e))
products-length p q k (c ∷ cs) ds (z ∷ zs) ws e g =
    let a = length-append (map (λ d. c * d) ds) (coefficient_products cs ds) in
    let b = length-append (map (cup_product p q k z) ws) (cochain_products p q k zs ws) in
    let m = length-map ds (λ d. c * d) in
    let l = length-map ws (cup_product p q k z) in
    let h = products-length p q k cs ds zs ws (omega (arith, e)) g in
    omega arith

module _ (p : ℕ) (field : IsField p) (facets : List (List ℕ)) where
  spaces : (n : ℕ) → IsSubspace p (IsSimplex facets n) (IsCoboundary facets n p)
  spaces n = coboundaries facets n p (above_one p field)

  -- what sees cochains up to agreement takes coboundaries to members of C, if it does so with those in degrees above 0
  pub bound-cases : {At : ℕ → List ℕ → Type 0} {C : ℕ → Cochain → Type 0} (in_c : (q : ℕ) → IsSubspace p (At q) (C q)) (F : ℕ → Cochain → Cochain) →
      ((m : ℕ) (y : Cochain) → y [] ≡ 0 → C (suc m) (F (suc m) (coboundary p y))) → (q : ℕ) →
      ((v w : Cochain) → AgreesOnSimplices facets q p v w → AgreesOn p (At q) (F q v) (F q w)) → C q (F q (λ t. 0)) → (b : Cochain) → IsCoboundary facets q p b → C q (F q b)
  bound-cases in_c F exact zero alike nothing b h =
      (in_c zero).alike (F zero b) (F zero (λ t. 0))
      (alike b (λ t. 0) (record { at = λ s on. Congruent_trans (h.same.at s on) (Congruent_of (coboundary-vertex p h.below s (let l = on.size in omega arith) h.nothing)) })) nothing
  bound-cases in_c F exact (suc m) alike nothing b h = (in_c (suc m)).alike (F (suc m) b) (F (suc m) (coboundary p h.below)) (alike b (coboundary p h.below) h.same) (exact m h.below h.nothing)

  -- the residues F of a map G of cochains with whole values that sees the values on the faces modulo p
  module _ (F : ℕ → Cochain → Cochain) (G : (List ℕ → ℤ) → List ℕ → ℤ) (same : (q : ℕ) (a : Cochain) (s : List ℕ) → 1 ≤ length s → CongruentInt p (pos (F q a s)) (G (extended q a) s))
      (faces : (h g : List ℕ → ℤ) (s : List ℕ) → 1 ≤ length s → ((f : List ℕ) → IsWeakFace f s → CongruentInt p (h f) (g f)) → CongruentInt p (G h s) (G g s)) where
    values-alike : (n q : ℕ) (a b : Cochain) → AgreesOnSimplices facets q p a b → AgreesOnSimplices facets n p (F q a) (F q b)
    values-alike n q a b k = record {
      at = λ s on. (
          let h = vertices p field facets n s on in
          to_residues p field (CongruentInt_trans (same q a s h)
          (CongruentInt_trans (faces (extended q a) (extended q b) s h (λ f w. extended-same facets q p a b f k (weak-closed facets f s w (weak_of_simplex facets n s on)))) (CongruentInt_sym (same q b s h)))));
    }

    values-exact : (n m : ℕ) (y : Cochain) (by : List ℕ → ℤ) → ((s : List ℕ) → IsWeakSimplex facets s → 1 ≤ length s → CongruentInt p (G (integral_coboundary (extended m y)) s) (integral_coboundary by s)) →
        IsCoboundary facets n p (F (suc m) (coboundary p y))
    values-exact n m y by e = record {
      below = residue_cochain p by;
      nothing = residue_cochain-empty p by;
      same = record {
        at = λ s on. (
            let h = vertices p field facets n s on in
            let k = weak_of_simplex facets n s on in
            to_residues p field (CongruentInt_trans (same (suc m) (coboundary p y) s h)
            (CongruentInt_trans (faces (extended (suc m) (coboundary p y)) (integral_coboundary (extended m y)) s h (λ f w. extended-coboundary facets m p y f (above_one p field) (weak-closed facets f s w k)))
            (CongruentInt_trans (e s k h) (coboundary-residues p by s (above_one p field))))));
      };
    }

    values-linear : (n q : ℕ) → ((s : List ℕ) (h g : List ℕ → ℤ) → G (λ t. h t +ℤ g t) s ≡ G h s +ℤ G g s) → (by : ℕ → Cochain → List ℕ → ℤ) →
        ((m : ℕ) (y : Cochain) (s : List ℕ) → IsWeakSimplex facets s → 1 ≤ length s → CongruentInt p (G (integral_coboundary (extended m y)) s) (integral_coboundary (by m y) s)) →
        IsLinearOnClasses p (IsSimplex facets q) (IsSimplex facets n) (IsCocycle facets q p) (IsCoboundary facets q p) (IsCoboundary facets n p) (F q)
    values-linear n q adds by e = record {
      alike = values-alike n q;
      plus = plus;
      bound = bound-cases (λ j. spaces n) F (λ m y z. values-exact n m y (by m y) (e m y)) q (values-alike n q) (nothing p (above_one p field) (spaces n) (cocycles facets q p (above_one p field)) (F q) (values-alike n q) plus);
    }
      where
        plus : (k : ℕ) (a b : Cochain) → IsCocycle facets q p a → IsCocycle facets q p b → IsSameClass p (IsCoboundary facets n p) (F q (λ t. a t + k * b t)) (λ s. F q a s + k * F q b s)
        plus k a b za zb = class_of p (above_one p field) (spaces n) (F q (λ t. a t + k * b t)) (λ s. F q a s + k * F q b s) (record {
          at = λ s on. (
              let h = vertices p field facets n s on in
              let sum = ap (λ g. G g s) (fun_ext (λ f. extended-add p field q a (λ t. k * b t) f ∙ ap (λ z. extended q a f +ℤ z) (extended-scale p field q k b f))) in
              let times = adds-scale (λ g. G g s) (adds s) (pos k) (extended q b) in
              let split = adds s (extended q a) (λ f. pos k *ℤ extended q b f) in
              let product = pos-*ℤ-pos k (F q b s) in
              to_residues p field (CongruentInt_trans (same q (λ t. a t + k * b t) s h)
              (CongruentInt_trans (CongruentInt_of (sum ∙ split ∙ ap (λ z. G (extended q a) s +ℤ z) times))
              (CongruentInt_trans (CongruentInt-sum (CongruentInt_sym (same q a s h)) (CongruentInt-scale (pos k) (CongruentInt_sym (same q b s h))))
              (CongruentInt_of (omega (arith, ints)))))));
        })

  -- operations

  operation-faces-mod : (d : ℕ) (h g : List ℕ → ℤ) (s : List ℕ) → 1 ≤ length s → ((f : List ℕ) → IsWeakFace f s → CongruentInt p (h f) (g f)) → CongruentInt p (whole_operation p d h s) (whole_operation p d g s)
  operation-faces-mod d h g s l e = operation-mod p d (may_element p d) h g s ((family_here p field).terms d) (positive_here p field) l e

  -- operations see the values on simplices modulo p alone
  pub operation-alike : (d c q n : ℕ) (a b : Cochain) → AgreesOnSimplices facets q p a b → AgreesOnSimplices facets n p (scaled_operation p d c q a) (scaled_operation p d c q b)
  operation-alike d c q n a b h = record { at = λ s on. Congruent_scale c ((values-alike (may_operation p d) (whole_operation p d) (value-same p field d) (operation-faces-mod d) n q a b h).at s on) }

  pub operation-linear : (d c q n : ℕ) (ms : List (List Bool)) → IsOrbitTable p ms →
      IsLinearOnClasses p (IsSimplex facets q) (IsSimplex facets n) (IsCocycle facets q p) (IsCoboundary facets q p) (IsCoboundary facets n p) (scaled_operation p d c q)
  operation-linear d c q n ms orbits = record {
    alike = operation-alike d c q n;
    plus = plus;
    bound = bound-cases (λ j. spaces n) (scaled_operation p d c) exact q (operation-alike d c q n) (nothing p (above_one p field) (spaces n) (cocycles facets q p (above_one p field)) (scaled_operation p d c q) (operation-alike d c q n) plus);
  }
    where
      plus : (k : ℕ) (a b : Cochain) → IsCocycle facets q p a → IsCocycle facets q p b →
          IsSameClass p (IsCoboundary facets n p) (scaled_operation p d c q (λ t. a t + k * b t)) (λ s. scaled_operation p d c q a s + k * scaled_operation p d c q b s)
      plus k a b za zb =
          let y : Cochain = orbit_primitive p d q ms a (λ t. k * b t) in
          let sum = additivity-law p field facets d q n ms a (λ t. k * b t) orbits za (multiple_in (cocycles facets q p (above_one p field)) k b zb) in
          (spaces n).alike (λ s. scaled_operation p d c q (λ t. a t + k * b t) s + negated p (scaled_operation p d c q a s + k * scaled_operation p d c q b s)) (λ s. (c * sign_power p d) * coboundary p y s)
          (record {
            at = λ s on.
                Congruent_from
                (Congruent_add (Congruent_scale c (sum.at s on))
                (Congruent_add (Congruent_scale c (scaling-law p field d q k b s (vertices p field facets n s on)))
                (add-negated p (scaled_operation p d c q a s + k * scaled_operation p d c q b s) (above_one p field))))
                (omega arith);
          })
          (multiple_in (spaces n) (c * sign_power p d) (coboundary p y)
          (record { below = y; nothing = residue_cochain-empty p (orbit_sum p d (may_element p) ms (extended q a) (extended q (λ t. k * b t))); same = record { at = λ s on. Congruent_refl (coboundary p y s) } }))

      exact : (m : ℕ) (y : Cochain) → y [] ≡ 0 → IsCoboundary facets n p (scaled_operation p d c (suc m) (coboundary p y))
      exact m y z =
          multiple_in (spaces n) c (may_operation p d (suc m) (coboundary p y))
          (values-exact (may_operation p d) (whole_operation p d) (value-same p field d) (operation-faces-mod d) n m y (staircase_sum p m d (may_element p) (extended m y))
          (λ s k h. representatives p d m (may_element p) (extended m y) s (prime_here p field) (family_here p field) (extended-cochain m y) h))

  pub linearity-law : (d c q n : ℕ) (ms : List (List Bool)) (zs : List Cochain) (z : Cochain) (cs : List ℕ) → IsOrbitTable p ms → Each (IsCocycle facets q p) zs → HasCoordinates facets q p zs z cs →
      IsCoboundary facets n p (λ s. scaled_operation p d c q z s + negated p (combination cs (map (scaled_operation p d c q) zs) s))
  linearity-law d c q n ms zs z cs orbits =
      on_classes p (above_one p field) (spaces n) (cocycles facets q p (above_one p field)) (bounds_close facets q p (above_one p field)) (scaled_operation p d c q) (operation-linear d c q n ms orbits) zs z cs

  pub matrix-law : (d c q n : ℕ) (ms : List (List Bool)) (zs ws : List Cochain) (As : List (List ℕ)) → IsOrbitTable p ms → Each (IsCocycle facets q p) zs →
      AllZip (λ column z. HasCoordinates facets n p ws (scaled_operation p d c q z) column) As zs → (z : Cochain) (cs : List ℕ) → HasCoordinates facets q p zs z cs →
      HasCoordinates facets n p ws (scaled_operation p d c q z) (matrix_times p (length ws) As cs)
  matrix-law d c q n ms zs ws As orbits =
      class_matrix p (above_one p field) (spaces n) (cocycles facets q p (above_one p field)) (bounds_close facets q p (above_one p field)) (scaled_operation p d c q) (operation-linear d c q n ms orbits) zs ws As

  -- products

  cup-same : (q k : ℕ) (a b : Cochain) (s : List ℕ) → 1 ≤ length s → CongruentInt p (pos (cup_product p q k a b s)) (cup (extended q a) (extended k b) s)
  cup-same q k a b s h = residue_cochain-same p (cup (extended q a) (extended k b)) s (above_one p field) h

  left-linear : (q k n : ℕ) (w : Cochain) → IsCocycle facets k p w →
      IsLinearOnClasses p (IsSimplex facets q) (IsSimplex facets n) (IsCocycle facets q p) (IsCoboundary facets q p) (IsCoboundary facets n p) (λ a. cup_product p q k a w)
  left-linear q k n w zw =
      values-linear (λ j a. cup_product p j k a w) (λ h s. cup h (extended k w) s) (λ j a s h. cup-same j k a w s h)
      (λ h g s l e. cup-mod p h (extended k w) g (extended k w) s l e (λ f v. CongruentInt_refl (extended k w f)))
      n q (cup-left (extended k w)) (λ m y. cup (extended m y) (extended k w))
      (λ m y s on h. left-bound (IsWeakSimplex facets) p m k (extended m y) (extended k w) s (weak-closed facets) (extended-cochain m y) (extended-cocycle facets k p w (above_one p field) zw) on h)

  right-linear : (q k n : ℕ) (a : Cochain) → IsCocycle facets q p a →
      IsLinearOnClasses p (IsSimplex facets k) (IsSimplex facets n) (IsCocycle facets k p) (IsCoboundary facets k p) (IsCoboundary facets n p) (cup_product p q k a)
  right-linear q k n a za =
      values-linear (λ j w. cup_product p q j a w) (λ h s. cup (extended q a) h s) (λ j w s h. cup-same q j a w s h)
      (λ h g s l e. cup-mod p (extended q a) h (extended q a) g s l (λ f v. CongruentInt_refl (extended q a f)) e)
      n k (cup-right (extended q a)) (λ m y t. signed q (cup (extended q a) (extended m y) t))
      (λ m y s on h. right-bound (IsWeakSimplex facets) p q m (extended q a) (extended m y) s (weak-closed facets) (extended-cocycle facets q p a (above_one p field) za) (extended-cochain m y) on h)

  pub bilinear-law : (q k n : ℕ) (zs ws : List Cochain) (z w : Cochain) (cs ds : List ℕ) → Each (IsCocycle facets q p) zs → Each (IsCocycle facets k p) ws →
      HasCoordinates facets q p zs z cs → HasCoordinates facets k p ws w ds →
      IsCoboundary facets n p (λ s. cup_product p q k z w s + negated p (combination cs (map (λ a. combination ds (map (cup_product p q k a) ws)) zs) s))
  bilinear-law q k n zs ws z w cs ds cz cw hz hw =
      let large = above_one p field in
      let left : Cochain → Cochain = λ a. cup_product p q k a w in
      let right : Cochain → Cochain = λ a. combination ds (map (cup_product p q k a) ws) in
      let zw = member_of p large (spaces n) (cocycles facets k p large) (bounds_close facets k p large) ws w ds cw hw in
      class_trans p large (spaces n) (cup_product p q k z w) (combination cs (map left zs)) (combination cs (map right zs))
      (on_classes p large (spaces n) (cocycles facets q p large) (bounds_close facets q p large) left (left-linear q k n w zw) zs z cs cz hz)
      (class_combination p large (spaces n) left right cs zs
      (each_map (λ a za. on_classes p large (spaces n) (cocycles facets k p large) (bounds_close facets k p large) (cup_product p q k a) (right-linear q k n a za) ws w ds cw hw) zs cz))

  pub product-matrix : (q k n : ℕ) (zs ws us : List Cochain) (As : List (List ℕ)) → Each (IsCocycle facets q p) zs → Each (IsCocycle facets k p) ws →
      AllZip (λ column u. HasCoordinates facets n p us u column) As (cochain_products p q k zs ws) → (z w : Cochain) (cs ds : List ℕ) → HasCoordinates facets q p zs z cs → HasCoordinates facets k p ws w ds →
      HasCoordinates facets n p us (cup_product p q k z w) (matrix_times p (length us) As (coefficient_products cs ds))
  product-matrix q k n zs ws us As cz cw h z w cs ds hz hw =
      from_columns p (above_one p field) (spaces n) us (cochain_products p q k zs ws) As (coefficient_products cs ds) (cup_product p q k z w) (products-length p q k cs ds zs ws hz.count hw.count) h
      ((spaces n).alike (λ s. cup_product p q k z w s + negated p (combination (coefficient_products cs ds) (cochain_products p q k zs ws) s))
      (λ s. cup_product p q k z w s + negated p (combination cs (map (λ a. combination ds (map (cup_product p q k a) ws)) zs) s))
      (record { at = λ s on. Congruent_of (ap (λ j. cup_product p q k z w s + (p - 1) * j) (combination-products p q k cs ds zs ws s hz.count hw.count)) })
      (bilinear-law q k n zs ws z w cs ds cz cw hz hw))

  pub product-closed : (q k n : ℕ) (a b : Cochain) → IsCocycle facets q p a → IsCocycle facets k p b → IsCocycle facets n p (cup_product p q k a b)
  product-closed q k n a b za zb = record {
    at = λ s on. to_residues p field
        (CongruentInt_trans (CongruentInt_sym (coboundary-residues p (cup (extended q a) (extended k b)) s (above_one p field)))
        (cup-closed (IsWeakSimplex facets) p q k (extended q a) (extended k b) s (weak-closed facets) (extended-cocycle facets q p a (above_one p field) za) (extended-cocycle facets k p b (above_one p field) zb)
        (weak_of_simplex facets (n + 1) s on) (vertices p field facets (n + 1) s on)));
  }

  pub product-degree : (q k n : ℕ) (a b : Cochain) (s : List ℕ) → IsSimplex facets n s → (n ≡ q + k → ⊥) → cup_product p q k a b s ≡ 0
  product-degree q k n a b s on ne =
      let l = on.size in
      residue-none p field (cup (extended q a) (extended k b)) s (vertices p field facets n s on)
      ((cup-degree q k (suc (q + k)) (extended q a) (extended k b) (extended-cochain q a) (extended-cochain k b) refl).other s (vertices p field facets n s on) (λ e. ne (omega arith)))

pub pull_back-product : (p : ℕ) → IsField p → (f : ℕ → ℕ) (q k : ℕ) (a b : Cochain) (s : List ℕ) → 1 ≤ length s → Congruent p (cup_product p q k (pull_back f a) (pull_back f b) s) (pull_back f (cup_product p q k a b) s)
pull_back-product p field f q k a b s h =
    pulled-value p field f (cup_product p q k a b) (cup (extended q a) (extended k b)) (cup_product p q k (pull_back f a) (pull_back f b) s) s
    (CongruentInt_trans (cup-same p field [] q k (pull_back f a) (pull_back f b) s h)
    (CongruentInt_of ((λ i. cup (λ g. sym (pulled f q a g) i) (λ g. sym (pulled f k b g) i) s) ∙ sym (naturality_law f 2 (1 ∷ 2 ∷ []) s (extended q a ∷ extended k b ∷ []) h (omega arith)))))
    ((cup-degree q k (suc (q + k)) (extended q a) (extended k b) (extended-cochain q a) (extended-cochain k b) refl).plain (map f s))
    (λ e. CongruentInt_sym (cup-same p field [] q k a b (map f s) (let l = length-map s f in omega arith)))
