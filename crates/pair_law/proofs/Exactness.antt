-- From exactness on cocycles to exactness of matrices.
use Rattle.std.proofs.Common.{◌≡◌, ℕ, ◌+◌, ◌*◌, ◌<◌, List, [], ◌∷◌, length, refl, arith, subst}
use Rattle.linear_law.proofs.Names.{IsClassSpace, IsLinearOnClasses, class_matrix, class_of, combination_member, coordinates-apart, coordinates-zero, zero-coordinates, Congruent_refl}
use Rattle.linear_law.specs.Names.{AgreesOn, IsCoordinates, IsMatrixOf, IsSubspace, combination, copies, matrix_times}
use Rattle.simplicial_law.proofs.Names.{classes}
use Rattle.simplicial_law.specs.Names.{Cochain, IsBasisModulo}
use Rattle.relative_law.proofs.Spaces.{forget_bound, relative_classes, relative_close, relative_coboundaries}
use Rattle.pair_law.proofs.PairMaps.{connect_map, connected_cocycle, first_exact, full_exact, into_map, relative_exact, restrict_map, restricted_cocycle, sub_exact}
use Rattle.pair_law.specs.Laws.{ExactMatrices, OfEachPair, PairMatrices}
use Rattle.pair_law.specs.Sequences.{IsExact, IsExactAt, IsVector, connecting}

itself : {p : ℕ} {On : List ℕ → Type 0} (v : Cochain) → AgreesOn p On v v
itself v = record { at = λ s on. Congruent_refl (v s) }

-- the coboundaries modulo themselves are a group that is zero
zero_basis : (p : ℕ) → 1 < p → {On : List ℕ → Type 0} {B : Cochain → Type 0} → IsSubspace p On B → IsBasisModulo p B B []
zero_basis p large space = record { cocycles = tt; coordinates = λ z h. ([], coordinates-zero p large space [] z h); only = λ z cs ds m a b. same cs ds a.count b.count }
  where
    same : (cs ds : List ℕ) → length cs ≡ 0 → length ds ≡ 0 → cs ≡ ds
    same [] [] a b = refl
    same [] (d ∷ ds) a b = absurd (omega arith)
    same (c ∷ cs) ds a b = absurd (omega arith)

module _ (p : ℕ) (large : 1 < p) {On On' On'' : List ℕ → Type 0} {M B M' B' M'' B'' : Cochain → Type 0}
    (from : IsClassSpace p On M B) (here : IsClassSpace p On' M' B') (to : IsClassSpace p On'' M'' B'')
    (F G : Cochain → Cochain) (f_members : (x : Cochain) → M x → M' (F x)) (g_members : (y : Cochain) → M' y → M'' (G y))
    (f_map : IsLinearOnClasses p On On' M B B' F) (g_map : IsLinearOnClasses p On' On'' M' B' B'' G) (exact : IsExactAt p M M' B' B'' F G) where
  own_coordinates : {On : List ℕ → Type 0} {B : Cochain → Type 0} → IsSubspace p On B → (zs : List Cochain) (v : List ℕ) → IsVector p (length zs) v → IsCoordinates p B zs (combination v zs) v
  own_coordinates space zs v h = record { count = h.count; small = h.small; rest = class_of p large space (combination v zs) (combination v zs) (itself (combination v zs)) }

  pub exact_matrices_at : (xs ys zs : List Cochain) (incoming outgoing : List (List ℕ)) → IsBasisModulo p M B xs → IsBasisModulo p M' B' ys → IsBasisModulo p M'' B'' zs →
      IsMatrixOf p B' F xs ys incoming → IsMatrixOf p B'' G ys zs outgoing → IsExact p (length xs) (length ys) (length zs) incoming outgoing
  exact_matrices_at xs ys zs incoming outgoing x_basis y_basis z_basis f_matrix g_matrix = record {
    given_to_zero = λ u h.
        let x : Cochain = combination u xs in
        let m = combination_member from.members u xs x_basis.cocycles in
        let c = carry_g (F x) (matrix_times p (length ys) incoming u) (carry_f x u (own_coordinates from.bounds xs u h)) in
        z_basis.only (G (F x)) (matrix_times p (length zs) outgoing (matrix_times p (length ys) incoming u)) (copies (length zs) 0)
        (g_members (F x) (f_members x m)) c (coordinates-zero p large to.bounds zs (G (F x)) (exact.goes x m));
    zero_is_given = λ v h none.
        let y : Cochain = combination v ys in
        let m = combination_member here.members v ys y_basis.cocycles in
        let own = own_coordinates here.bounds ys v h in
        let k = exact.comes y m (zero-coordinates p large to.bounds (length zs) zs (G y) (subst (IsCoordinates p B'' zs (G y)) none (carry_g y v own))) in
        let q = x_basis.coordinates k.0 k.1 in
        let u = matrix_times p (length ys) incoming q.0 in
        (q.0, record { count = q.1.count; small = q.1.small }, y_basis.only y u v m (coordinates-apart p large here.bounds ys y (F k.0) u k.2 (carry_f k.0 q.0 q.1)) own);
  }
    where
      carry_f : (x : Cochain) (u : List ℕ) → IsCoordinates p B xs x u → IsCoordinates p B' ys (F x) (matrix_times p (length ys) incoming u)
      carry_f = class_matrix p large here.bounds from.members from.inside F f_map xs ys incoming x_basis.cocycles f_matrix

      carry_g : (y : Cochain) (v : List ℕ) → IsCoordinates p B' ys y v → IsCoordinates p B'' zs (G y) (matrix_times p (length zs) outgoing v)
      carry_g = class_matrix p large to.bounds here.members here.inside G g_map ys zs outgoing y_basis.cocycles g_matrix

pub pair_matrices : OfEachPair PairMatrices
pair_matrices facets sub n p field pair =
    let large = field.large in
    let relative = λ (m : ℕ). relative_classes facets sub m p large pair in
    let whole = classes facets n p large in
    let part = classes sub n p large in record {
      into = class_matrix p large whole.bounds (relative n).members (relative n).inside (λ z. z) (into_map facets sub p large pair n);
      restrict = class_matrix p large part.bounds whole.members whole.inside (λ z. z) (restrict_map facets sub p large pair n);
      connect = class_matrix p large (relative (n + 1)).bounds part.members part.inside (connecting p sub) (connect_map facets sub p large pair n);
    }

pub exact_matrices : OfEachPair ExactMatrices
exact_matrices facets sub n p field pair =
    let large = field.large in
    let relative = λ (m : ℕ). relative_classes facets sub m p large pair in
    let whole = λ (m : ℕ). classes facets m p large in
    let part = classes sub n p large in
    let into = into_map facets sub p large pair in
    let restrict = restrict_map facets sub p large pair n in
    let connect = connect_map facets sub p large pair n in
    let goes_on = connected_cocycle facets sub p large pair n in
    let restricts = restricted_cocycle facets sub p large pair n in record {
      at_first = λ zs us matrix bz bu h.
          let space = relative_coboundaries facets sub 0 p large pair in
          exact_matrices_at p large (record { members = space; bounds = space; inside = λ w b. b }) (relative 0) (whole 0) (λ z. z) (λ z. z) (relative_close facets sub 0 p large pair) (λ z h. h.closed)
          (record { bound = λ z b. b; alike = λ v w e. e; plus = λ k v w hv hw. (let x : Cochain = λ s. v s + k * w s in class_of p large space x x (itself x)) })
          (into 0) (record { goes = λ z b. forget_bound facets sub 0 p z b; comes = λ z m b. (z, first_exact facets sub p large pair z m b, class_of p large space z z (itself z)) })
          [] zs us [] matrix (zero_basis p large space) bz bu tt h;
      at_relative = λ ws zs us. exact_matrices_at p large part (relative (n + 1)) (whole (n + 1)) (connecting p sub) (λ z. z) goes_on (λ z h. h.closed) connect (into (n + 1)) (relative_exact facets sub p large pair n) ws zs us;
      at_full = λ zs us ws. exact_matrices_at p large (relative n) (whole n) part (λ z. z) (λ z. z) (λ z h. h.closed) restricts (into n) restrict (full_exact facets sub p large pair n) zs us ws;
      at_sub = λ us ws zs. exact_matrices_at p large (whole n) part (relative (n + 1)) (λ z. z) (connecting p sub) restricts goes_on restrict connect (sub_exact facets sub p large pair n) us ws zs;
    }
