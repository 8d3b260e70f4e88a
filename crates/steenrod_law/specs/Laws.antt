-- The laws of the Steenrod operations.
use Rattle.std.specs.{Prelude.{◌≡◌, ℕ, ◌+◌, ◌*◌, ◌-◌, ◌≤◌, Bool, List, [], ◌∷◌, ◌++◌, length, map, sum, ℤ, pos, ◌+ℤ◌, ◌*ℤ◌, suc, IsTrue}, List.AllZip}
use Rattle.fp_field.specs.{Element.sign_power, Orbits.orbit_words, Served.served}
use Rattle.linear_law.specs.Names.{Congruent, IsField, negated, Each, matrix_times, combination}
use Rattle.simplicial_law.specs.Names.{IsSimplex, no_cochain, AgreesOnSimplices, Cochain, HasCoordinates, IsCoboundary, IsCocycle, IsCohomologyBasis, coboundary, CongruentInt}
use Rattle.steenrod_law.specs.{Operations.{IsBocksteinPower, IsPower, IsSimplicial, IsSquare, cochain_products, coefficient_products, cup_product, may_operation, orbit_primitive, power_degree, pull_back, scaled_operation, staircase_primitive, value_on}, Words.{IsOrbitTable, boundary_value, contraction, letter_degree, norm, staircase, step, turn_back}}
use Rattle.signed_sum.specs.Names.{cycle, unit_terms, value_at, after_turns, power_sum, word_turn}
use Rattle.surjection_law.specs.Names.{caesura_count, surjection_boundary, IsOnto}

-- Words are a cyclic model: `turn_back` undoes the turn, as many turns as there are letters do nothing,
-- the sum of all turns is that of all inverse turns, the boundary of a boundary is zero, and the
-- boundary commutes with turns and steps. Two steps in a row give zero. The boundary of the contraction
-- and the contraction of the boundary sum to the identity.
pub record WordLaws : Type 0 where
  pub there_back : (deg : Bool → ℕ) (h : List Bool → ℤ) (w : List Bool) →
      turn_back deg (λ v. (word_turn deg v).1 *ℤ h (word_turn deg v).0) w ≡ h w
  pub back_there : (deg : Bool → ℕ) (h : List Bool → ℤ) (w : List Bool) →
      (word_turn deg w).1 *ℤ turn_back deg h (word_turn deg w).0 ≡ h w
  pub whole : (deg : Bool → ℕ) (w : List Bool) → after_turns (word_turn deg) (length w) w ≡ (w, pos 1)
  pub norms : (deg : Bool → ℕ) (h : List Bool → ℤ) (w : List Bool) →
      value_at h (power_sum (word_turn deg) (length w) w) ≡ norm deg (length w) h w
  pub twice : (n : ℕ) (h : List Bool → ℤ) (w : List Bool) → boundary_value n (boundary_value n h) w ≡ pos 0
  pub turns : (n : ℕ) (h : List Bool → ℤ) (w : List Bool) →
      (word_turn (letter_degree n) w).1 *ℤ boundary_value n h (word_turn (letter_degree n) w).0
      ≡ boundary_value n (λ v. (word_turn (letter_degree n) v).1 *ℤ h (word_turn (letter_degree n) v).0) w
  pub steps : (n p m : ℕ) (h : List Bool → ℤ) (w : List Bool) →
      boundary_value n (step (letter_degree n) p m h) w ≡ step (letter_degree n) p m (boundary_value n h) w
  pub nothing : (deg : Bool → ℕ) (m : ℕ) (h : List Bool → ℤ) (w : List Bool) →
      step deg (length w) (suc m) (step deg (length w) m h) w ≡ pos 0
  pub contracts : (n : ℕ) (h : List Bool → ℤ) (l : Bool) (w : List Bool) →
      contraction (boundary_value n h) (l ∷ w) +ℤ boundary_value n (contraction h) (l ∷ w) ≡ h (l ∷ w)

-- The boundary of each sum of the staircase is the step of the one before it, modulo p.
abbrev pub StaircaseLaw : Type 0
StaircaseLaw = (p n d j : ℕ) (h : List Bool → ℤ) → IsField p → suc j ≤ d →
    CongruentInt p (staircase p n d (suc j) (boundary_value n h)) (staircase p n d j (step (letter_degree n) p (d - j) h))

-- The words of the listed orbit masks are one for each orbit.
abbrev pub OrbitWordsLaw : Type 0
OrbitWordsLaw = (p : ℕ) → IsTrue (served p) → IsOrbitTable p (orbit_words p)

-- On cocycles in every place the coboundary of the value of a surjection of degree d is (-1)^(d+1) times the value
-- of its boundary.
abbrev pub CocycleValueLaw : Type 0
CocycleValueLaw = (facets : List (List ℕ)) (p r n : ℕ) (u qs : List ℕ) (bs : List Cochain) → IsField p → IsOnto r u → 1 ≤ length u →
    AllZip (λ q a. IsCocycle facets q p a) qs bs →
    AgreesOnSimplices facets n p (coboundary p (value_on p r (unit_terms (u ∷ [])) qs bs))
    (λ s. sign_power p (caesura_count u + 1) * value_on p r (surjection_boundary u) qs bs s)

-- To turn a surjection by the cycle is to move the first cochain behind the others, with the sign of their degrees.
abbrev pub TurnedValueLaw : Type 0
TurnedValueLaw = (p q : ℕ) (u qs s : List ℕ) (a : Cochain) (bs : List Cochain) → IsField p → length qs ≡ length bs →
    IsOnto (suc (length bs)) u → 1 ≤ length s →
    Congruent p (value_on p (suc (length bs)) (unit_terms (map (cycle (suc (length bs))) u ∷ [])) (q ∷ qs) (a ∷ bs) s)
    (sign_power p (q * sum qs) * value_on p (suc (length bs)) (unit_terms (u ∷ [])) (qs ++ q ∷ []) (bs ++ a ∷ []) s)

-- A May operation takes cocycles to cocycles.
abbrev pub ClosedLaw : Type 0
ClosedLaw = (facets : List (List ℕ)) (p d q n : ℕ) (a : Cochain) → IsField p → IsCocycle facets q p a →
    IsCocycle facets n p (may_operation p d q a)

-- D_d of c times a is c times D_d of a.
abbrev pub ScalingLaw : Type 0
ScalingLaw = (p d q c : ℕ) (a : Cochain) (s : List ℕ) → IsField p → 1 ≤ length s →
    Congruent p (may_operation p d q (λ t. c * a t) s) (c * may_operation p d q a s)

-- The degrees of D_d, of the primitives and of cup products: on the simplices of other degrees they are 0. Where d is
-- p * q, or p * (q + 1) for the staircase, the primitive has degree -1 and is 0.
pub record DegreeLaw : Type 0 where
  pub operations : (facets : List (List ℕ)) (p d q n : ℕ) (a : Cochain) (s : List ℕ) → IsField p →
      IsSimplex facets n s → (n + d ≡ p * q → ⊥) → may_operation p d q a s ≡ 0
  pub orbit_primitives : (facets : List (List ℕ)) (p d q n : ℕ) (ms : List (List Bool)) (a c : Cochain) (s : List ℕ) →
      IsField p → IsOrbitTable p ms → IsSimplex facets n s → (n + d + 1 ≡ p * q → ⊥) →
      orbit_primitive p d q ms a c s ≡ 0
  pub staircase_primitives : (facets : List (List ℕ)) (p d q n : ℕ) (y : Cochain) (s : List ℕ) → IsField p →
      IsSimplex facets n s → (n + d + 1 ≡ p * (q + 1) → ⊥) → staircase_primitive p d q y s ≡ 0
  pub products : (facets : List (List ℕ)) (p q k n : ℕ) (a b : Cochain) (s : List ℕ) → IsField p →
      IsSimplex facets n s → (n ≡ q + k → ⊥) → cup_product p q k a b s ≡ 0

-- D_d of the coboundary of y is the coboundary of the primitive on the staircase.
abbrev pub RepresentativeLaw : Type 0
RepresentativeLaw = (facets : List (List ℕ)) (p d q n : ℕ) (y : Cochain) → IsField p →
    AgreesOnSimplices facets n p (may_operation p d (q + 1) (coboundary p y)) (coboundary p (staircase_primitive p d q y))

-- The words ms add D_d up: on a sum of cocycles of degree q it is the sum of both, plus (-1)^d times the coboundary of
-- the primitive on the words.
abbrev pub IsAdditiveOn : ℕ → List (List Bool) → Type 0
IsAdditiveOn p ms = (facets : List (List ℕ)) (d q n : ℕ) (a c : Cochain) → IsCocycle facets q p a → IsCocycle facets q p c →
    AgreesOnSimplices facets n p (may_operation p d q (λ t. a t + c t))
    (λ s. may_operation p d q a s + may_operation p d q c s + sign_power p d * coboundary p (orbit_primitive p d q ms a c) s)

-- D_d is additive up to that coboundary: on each orbit table, and so on the words of the listed masks.
pub record AdditivityLaw : Type 0 where
  pub every_table : (p : ℕ) (ms : List (List Bool)) → IsField p → IsOrbitTable p ms → IsAdditiveOn p ms
  pub listed_words : (p : ℕ) → IsTrue (served p) → IsAdditiveOn p (orbit_words p)

-- The primitives are 0 modulo p on each complex on which the given cochains are.
pub record SubcomplexLaw : Type 0 where
  pub orbit_primitives : (facets : List (List ℕ)) (p d q n : ℕ) (ms : List (List Bool)) (a c : Cochain) → IsField p →
      IsOrbitTable p ms → AgreesOnSimplices facets q p a no_cochain → AgreesOnSimplices facets q p c no_cochain →
      AgreesOnSimplices facets n p (orbit_primitive p d q ms a c) no_cochain
  pub staircase_primitives : (facets : List (List ℕ)) (p d q n : ℕ) (y : Cochain) → IsField p →
      AgreesOnSimplices facets q p y no_cochain → AgreesOnSimplices facets n p (staircase_primitive p d q y) no_cochain

-- On classes an operation is linear and does not depend on the representative: for each z that is the
-- combination of the cocycles zs plus a coboundary, the operation on z is the combination of the
-- operations on zs plus a coboundary.
abbrev pub LinearityLaw : Type 0
LinearityLaw = (facets : List (List ℕ)) (p d c q n : ℕ) (ms : List (List Bool)) (zs : List Cochain) (z : Cochain) (cs : List ℕ) →
    IsField p → IsOrbitTable p ms → Each (IsCocycle facets q p) zs → HasCoordinates facets q p zs z cs →
    IsCoboundary facets n p (λ s. scaled_operation p d c q z s + negated p (combination cs (map (scaled_operation p d c q) zs) s))

-- The matrix of an operation carries the coordinates of each cocycle to those of the operation on it: its
-- column j are the coordinates of the operation on the j-th of the cocycles zs.
abbrev pub OperationMatrixLaw : Type 0
OperationMatrixLaw = (facets : List (List ℕ)) (p d c q n : ℕ) (ms : List (List Bool)) (zs ws : List Cochain) (columns : List (List ℕ)) →
    IsField p → IsOrbitTable p ms → Each (IsCocycle facets q p) zs →
    AllZip (λ column z. HasCoordinates facets n p ws (scaled_operation p d c q z) column) columns zs →
    (z : Cochain) (cs : List ℕ) → HasCoordinates facets q p zs z cs →
    HasCoordinates facets n p ws (scaled_operation p d c q z) (matrix_times p (length ws) columns cs)

-- The cup product of cocycles is a cocycle, and on classes it is bilinear: the matrix of the products, with a
-- column for each pair by the first and then the second, carries the products of the coordinates of two
-- cocycles to the coordinates of their product.
pub record ProductLaw : Type 0 where
  pub closed : (facets : List (List ℕ)) (p q k n : ℕ) (a b : Cochain) → IsField p → IsCocycle facets q p a →
      IsCocycle facets k p b → IsCocycle facets n p (cup_product p q k a b)
  pub bilinear : (facets : List (List ℕ)) (p q k n : ℕ) (zs ws : List Cochain) (z w : Cochain) (cs ds : List ℕ) → IsField p →
      Each (IsCocycle facets q p) zs → Each (IsCocycle facets k p) ws →
      HasCoordinates facets q p zs z cs → HasCoordinates facets k p ws w ds →
      IsCoboundary facets n p (λ s. cup_product p q k z w s
      + negated p (combination cs (map (λ a. combination ds (map (cup_product p q k a) ws)) zs) s))
  pub matrix : (facets : List (List ℕ)) (p q k n : ℕ) (zs ws us : List Cochain) (columns : List (List ℕ)) → IsField p →
      Each (IsCocycle facets q p) zs → Each (IsCocycle facets k p) ws →
      AllZip (λ column u. HasCoordinates facets n p us u column) columns (cochain_products p q k zs ws) →
      (z w : Cochain) (cs ds : List ℕ) → HasCoordinates facets q p zs z cs → HasCoordinates facets k p ws w ds →
      HasCoordinates facets n p us (cup_product p q k z w) (matrix_times p (length us) columns (coefficient_products cs ds))

-- Modulo p, on lists that are not empty, May operations and products commute with the pull-back along each map of
-- vertices.
pub record PullBackLaw : Type 0 where
  pub operations : (f : ℕ → ℕ) (p d q : ℕ) (a : Cochain) (s : List ℕ) → IsField p → 1 ≤ length s →
      Congruent p (may_operation p d q (pull_back f a) s) (pull_back f (may_operation p d q a) s)
  pub products : (f : ℕ → ℕ) (p q k : ℕ) (a b : Cochain) (s : List ℕ) → IsField p → 1 ≤ length s →
      Congruent p (cup_product p q k (pull_back f a) (pull_back f b) s) (pull_back f (cup_product p q k a b) s)

-- Squares, powers and Bockstein powers have the degrees that their definitions say: in every other degree the May
-- operation that the definition takes is 0.
pub record TargetLaw : Type 0 where
  pub squares : (facets : List (List ℕ)) (k q n : ℕ) (a b : Cochain) (s : List ℕ) → IsSquare facets k q a b →
      IsSimplex facets n s → (n ≡ q + k → ⊥) → may_operation 2 (q - k) q a s ≡ 0
  pub powers : (facets : List (List ℕ)) (p i q n : ℕ) (a b : Cochain) (s : List ℕ) → IsField p → IsPower facets p i q a b →
      IsSimplex facets n s → (n ≡ q + 2 * i * (p - 1) → ⊥) → may_operation p (power_degree p i q) q a s ≡ 0
  pub bockstein_powers : (facets : List (List ℕ)) (p i q n : ℕ) (a b : Cochain) (s : List ℕ) → IsField p →
      IsBocksteinPower facets p i q a b → IsSimplex facets n s → (n ≡ q + 2 * i * (p - 1) + 1 → ⊥) →
      may_operation p (power_degree p i q - 1) q a s ≡ 0

-- The pull-back along an order-preserving simplicial map commutes with the coboundary, and takes cocycles to
-- cocycles. Its matrix carries the coordinates of each cochain that has some to those of its pull-back.
pub record InducedMapLaw : Type 0 where
  pub coboundaries : (f : ℕ → ℕ) (from to : List (List ℕ)) (p q : ℕ) (y : Cochain) → IsField p → IsSimplicial f from to →
      AgreesOnSimplices from (q + 1) p (coboundary p (pull_back f y)) (pull_back f (coboundary p y))
  pub cocycles : (f : ℕ → ℕ) (from to : List (List ℕ)) (p q : ℕ) (a : Cochain) → IsField p → IsSimplicial f from to →
      IsCocycle to q p a → IsCocycle from q p (pull_back f a)
  pub matrix : (f : ℕ → ℕ) (from to : List (List ℕ)) (p q : ℕ) (zs ws : List Cochain) (columns : List (List ℕ)) → IsField p →
      IsSimplicial f from to →
      AllZip (λ column u. HasCoordinates from q p zs u column) columns (map (pull_back f) ws) →
      (w : Cochain) (cs : List ℕ) → HasCoordinates to q p ws w cs →
      HasCoordinates from q p zs (pull_back f w) (matrix_times p (length zs) columns cs)

-- The matrices of an operation commute with induced matrices. Given are a map of complexes, cocycles zs of the source
-- and zs' of the target in degree q, a basis us of the cohomology of the source and cochains us' of the target in
-- degree n, the matrices of the operation from zs to us and from zs' to us', and those of the map from zs' to zs and
-- from us' to us. Then the induced matrix in degree n times each column of the operation on the target is the matrix of
-- the operation on the source times the same column of the induced matrix in degree q.
abbrev pub InducedMatrixLaw : Type 0
InducedMatrixLaw = (f : ℕ → ℕ) (from to : List (List ℕ)) (p d c q n : ℕ) (ms : List (List Bool)) → IsField p → IsOrbitTable p ms →
    IsSimplicial f from to → (zs us zs' us' : List Cochain) (ops induced_q ops' induced_n : List (List ℕ)) →
    Each (IsCocycle from q p) zs → IsCohomologyBasis from n p us → Each (IsCocycle to q p) zs' →
    AllZip (λ column z. HasCoordinates from n p us (scaled_operation p d c q z) column) ops zs →
    AllZip (λ column z. HasCoordinates to n p us' (scaled_operation p d c q z) column) ops' zs' →
    AllZip (λ column u. HasCoordinates from q p zs u column) induced_q (map (pull_back f) zs') →
    AllZip (λ column u. HasCoordinates from n p us u column) induced_n (map (pull_back f) us') →
    map (λ column. matrix_times p (length us) induced_n column) ops' ≡ map (λ column. matrix_times p (length us) ops column) induced_q

-- The operation promise: the matrix of a square, a power or a Bockstein power, whose column j are the
-- coordinates of the operation on the j-th of the cocycles zs, carries the coordinates of every cocycle z to
-- those of the operation on z, whichever representative of its class z is.
pub record SteenrodMatrixLaw : Type 0 where
  pub squares : (facets : List (List ℕ)) (k q : ℕ) (zs bs us : List Cochain) (columns : List (List ℕ)) →
      Each (IsCocycle facets q 2) zs → AllZip (IsSquare facets k q) zs bs →
      AllZip (λ column b. HasCoordinates facets (q + k) 2 us b column) columns bs →
      (z b : Cochain) (cs : List ℕ) → HasCoordinates facets q 2 zs z cs → IsSquare facets k q z b →
      HasCoordinates facets (q + k) 2 us b (matrix_times 2 (length us) columns cs)
  pub powers : (facets : List (List ℕ)) (p s q : ℕ) (zs bs us : List Cochain) (columns : List (List ℕ)) → IsTrue (served p) →
      Each (IsCocycle facets q p) zs → AllZip (IsPower facets p s q) zs bs →
      AllZip (λ column b. HasCoordinates facets (q + 2 * s * (p - 1)) p us b column) columns bs →
      (z b : Cochain) (cs : List ℕ) → HasCoordinates facets q p zs z cs → IsPower facets p s q z b →
      HasCoordinates facets (q + 2 * s * (p - 1)) p us b (matrix_times p (length us) columns cs)
  pub bockstein_powers : (facets : List (List ℕ)) (p s q : ℕ) (zs bs us : List Cochain) (columns : List (List ℕ)) →
      IsTrue (served p) → Each (IsCocycle facets q p) zs → AllZip (IsBocksteinPower facets p s q) zs bs →
      AllZip (λ column b. HasCoordinates facets (q + 2 * s * (p - 1) + 1) p us b column) columns bs →
      (z b : Cochain) (cs : List ℕ) → HasCoordinates facets q p zs z cs → IsBocksteinPower facets p s q z b →
      HasCoordinates facets (q + 2 * s * (p - 1) + 1) p us b (matrix_times p (length us) columns cs)
