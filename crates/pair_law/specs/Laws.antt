-- The laws of pairs.
use Rattle.std.specs.Prelude.{◌≡◌, ℕ, ◌+◌, ◌*◌, ◌-◌, Bool, List, [], length, map, IsTrue}
use Rattle.fp_field.specs.Served.{served}
use Rattle.linear_law.specs.Names.{CarriesCoordinates, CarriesRelated, Each, IsField, IsMatrixOf, combination, matrix_times, negated}
use Rattle.simplicial_law.specs.Names.{AgreesOnSimplices, Cochain, IsCoboundary, IsCocycle, IsCohomologyBasis, coboundary}
use Rattle.steenrod_law.specs.Names.{IsBocksteinPower, IsOrbitTable, IsPower, IsSimplicial, IsSquare, pull_back, scaled_operation}
use Rattle.relative_law.specs.Names.{HasRelativeCoordinates, IsRelativeBasis, IsRelativeCoboundary, IsRelativeCocycle, IsSubcomplex}
use Rattle.pair_law.specs.Sequences.{IsConnectingMatrix, IsExact, IsExactAt, IsIntoMatrix, IsRestrictionMatrix, KeepsVertices, connecting}

-- what holds of each pair, in each degree n, modulo each prime p
abbrev pub OfEachPair : (List (List ℕ) → List (List ℕ) → ℕ → ℕ → Type 0) → Type 0
OfEachPair R = (facets sub : List (List ℕ)) (n p : ℕ) → IsField p → IsSubcomplex sub facets → R facets sub n p

-- The three maps of a pair take cocycles to cocycles and coboundaries to coboundaries. The coboundary of any
-- extension of a cocycle of the subcomplex is that of its extension by 0, up to a relative coboundary.
pub record PairMaps (facets sub : List (List ℕ)) (n p : ℕ) : Type 0 where
  pub into_cocycles : (z : Cochain) → IsRelativeCocycle facets sub n p z → IsCocycle facets n p z
  pub into_coboundaries : (z : Cochain) → IsRelativeCoboundary facets sub n p z → IsCoboundary facets n p z
  pub restricted_cocycles : (u : Cochain) → IsCocycle facets n p u → IsCocycle sub n p u
  pub restricted_coboundaries : (u : Cochain) → IsCoboundary facets n p u → IsCoboundary sub n p u
  pub connected_cocycles : (w : Cochain) → IsCocycle sub n p w → IsRelativeCocycle facets sub (n + 1) p (connecting p sub w)
  pub connected_coboundaries : (w : Cochain) → IsCoboundary sub n p w → IsRelativeCoboundary facets sub (n + 1) p (connecting p sub w)
  pub any_extension : (w e : Cochain) → AgreesOnSimplices sub n p e w →
      IsRelativeCoboundary facets sub (n + 1) p (λ s. coboundary p e s + negated p (connecting p sub w s))

-- The cohomology sequence of a pair is exact, on cocycles: at relative cohomology in degree n + 1, and at that of the complex and of the subcomplex in
-- degree n. In degree 0 a relative cocycle that is a coboundary of the complex is a relative coboundary.
pub record ExactCocycles (facets sub : List (List ℕ)) (n p : ℕ) : Type 0 where
  pub at_first : (z : Cochain) → IsRelativeCocycle facets sub 0 p z → IsCoboundary facets 0 p z → IsRelativeCoboundary facets sub 0 p z
  pub at_relative : IsExactAt p (IsCocycle sub n p) (IsRelativeCocycle facets sub (n + 1) p) (IsRelativeCoboundary facets sub (n + 1) p)
      (IsCoboundary facets (n + 1) p) (connecting p sub) (λ z. z)
  pub at_full : IsExactAt p (IsRelativeCocycle facets sub n p) (IsCocycle facets n p) (IsCoboundary facets n p) (IsCoboundary sub n p) (λ z. z) (λ z. z)
  pub at_sub : IsExactAt p (IsCocycle facets n p) (IsCocycle sub n p) (IsCoboundary sub n p) (IsRelativeCoboundary facets sub (n + 1) p)
      (λ z. z) (connecting p sub)

-- the matrices of the three maps carry the coordinates of every cocycle
pub record PairMatrices (facets sub : List (List ℕ)) (n p : ℕ) : Type 0 where
  pub into : CarriesCoordinates p (IsRelativeCocycle facets sub n p) (IsRelativeCoboundary facets sub n p) (IsCoboundary facets n p) (λ z. z)
  pub restrict : CarriesCoordinates p (IsCocycle facets n p) (IsCoboundary facets n p) (IsCoboundary sub n p) (λ u. u)
  pub connect : CarriesCoordinates p (IsCocycle sub n p) (IsCoboundary sub n p) (IsRelativeCoboundary facets sub (n + 1) p) (connecting p sub)

-- The sequence is exact, on matrices for any bases: at the relative group of degree 0, into which no map comes, at that of degree n + 1, and
-- at the groups of the complex and of the subcomplex in degree n.
pub record ExactMatrices (facets sub : List (List ℕ)) (n p : ℕ) : Type 0 where
  pub at_first : (zs us : List Cochain) (into : List (List ℕ)) → IsRelativeBasis facets sub 0 p zs → IsCohomologyBasis facets 0 p us →
      IsIntoMatrix facets 0 p zs us into → IsExact p 0 (length zs) (length us) [] into
  pub at_relative : (ws zs us : List Cochain) (connect into : List (List ℕ)) → IsCohomologyBasis sub n p ws → IsRelativeBasis facets sub (n + 1) p zs →
      IsCohomologyBasis facets (n + 1) p us → IsConnectingMatrix facets sub n p ws zs connect → IsIntoMatrix facets (n + 1) p zs us into →
      IsExact p (length ws) (length zs) (length us) connect into
  pub at_full : (zs us ws : List Cochain) (into restrict : List (List ℕ)) → IsRelativeBasis facets sub n p zs → IsCohomologyBasis facets n p us →
      IsCohomologyBasis sub n p ws → IsIntoMatrix facets n p zs us into → IsRestrictionMatrix sub n p us ws restrict →
      IsExact p (length zs) (length us) (length ws) into restrict
  pub at_sub : (us ws zs : List Cochain) (restrict connect : List (List ℕ)) → IsCohomologyBasis facets n p us → IsCohomologyBasis sub n p ws →
      IsRelativeBasis facets sub (n + 1) p zs → IsRestrictionMatrix sub n p us ws restrict → IsConnectingMatrix facets sub n p ws zs connect →
      IsExact p (length us) (length ws) (length zs) restrict connect

-- A map f of vertices that keeps those of the subcomplex is simplicial on it, and the pull-back along f is the restriction; so is its matrix.
pub record ActsAsInclusion (f : ℕ → ℕ) (facets sub : List (List ℕ)) : Type 0 where
  pub simplicial : IsSimplicial f sub facets
  pub restriction : (n p : ℕ) (u : Cochain) → AgreesOnSimplices sub n p (pull_back f u) u
  pub matrix : (n p : ℕ) (us ws : List Cochain) (columns : List (List ℕ)) → IsField p →
      IsMatrixOf p (IsCoboundary sub n p) (pull_back f) us ws columns → IsRestrictionMatrix sub n p us ws columns

abbrev pub InclusionLaw : Type 0
InclusionLaw = (f : ℕ → ℕ) (facets sub : List (List ℕ)) → IsSubcomplex sub facets → KeepsVertices f sub → ActsAsInclusion f facets sub

-- An operation from degree q to degree n takes relative cocycles to relative cocycles. On relative classes it is linear and does not
-- depend on the representative. Its matrix carries the coordinates of each relative cocycle.
pub record RelativeOperations (facets sub : List (List ℕ)) (n p : ℕ) : Type 0 where
  pub closed : (d c q : ℕ) (a : Cochain) → IsRelativeCocycle facets sub q p a → IsRelativeCocycle facets sub n p (scaled_operation p d c q a)
  pub linear : (d c q : ℕ) (ms : List (List Bool)) (zs : List Cochain) (z : Cochain) (cs : List ℕ) → IsOrbitTable p ms →
      Each (IsRelativeCocycle facets sub q p) zs → HasRelativeCoordinates facets sub q p zs z cs →
      IsRelativeCoboundary facets sub n p (λ s. scaled_operation p d c q z s + negated p (combination cs (map (scaled_operation p d c q) zs) s))
  pub matrix : (d c q : ℕ) (ms : List (List Bool)) → IsOrbitTable p ms →
      CarriesCoordinates p (IsRelativeCocycle facets sub q p) (IsRelativeCoboundary facets sub q p) (IsRelativeCoboundary facets sub n p) (scaled_operation p d c q)

-- The matrices of an operation from degree q to degree n commute with those of the maps into the cohomology of the complex, and of restriction.
pub record CommutingOperations (facets sub : List (List ℕ)) (n p : ℕ) : Type 0 where
  pub into : (d c q : ℕ) (ms : List (List Bool)) (zs zs' us us' : List Cochain) (relative_ops ops into_q into_n : List (List ℕ)) → IsOrbitTable p ms →
      Each (IsRelativeCocycle facets sub q p) zs → Each (IsRelativeCocycle facets sub n p) zs' → Each (IsCocycle facets q p) us → IsCohomologyBasis facets n p us' →
      IsMatrixOf p (IsRelativeCoboundary facets sub n p) (scaled_operation p d c q) zs zs' relative_ops →
      IsMatrixOf p (IsCoboundary facets n p) (scaled_operation p d c q) us us' ops →
      IsIntoMatrix facets q p zs us into_q → IsIntoMatrix facets n p zs' us' into_n →
      map (matrix_times p (length us') into_n) relative_ops ≡ map (matrix_times p (length us') ops) into_q
  pub restrict : (d c q : ℕ) (ms : List (List Bool)) (us us' ws ws' : List Cochain) (ops sub_ops restrict_q restrict_n : List (List ℕ)) → IsOrbitTable p ms →
      Each (IsCocycle facets q p) us → Each (IsCocycle facets n p) us' → Each (IsCocycle sub q p) ws → IsCohomologyBasis sub n p ws' →
      IsMatrixOf p (IsCoboundary facets n p) (scaled_operation p d c q) us us' ops →
      IsMatrixOf p (IsCoboundary sub n p) (scaled_operation p d c q) ws ws' sub_ops →
      IsRestrictionMatrix sub q p us ws restrict_q → IsRestrictionMatrix sub n p us' ws' restrict_n →
      map (matrix_times p (length ws') restrict_n) ops ≡ map (matrix_times p (length ws') sub_ops) restrict_q

-- The matrix of a square, a power or a Bockstein power on relative classes carries the coordinates of every
-- relative cocycle z to those of the operation on z, whichever representative of its class z is.
pub record RelativeSteenrodMatrices (facets sub : List (List ℕ)) : Type 0 where
  pub squares : (k q : ℕ) →
      CarriesRelated 2 (IsRelativeCocycle facets sub q 2) (IsRelativeCoboundary facets sub q 2) (IsRelativeCoboundary facets sub (q + k) 2) (IsSquare facets k q)
  pub powers : (p s q : ℕ) → IsTrue (served p) →
      CarriesRelated p (IsRelativeCocycle facets sub q p) (IsRelativeCoboundary facets sub q p) (IsRelativeCoboundary facets sub (q + 2 * s * (p - 1)) p) (IsPower facets p s q)
  pub bockstein_powers : (p s q : ℕ) → IsTrue (served p) →
      CarriesRelated p (IsRelativeCocycle facets sub q p) (IsRelativeCoboundary facets sub q p) (IsRelativeCoboundary facets sub (q + 2 * s * (p - 1) + 1) p) (IsBocksteinPower facets p s q)

abbrev pub RelativeSteenrodLaw : Type 0
RelativeSteenrodLaw = (facets sub : List (List ℕ)) → IsSubcomplex sub facets → RelativeSteenrodMatrices facets sub
