-- The laws of operations on relative classes.
use Rattle.std.proofs.Common.{◌≡◌, ℕ, ◌+◌, ◌*◌, ◌-◌, Bool, List, length, map, refl, arith}
use Rattle.std.specs.List.{AllZip}
use Rattle.fp_field.proofs.ServedLemmas.{served_field}
use Rattle.fp_field.specs.Orbits.{orbit_words}
use Rattle.linear_law.proofs.Names.{class_matrix, multiple_in, on_classes, related_matrix, two_field, zip_left, zip_same, Congruent_of, Congruent_trans}
use Rattle.linear_law.specs.Names.{CarriesRelated, Each, IsCoordinates, IsField, matrix_times, negated}
use Rattle.simplicial_law.proofs.Names.{cocycles}
use Rattle.simplicial_law.specs.Names.{AgreesOnSimplices, Cochain, IsBasisModulo, IsCoboundary, IsCocycle, coboundary}
use Rattle.steenrod_law.proofs.ClassLaws.{matrix-law}
use Rattle.steenrod_law.proofs.OperationLaws.{may_operation-closed}
use Rattle.steenrod_law.proofs.OrbitTables.{orbit_words_law}
use Rattle.steenrod_law.proofs.PowerLaws.{bockstein-as, power-as}
use Rattle.steenrod_law.specs.Names.{IsBocksteinPower, IsOrbitTable, IsPower, IsSquare, may_operation, power_degree, scaled_operation}
use Rattle.relative_law.proofs.Spaces.{relative_classes, restricted}
use Rattle.relative_law.specs.Names.{IsRelativeCoboundary, IsRelativeCocycle, IsSubcomplex}
use Rattle.pair_law.proofs.Exactness.{pair_matrices}
use Rattle.pair_law.proofs.OperationMaps.{scaled_map, scaled_relative}
use Rattle.pair_law.specs.Laws.{CommutingOperations, OfEachPair, RelativeOperations, RelativeSteenrodLaw}

pub relative_operations : OfEachPair RelativeOperations
relative_operations facets sub n p field pair =
    let relative = λ (m : ℕ). relative_classes facets sub m p field.large pair in record {
      closed = λ d c q. scaled_relative p field facets sub pair d c q n;
      linear = λ d c q ms zs z cs orbits. on_classes p field.large (relative n).bounds (relative q).members (relative q).inside (scaled_operation p d c q) (scaled_map p field facets sub pair ms orbits d c q n) zs z cs;
      matrix = λ d c q ms orbits. class_matrix p field.large (relative n).bounds (relative q).members (relative q).inside (scaled_operation p d c q) (scaled_map p field facets sub pair ms orbits d c q n);
    }

-- two ways to the coordinates of the same cocycles give the same columns
same_products : {p : ℕ} {M Z B : Cochain → Type 0} {us : List Cochain} (basis : IsBasisModulo p Z B us) (F : Cochain → Cochain) (f g : List ℕ → List ℕ) (R S : List ℕ → Cochain → Type 0) →
    ((z : Cochain) → M z → Z (F z)) → ((a : List ℕ) (z : Cochain) → R a z → IsCoordinates p B us (F z) (f a)) → ((b : List ℕ) (z : Cochain) → S b z → IsCoordinates p B us (F z) (g b)) →
    (zs : List Cochain) (cs bs : List (List ℕ)) → Each M zs → AllZip R cs zs → AllZip S bs zs → map f cs ≡ map g bs
same_products {p} {M} {Z} {B} {us} basis F f g R S closed left right zs cs bs m h k =
    let T : List ℕ → Cochain → Type 0 = λ c z. IsCoordinates p B us (F z) c in
    zip_same M T T (λ a b z i. basis.only (F z) a b (closed z i)) (map f cs) (map g bs) zs m (zip_left R T f left cs zs h) (zip_left S T g right bs zs k)

pub commuting_operations : OfEachPair CommutingOperations
commuting_operations facets sub n p field pair =
    let maps = pair_matrices facets sub n p field pair in record {
      into = λ d c q ms zs zs' us us' relative_ops ops into_q into_n orbits m m' mu basis r o i j.
          same_products basis (scaled_operation p d c q) (matrix_times p (length us') into_n) (matrix_times p (length us') ops)
          (λ a z. IsCoordinates p (IsRelativeCoboundary facets sub n p) zs' (scaled_operation p d c q z) a) (λ b z. IsCoordinates p (IsCoboundary facets q p) us z b)
          (λ z h. (scaled_relative p field facets sub pair d c q n z h).closed) (λ a z. maps.into zs' us' into_n m' j (scaled_operation p d c q z) a)
          (λ b z. matrix-law p field facets d c q n ms us us' ops orbits mu o z b) zs relative_ops into_q m r i;
      restrict = λ d c q ms us us' ws ws' ops sub_ops restrict_q restrict_n orbits m m' mw basis o r i j.
          same_products basis (scaled_operation p d c q) (matrix_times p (length ws') restrict_n) (matrix_times p (length ws') sub_ops)
          (λ a u. IsCoordinates p (IsCoboundary facets n p) us' (scaled_operation p d c q u) a) (λ b u. IsCoordinates p (IsCoboundary sub q p) ws u b)
          (λ u h. closed_there d c q u h) (λ a u. maps.restrict us' ws' restrict_n m' j (scaled_operation p d c q u) a)
          (λ b u. matrix-law p field sub d c q n ms ws ws' sub_ops orbits mw r u b) us ops restrict_q m o i;
    }
  where
    closed_there : (d c q : ℕ) (u : Cochain) → IsCocycle facets q p u → IsCocycle sub n p (scaled_operation p d c q u)
    closed_there d c q u h = restricted facets sub (n + 1) p (coboundary p (scaled_operation p d c q u)) (λ s. 0) pair
        (multiple_in (cocycles facets n p field.large) c (may_operation p d q u) (may_operation-closed p field facets d q n u h))

related : (p : ℕ) (field : IsField p) (facets sub : List (List ℕ)) → IsSubcomplex sub facets → (ms : List (List Bool)) → IsOrbitTable p ms →
    (d c q n : ℕ) (R : Cochain → Cochain → Type 0) → ((z b : Cochain) → R z b → AgreesOnSimplices facets n p b (scaled_operation p d c q z)) →
    CarriesRelated p (IsRelativeCocycle facets sub q p) (IsRelativeCoboundary facets sub q p) (IsRelativeCoboundary facets sub n p) R
related p field facets sub pair ms orbits d c q n =
    let from = relative_classes facets sub q p field.large pair in
    related_matrix p field.large (relative_classes facets sub n p field.large pair).bounds from.members from.inside (scaled_operation p d c q) (scaled_map p field facets sub pair ms orbits d c q n)

pub relative_steenrod_law : RelativeSteenrodLaw
relative_steenrod_law facets sub pair = record {
  squares = λ k q. related 2 two_field facets sub pair (orbit_words 2) (orbit_words_law 2 refl) (q - k) 1 q (q + k) (IsSquare facets k q)
      (λ z b r. record { at = λ s on. Congruent_trans (r.value.at s on) (Congruent_of (omega arith)) });
  powers = λ p s q is_served zs bs us columns cocycles h k z b cs coordinates r.
      related p (served_field p is_served) facets sub pair (orbit_words p) (orbit_words_law p is_served) (power_degree p s q) r.scale q (q + 2 * s * (p - 1)) (IsPower facets p s q)
      (λ z b. power-as p (served_field p is_served) facets s q r.scale z b r.is_scale) zs bs us columns cocycles h k z b cs coordinates r;
  bockstein_powers = λ p s q is_served zs bs us columns cocycles h k z b cs coordinates r.
      related p (served_field p is_served) facets sub pair (orbit_words p) (orbit_words_law p is_served) (power_degree p s q - 1) (negated p r.scale) q (q + 2 * s * (p - 1) + 1) (IsBocksteinPower facets p s q)
      (λ z b. bockstein-as p (served_field p is_served) facets s q r.scale z b r.is_scale) zs bs us columns cocycles h k z b cs coordinates r;
}
