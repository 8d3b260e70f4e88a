-- The laws of this crate.
use Rattle.std.proofs.Common.{◌≡◌, ℕ, zero, suc, ◌+◌, ◌-◌, ◌*◌, ◌≤◌, ◌<◌, sym, ◌∙◌, ap, ap₂, arith}
use Rattle.fp_field.{proofs.ServedLemmas.served_field, specs.Orbits.orbit_words}
use Rattle.linear_law.proofs.Names.{two_field}
use Rattle.steenrod_law.{proofs.ClassLaws.{bilinear-law, linearity-law, matrix-law, product-closed, product-degree, product-matrix, pull_back-product}, proofs.InducedMaps.{matrices-commute, pull_back-coboundary, pull_back-cocycle, pull_back-matrix}, proofs.OperationLaws.{additivity-law, may_operation-closed, operation-degree, orbit-degree, orbit-subcomplex, pull_back-operation, representative-law, scaling-law, staircase-degree, staircase-subcomplex}, proofs.OrbitTables.orbit_words_law, specs.Names.{power_degree, AdditivityLaw, ClosedLaw, DegreeLaw, InducedMapLaw, InducedMatrixLaw, LinearityLaw, OperationMatrixLaw, ProductLaw, PullBackLaw, RepresentativeLaw, ScalingLaw, SubcomplexLaw, TargetLaw}}

pub closed_law : ClosedLaw
closed_law facets p d q n a field = may_operation-closed p field facets d q n a

pub scaling_law : ScalingLaw
scaling_law p d q c a s field = scaling-law p field d q c a s

pub degree_law : DegreeLaw
degree_law = record {
  operations = λ facets p d q n a s field. operation-degree p field facets d q n a s;
  orbit_primitives = λ facets p d q n ms a c s field orbits. orbit-degree p field facets d q n ms a c s orbits;
  staircase_primitives = λ facets p d q n y s field. staircase-degree p field facets d q n y s;
  products = λ facets p q k n a b s field. product-degree p field facets q k n a b s;
}

pub representative_law : RepresentativeLaw
representative_law facets p d q n y field = representative-law p field facets d q n y

pub additivity_law : AdditivityLaw
additivity_law = record {
  every_table = λ p ms field orbits facets d q n a c. additivity-law p field facets d q n ms a c orbits;
  listed_words = λ p is_served facets d q n a c. additivity-law p (served_field p is_served) facets d q n (orbit_words p) a c (orbit_words_law p is_served);
}

pub subcomplex_law : SubcomplexLaw
subcomplex_law = record {
  orbit_primitives = λ facets p d q n ms a c field orbits za zc. record { at = orbit-subcomplex p field facets d q n ms a c orbits za zc };
  staircase_primitives = λ facets p d q n y field zy. record { at = staircase-subcomplex p field facets d q n y zy };
}

pub linearity_law : LinearityLaw
linearity_law facets p d c q n ms zs z cs field = linearity-law p field facets d c q n ms zs z cs

pub operation_matrix_law : OperationMatrixLaw
operation_matrix_law facets p d c q n ms zs ws columns field orbits cocycles h = matrix-law p field facets d c q n ms zs ws columns orbits cocycles h

pub product_law : ProductLaw
product_law = record {
  closed = λ facets p q k n a b field. product-closed p field facets q k n a b;
  bilinear = λ facets p q k n zs ws z w cs ds field. bilinear-law p field facets q k n zs ws z w cs ds;
  matrix = λ facets p q k n zs ws us columns field cz cw h. product-matrix p field facets q k n zs ws us columns cz cw h;
}

pub pull_back_law : PullBackLaw
pull_back_law = record {
  operations = λ f p d q a s field. pull_back-operation p field f d q a s;
  products = λ f p q k a b s field. pull_back-product p field f q k a b s;
}

-- the degree of the target and the May degree of an operation sum to p * q
pub power-degrees : (p s q : ℕ) → 1 ≤ p → 2 * s ≤ q → (q + 2 * s * (p - 1)) + power_degree p s q ≡ p * q
power-degrees p s q a b = go (p - 1) (q - 2 * s) (omega arith) (omega arith)
  where
    go : (r e : ℕ) → p ≡ r + 1 → q ≡ 2 * s + e → (q + 2 * s * r) + e * r ≡ p * q
    go r e x y = ap (λ j. (j + 2 * s * r) + e * r) y ∙ (let z : ((2 * s + e) + 2 * s * r) + e * r ≡ (r + 1) * (2 * s + e) = omega arith in z) ∙ sym (ap₂ (λ i j. i * j) x y)

positive : (a b : ℕ) → 1 ≤ a → 1 ≤ b → 1 ≤ a * b
positive zero b h k = absurd (omega arith)
positive (suc a) b h k = omega arith

pub bockstein-degrees : (p s q : ℕ) → 2 ≤ p → 2 * s < q → (q + 2 * s * (p - 1) + 1) + (power_degree p s q - 1) ≡ p * q
bockstein-degrees p s q h k =
    let a = power-degrees p s q (omega arith) (omega arith) in
    let b = positive (q - 2 * s) (p - 1) (omega arith) (omega arith) in
    omega arith

pub target_law : TargetLaw
target_law = record {
  squares = λ facets k q n a b s h on ne. (let d = h.defined in operation-degree 2 two_field facets (q - k) q n a s on (λ e. ne (omega arith)));
  powers = λ facets p i q n a b s field h on ne. (
      let l = field.large in
      let d = power-degrees p i q (omega arith) h.defined in
      operation-degree p field facets (power_degree p i q) q n a s on (λ e. ne (omega arith)));
  bockstein_powers = λ facets p i q n a b s field h on ne. (
      let d = bockstein-degrees p i q field.large h.defined in
      operation-degree p field facets (power_degree p i q - 1) q n a s on (λ e. ne (omega arith)));
}

pub induced_map_law : InducedMapLaw
induced_map_law = record {
  coboundaries = λ f from to p q y field simplicial. pull_back-coboundary f from to p field simplicial q y;
  cocycles = λ f from to p q a field simplicial. pull_back-cocycle f from to p field simplicial q a;
  matrix = λ f from to p q zs ws columns field simplicial h. pull_back-matrix f from to p field simplicial q zs ws columns h;
}

pub induced_matrix_law : InducedMatrixLaw
induced_matrix_law f from to p d c q n ms field orbits simplicial = matrices-commute f from to p field simplicial d c q n ms orbits
