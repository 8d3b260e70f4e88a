-- The definitions that others cite, passed on from one place. Declares nothing.
pub use Rattle.steenrod_law.specs.Words.{HaveLength, IsOrbitTable, all_words, boundary_value, choice, contraction, copies, letter_degree, norm, staircase, step, turn_back, turn_back_less_one, turn_back_power, word_degree}
pub use Rattle.steenrod_law.specs.Values.{applied, cycle_less_one_power, orbit_sum, staircase_sum, sum_above, sum_to, sum_value, word_cochains}
pub use Rattle.steenrod_law.specs.Operations.{IsBocksteinPower, IsNondecreasing, IsPower, IsSimplicial, IsSquare, IsWeakSimplex, all_extended, cochain_products, coefficient_products, cup_product, extended, may_operation, orbit_primitive, power_degree, pull_back, residue, residue_cochain, scaled_operation, staircase_primitive, value_on}
pub use Rattle.steenrod_law.specs.Laws.{AdditivityLaw, ClosedLaw, CocycleValueLaw, DegreeLaw, InducedMapLaw, InducedMatrixLaw, LinearityLaw, OperationMatrixLaw, OrbitWordsLaw, ProductLaw, PullBackLaw, RepresentativeLaw, ScalingLaw, StaircaseLaw, SteenrodMatrixLaw, SubcomplexLaw, TargetLaw, TurnedValueLaw, WordLaws}
