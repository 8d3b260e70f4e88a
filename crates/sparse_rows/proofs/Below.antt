-- The names of the crates below that the proofs cite, passed on from one place. Declares nothing.
pub use Rattle.fp_field.proofs.ServedLemmas.{served_large}
pub use Rattle.linear_law.proofs.Names.{Congruent_add, Congruent_from, Congruent_mod, Congruent_mul, Congruent_of, Congruent_refl, Congruent_scale, Congruent_trans, each_from_index, each_get_or, each_map, each_push, each_unmap, pair_none, pair_one, paired_plus, sum_append, unit_one, unit_other}
pub use Rattle.linear_law.specs.Names.{Congruent, Each, IsAscending, paired, sum_over, unit_vector}
pub use Rattle.std.proofs.Math.Nat.{mod-eq_of_lt}
pub use Rattle.std.proofs.lemmas.Bool.{cases_eq, cases_lt}
pub use Rattle.std.proofs.lemmas.Fn.{always_returns_same}
pub use Rattle.std.proofs.lemmas.List.{get_or_default, take_more}
pub use Rattle.std.proofs.lemmas.List.Sorted.{IsNonDecreasingBy-from_sort_by_key, sum_by-IsPermutation}
pub use Rattle.std.proofs.lemmas.List.Sums.{sum_by-cons}
pub use Rattle.std.proofs.lemmas.Map.Lookups.{exact_unsigned}
pub use Rattle.std.specs.Cmp.{nat_cmp_is}
pub use Rattle.std.specs.List.{sum_by}
pub use Rattle.std.specs.List.Sorted.{IsNonDecreasingBy, IsPartitionPoint, IsPermutation}
pub use Rattle.std.specs.Ordering.{nat_cmp, ordering_index}
pub use Rattle.std.specs.declared.cmp.Ordering.{Ordering}
pub use Rattle.std.specs.declared.cmp.Ordering.TheVariants.{Equal, Greater, Less}
pub use native.Mathlib.Nat.{add-mod, zero-mod}
