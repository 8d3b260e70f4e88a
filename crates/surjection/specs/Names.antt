-- The definitions that others cite, passed on from one place. Declares nothing.
pub use Rattle.surjection.specs.declared.composition.Mark.{Mark}
pub use Rattle.surjection.specs.declared.composition.Mark.TheVariants.{Inner, Outer, Plain}
pub use Rattle.surjection.specs.Action.{comes_again}
pub use Rattle.surjection.specs.Refusals.{equal_neighbours_from, gap_fault, gap_of, neighbours_fault, surjection_fault}
pub use Rattle.surjection.specs.Walk.{AddsList, AddsTerms}
pub use Rattle.surjection.specs.Splicing.{IsCutAt, IsReady, inner_after_mark, is_odd_order, is_odd_order_from, marked, marked_term, odd_after_mark, terms_behind}
pub use Rattle.surjection.specs.ActionLaws.{act_arity, act_composed, act_degree, act_identity, act_valid, arity-is, boundary_act, boundary_weight, narrow_degree}
pub use Rattle.surjection.specs.CycleLaws.{boundary_fits, boundary_turn, own_turn, turn_degree, turn_fits, turn_sign, turn_valid, turned_round}
pub use Rattle.surjection.specs.CompositionLaws.{AreComposed, IsSurjection-term, compose_arity, compose_degree, compose_valid, leibniz, length-values, multiplicity-grown, occurs-k, values-with_values}
