-- The lemmas that others cite, passed on from one place. Declares nothing.
pub use Rattle.certificate_walk.proofs.WalkLemmas.{Leads, after_next, after_none, behind_end, behind_more, behind_stop, leads_end, leads_more, leads_room, leads_start, leads_stop, numbered_end, numbered_more, numbered_next, numbered_stop, walk_both, walk_first, walk_one, walk_passed, walk_past, walk_stops, walk_tested}
pub use Rattle.certificate_walk.proofs.SizeLemmas.{after_each, behind_each, cartans_length, complex_length, degree_length, induced_length, map_length, numbered_each, numbered_sum, operation_length, product_length, rest_less, rest_next}
