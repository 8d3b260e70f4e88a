-- The lemmas that others cite, passed on from one place. Declares nothing.
pub use Rattle.report_law.proofs.Lists.{each-of, get_or-map, get_or-past, in-filter, in-flat_map, in-numbers, of-filter, of-flat_map, of-map, of-numbers}
pub use Rattle.report_law.proofs.BoundRows.{BoundRows, Row, lead, listed-bounds, value}
pub use Rattle.report_law.proofs.CanonicalData.{among_or_not, rest_in_order}
pub use Rattle.report_law.proofs.Coordinates.{AreBases, agrees-sym, agrees-trans, bases-from, bound-of-zeros, coordinates-alike, coordinates-closed, no-combination, no-coordinates}
pub use Rattle.report_law.proofs.ScaledForms.{IsScaled, scaled, scaled-closed}
pub use Rattle.report_law.proofs.Blocks.{has-degree, in-blocks, of-blocks, rank-of}
pub use Rattle.report_law.proofs.Maps.{IsMapOf, all-among, any-among, each-all, ascends, complex-ascends, job-complexes, job-maps, job-prime, no-earlier, no-end-fault, no-fault, same-bytes, simplicial}
pub use Rattle.report_law.proofs.Carrying.{bases_promise, operation_promises, product_promise}
pub use Rattle.report_law.proofs.Cycles.{is_cycle, reads}
pub use Rattle.report_law.proofs.Verdicts.{difference-once, extended-alike, of-lines, operation-once}
pub use Rattle.report_law.proofs.Naturality.{induced_promise}
pub use Rattle.report_law.proofs.HeadlineProof.{classes-at, headline_law}
pub use Rattle.report_law.proofs.Unique.{same-order}
pub use Rattle.report_law.proofs.OneSize.{sizes_law}
