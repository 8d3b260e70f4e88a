-- The definitions that others cite, passed on from one place. Declares nothing.
pub use Rattle.interval_cut_law.specs.Cuts.{IsCut, IsCutFrom, cut_face, cut_faces, cut_sum, cuts, gap_symbols, gap_word, lengths_below, rising_lists, sign_exponent, starting_word, vertex_at}
pub use Rattle.interval_cut_law.specs.LiveCuts.{is_live, live_count_among, live_cut_count}
pub use Rattle.interval_cut_law.specs.Operations.{one_coboundary, operation_value, value_product}
pub use Rattle.interval_cut_law.specs.Normalized.{AreNormalized, IsNormalizedOnFaces}
pub use Rattle.interval_cut_law.specs.Relabelling.{IsRelabelling, degrees_passed, exchange_exponent, face_at, relabelled_faces}
pub use Rattle.interval_cut_law.specs.Laws.{CochainBoundaryLaw, CutBoundaryLaw, CutOrderLaw, DegeneracyLaw, NaturalityLaw, ProductRule, RelabellingLaw, ResidueLaw, SignFormsAgree, WorkedRows}
