-- The definitions that others cite, passed on from one place. Declares nothing.
pub use Rattle.certificate_law.specs.ListedDegrees.{HasNewLeast, IsCounted, IsLeastSimplex, IsOn, IsOnBelow, coboundaries_of, simplex_count}
pub use Rattle.certificate_law.specs.Parts.{complex_named, itself, rank_in, sent_by}
pub use Rattle.certificate_law.specs.Stated.{Stated, after, answer_stated, behind, below_stands, cartan_stands, cartan_stated, class_stands, complex_ends, complex_opens, complex_stated, cycle_stands, degree_opens, degree_stated, facet_stands, finish, heading, induced_column, induced_opens, induced_stated, map_between, map_ends, map_opens, map_stated, numbered, operation_column, operation_opens, operation_stated, prime_is, product_column, product_opens, product_stated, send_stands, stated, with_stands}
pub use Rattle.certificate_law.specs.Conditions.{Asks, HasItsDegrees, IsBlockLine, IsCartanLine, IsClassLine, IsCoboundaryLine, IsCocycleLine, IsColumnAt, IsColumnLine, IsComplexWhole, IsCountLine, IsInducedLine, IsMapWhole, IsNewComplex, IsNewMap, IsProductColumn, IsRightAnswer, IsRightNo, IsRightOperation, IsRightProduct, IsRightPullBack, IsRightYes, column_sum, complex_names, map_names}
pub use Rattle.certificate_law.specs.Certifies.{Certifies, FailsAt, FailsFirst, Holds}
pub use Rattle.certificate_law.specs.Sections.{IsWalkOf, SectionLaw, behind_lines}
pub use Rattle.certificate_law.specs.Laws.{CertifiedLaw, CompleteLaw, FewLinesLaw, FirstFailureLaw, MapShown, StatedLinesLaw, WellFormedLaw, line_said, verdict_said}
