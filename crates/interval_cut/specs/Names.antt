-- The definitions that others cite, passed on from one place. Declares nothing.
pub use Rattle.interval_cut.specs.declared.live.LiveCuts.TheInside.{Inside}
pub use Rattle.interval_cut.specs.declared.stage.Stage.{Stage}
pub use Rattle.interval_cut.specs.declared.stage.Stage.TheVariants.{At, Before, Done}
pub use Rattle.interval_cut.specs.Walking.{CutWalk, IsNextList, cut_of, finish_of, lists_after, next_walk, start_of}
pub use Rattle.interval_cut.specs.Ends.{IsFullFrom, IsLastBelow}
pub use Rattle.interval_cut.specs.Faces.{HasFaces, IsFaceTable, IsPartOfFace, IsPartOfTable, flat_faces}
pub use Rattle.interval_cut.specs.Stages.{OnAt, here_of, left_of, shown}
pub use Rattle.interval_cut.specs.LiveWalking.{LiveWalk, capped_count, counted_live, is_live_cut, live_finish, live_start, live_top, live_walk, next_live}
pub use Rattle.interval_cut.specs.LiveSearch.{FindsLive, IsBegun, IsDeadEnd, IsFitting, IsListFor, IsReadyFor, IsSearchReady, IsSearching, IsTaken, IsUnfit, KeepsLive, is_live_list, later_times, lists_from, lists_left, passed_list, place_after, stage_after, times}
pub use Rattle.interval_cut.specs.Exponents.{IsPassed}
pub use Rattle.interval_cut.specs.Masks.{by_mask, product_from, signed_product}
pub use Rattle.interval_cut.specs.Evaluation.{IsOfDegree, IsPartOfSum}
pub use Rattle.interval_cut.specs.Gaps.{IsPartOfGaps}
