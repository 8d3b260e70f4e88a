use Rattle.std.{proofs.Common.{◌≡◌, ◌+◌, length}, specs.List.filter}
use Rattle.interval_cut_law.specs.Names.{rising_lists}
use Rattle.interval_cut.specs.Names.{IsListFor, IsReadyFor, is_live_list, lists_left}
use Rattle.interval_cut.proofs.live.count_lists.Given as goal

abbrev pub invariant-loop-count : goal.invariant-loop-count
invariant-loop-count l =
    (l.count + length (filter (is_live_list l.initial.search.degree l.values l.top) (lists_left l.stage l.top l.inner))
    ≡ length (filter (is_live_list l.initial.search.degree l.values l.top) (rising_lists 0 l.top (length l.initial.inner))))
    × IsReadyFor l.values l.search × (l.search.degree ≡ l.initial.search.degree) × IsListFor l.values l.top l.inner
