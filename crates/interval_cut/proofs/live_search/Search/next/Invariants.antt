use Rattle.std.proofs.Common.{◌≡◌, length}
use Rattle.interval_cut.specs.Names.{IsReadyFor, IsSearching, is_live_list, lists_from}
use Rattle.interval_cut.proofs.live_search.Search.next.Given as goal

abbrev pub invariant-loop-more : goal.invariant-loop-more
invariant-loop-more l =
    IsSearching (is_live_list l.initial.self.degree l.values l.top) (lists_from l.initial.more l.top l.initial.inner) (lists_from l.more l.top l.inner) l.values l.top l.inner
    × IsReadyFor l.values l.self × (l.self.degree ≡ l.initial.self.degree)

abbrev pub decreases-loop-more : goal.decreases-loop-more
decreases-loop-more l = length (lists_from l.more l.top l.inner)
