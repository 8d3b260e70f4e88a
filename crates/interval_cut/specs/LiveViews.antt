-- What a walk over live cuts shows of its fields.
use Rattle.std.specs.Prelude.{◌≡◌}
use Rattle.interval_cut.specs.{LiveWalking.{LiveWalk, live_top, live_walk}, LiveSearch.IsReadyFor, declared.live.LiveCuts.TheInside.Inside}

abbrev pub live_view : Inside → LiveWalk
live_view a = live_walk a.search.degree a.cuts

-- the cuts are those that can be live, and the search is of them
pub record IsLiveSound (a : Inside) : Type 0 where
  pub top : a.cuts.top ≡ live_top a.search.degree a.cuts.values
  pub ready : IsReadyFor a.cuts.values a.search
