-- A walk over the live cuts, in their order.
use Rattle.std.specs.{Prelude.{ℕ, ◌*◌, ◌-◌, ◌^◌, min, Bool, ◌||◌, nat_lt, if◌then◌else◌, List, None}, List.filter}
use Rattle.signed_sum.specs.Names.{numbers_from}
use Rattle.surjection_law.specs.Names.{caesura_count, arity}
use Rattle.interval_cut_law.specs.Names.{cut_faces, cuts, is_live, live_cut_count}
use Rattle.interval_cut.specs.Walking.{CutWalk, finish_of, next_walk}

-- whether each face of the cut p is a simplex of degree q
abbrev pub is_live_cut : ℕ → List ℕ → List ℕ → Bool
is_live_cut q u p = is_live q (cut_faces (numbers_from 1 (arity u)) u p)

-- the last place of the cuts that can be live for q: each face takes q places after its first, and
-- each caesura gives a place to two intervals of one face
abbrev pub live_top : ℕ → List ℕ → ℕ
live_top q u = arity u * q - caesura_count u

-- A walk over the cuts that are live for the degree: what it walks over, where it is, and the live
-- cuts that are to come
pub record LiveWalk : Type 0 where
  pub degree : ℕ
  pub walk : CutWalk

-- the walk with the live ones of the cuts that are to come
abbrev pub live_walk : ℕ → CutWalk → LiveWalk
live_walk q w = record { degree = q; walk = record { values = w.values; top = w.top; here = w.here; left = filter (is_live_cut q w.values) w.left } }

-- the walk before the first live cut
abbrev pub live_start : ℕ → List ℕ → LiveWalk
live_start q u = live_walk q (record { values = u; top = live_top q u; here = None; left = cuts u (live_top q u) })

-- the walk past the last live cut
abbrev pub live_finish : ℕ → List ℕ → LiveWalk
live_finish q u = record { degree = q; walk = finish_of u (live_top q u) }

-- the step to the first live cut that is to come, or past the last
abbrev pub next_live : LiveWalk → LiveWalk
next_live w = record { degree = w.degree; walk = next_walk w.walk }

-- the number of cuts of 0 to `live_top` that are live for q, cut off
abbrev pub capped_count : ℕ → List ℕ → ℕ
capped_count q u = min (live_cut_count q (arity u) u) (10 ^ 15)

-- the same, and 0 where the cuts would have less than no place, or more than 256
abbrev pub counted_live : ℕ → List ℕ → ℕ
counted_live q u = if nat_lt (arity u * q) (caesura_count u) || nat_lt 255 (live_top q u) then 0 else capped_count q u
