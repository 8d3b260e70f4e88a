-- Which blocks may be open.
use Rattle.std.specs.Prelude.{ℕ, Bool, true, ◌&&◌, nat_lt}
use Rattle.complex_file.specs.{declared.place.Place.{Place as Stand}, declared.place.Place.TheVariants.{InComplex, InMap}}

-- behind this many complexes: a complex where these are fewer than eight, a map between two of them
abbrev pub is_open : Stand → ℕ → Bool
is_open InComplex n = nat_lt n 8
is_open (InMap from to) n = nat_lt from n && nat_lt to n
is_open _ n = true
