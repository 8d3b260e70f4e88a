use Rattle.std.proofs.Common.{[]}
use Rattle.cohomology.proofs.CoordinateLemmas.{closed_of, coordinates_absolute, none_case, relative_of}
use Rattle.cohomology.proofs.data.Cohomology.coordinates.Goals as goal

pub returns-in_ok-relative_coordinates-in-None : goal.returns-in_ok-relative_coordinates-in-None
returns-in_ok-relative_coordinates-in-None g c =
    let p = g.row.P in
    let ls = c.args.index.now in
    let z = c.args.cochain.now in
    let closed = closed_of p ls z (none_case c.in_ok-place.field-0 _ _ c.in-None.is c.in_ok-place.ensures) in
    coordinates_absolute p ls _ z _ _ closed (c.in_ok-relative_coordinates-in-None.ensures ls [] c.requires.data.pair (relative_of p ls z closed))
