use Rattle.std.proofs.Common.{◌∙◌}
use Rattle.cohomology.proofs.CoordinateLemmas.{open_found}
use Rattle.cohomology.proofs.coordinates.open_at.Goals as goal

pub returns : goal.returns
returns g c =
    open_found g.row.P c.args.index.now c.args.cochain.now.degree c.args.cochain.now.row c.in_ok-coboundary.coboundary.row c.in-Some.place c.value.result c.in_ok-coboundary.ensures.values c.in-Some.ensures
    (c.value.ensures.same ∙ c.at.ensures) c.value.ensures.small
