use Rattle.std.proofs.Common.{ℕ, ◌<◌, get_or, length, refl}
use Rattle.linear_law.proofs.Names.{each_get_or}
use Rattle.facet_list.proofs.MarkLemmas.{one_marked}
use Rattle.facet_list.proofs.covered.mark.Goals as goal

pub loop-place-preserved : goal.loop-place-preserved
loop-place-preserved c =
    let places = c.args.places.now in
    let i = c.loop-place.place-index in
    one_marked c.args.covered.now c.loop-place.covered places i (get_or places i 0) c.loop-place-test.true refl
    (each_get_or (λ (x : ℕ). x < length c.args.covered.now) places i 0 c.loop-place-test.true c.requires) c.loop-place.invariant
