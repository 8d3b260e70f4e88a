use Rattle.std.proofs.Common.{◌∙◌, ◌^◌}
use Rattle.barratt_eccles.proofs.PathLemmas.{AddsPaths-all, point-start, room-start}
use Rattle.barratt_eccles.proofs.composing.sum_of_paths.Goals as goal

pub add_paths-requires-clause-point : goal.add_paths-requires-clause-point
add_paths-requires-clause-point c =
    rw (c.as_slice.ensures.value, c.new-before.ensures.items)
    (point-start c.args.k c.args.outer.now c.args.inner.now c.requires.outer c.requires.inner c.requires.some c.requires.within c.requires.limits)

pub returns : goal.returns
returns c =
    AddsPaths-all c.args.k c.args.outer.now c.args.inner.now c.as_slice.result.now c.new-sum.result c.add_paths.new.sum c.requires.outer.some c.requires.inner.some
    (c.as_slice.ensures.value ∙ c.new-before.ensures.items) c.new-sum.ensures c.in_ok-add_paths.ensures

pub add_paths-requires-clause-light : goal.add_paths-requires-clause-light
add_paths-requires-clause-light c = room-start c.args.outer.now c.args.inner.now c.new-sum.result (10 ^ 18) c.requires.outer.some c.requires.inner.some c.new-sum.ensures c.requires.few
