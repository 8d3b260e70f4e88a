use Rattle.std.proofs.Common.{refl, rules}
use Rattle.may_steenrod.proofs.BackLemmas.{back-more, back-some}
use Rattle.may_steenrod.proofs.on.back_place.Goals as goal

pub bounds-faces-0 : goal.bounds-faces-0
bounds-faces-0 c =
    back-some c.args.index.now c.requires.complex c.args.n c.args.place c.loop-count.count c.loop-count.back c.loop-count.invariant (search rules) c.faces.result.now c.faces.ensures

pub loop-count-preserved : goal.loop-count-preserved
loop-count-preserved c =
    back-more c.args.index.now c.requires.complex c.args.n c.args.place c.loop-count.count c.loop-count.back c.loop-count.invariant (search rules) c.faces.result.now c.faces.ensures _ refl
