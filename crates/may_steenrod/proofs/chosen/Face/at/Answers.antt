use Rattle.std.proofs.Common.{refl}
use Rattle.may_steenrod.proofs.ChosenLemmas.{chosen-less, chosen-room}
use Rattle.may_steenrod.proofs.chosen.Face.at.Goals as goal

pub bounds-faces-k : goal.bounds-faces-k
bounds-faces-k c = chosen-room c.args.index.now c.requires.complex c.args.simplex.now c.args.places.now c.args.k c.requires.inside c.args.self c.requires.chosen c.faces.result.now c.faces.ensures

pub returns : goal.returns
returns c = chosen-less c.args.index.now c.requires.complex c.args.simplex.now c.args.places.now c.args.k c.requires.inside c.args.self c.requires.chosen c.faces.result.now c.faces.ensures _ refl
