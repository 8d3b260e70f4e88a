use Rattle.std.proofs.Common.{◌∙◌, ap, sym}
use Rattle.may_steenrod.specs.Cochains.{cochain_in}
use Rattle.may_steenrod.proofs.on.On.on_back.Goals as goal

pub returns : goal.returns
returns g c =
    let on = c.args.self.now in
    c.at.ensures ∙ sym (on.sound.here c.back_place-back.result c.back_place-back.ensures.inside) ∙ ap (cochain_in on.index.now on.cochain.now.degree on.cochain.now.row) c.back_place-back.ensures.back
