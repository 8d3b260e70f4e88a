use Rattle.std.proofs.Common.{◌≡◌, sym, ◌∙◌}
use Rattle.surjection.proofs.WalkLemmas.{caesura-test}
use Rattle.surjection.proofs.surj.Surj.is_caesura.Goals as goal

pub returns : goal.returns
returns c =
    let e : c.args.self.now ≡ c.as_slice-values.result.now = sym (c.as_slice-values.ensures ∙ c.self.view_is) in
    rw e (caesura-test c.as_slice-values.result.now c.args.place c.stands_in.result c.requires.some c.stands_in.ensures)
