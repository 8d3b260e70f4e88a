use Rattle.std.proofs.Common.{◌∙◌, get_or, sym, ℕ}
use native.Mathlib.Nat.{zero-mod}
use Rattle.complex_index.proofs.Pulling.{pulled_away, pulled_there}
use Rattle.complex_index.proofs.maps.value_at_image.Goals as goal

pub returns-in-Some : goal.returns-in-Some
returns-in-Some g c =
    c.at.ensures ∙ pulled_there (λ (w : ℕ). get_or c.args.map.now w 0) c.args.targets.now c.args.row.now c.args.simplex.now c.deref.result.now c.in-Some.place
    c.requires.ordered c.requires.ascending c.requires.inside (c.deref.ensures.value ∙ c.in_ok-image.ensures) c.in-Some.ensures.0 c.in-Some.ensures.1

pub returns : goal.returns
returns g c =
    c.new.ensures ∙ zero-mod g.row.P
    ∙ sym (pulled_away (λ (w : ℕ). get_or c.args.map.now w 0) c.args.targets.now c.args.row.now c.args.simplex.now c.deref.result.now c.requires.inside (c.deref.ensures.value ∙ c.in_ok-image.ensures) c.in-None.ensures)
