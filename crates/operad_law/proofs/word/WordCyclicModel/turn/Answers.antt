use Rattle.std.proofs.{Common.{◌/◌, ◌%◌, ◌==◌, ◌*◌, ◌+◌, ap, ◌∙◌, rules, w64, FitsSigned, pos}, lemmas.Int.to_z-of_z}
use Rattle.signed_sum.specs.Names.{signed, mask_turn, parity}
use Rattle.operad_law.proofs.WordSteps.{turn-steps}
use Rattle.operad_law.proofs.word.WordCyclicModel.turn.Goals as goal

pub returns : goal.returns
returns g c =
    let mask = c.self.inside.mask in
    let odd = c.self.inside.odd in
    let last = mask / c.bit-top.result in
    let before = mask % c.bit-top.result in
    let others = c.count_letters-others.result in
    let fits : FitsSigned w64 c.sign_of_odd.result = search rules in
    let sign = to_z-of_z w64 c.sign_of_odd.result fits ∙ c.sign_of_odd.ensures ∙ ap (λ k. signed (parity (k * others % 2 == 1)) (pos 1)) c.counted.ensures in
    (λ i. ((2 * before + last, odd), sign i))
    ∙ turn-steps g.row.P (mask, odd) last before others c.self.invariant (ap (λ k. mask / k) c.bit-top.ensures) (ap (λ k. mask % k) c.bit-top.ensures) c.count_letters-others.ensures
    ∙ ap (mask_turn g.row.P) c.self.view_is
