use Rattle.std.proofs.{Common.{◌≡◌, ◌/◌, ◌%◌, ◌^◌, ◌==◌, false, ap, subst, ◌∙◌, rules, w64, FitsSigned, OnOk, ne_eqb}, lemmas.Int.to_z-of_z}
use Rattle.signed_sum.specs.Names.{letters}
use Rattle.operad_law.{specs.Words.with_place, proofs.WordSteps.{changed-valid, place-added, sign-before}}
use Rattle.operad_law.proofs.word.add_place.Goals as goal

pub invariant_of-changed : goal.invariant_of-changed
invariant_of-changed g c =
    let mask = c.word.inside.mask in
    let clear : (mask / 2 ^ c.args.place % 2 == 1) ≡ false = ne_eqb (mask / 2 ^ c.args.place % 2) 1 (λ e. c.if-mask-step-eq1.false (ap (λ k. mask / k % 2) c.bit-step.ensures ∙ e)) in
    rw c.bit-step.ensures (changed-valid g.row.P c.args.place (mask, c.word.inside.odd) c.requires.within c.word.invariant clear)

pub returns-clause-placed : goal.returns-clause-placed
returns-clause-placed g c =
    let mask = c.word.inside.mask in
    let odd = c.word.inside.odd in
    let clear : (mask / 2 ^ c.args.place % 2 == 1) ≡ false = ne_eqb (mask / 2 ^ c.args.place % 2) 1 (λ e. c.if-mask-step-eq1.false (ap (λ k. mask / k % 2) c.bit-step.ensures ∙ e)) in
    let fits : FitsSigned w64 c.sign_of_odd.result = search rules in
    let sign = c.sign_of_odd.ensures ∙ sign-before odd (letters c.args.place mask) c.count_letters-before.result c.count_letters-before.ensures in
    subst (λ t. OnOk c.add_small.result (c.add_small.new.sum ≡ t))
    (place-added c.args.place c.bit-step.result (mask, odd) c.args.sum.now _ c.bit-step.ensures clear (to_z-of_z w64 c.sign_of_odd.result fits ∙ sign) ∙ ap (λ x. with_place c.args.place x c.args.sum.now) c.word.view_is)
    c.add_small.ensures
