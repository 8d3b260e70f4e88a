use Rattle.std.proofs.{Common.{sym, ap, ◌∙◌, ◌≡◌, false, true, is_some, w64}, lemmas.Int.to_z-of_z}
use Rattle.signed_sum.specs.Names.{is_degenerate}
use Rattle.surjection.proofs.{RefusalLemmas.degenerate-is, WalkLemmas.{AddsList-degenerate, AddsList-term}}
use Rattle.surjection.proofs.surj.add_list.Goals as goal

pub invariant_of-add_term : goal.invariant_of-add_term
invariant_of-add_term c =
    let plain : is_degenerate c.args.values.items ≡ false =
    ap is_degenerate (sym c.as_slice.ensures) ∙ degenerate-is 1 c.as_slice.result.now ∙ ap is_some (sym c.equal_neighbours.ensures) ∙ sym c.is_some.ensures ∙ c.if-is_some.false in
    c.requires.surjection plain

pub returns-then-is_some : goal.returns-then-is_some
returns-then-is_some c =
    let gone : is_degenerate c.args.values.items ≡ true =
    ap is_degenerate (sym c.as_slice.ensures) ∙ degenerate-is 1 c.as_slice.result.now ∙ ap is_some (sym c.equal_neighbours.ensures) ∙ sym c.is_some.ensures ∙ c.if-is_some.true in
    AddsList-degenerate c.args.values.items c.args.sign c.args.sum.now gone

pub returns-in-Ok : goal.returns-in-Ok
returns-in-Ok c =
    let plain : is_degenerate c.args.values.items ≡ false =
    ap is_degenerate (sym c.as_slice.ensures) ∙ degenerate-is 1 c.as_slice.result.now ∙ ap is_some (sym c.equal_neighbours.ensures) ∙ sym c.is_some.ensures ∙ c.if-is_some.false in
    rw (c.in-Ok.ensures.ok, to_z-of_z w64 c.args.sign c.ranges.sign) (AddsList-term c.args.values.items c.args.sign c.args.sum.now plain c.requires.small)
