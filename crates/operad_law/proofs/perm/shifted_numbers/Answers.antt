use Rattle.std.proofs.Common.{◌≡◌, sym, ap, ◌∙◌, map, arith}
use Rattle.signed_sum.specs.Names.{numbers_from}
use Rattle.operad_law.proofs.PermLemmas.{cycle_power-shifted, shifted, shifted-next}
use Rattle.operad_law.proofs.perm.shifted_numbers.Goals as goal

pub loop-i-preserved : goal.loop-i-preserved
loop-i-preserved c = c.in_ok-push.ensures.ok ∙ shifted-next c.args.r c.args.by c.loop-i.i c.loop-i.values.items c.loop-i.invariant

pub returns : goal.returns
returns c =
    let end : c.loop-i.i ≡ c.args.r = omega arith in
    c.loop-i.invariant ∙ ap (λ k. map (shifted c.args.r c.args.by) (numbers_from 0 k)) end ∙ sym (cycle_power-shifted c.args.r c.args.by (omega arith))
