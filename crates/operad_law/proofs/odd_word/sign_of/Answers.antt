use Rattle.std.proofs.Common.{◌≡◌, sym, ap, ◌∙◌, cond, pos, negsuc}
use Rattle.signed_sum.specs.Names.{inversion_count, stands_before}
use Rattle.operad_law.{specs.Parity.is_odd, proofs.WordLemmas.signed-odd}
use Rattle.operad_law.proofs.odd_word.sign_of.Goals as goal

pub returns-then-is_odd_rearrangement : goal.returns-then-is_odd_rearrangement
returns-then-is_odd_rearrangement c =
    let from : c.args.from.now ≡ c.deref.result.now = sym (c.deref.ensures.value ∙ c.from.view_is) in
    let to : c.args.to.now ≡ c.deref-2.result.now = sym (c.deref-2.ensures.value ∙ c.to.view_is) in
    let same : is_odd (inversion_count (stands_before c.args.to.now) c.args.from.now) ≡ is_odd (inversion_count (stands_before c.deref-2.result.now) c.deref.result.now)
    = λ i. is_odd (inversion_count (stands_before (to i)) (from i)) in
    sym (signed-odd (inversion_count (stands_before c.args.to.now) c.args.from.now) ∙ ap (λ b. cond b (negsuc 0) (pos 1)) (same ∙ sym c.is_odd_rearrangement.ensures ∙ c.if-is_odd_rearrangement.true))

pub returns-else-is_odd_rearrangement : goal.returns-else-is_odd_rearrangement
returns-else-is_odd_rearrangement c =
    let from : c.args.from.now ≡ c.deref.result.now = sym (c.deref.ensures.value ∙ c.from.view_is) in
    let to : c.args.to.now ≡ c.deref-2.result.now = sym (c.deref-2.ensures.value ∙ c.to.view_is) in
    let same : is_odd (inversion_count (stands_before c.args.to.now) c.args.from.now) ≡ is_odd (inversion_count (stands_before c.deref-2.result.now) c.deref.result.now)
    = λ i. is_odd (inversion_count (stands_before (to i)) (from i)) in
    sym (signed-odd (inversion_count (stands_before c.args.to.now) c.args.from.now) ∙ ap (λ b. cond b (negsuc 0) (pos 1)) (same ∙ sym c.is_odd_rearrangement.ensures ∙ c.if-is_odd_rearrangement.false))
