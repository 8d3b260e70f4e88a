use Rattle.std.proofs.{Common.{◌∙◌, Err, ap, arith, length}, lemmas.Int.ints}
use Rattle.operad_law.proofs.ListOrder.{equal_numbers}
use Rattle.signed_sum.specs.Names.{total, value_at, weight_of}
use Rattle.may_elements.proofs.PairLemmas.{sum-more, total-permutation}
use Rattle.may_elements.proofs.pairs.sum_of.Goals as goal

pub loop-list-init : goal.loop-list-init
loop-list-init c = (
  λ phi. omega (arith, ints, ap (value_at phi) c.new-sum.ensures, ap (total phi) c.into_iter-list-iterator.ensures.into_iter_gives.0, total-permutation phi c.args.lists.items c.sort.new.self.items c.in_ok-sort.ensures.permutation),
  omega (arith, ap weight_of c.new-sum.ensures, ap length c.into_iter-list-iterator.ensures.into_iter_gives.0, c.in_ok-sort.ensures.len, c.requires),
)

pub loop-list-preserved : goal.loop-list-preserved
loop-list-preserved c = (
  λ phi. omega (arith, ints, c.loop-list.invariant.0 phi, sum-more _ equal_numbers c.loop-list.sum c.add_term.new.self c.in-Some.list phi c.in-Ok.ensures.ok, ap (total phi) c.in-Some.ensures.steps.0),
  omega (arith, c.loop-list.invariant.1, c.in-Ok.ensures.grows, ap length c.in-Some.ensures.steps.0),
)

pub unreachable-requires : goal.unreachable-requires
unreachable-requires c =
    let heavy = c.add_term.ensures.too_large.0 (c.in-Err-TooLarge.is ∙ ap Err c.in-Err-TooLarge.field-0-is) in
    omega (arith, heavy, c.loop-list.invariant.1, ap length c.in-Some.ensures.steps.0)
