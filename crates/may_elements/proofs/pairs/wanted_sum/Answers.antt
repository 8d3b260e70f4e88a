use Rattle.std.proofs.{Common.{arith}, lemmas.Result.IfOk-weaker}
use Rattle.may_elements.{specs.Live.is_left_out, proofs.ElementLemmas.{wanted-few, wanted-is}}
use Rattle.may_elements.proofs.pairs.wanted_sum.Goals as goal

pub sum_of-requires : goal.sum_of-requires
sum_of-requires c =
    let few = wanted-few (is_left_out c.args.wanted.live_for) c.args.wanted.p c.args.d c.new-walk.result.lists.items c.add_tuples.new.self.lists.items c.new-walk.ensures.lists c.in_ok-add_tuples.ensures c.requires.some in
    omega (arith, few, c.requires.few)

pub returns : goal.returns
returns c =
    IfOk-weaker c.sum_of.result _ _
    (wanted-is (is_left_out c.args.wanted.live_for) c.args.wanted.p c.args.d c.new-walk.result.lists.items c.add_tuples.new.self.lists.items c.new-walk.ensures.lists c.in_ok-add_tuples.ensures) c.sum_of.ensures
