use Rattle.std.proofs.{Common.{◌∙◌, ◌/◌, ◌∷◌, [], arith, refl}, lemmas.Result.on_ok_weaker}
use Rattle.signed_sum.specs.Names.{cycle_power}
use Rattle.table_reduction_law.proofs.PowerPairs.{power-perm}
use Rattle.may_elements.{specs.Live.is_left_out, proofs.{ElementLemmas.{lead-even, lead-odd}, PairLemmas.{adds-tuples, at-first}}}
use Rattle.may_elements.proofs.pairs.PairWalk.add_tuples.Goals as goal

pub returns-then-d-eq1 : goal.returns-then-d-eq1
returns-then-d-eq1 c =
    let p = c.args.wanted.p in
    on_ok_weaker c.add_pair.result
    (adds-tuples (is_left_out c.args.wanted.live_for) p c.args.d (cycle_power p 1 ∷ []) (cycle_power p 0) c.args.self.now.used.items c.args.self.now.values.items c.args.self.now.lists.items c.add_pair.new.self.lists.items
    c.requires.some (power-perm p 1, tt) (lead-odd p c.args.d c.if-d-eq1.true) refl c.requires.used c.requires.values) c.add_pair.ensures.lists

pub add_from-requires-clause-at : goal.add_from-requires-clause-at
add_from-requires-clause-at c =
    at-first c.args.wanted.p (c.args.d / 2) c.as_slice.result.now c.args.self.now.used.items c.args.self.now.values.items (c.as_slice.ensures ∙ c.in_ok-row.ensures) c.requires.used c.requires.values c.requires.short

pub returns : goal.returns
returns c =
    on_ok_weaker c.add_from.result
    (adds-tuples (is_left_out c.args.wanted.live_for) c.args.wanted.p c.args.d [] c.as_slice.result.now c.args.self.now.used.items c.args.self.now.values.items c.args.self.now.lists.items c.add_from.new.self.lists.items
    c.requires.some tt (lead-even c.args.wanted.p c.args.d (omega arith)) (c.as_slice.ensures ∙ c.in_ok-row.ensures) c.requires.used c.requires.values) c.add_from.ensures.lists
