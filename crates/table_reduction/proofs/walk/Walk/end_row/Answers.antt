use Rattle.std.proofs.Common.{◌∙◌, sym}
use Rattle.operad_law.proofs.ListOrder.{equal_numbers}
use Rattle.table_reduction.proofs.WalkLemmas.{adds-none, adds-one}
use Rattle.table_reduction.proofs.walk.Walk.end_row.Goals as goal

pub returns-then-not-is_empty-clause-sum : goal.returns-then-not-is_empty-clause-sum
returns-then-not-is_empty-clause-sum c =
    adds-none c.args.later.now c.args.self.now.used.items c.args.self.now.values.items c.args.self.now.sum (sym c.is_empty.ensures ∙ c.if-not-is_empty.true)

pub returns-in-Ok-add_term-clause-sum : goal.returns-in-Ok-add_term-clause-sum
returns-in-Ok-add_term-clause-sum c =
    adds-one _ equal_numbers c.args.later.now c.args.self.now.used.items c.args.self.now.values.items c.in-Ok.list c.args.self.now.sum c.add_term.new.self
    (sym c.is_empty.ensures ∙ c.if-not-is_empty.false) (c.in-Ok.ensures.ok ∙ c.as_slice.ensures.value) c.requires.plain c.in-Ok-add_term.ensures.ok
