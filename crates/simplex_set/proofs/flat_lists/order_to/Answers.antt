use Rattle.std.proofs.Common.{◌∙◌, sym}
use Rattle.simplex_set.proofs.InPieces.{by_firsts, by_rests_of, shorter}
use Rattle.simplex_set.proofs.flat_lists.order_to.Goals as goal

pub returns-then-list-first : goal.returns-then-list-first
returns-then-list-first c = c.compare.ensures ∙ shorter c.args.list.now c.args.first.now c.args.rest.now c.if-list-first.true

pub returns-in-Equal : goal.returns-in-Equal
returns-in-Equal c = by_rests_of c.args.list.now c.args.first.now c.args.rest.now c.compare-in-Equal.result c.if-list-first.false (sym c.in-Equal.ensures) c.compare-in-Equal.ensures

pub returns-in_default : goal.returns-in_default
returns-in_default c = by_firsts c.args.list.now c.args.first.now c.args.rest.now c.compare-2.result c.if-list-first.false c.compare-2.ensures c.in_default.not-Equal
