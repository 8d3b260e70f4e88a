use Rattle.std.proofs.Common.{arith}
use Rattle.count_check.proofs.PlaceLemmas.{count_is, line_found, parts_in}
use Rattle.count_check.proofs.lines.LineGroup.line.Goals as goal

pub nonzero_rem-rest : goal.nonzero_rem-rest
nonzero_rem-rest c = (parts_in c.args.self.now c.args.place c.from.result c.len-count.result c.from.ensures (count_is c.args.self.now c.len-count.result c.len-count.ensures) c.requires.inside).row

pub nonzero_div-result : goal.nonzero_div-result
nonzero_div-result c = (parts_in c.args.self.now c.args.place c.from.result c.len-count.result c.from.ensures (count_is c.args.self.now c.len-count.result c.len-count.ensures) c.requires.inside).row

pub overflow_cast-result : goal.overflow_cast-result
overflow_cast-result c = let q = (parts_in c.args.self.now c.args.place c.from.result c.len-count.result c.from.ensures (count_is c.args.self.now c.len-count.result c.len-count.ensures) c.requires.inside).i in let b = c.requires.small.first in omega (arith, q, b)

pub overflow_add-result : goal.overflow_add-result
overflow_add-result c = let q = (parts_in c.args.self.now c.args.place c.from.result c.len-count.result c.from.ensures (count_is c.args.self.now c.len-count.result c.len-count.ensures) c.requires.inside).i in let b = c.requires.small.first in omega (arith, q, b)

pub nonzero_div-result-2 : goal.nonzero_div-result-2
nonzero_div-result-2 c = (parts_in c.args.self.now c.args.place c.from.result c.len-count.result c.from.ensures (count_is c.args.self.now c.len-count.result c.len-count.ensures) c.requires.inside).count

pub overflow_cast-result-2 : goal.overflow_cast-result-2
overflow_cast-result-2 c = let q = (parts_in c.args.self.now c.args.place c.from.result c.len-count.result c.from.ensures (count_is c.args.self.now c.len-count.result c.len-count.ensures) c.requires.inside).j in let b = c.requires.small.second in omega (arith, q, b)

pub overflow_add-result-2 : goal.overflow_add-result-2
overflow_add-result-2 c = let q = (parts_in c.args.self.now c.args.place c.from.result c.len-count.result c.from.ensures (count_is c.args.self.now c.len-count.result c.len-count.ensures) c.requires.inside).j in let b = c.requires.small.second in omega (arith, q, b)

pub nonzero_rem-rest-2 : goal.nonzero_rem-rest-2
nonzero_rem-rest-2 c = (parts_in c.args.self.now c.args.place c.from.result c.len-count.result c.from.ensures (count_is c.args.self.now c.len-count.result c.len-count.ensures) c.requires.inside).count

pub index-requires : goal.index-requires
index-requires c = let q = (parts_in c.args.self.now c.args.place c.from.result c.len-count.result c.from.ensures (count_is c.args.self.now c.len-count.result c.len-count.ensures) c.requires.inside).n in let e = c.len-count.ensures in omega (arith, q, e)

pub returns : goal.returns
returns c = line_found c.args.self.now c.args.place c.from.result c.len-count.result c.index.result.now c.from.ensures (count_is c.args.self.now c.len-count.result c.len-count.ensures) c.index.ensures c.requires.inside
