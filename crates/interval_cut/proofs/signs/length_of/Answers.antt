use Rattle.std.proofs.Common.{arith}
use Rattle.interval_cut.proofs.ExponentLemmas.{interval}
use Rattle.interval_cut.proofs.signs.length_of.Goals as goal

pub end_of-requires : goal.end_of-requires
end_of-requires c = (interval _ _ _ _ c.requires.cut c.requires.inside).inside

pub point_of-requires : goal.point_of-requires
point_of-requires c = let h = (interval _ _ _ _ c.requires.cut c.requires.inside).inside in omega arith

pub overflow_sub-result : goal.overflow_sub-result
overflow_sub-result c = let h = interval _ _ _ _ c.requires.cut c.requires.inside in omega (arith, h.order, c.end_of.ensures, c.point_of.ensures)

pub overflow_add-result : goal.overflow_add-result
overflow_add-result c = let h = interval _ _ _ _ c.requires.cut c.requires.inside in omega (arith, h.end, h.once, c.end_of.ensures, c.comes_again.ensures)

pub returns-clause-small : goal.returns-clause-small
returns-clause-small c = let h = interval _ _ _ _ c.requires.cut c.requires.inside in omega (arith, h.end, h.once, c.end_of.ensures, c.comes_again.ensures)
