use Rattle.std.proofs.Common.{sym, subst}
use Rattle.complex_index.{specs.Names.IsIndexOf, proofs.LevelLemmas.{index_is, index_made, levels_are}}
use Rattle.complex_index.proofs.indexed.Indexed.of.Goals as goal

pub levels_of-requires : goal.levels_of-requires
levels_of-requires c = levels_are c.args.complex.now c.levels.result.now c.requires.few c.levels.ensures

pub invariant_of-result : goal.invariant_of-result
invariant_of-result c =
    index_made c.args.complex.now c.levels.result.now c.in_ok-levels.levels.items c.requires.ascending c.requires.short c.requires.few c.levels.ensures c.in_ok-levels.ensures

pub returns : goal.returns
returns c = subst (IsIndexOf c.args.complex.now) (sym c.in_ok-levels.ensures.same) (index_is c.args.complex.now c.levels.result.now c.requires.ascending c.levels.ensures)
