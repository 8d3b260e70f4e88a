use Rattle.std.proofs.Common.{sym, ◌∙◌, subst, All, take_all}
use Rattle.operad_law.specs.Permutations.{IsPerm}
use Rattle.barratt_eccles.proofs.RefusalLemmas.{all-next, length-next}
use Rattle.barratt_eccles.proofs.tuple.other_length.Goals as goal

pub loop-i-preserved : goal.loop-i-preserved
loop-i-preserved c = (
  length-next c.len-arity.result c.args.entries.now c.loop-i.i c.index-entries-i.result c.index-entries-i.is c.loop-i-test.true (sym c.len.ensures.value ∙ c.if-len-arity.false) ∙ c.loop-i.invariant.0,
  all-next IsPerm c.args.entries.now c.loop-i.i c.index-entries-i.result c.index-entries-i.is c.loop-i-test.true c.len.ensures.permutation c.loop-i.invariant.1,
)

pub returns-clause-permutations : goal.returns-clause-permutations
returns-clause-permutations c none = subst (All IsPerm) (take_all c.loop-i.i c.args.entries.now c.loop-i-test.false) c.loop-i.invariant.1
