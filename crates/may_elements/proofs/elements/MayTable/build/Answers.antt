use Rattle.std.proofs.{Common.{arith}, lemmas.Result.IfOk-weaker}
use Rattle.fp_field.proofs.ServedLemmas.{served_large}
use Rattle.may_elements.proofs.{ElementLemmas.{element-at_two, whole-is}, StoredLemmas.relation}
use Rattle.may_elements.proofs.elements.MayTable.build.Goals as goal

pub returns-clause-element : goal.returns-clause-element
returns-clause-element g c = IfOk-weaker c.wanted_sum.result _ _ (λ s a. whole-is g.row.P c.args.d s a) c.wanted_sum.ensures

pub returns-clause-at_two : goal.returns-clause-at_two
returns-clause-at_two g c = IfOk-weaker c.wanted_sum.result _ _ (λ s a. element-at_two g.row.P c.args.d s a) (returns-clause-element g c)

pub returns-clause-boundary : goal.returns-clause-boundary
returns-clause-boundary g c =
    let large = served_large g.row.P c.requires.prime in
    IfOk-weaker c.wanted_sum.result _ _ (λ s a. relation g.row.P c.args.d s (omega (arith, large)) a) (returns-clause-element g c)
