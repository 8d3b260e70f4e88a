use Rattle.std.proofs.Common.{arith, sym, ◌∙◌, ◌≤◌}
use Rattle.surjection_law.specs.Names.{arity}
use Rattle.surjection.proofs.RefusalLemmas.{no_fault, not_empty}
use Rattle.surjection.proofs.surj.Surj.new.Goals as goal

pub invariant_of-result : goal.invariant_of-result
invariant_of-result c =
    let few : arity c.args.values.now ≤ 32 = omega (arith, c.greatest-most.ensures, c.if-most-gt32.false) in
    rw c.in-Ok.ensures.ok (no_fault c.args.values.now (not_empty c.args.values.now (sym c.is_empty.ensures ∙ c.if-is_empty.false)) c.if-values-gt255.false few
    (sym c.first_gap.ensures ∙ c.in_default.is) (sym c.equal_neighbours.ensures ∙ c.in_default-equal_neighbours.is))
