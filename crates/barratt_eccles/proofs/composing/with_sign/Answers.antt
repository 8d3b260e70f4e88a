use Rattle.std.proofs.{Common.{arith, ◌≡◌, sym, ◌∙◌, w64, to_z, of_z, pos, neg_ℤ, ◌-ℤ◌}, lemmas.Int.{ints, to_z-of_z}}
use Rattle.signed_sum.proofs.Names.{signed-parity}
use Rattle.barratt_eccles.proofs.composing.with_sign.Goals as goal

pub returns-then-changes-eq1 : goal.returns-then-changes-eq1
returns-then-changes-eq1 c =
    let turned : to_z w64 (of_z w64 (pos 0 -ℤ to_z w64 (of_z w64 c.args.sign))) ≡ neg_ℤ c.args.sign = omega (arith, ints, c.requires) in
    turned ∙ sym (signed-parity c.args.changes 1 c.args.sign (omega arith))

pub returns-else-changes-eq1 : goal.returns-else-changes-eq1
returns-else-changes-eq1 c = to_z-of_z w64 c.args.sign c.ranges.sign ∙ sym (signed-parity c.args.changes 0 c.args.sign (omega arith))
