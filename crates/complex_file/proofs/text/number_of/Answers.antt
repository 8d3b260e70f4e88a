use Rattle.std.proofs.{Common.{arith, lit<, ◌≤◌, ◌^◌}, Math.Nat.pow-le-pow_right}
use Rattle.complex_file.proofs.text.number_of.Goals as goal

pub overflow_mul-value : goal.overflow_mul-value
overflow_mul-value c = let le : 10 ^ c.loop-b.b-index ≤ 10 ^ 5 = pow-le-pow_right (lit< tt) {i = c.loop-b.b-index} {j = 5} (omega arith) in omega arith

pub overflow_add-value : goal.overflow_add-value
overflow_add-value c = let le : 10 ^ c.loop-b.b-index ≤ 10 ^ 5 = pow-le-pow_right (lit< tt) {i = c.loop-b.b-index} {j = 5} (omega arith) in omega arith
