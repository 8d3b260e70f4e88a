use Rattle.std.proofs.Common.{◌≡◌, List, ℕ, IfOk, subst, rules}
use Rattle.report_lines.proofs.Numbers.{numbers_of_each}
use Rattle.report_lines.proofs.word.numbers.Goals as goal

pub returns : goal.returns
returns c = subst (λ (ns : List ℕ). IfOk c.collect.result (λ v. v.items ≡ ns)) (numbers_of_each c.args.words.now) (search rules)
