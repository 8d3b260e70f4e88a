use Rattle.std.proofs.Common.{◌∙◌, ◌%◌, ℕ, ap}
use Rattle.linear_law.specs.Names.{negated}
use Rattle.column_check.proofs.SumLemmas.{same-tells}
use Rattle.column_check.proofs.sums.is_same.Goals as goal

pub returns : goal.returns
returns g c =
    let p : ℕ = g.row.P in
    same-tells p c.requires c.args.row.now c.args.other c.add_scaled.new.self c.neg.result (c.neg.ensures ∙ ap (λ (v : ℕ). negated p v % p) c.new.ensures) c.in_ok-add_scaled.ensures.row c.in_ok-add_scaled.ensures.sum c.is_zero.result c.is_zero.ensures
