use Rattle.std.proofs.Common.{◌≡◌, ◌==◌, ◌∙◌, ◌%◌, ℕ, ap, cond, rules}
use Rattle.fp_field.proofs.ServedLemmas.{served_field}
use Rattle.class_matrices.proofs.{ListLemmas.counted-more, SumLemmas.bit-mod}
use Rattle.class_matrices.proofs.sums.unit.Goals as goal

pub loop-k-preserved : goal.loop-k-preserved
loop-k-preserved g c =
    let bit : c.from.result ≡ cond (c.loop-k.k == c.args.place) 1 0 = search rules in
    counted-more (λ (i : ℕ). cond (i == c.args.place) 1 0) c.loop-k.k c.loop-k.values.items c.push.new.self.items c.new.result c.loop-k.invariant
    (c.new.ensures ∙ ap (λ (n : ℕ). n % g.row.P) bit ∙ bit-mod g.row.P (served_field g.row.P c.requires).large (c.loop-k.k == c.args.place)) c.in_ok-push.ensures.items
