use Rattle.std.proofs.Common.{ℕ, List, arith, sym, subst}
use Rattle.sparse_rows.{specs.Rows.IsRow, proofs.MergeLemmas.put_row}
use Rattle.sparse_rows.proofs.merging.put.Goals as goal

pub returns-in_ok-push-clause-row : goal.returns-in_ok-push-clause-row
returns-in_ok-push-clause-row g c =
    subst (λ (o : List (ℕ × ℕ)). IsRow g.row.P o) (sym c.in_ok-push.ensures.items)
    (put_row g.row.P c.args.out.now.items c.args.position c.args.value c.requires.row c.requires.below (λ e. let t = c.if-not-is_zero.true in let u = c.is_zero.ensures.zero in grind (arith, e, t, u)) c.is_zero.ensures.small)
