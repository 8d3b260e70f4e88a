use Rattle.std.proofs.Common.{◌≡◌, ℕ, ◌<◌, ◌≢◌, length, arith, ap, ◌∙◌, subst, sym}
use Rattle.sparse_rows.{proofs.Below.{mod-eq_of_lt, get_or_default, served_large}, specs.Merging.{StepsOver, position_of}, proofs.MergeLemmas.{step_over, step_none}, proofs.merging.advance.Goals.{else-i-pairs-via-then-i-pairs+else-pairs-i, else-i-pairs-via-else-i-pairs}}
use Rattle.sparse_rows.proofs.merging.advance.Goals as goal

pub returns-then-pairs-i : goal.returns-then-pairs-i
returns-then-pairs-i g c = step_over g.row.P c.args.pairs.now c.args.i c.args.position c.index-pairs-i.result c.index-pairs-i-then-pairs-i.result c.requires.row c.if-i-pairs.true c.if-pairs-i.true

pub returns-else-i-pairs : goal.returns-else-i-pairs
returns-else-i-pairs g c =
    let n : c.args.i < length c.args.pairs.now → position_of c.args.pairs.now c.args.i ≢ c.args.position = elim c.else-i-pairs.branch [
      | else-i-pairs-via-then-i-pairs+else-pairs-i w ↦ λ b e. w.if-pairs-i.false (ap (λ (x : ℕ × ℕ). x.0) (get_or_default c.args.pairs.now c.args.i w.index-pairs-i.result (0, 0) b) ∙ e)
      | else-i-pairs-via-else-i-pairs w ↦ λ b. absurd (let f = w.if-i-pairs.false in omega arith)
    ] in
    let zero : c.new.result ≡ 0 = c.new.ensures ∙ mod-eq_of_lt (omega (arith, served_large g.row.P c.requires.prime)) in
    subst (λ v. StepsOver c.args.pairs.now c.args.i c.args.position c.args.i v) (sym zero)
    (step_none g.row.P c.args.pairs.now c.args.i c.args.position c.requires.inside c.requires.row c.requires.from n)
