use Rattle.std.proofs.Common.{◌≡◌, ◌∙◌, ℕ, ap, arith, length, map}
use Rattle.signed_sum.specs.Names.{numbers_from}
use Rattle.class_matrices.proofs.ListLemmas.{counted-more}
use Rattle.job_report.proofs.degrees.ranks_of.Goals as goal

pub loop-n-preserved : goal.loop-n-preserved
loop-n-preserved g c = counted-more (λ n. length (g.B.Basis.classes c.args.basis.now n)) c.loop-n.n c.loop-n.ranks.items _ _ c.loop-n.invariant c.rank.ensures c.in_ok-push.ensures.items

pub returns-clause-ranks : goal.returns-clause-ranks
returns-clause-ranks g c =
    let e : c.loop-n.n ≡ length c.args.index.now = omega arith in
    c.loop-n.invariant ∙ ap (λ (k : ℕ). map (λ n. length (g.B.Basis.classes c.args.basis.now n)) (numbers_from 0 k)) e
