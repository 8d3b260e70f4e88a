use Rattle.std.proofs.Common.{◌≡◌, ◌∙◌, ℕ, ap, arith, length, map}
use Rattle.signed_sum.specs.Names.{numbers_from}
use Rattle.complex_index.specs.Names.{level}
use Rattle.class_matrices.proofs.ListLemmas.{counted-more}
use Rattle.job_report.proofs.degrees.counts_of.Goals as goal

pub loop-n-preserved : goal.loop-n-preserved
loop-n-preserved c = counted-more (λ n. length (level c.args.index.now n)) c.loop-n.n c.loop-n.counts.items _ _ c.loop-n.invariant c.count.ensures c.in_ok-push.ensures.items

pub returns : goal.returns
returns c =
    let e : c.loop-n.n ≡ length c.args.index.now = omega arith in
    c.loop-n.invariant ∙ ap (λ (k : ℕ). map (λ n. length (level c.args.index.now n)) (numbers_from 0 k)) e
