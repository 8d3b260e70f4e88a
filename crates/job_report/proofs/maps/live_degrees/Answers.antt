use Rattle.std.{proofs.Common.{◌≡◌, ◌∙◌, ◌&&◌, ap, arith, length}, specs.List.filter}
use Rattle.signed_sum.specs.Names.{numbers_from}
use Rattle.report_law.specs.Names.{has_class}
use Rattle.job_report.proofs.Zips.{numbers-filtered}
use Rattle.job_report.proofs.maps.live_degrees.Goals as goal

pub loop-q-preserved : goal.loop-q-preserved
loop-q-preserved c = numbers-filtered (λ k. has_class c.args.from.now k && has_class c.args.to.now k) c.loop-q.q c.loop-q.degrees.items _ c.loop-q.invariant c.in_ok-add_live.ensures

pub returns : goal.returns
returns c =
    let e : c.loop-q.q ≡ length c.args.from.now = omega arith in
    c.loop-q.invariant ∙ ap (λ k. filter (λ q. has_class c.args.from.now q && has_class c.args.to.now q) (numbers_from 0 k)) e
