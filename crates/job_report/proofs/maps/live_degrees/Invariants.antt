use Rattle.std.{proofs.Common.{◌≡◌, ◌&&◌}, specs.List.filter}
use Rattle.signed_sum.specs.Names.{numbers_from}
use Rattle.report_law.specs.Names.{has_class}
use Rattle.job_report.proofs.maps.live_degrees.Given as goal

abbrev pub invariant-loop-q : goal.invariant-loop-q
invariant-loop-q l = l.degrees.items ≡ filter (λ q. has_class l.from q && has_class l.to q) (numbers_from 0 l.q)
