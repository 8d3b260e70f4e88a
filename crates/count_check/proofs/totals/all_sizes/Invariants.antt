use Rattle.std.proofs.Common.{◌≡◌, take}
use Rattle.count_check.specs.Totals.{job_sizes}
use Rattle.count_check.proofs.totals.all_sizes.Given as goal

abbrev pub invariant-loop-place : goal.invariant-loop-place
invariant-loop-place l = l.all.items ≡ job_sizes (take l.place l.parts)
