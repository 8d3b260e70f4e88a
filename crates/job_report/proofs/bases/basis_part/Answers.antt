use Rattle.std.proofs.Common.{◌∙◌}
use Rattle.job_report.proofs.BasisLemmas.{basis-is}
use Rattle.job_report.proofs.bases.basis_part.Goals as goal

pub of-requires : goal.of-requires
of-requires g c = record { ascending = c.requires.complex.ascending; short = c.requires.complex.short; few = c.requires.complex.few }

pub returns : goal.returns
returns g c = basis-is g.row.P c.in_ok-index.index c.args.block.now c.in_ok-index.ensures _ (c.in_ok-new.ensures ∙ c.bytes.ensures) c.in_ok-class_parts.ensures
