use Rattle.std.{proofs.Common.{◌≡◌, true, length, take}, specs.List.AllZip}
use Rattle.report.specs.declared.complex.ComplexPart.{ComplexPart}
use Rattle.report_law.specs.Names.{classes_of, IsComplexPart}
use Rattle.job_report.specs.declared.known.Known.{Known}
use Rattle.class_matrices.specs.Names.{listed_classes}
use Rattle.job_report.proofs.complexes.complex_parts.Given as goal

abbrev pub invariant-loop-block : goal.invariant-loop-block
invariant-loop-block g l = record {
  parts : AllZip (IsComplexPart true g.B.Basis.keeps g.row.P) (take (length l.yielded) l.blocks) l.parts.items;
  classes : AllZip (λ (x : Known _) (c : ComplexPart). classes_of c ≡ listed_classes {p = g.row.P} x.index (g.B.Basis.classes x.basis)) (take (length l.yielded) l.known) l.parts.items;
}
