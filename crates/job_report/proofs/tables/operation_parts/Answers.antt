use Rattle.std.proofs.Common.{◌∙◌, ℕ, List, ap, lit<, map, subst, sym}
use Rattle.linear_law.specs.Names.{Each}
use Rattle.class_matrices.specs.{declared.matrices.OperationMatrix.OperationMatrix, Names.{class_counts, IsOperationOf}}
use Rattle.report_law.specs.Names.{blocks}
use Rattle.job_report.{specs.Parts.IsListedOperation, proofs.Zips.{all-headings, each-item, heading-more}}
use Rattle.job_report.proofs.tables.operation_parts.Goals as goal

pub operation_part-requires : goal.operation_part-requires
operation_part-requires g c =
    let p : ℕ = g.row.P in
    let Is = IsOperationOf {p = p} g.B.Basis.keeps c.args.index.now (g.B.Basis.classes c.args.basis.now) in (
      lit< tt,
      (
        c.requires.complex,
        (
          c.requires.of,
          each-item Is c.as_slice-matrix-items.result.now c.loop-matrix.matrix-index c.matrix-item.result c.loop-matrix-test.true c.matrix-item.is
              (subst (Each Is) (sym c.as_slice-matrix-items.ensures.value) c.requires.matrices.operation_matrices),
        ),
      ),
    )

pub loop-matrix-preserved : goal.loop-matrix-preserved
loop-matrix-preserved g c =
    heading-more (IsListedOperation {p = g.row.P} g.B.Basis.keeps c.args.index.now (g.B.Basis.classes c.args.basis.now)) (λ m. m.block) c.as_slice-matrix-items.result.now c.loop-matrix.parts.items _ c.loop-matrix.matrix-index
    c.matrix-item.result _ c.loop-matrix-test.true c.matrix-item.is c.loop-matrix.invariant c.in_ok-operation_part.ensures c.in_ok-push.ensures.items

pub returns : goal.returns
returns g c =
    let p : ℕ = g.row.P in
    all-headings (IsListedOperation {p = p} g.B.Basis.keeps c.args.index.now (g.B.Basis.classes c.args.basis.now)) (λ m. m.block) c.as_slice-matrix-items.result.now (blocks p (class_counts {p = p} c.args.index.now (g.B.Basis.classes c.args.basis.now)))
    c.loop-matrix.parts.items _ c.loop-matrix.matrix-index c.loop-matrix-test.false (ap (λ (xs : List (OperationMatrix p)). map (λ m. m.block) xs) c.as_slice-matrix-items.ensures.value ∙ c.requires.matrices.blocks) c.loop-matrix.invariant c.from.ensures
