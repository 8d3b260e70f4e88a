use Rattle.std.{proofs.Common.{ℕ, List, lit<, subst, sym}, specs.List.AllZip}
use Rattle.linear_law.specs.Names.{Each}
use Rattle.cohomology.specs.declared.basis.Column.{Column}
use Rattle.job_report.{specs.Listed.IsListedColumn, proofs.TableLemmas.{inside, listed-operation, operations-inside}}
use Rattle.job_report.proofs.tables.operation_part.Goals as goal

pub listed_columns-requires : goal.listed_columns-requires
listed_columns-requires g c =
    let p : ℕ = g.row.P in
    let levels = c.args.index.now in
    let classes = g.B.Basis.classes c.args.basis.now in
    let canonical = g.met.B.Basis.canonical levels c.args.basis.now c.requires.of in
    let is = c.requires.complex in
    let matrix = c.args.matrix.now in (
      lit< tt,
      subst (Each (inside p g.B.Basis.keeps levels classes canonical matrix.block.to)) (sym c.deref.ensures.value)
          (operations-inside p g.B.Basis.keeps levels classes canonical matrix.block matrix.columns.items c.requires.matrix is.facets is.index),
    )

pub returns : goal.returns
returns g c =
    let p : ℕ = g.row.P in
    let levels = c.args.index.now in
    let matrix = c.args.matrix.now in
    listed-operation p g.B.Basis.keeps levels (g.B.Basis.classes c.args.basis.now) (g.met.B.Basis.canonical levels c.args.basis.now c.requires.of) matrix.block matrix.columns.items c.requires.matrix
    c.named-word.result.0 c.named-word.result.1 c.in_ok-columns.columns c.named-word.ensures
    (subst (λ (cs : List (Column p)). AllZip (IsListedColumn {p = p} g.B.Basis.keeps levels matrix.block.to) cs c.in_ok-columns.columns) c.deref.ensures.value c.in_ok-columns.ensures)
