use Rattle.std.proofs.Common.{◌-◌, lit<, IsTrue}
use Rattle.cohomology.specs.declared.basis.Column.{Column}
use Rattle.job_report.{specs.Listed.{IsInside, IsListedColumn}, proofs.Zips.{each-item, zip-more}}
use Rattle.job_report.proofs.columns.listed_columns.Goals as goal

pub listed_column-requires : goal.listed_column-requires
listed_column-requires g c =
    (lit< tt, each-item (λ (d : Column g.row.P). IsTrue g.B.Basis.keeps → IsInside {p = g.row.P} c.args.index.now (c.args.n - 1) d.primitive) c.args.columns.now c.loop-column.column-index c.column-item.result c.loop-column-test.true c.column-item.is c.requires)

pub loop-column-preserved : goal.loop-column-preserved
loop-column-preserved g c =
    zip-more (IsListedColumn {p = g.row.P} g.B.Basis.keeps c.args.index.now c.args.n) c.args.columns.now c.loop-column.listed.items _ c.loop-column.column-index c.column-item.result _ c.loop-column-test.true c.column-item.is
    c.loop-column.invariant c.in_ok-listed_column.ensures c.in_ok-push.ensures.items
