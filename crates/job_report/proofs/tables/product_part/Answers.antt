use Rattle.std.{proofs.Common.{◌∙◌, ◌+◌, ℕ, List, ap, ap₂, length, lit<, map, subst, sym}, specs.List.AllZip}
use Rattle.linear_law.specs.Names.{Each}
use Rattle.job_report.{specs.Listed.IsListedColumn, proofs.TableLemmas.{inside, listed-product, products-inside, same-count}}
use Rattle.cohomology.specs.declared.basis.Column.{Column}
use Rattle.report_law.specs.Names.{number_pairs, unnumbered}
use Rattle.job_report.proofs.tables.product_part.Goals as goal

pub pair_columns-requires : goal.pair_columns-requires
pair_columns-requires g c =
    let p : ℕ = g.row.P in
    let levels = c.args.index.now in
    let classes = g.B.Basis.classes c.args.basis.now in
    let canonical = g.met.B.Basis.canonical levels c.args.basis.now c.requires.of in
    let is = c.requires.complex in
    let matrix = c.args.matrix.now in
    let x = matrix.product in
    let e = c.deref-2.ensures.value in (
      lit< tt,
      (
        subst (Each (inside p g.B.Basis.keeps levels classes canonical (x.a + x.b))) (sym e)
            (products-inside p g.B.Basis.keeps levels classes canonical x matrix.columns.items c.requires.matrix is.facets is.index),
        same-count p g.B.Basis.keeps levels classes canonical x matrix.columns.items c.requires.matrix is.facets is.index c.deref.result.now
            (c.deref.ensures.value ∙ c.in_ok-pairs.ensures ∙ ap₂ number_pairs c.rank.ensures c.rank-2.ensures)
            ∙ ap (λ (cs : List (Column p)). length cs) (sym e),
      ),
    )

pub returns : goal.returns
returns g c =
    let p : ℕ = g.row.P in
    let levels = c.args.index.now in
    let classes = g.B.Basis.classes c.args.basis.now in
    let canonical = g.met.B.Basis.canonical levels c.args.basis.now c.requires.of in
    let matrix = c.args.matrix.now in
    let x = matrix.product in
    listed-product p g.B.Basis.keeps levels classes canonical x matrix.columns.items c.requires.matrix c.in_ok-columns.columns
    (c.in_ok-columns.ensures.numbers ∙ c.deref.ensures.value ∙ c.in_ok-pairs.ensures ∙ ap₂ number_pairs c.rank.ensures c.rank-2.ensures)
    (subst (λ (cs : List (Column p)). AllZip (IsListedColumn {p = p} g.B.Basis.keeps levels (x.a + x.b)) cs (map unnumbered c.in_ok-columns.columns)) c.deref-2.ensures.value c.in_ok-columns.ensures.columns)
