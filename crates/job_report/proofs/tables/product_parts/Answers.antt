use Rattle.std.proofs.Common.{◌∙◌, ℕ, List, ap, lit<, map, subst, sym}
use Rattle.linear_law.specs.Names.{Among, Each}
use Rattle.class_matrices.{specs.declared.matrices.ProductMatrix.ProductMatrix, specs.Names.{IsProductOf, class_counts}, proofs.ListLemmas.item-among}
use Rattle.report_law.specs.Names.{products}
use Rattle.job_report.{specs.Parts.IsListedProduct, proofs.TableLemmas.product-sum, proofs.Zips.{all-headings, each-item, heading-more}}
use Rattle.job_report.proofs.tables.product_parts.Goals as goal

pub product_part-requires : goal.product_part-requires
product_part-requires g c =
    let p : ℕ = g.row.P in
    let levels = c.args.index.now in
    let classes = g.B.Basis.classes c.args.basis.now in
    let items = c.as_slice-matrix-items.result.now in
    let x = c.matrix-item.result in
    let here = subst (λ (y : ProductMatrix p). Among y c.args.matrices.now.products.items) (sym c.matrix-item.is)
    (item-among items c.args.matrices.now.products.items c.loop-matrix.matrix-index x c.loop-matrix-test.true c.as_slice-matrix-items.ensures.value) in (
      lit< tt,
      (
        c.requires.complex,
        (
          c.requires.of,
          (
            product-sum p g.B.Basis.keeps levels classes (g.met.B.Basis.canonical levels c.args.basis.now c.requires.of) c.args.matrices.now c.requires.matrices c.requires.few x here,
            each-item (IsProductOf {p = p} g.B.Basis.keeps levels classes) items c.loop-matrix.matrix-index x c.loop-matrix-test.true c.matrix-item.is
                (subst (Each (IsProductOf {p = p} g.B.Basis.keeps levels classes)) (sym c.as_slice-matrix-items.ensures.value) c.requires.matrices.product_matrices),
          ),
        ),
      ),
    )

pub loop-matrix-preserved : goal.loop-matrix-preserved
loop-matrix-preserved g c =
    heading-more (IsListedProduct {p = g.row.P} g.B.Basis.keeps c.args.index.now (g.B.Basis.classes c.args.basis.now)) (λ m. m.product) c.as_slice-matrix-items.result.now c.loop-matrix.parts.items _ c.loop-matrix.matrix-index
    c.matrix-item.result _ c.loop-matrix-test.true c.matrix-item.is c.loop-matrix.invariant c.in_ok-product_part.ensures c.in_ok-push.ensures.items

pub returns : goal.returns
returns g c =
    let p : ℕ = g.row.P in
    all-headings (IsListedProduct {p = p} g.B.Basis.keeps c.args.index.now (g.B.Basis.classes c.args.basis.now)) (λ m. m.product) c.as_slice-matrix-items.result.now (products (class_counts {p = p} c.args.index.now (g.B.Basis.classes c.args.basis.now)))
    c.loop-matrix.parts.items _ c.loop-matrix.matrix-index c.loop-matrix-test.false (ap (λ (xs : List (ProductMatrix p)). map (λ m. m.product) xs) c.as_slice-matrix-items.ensures.value ∙ c.requires.matrices.products) c.loop-matrix.invariant c.from.ensures
