use Rattle.std.{proofs.Common.{◌∙◌, ℕ, List, ap, arith, length, lit<, subst, sym}, specs.List.AllZip}
use Rattle.report.specs.declared.complex.ComplexPart.{ComplexPart}
use Rattle.report_law.specs.Names.{blocks, lines, products}
use Rattle.class_matrices.{specs.Names.AreMatrices, proofs.ListLemmas.numbers-count}
use Rattle.job_report.{specs.Parts.{IsListedLine, IsListedOperation, IsListedProduct}, proofs.PartLemmas.{classes-are, part-is, stored-for}}
use Rattle.job_report.proofs.complexes.complex_part.Goals as goal

pub of-requires : goal.of-requires
of-requires g c =
    let known = c.args.known.now in
    let same = c.deref.ensures.value ∙ c.in_ok-ranks.ensures.ranks in
    let e = ap (λ (rs : List ℕ). length rs) same ∙ numbers-count (λ n. length (g.B.Basis.classes known.basis n)) (length known.index) in
    let f = c.in_ok-ranks.ensures.few in (
      lit< tt,
      (
        lit< tt,
        (
          c.requires.prime,
          (
            c.requires.known.1,
            (
              omega (arith, e, f),
              stored-for g.row.P g.B.Basis.keeps known.index (g.B.Basis.classes known.basis) (g.met.B.Basis.canonical known.index known.basis c.requires.known.1) c.args.block.now c.requires.known.0 c.args.table.now c.deref.result.now
                  c.requires.complex.ascending c.requires.stored same,
            ),
          ),
        ),
      ),
    )

pub product_parts-requires : goal.product_parts-requires
product_parts-requires g c =
    let known = c.args.known.now in
    let Are = λ (rs : List ℕ). AreMatrices {p = g.row.P} g.B.Basis.keeps known.index (g.B.Basis.classes known.basis) rs c.in_ok-matrices.matrices in
    (lit< tt, (record { facets = c.args.block.now.facets; index = c.requires.known.0 }, (c.requires.known.1, (c.in_ok-ranks.ensures.few, subst Are (c.deref.ensures.value ∙ c.in_ok-ranks.ensures.ranks) c.in_ok-matrices.ensures))))

pub operation_parts-requires : goal.operation_parts-requires
operation_parts-requires g c =
    let known = c.args.known.now in
    let Are = λ (rs : List ℕ). AreMatrices {p = g.row.P} g.B.Basis.keeps known.index (g.B.Basis.classes known.basis) rs c.in_ok-matrices.matrices in
    (lit< tt, (record { facets = c.args.block.now.facets; index = c.requires.known.0 }, (c.requires.known.1, subst Are (c.deref.ensures.value ∙ c.in_ok-ranks.ensures.ranks) c.in_ok-matrices.ensures)))

pub cartan_parts-requires : goal.cartan_parts-requires
cartan_parts-requires g c =
    let known = c.args.known.now in
    let same = c.deref-2.ensures.value ∙ c.in_ok-ranks.ensures.ranks in
    let e = ap (λ (rs : List ℕ). length rs) same ∙ numbers-count (λ n. length (g.B.Basis.classes known.basis n)) (length known.index) in
    let f = c.in_ok-ranks.ensures.few in
    let Are = λ (rs : List ℕ). AreMatrices {p = g.row.P} g.B.Basis.keeps known.index (g.B.Basis.classes known.basis) rs c.in_ok-matrices.matrices in (
      lit< tt,
      (
        lit< tt,
        (
          c.requires.prime,
          (
            record { facets = c.args.block.now.facets; index = c.requires.known.0 },
            (
              c.requires.known.1,
              (
                subst Are (c.deref.ensures.value ∙ c.in_ok-ranks.ensures.ranks) c.in_ok-matrices.ensures,
                (
                  omega (arith, e, f),
                  (
                    same,
                    stored-for g.row.P g.B.Basis.keeps known.index (g.B.Basis.classes known.basis) (g.met.B.Basis.canonical known.index known.basis c.requires.known.1) c.args.block.now c.requires.known.0 c.args.table.now c.deref-2.result.now
                        c.requires.complex.ascending c.requires.stored same,
                  ),
                ),
              ),
            ),
          ),
        ),
      ),
    )

pub returns : goal.returns
returns g c =
    let p : ℕ = g.row.P in
    let known = c.args.known.now in
    let classes = g.B.Basis.classes known.basis in
    let canonical = g.met.B.Basis.canonical known.index known.basis c.requires.known.1 in
    let ranks = c.in_ok-ranks.ensures.ranks in
    let part : ComplexPart = record { name = c.in_ok-new.field-0; facets = c.in_ok-maximal_facets.field-0; degrees = c.in_ok-degree_parts.field-0; products = c.in_ok-product_parts.field-0; operations = c.in_ok-operation_parts.field-0; cartans = c.in_ok-cartan_parts.field-0 } in
    record {
      part = part-is p g.B.Basis.keeps known.index classes canonical c.args.block.now c.requires.known.0 part c.in_ok-ranks.ranks.items (c.in_ok-new.ensures ∙ c.bytes.ensures)
          (c.in_ok-maximal_facets.ensures c.args.block.now.facets c.requires.known.0 c.requires.complex.ascending c.requires.complex.some) c.in_ok-degree_parts.ensures c.in_ok-ranks.ensures.ranks
          (subst (λ (rs : List ℕ). AllZip (IsListedProduct {p = p} g.B.Basis.keeps known.index classes) (products rs) c.in_ok-product_parts.field-0) (sym ranks) c.in_ok-product_parts.ensures)
          (subst (λ (rs : List ℕ). AllZip (IsListedOperation {p = p} g.B.Basis.keeps known.index classes) (blocks p rs) c.in_ok-operation_parts.field-0) (sym ranks) c.in_ok-operation_parts.ensures)
          (subst (λ (rs : List ℕ). AllZip (IsListedLine {p = p} g.B.Basis.keeps known.index classes) (lines p rs) c.in_ok-cartan_parts.field-0) c.deref-2.ensures.value c.in_ok-cartan_parts.ensures);
      classes = classes-are p g.B.Basis.keeps known.index classes canonical c.args.block.now c.requires.known.0 part c.in_ok-degree_parts.ensures;
    }
