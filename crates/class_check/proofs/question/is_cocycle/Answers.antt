use Rattle.std.proofs.Common.{arith, subst, Some, refl, ◌+◌}
use Rattle.sparse_rows.specs.Rows.{IsRow}
use Rattle.fp_field.proofs.ServedLemmas.{served_large}
use Rattle.listed_rows.{specs.ListedChains.IsRowIn, proofs.ValueLemmas.{coboundary_row, row_on}}
use Rattle.class_check.proofs.LeadLemmas.{closed_past, cocycle_told}
use Rattle.class_check.proofs.question.is_cocycle.Goals as goal

pub returns-then-n-degrees : goal.returns-then-n-degrees
returns-then-n-degrees g c = λ facets index.
    let levels = c.args.index.now in
    let n = c.args.n in
    let chain = c.args.chain.now in (
      row_on facets levels index n chain c.in-Some.row (subst (IsRowIn levels n chain) c.in-Some.is c.in_ok-row.ensures),
      closed_past facets levels n g.row.P chain index (let e = c.degrees.ensures.same in let t = c.if-n-degrees.true in omega (arith, e, t)),
    )

pub returns : goal.returns
returns g c = λ facets index.
    let levels = c.args.index.now in
    let n = c.args.n in
    let chain = c.args.chain.now in
    let large = served_large g.row.P c.requires.prime in
    let row = c.in_ok-coboundary.coboundary.row in
    let is_row : IsRow g.row.P row = subst (IsRow g.row.P) c.drop-4.view_is c.drop-4.invariant in
    let low : IsRowIn levels n chain (Some c.in-Some.row) = subst (IsRowIn levels n chain) c.in-Some.is c.in_ok-row.ensures in
    cocycle_told facets levels index n g.row.P large chain row c.lead.result c.is_none.result (row_on facets levels index n chain c.in-Some.row low)
    (coboundary_row g.row.P levels n (n + 1) chain c.in-Some.row row refl low c.in_ok-coboundary.ensures.values).values is_row c.lead.ensures c.is_none.ensures
