use Rattle.std.proofs.Common.{◌∙◌, ◌-◌, ◌<◌, arith, sym, subst, length}
use Rattle.listed_rows.{specs.ListedChains.{IsCoboundaryRowIn, IsRowIn}, proofs.ValueLemmas.{below_on, coboundary_row, empty, none_below, not_empty, zero_row}, proofs.coboundary_of.Goals.{then-n-eq0-via-then-n-eq0, then-n-eq0-via-else-n-eq0+then-n-degrees, then-is_empty, else-is_empty}}
use Rattle.listed_rows.proofs.coboundary_of.Goals as goal

pub returns-then-n-eq0 : goal.returns-then-n-eq0
returns-then-n-eq0 g c =
    let levels = c.args.index.now in
    let n = c.args.n in
    let chain = c.args.chain.now in
    let past : 0 < n → length levels < n = λ b. elim c.then-n-eq0.branch [
      | then-n-eq0-via-then-n-eq0 w ↦ absurd (omega arith)
      | then-n-eq0-via-else-n-eq0+then-n-degrees w ↦ (let e = w.degrees.ensures.same in omega arith)
    ] in
    elim c.if-is_empty.branch [
      | then-is_empty w ↦ subst (IsCoboundaryRowIn g.row.P levels n chain) (sym w.result-is) (zero_row g.row.P levels n chain w.new.result (empty chain (sym w.if-is_empty.true ∙ c.is_empty.ensures)) w.new.ensures)
      | else-is_empty w ↦ subst (IsCoboundaryRowIn g.row.P levels n chain) (sym w.result-is) (λ facets index. none_below facets levels n chain index past (not_empty chain (sym w.if-is_empty.false ∙ c.is_empty.ensures)))
    ]

pub returns-in_default : goal.returns-in_default
returns-in_default g c = λ facets index on.
    let levels = c.args.index.now in
    let n = c.args.n in
    let chain = c.args.chain.now in
    let found : IsRowIn levels (n - 1) chain c.in_ok-row.field-0 = c.in_ok-row.ensures in
    (subst (IsRowIn levels (n - 1) chain) c.in_default.is found) facets index (below_on facets (n - 1) n chain (omega arith) on)

pub returns : goal.returns
returns g c =
    let levels = c.args.index.now in
    let n = c.args.n in
    let chain = c.args.chain.now in
    let found : IsRowIn levels (n - 1) chain c.in_ok-row.field-0 = c.in_ok-row.ensures in
    coboundary_row g.row.P levels (n - 1) n chain c.in-Some.row c.in_ok-coboundary.field-0.row (omega arith) (subst (IsRowIn levels (n - 1) chain) c.in-Some.is found) c.in_ok-coboundary.ensures.values
