use Rattle.std.proofs.{Common.{ℕ, length, subst}, lemmas.Result.IfOk-weaker}
use Rattle.complex_index.specs.Names.{level}
use Rattle.listed_rows.specs.ListedChains.{IsCoboundaryRowIn}
use Rattle.column_check.proofs.ColumnLemmas.{bounded-tells}
use Rattle.column_check.proofs.sums.is_bounded.Goals as goal

pub returns-in-Some : goal.returns-in-Some
returns-in-Some g c =
    let p : ℕ = g.row.P in
    let l = c.args.listing.now in
    let n : ℕ = c.args.n in
    let levels = l.index.now in
    let found = subst (IsCoboundaryRowIn p levels n c.args.primitive.now) c.in-Some.is c.in_ok-bound.ensures in
    IfOk-weaker c.is_same.result _ _
    (λ b h. bounded-tells p l.part.now.facets levels n c.args.row.now c.in-Some.bound c.args.primitive.now b c.requires.of.index found (h (length (level levels n)) c.requires.inside found.values.inside))
    c.is_same.ensures
