use Rattle.std.proofs.{Common.{ℕ, length, subst}, lemmas.Result.IfOk-weaker}
use Rattle.complex_index.specs.Names.{level}
use Rattle.column_check.{specs.Listings.IsSumRowIn, proofs.ColumnLemmas.column-tells}
use Rattle.column_check.proofs.sums.is_column.Goals as goal

pub returns-in-Some : goal.returns-in-Some
returns-in-Some g c =
    let p : ℕ = g.row.P in
    let l = c.args.listing.now in
    let n : ℕ = c.args.n in
    let levels = l.index.now in
    let found = subst (IsSumRowIn l.part.now levels n p c.args.values.now c.args.primitive.now) c.in-Some.is c.in_ok-sum.ensures in
    IfOk-weaker c.is_same.result _ _
    (λ b h. column-tells p l.part.now levels n c.args.row.now c.in-Some.sum c.args.values.now c.args.primitive.now b c.requires.of.index found (h (length (level levels n)) c.requires.inside found.inside))
    c.is_same.ensures
