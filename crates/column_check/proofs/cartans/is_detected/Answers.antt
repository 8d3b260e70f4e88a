use Rattle.std.proofs.Common.{ℕ, subst}
use Rattle.listed_rows.specs.ListedChains.{IsRowIn}
use Rattle.column_check.proofs.CycleLemmas.{detected-tells}
use Rattle.column_check.proofs.cartans.is_detected.Goals as goal

pub returns : goal.returns
returns g c =
    let l = c.args.listing.now in
    let levels = l.index.now in
    let n : ℕ = c.args.n in
    let chain = subst (IsRowIn levels n c.args.cycle.now) c.in-Some.is c.in_ok-chain.ensures in
    let closed = (c.in_ok-is_closed.ensures l.part.now.facets c.requires.of.index).0 c.if-not-branch.false in
    detected-tells g.row.P l.part.now.facets levels c.requires.of.index n c.args.value c.dot.result c.new.result c.in-Some.chain c.args.row.now c.args.cycle.now c.eq.result chain closed c.dot.ensures c.new.ensures c.eq.ensures
