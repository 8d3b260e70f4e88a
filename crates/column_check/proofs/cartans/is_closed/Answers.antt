use Rattle.std.proofs.Common.{◌<◌, arith, refl, subst}
use Rattle.sparse_rows.specs.Rows.{IsRow}
use Rattle.column_check.proofs.CycleLemmas.{closed-points, closed-tells}
use Rattle.column_check.proofs.cartans.is_closed.Goals as goal

pub returns-then-chain-eq0 : goal.returns-then-chain-eq0
returns-then-chain-eq0 g c = λ facets is. (λ e. closed-points g.row.P facets c.args.index.now is c.args.chain.now.degree c.args.chain.now.row c.if-chain-eq0.true c.requires.inside, λ h. refl)

pub returns : goal.returns
returns g c = λ facets is.
    let positive : 0 < c.args.chain.now.degree = (let e = c.if-chain-eq0.false in omega (arith, e)) in
    closed-tells g.row.P facets c.args.index.now is c.args.chain.now.degree c.args.chain.now.row c.in_ok-boundary.field-0.row c.is_zero.result positive c.requires.inside c.in_ok-boundary.ensures.values
    (subst (IsRow g.row.P) c.drop.view_is c.drop.invariant) c.is_zero.ensures
