use Rattle.std.proofs.Common.{◌+◌, ◌-◌}
use Rattle.may_steenrod.proofs.SquareLemmas.{is_square, square-closed}
use Rattle.may_steenrod.proofs.square.sq.Goals as goal

pub returns-clause-square : goal.returns-clause-square
returns-clause-square g c = is_square g.row.P c.args.index.now c.args.alpha.now.degree c.args.k c.args.alpha.now.row c.in_ok-square_row.field-0 c.requires.two c.requires.defined c.in_ok-square_row.ensures

pub returns-clause-closed : goal.returns-clause-closed
returns-clause-closed g c =
    let q = c.args.alpha.now.degree in
    square-closed g.row.P c.args.index.now q (q + c.args.k) (q - c.args.k) c.args.alpha.now.row c.requires.two c.in_ok-square_row.field-0 c.in_ok-square_row.ensures
