use Rattle.std.proofs.Common.{sym, subst}
use Rattle.row_reduce.specs.Names.{IsEchelonFrom}
use Rattle.row_reduce.proofs.echelon.echelon_of.Goals as goal

pub returns : goal.returns
returns g c =
    subst (IsEchelonFrom g.row.P c.args.stored.now c.args.pivots.now) (sym c.reverse.ensures.items)
    (record { from = λ width rows skip solutions given. record { solved = given.solved; reduced = c.in_ok-reduce_down.ensures width rows skip solutions given } })
