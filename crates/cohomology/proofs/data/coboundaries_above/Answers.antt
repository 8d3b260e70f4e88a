use Rattle.std.proofs.Common.{List, length, lit<, sym, subst}
use Rattle.cohomology.proofs.Below.{IfOk-weaker, IsEchelonFrom, AreTriangular, Stored}
use Rattle.cohomology.proofs.data.coboundaries_above.Goals as goal

pub echelon_of-requires : goal.echelon_of-requires
echelon_of-requires g c = (
  lit< tt,
  (lit< tt, (c.requires.prime, subst (λ (ss : List (Stored g.row.P)). AreTriangular g.row.P (length c.args.next.now.pivots) ss c.args.next.now.pivots) (sym c.as_slice.ensures.value) c.requires.stored)),
)

pub returns : goal.returns
returns g c =
    let echelon = c.in_ok-echelon.echelon.items in
    let from : IsEchelonFrom g.row.P c.args.next.now.stored.items c.args.next.now.pivots echelon =
    subst (λ (ss : List (Stored g.row.P)). IsEchelonFrom g.row.P ss c.args.next.now.pivots echelon) c.as_slice.ensures.value c.in_ok-echelon.ensures in
    IfOk-weaker c.coboundaries_from.result _ _ (λ v same full sub tell. tell echelon v.items from same) c.coboundaries_from.ensures
