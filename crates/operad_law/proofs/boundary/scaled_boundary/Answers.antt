use Rattle.std.proofs.{Common.{arith, ◌≤◌, w64, ap, nat_abs}, Math.Nat.{le_trans, mul-le-mul_left}, lemmas.Int.to_z-of_z, lemmas.Result.IfOk-weaker}
use Rattle.signed_sum.specs.Names.{weight_of}
use Rattle.operad_law.proofs.{Unique.weight_least, ScaledSums.SumsBoundaries-one}
use Rattle.operad_law.proofs.boundary.scaled_boundary.Goals as goal

pub scaled_total-requires : goal.scaled_total-requires
scaled_total-requires g c =
    let w : weight_of c.in_ok-faces.faces ≤ 255 = le_trans (weight_least g.B.Ord.cmp g.met.B.Ord.total g.met.B.SignedBasis.equal_is_same c.in_ok-faces.faces _ c.weight-weight.ensures.sum c.in_ok-faces.ensures) (g.met.B.Narrow.narrow_boundary c.args.item.now c.degree-degree.ensures.valid) in
    rw (to_z-of_z w64 c.args.by c.ranges.by) (omega (arith, mul-le-mul_left (nat_abs c.args.by) w, ap weight_of c.new.ensures, c.requires))

pub returns : goal.returns
returns g c =
    let w : weight_of c.in_ok-faces.faces ≤ 255 = le_trans (weight_least g.B.Ord.cmp g.met.B.Ord.total g.met.B.SignedBasis.equal_is_same c.in_ok-faces.faces _ c.weight-weight.ensures.sum c.in_ok-faces.ensures) (g.met.B.Narrow.narrow_boundary c.args.item.now c.degree-degree.ensures.valid) in
    IfOk-weaker c.scaled_total-2.result _ _
    (λ total n. SumsBoundaries-one g.B.SignedBasis.boundary c.args.item.now c.args.by c.new.result c.in_ok-faces.faces total c.new.ensures c.in_ok-faces.ensures w (rw (to_z-of_z w64 c.args.by c.ranges.by) at n)) c.scaled_total-2.ensures
