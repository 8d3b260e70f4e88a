use Rattle.std.proofs.{Common.{◌≡◌, ◌≤◌, ◌%◌, ◌==◌, ◌∙◌, ap, subst, arith}, Math.Nat.le_trans}
use Rattle.signed_sum.{proofs.Names.paired_before-weight, specs.Names.{weight_of, pair_boundary}}
use Rattle.operad_law.{specs.FormalSums.IsSameSum, proofs.PairSums.pair-sum, proofs.Unique.weight_least}
use Rattle.operad_law.proofs.pair.PairSignedBasis.boundary.Goals as goal

pub add_before-requires : goal.add_before-requires
add_before-requires g c =
    let lefts : weight_of c.in_ok-lefts.lefts ≤ 255 = le_trans (weight_least g.A.Ord.cmp g.met.A.Ord.total g.met.A.SignedBasis.equal_is_same c.in_ok-lefts.lefts _ c.as_slice.ensures.sum c.in_ok-lefts.ensures) (g.met.A.Narrow.narrow_boundary c.self.inside.left c.degree.ensures.valid) in
    let e = ap weight_of c.new-sum.ensures in
    let f = ap weight_of c.as_slice.ensures.value in
    omega arith

pub add_behind-requires : goal.add_behind-requires
add_behind-requires g c =
    let lefts : weight_of c.in_ok-lefts.lefts ≤ 255 = le_trans (weight_least g.A.Ord.cmp g.met.A.Ord.total g.met.A.SignedBasis.equal_is_same c.in_ok-lefts.lefts _ c.as_slice.ensures.sum c.in_ok-lefts.ensures) (g.met.A.Narrow.narrow_boundary c.self.inside.left c.degree.ensures.valid) in
    let rights : weight_of c.in_ok-rights.rights ≤ 255 = le_trans (weight_least g.B.Ord.cmp g.met.B.Ord.total g.met.B.SignedBasis.equal_is_same c.in_ok-rights.rights _ c.as_slice-2.ensures.sum c.in_ok-rights.ensures) (g.met.B.Narrow.narrow_boundary c.self.inside.right c.degree-degree.ensures.valid) in
    let e = ap weight_of c.new-sum.ensures in
    let f = ap weight_of c.as_slice.ensures.value in
    let h = ap weight_of c.as_slice-2.ensures.value in
    let k = c.in_ok-add_before.ensures.grows in
    let m = paired_before-weight c.self.inside.right c.as_slice.result.now in
    omega arith

pub returns : goal.returns
returns g c =
    let x = c.self.inside.left in
    let y = c.self.inside.right in
    let lefts : IsSameSum c.as_slice.result.now (g.A.SignedBasis.boundary x) = rw c.as_slice.ensures.value c.in_ok-lefts.ensures in
    let rights : IsSameSum c.as_slice-2.result.now (g.B.SignedBasis.boundary y) = rw c.as_slice-2.ensures.value c.in_ok-rights.ensures in
    subst (λ p. IsSameSum c.add_behind.new.sum (pair_boundary g.A.SignedBasis.degree g.A.SignedBasis.boundary g.B.SignedBasis.boundary p)) c.self.view_is
    (pair-sum g.A.SignedBasis.degree g.A.SignedBasis.boundary g.B.SignedBasis.boundary x y c.as_slice.result.now c.as_slice-2.result.now (c.degree.result % 2 == 1) c.new-sum.result c.add_before.new.sum c.add_behind.new.sum lefts rights
    (ap (λ k. k % 2 == 1) c.degree.ensures.value) c.new-sum.ensures c.in_ok-add_before.ensures c.in_ok-add_behind.ensures)
