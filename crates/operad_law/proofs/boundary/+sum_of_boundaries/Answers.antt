use Rattle.std.proofs.{Common.{arith, rules, ap, ◌≢◌, ◌<◌, ◌/◌, length, subst}, lemmas.Result.IfOk-weaker}
use Rattle.signed_sum.specs.Names.{weight_of}
use Rattle.operad_law.{specs.FormalSums.SumsBoundaries, proofs.ScaledSums.{SumsBoundaries-both, weight_of-halves, front_fits, back_fits}}
use Rattle.operad_law.proofs.boundary.+sum_of_boundaries.Goals as goal

pub scaled_total-requires : goal.scaled_total-requires
scaled_total-requires g t c =
    omega (arith, c.in_ok-first.ensures.light, c.in_ok-other.ensures.light, ap weight_of c.split_at.ensures.front, ap weight_of c.split_at.ensures.back, weight_of-halves c.args.terms.now (length c.args.terms.now / 2), c.requires)

pub returns : goal.returns
returns g t c =
    let boundary = g.B.SignedBasis.boundary in
    IfOk-weaker c.scaled_total.result _ _
    (λ total n. SumsBoundaries-both boundary c.args.terms.now (length c.args.terms.now / 2) c.in_ok-first.first c.in_ok-other.other total
    (subst (λ v. SumsBoundaries boundary v c.in_ok-first.first) c.split_at.ensures.front c.in_ok-first.ensures)
    (subst (λ v. SumsBoundaries boundary v c.in_ok-other.other) c.split_at.ensures.back c.in_ok-other.ensures) n) c.scaled_total.ensures

pub sum_of_boundaries-requires : goal.sum_of_boundaries-requires
sum_of_boundaries-requires g t c κs within =
    let some : length c.args.terms.now ≢ 0 = search rules in
    let shorter : length c.split_at.result.0.now < length c.args.terms.now = omega arith in
    (omega (arith, shorter), (search rules, front_fits c.args.terms.now c.split_at.result.0.now (length c.args.terms.now / 2) _ c.requires c.split_at.ensures.front))

pub sum_of_boundaries-requires-2 : goal.sum_of_boundaries-requires-2
sum_of_boundaries-requires-2 g t c κs within =
    let some : length c.args.terms.now ≢ 0 = search rules in
    let shorter : length c.split_at.result.1.now < length c.args.terms.now = omega arith in
    (omega (arith, shorter), (search rules, back_fits c.args.terms.now c.split_at.result.1.now (length c.args.terms.now / 2) _ c.requires c.split_at.ensures.back))
