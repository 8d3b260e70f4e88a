use Rattle.std.proofs.{Common.{◌<◌, ◌≤◌, ◌+◌, ◌∙◌, ℕ, ℤ, FitsSigned, w64, arith, rules, length, refl, subst, sym}, lemmas.Int.to_z-of_z}
use Rattle.fp_field.proofs.ServedLemmas.{served_field}
use Rattle.complex_index.specs.Names.{level}
use Rattle.bockstein.{specs.Places.{IsQuotient, IsRemainder}, proofs.PlaceLemmas.{at-place, divided-more, divided-start, made, not-closed, nothing-above, refused-at}}
use Rattle.bockstein.proofs.cocycles.bockstein.Goals as goal

pub returns-then-degree-degrees : goal.returns-then-degree-degrees
returns-then-degree-degrees g c =
    nothing-above g.row.P (served_field g.row.P c.requires.prime) c.args.index.now c.degrees.ensures.complex c.args.cochain.now _ (let d = c.degrees.ensures.same in let t = c.if-degree-degrees.true in omega (arith, d, t)) c.new-row.ensures refl

pub loop-place-init : goal.loop-place-init
loop-place-init g c = divided-start g.row.P (served_field g.row.P c.requires.prime) c.args.index.now c.degrees.ensures.complex c.args.cochain.now.degree c.args.cochain.now.row c.new-row.result c.new-row.ensures

pub loop-place-preserved : goal.loop-place-preserved
loop-place-preserved g c =
    let p : ℕ = g.row.P in
    let n : ℕ = c.args.cochain.now.degree in
    let field = served_field p c.requires.prime in
    let fits : FitsSigned w64 c.lifted_sum-sum.result = search rules in
    let quotient = at-place p field c.args.index.now c.degrees.ensures.complex n c.args.cochain.now.row (λ (s : ℤ). IsQuotient p s c.in-Ok.value) c.loop-place.place c.faces.result.now _ c.faces.ensures (to_z-of_z w64 c.lifted_sum-sum.result fits ∙ c.lifted_sum-sum.ensures) c.in-Ok.ensures in
    divided-more p field c.args.index.now c.degrees.ensures.complex n c.args.cochain.now.row c.loop-place.place c.in-Ok.value c.loop-place.row c.add_value.new.row c.loop-place.invariant quotient c.in_ok-add_value-in-Ok.ensures

pub returns-in-Err : goal.returns-in-Err
returns-in-Err g c =
    let p : ℕ = g.row.P in
    let levels = c.args.index.now in
    let z = c.args.cochain.now in
    let field = served_field p c.requires.prime in
    let k : ℕ = c.loop-place.place in
    let fits : FitsSigned w64 c.lifted_sum-sum.result = search rules in
    let rest = at-place p field levels c.degrees.ensures.complex z.degree z.row (λ (s : ℤ). IsRemainder p s c.in-Err.rest) k c.faces.result.now _ c.faces.ensures (to_z-of_z w64 c.lifted_sum-sum.result fits ∙ c.lifted_sum-sum.ensures) c.in-Err.ensures in
    let inside : k < length (level levels (z.degree + 1)) = (let t = c.loop-place-test.true in let e = c.count-place-end.ensures in omega (arith, t, e)) in
    let open_at = refused-at p field levels c.degrees.ensures.complex z.degree z.row k c.value.result c.loop-place.row inside c.loop-place.invariant (subst (IsRemainder p _) (sym c.value.ensures.same) rest) c.value.ensures.small in
    (open_at, not-closed p levels c.degrees.ensures.complex z k c.value.result open_at)

pub returns : goal.returns
returns g c =
    let p : ℕ = g.row.P in
    let e = c.count-place-end.ensures in
    made p (served_field p c.requires.prime) c.args.index.now c.degrees.ensures.complex c.args.cochain.now _ c.loop-place.place (let t = c.loop-place-test.false in omega (arith, t, e)) (let t = c.loop-place.auto.place-end in omega (arith, t, e)) c.loop-place.invariant refl
