use Rattle.std.{proofs.Common.{◌≡◌, ◌∙◌, ◌-◌, ◌*◌, ◌%◌, ◌<◌, ℕ, List, [], ap, arith, drop, get_or, length, sym, take}, specs.Cmp.Lexicographic.{other_text, same_text}}
use Rattle.complex_index.specs.Names.{level}
use Rattle.may_steenrod.{specs.Cochains.cochain_in, proofs.FrontLemmas.{added-more, added-start, added-stop}}
use Rattle.may_steenrod.proofs.product.add_front.Goals as goal

pub loop-place-init : goal.loop-place-init
loop-place-init g c =
    let on = c.args.beta.now in
    added-start g.row.P (level on.index.now c.args.degree) (cochain_in on.index.now on.cochain.now.degree on.cochain.now.row) c.args.front.now c.args.value c.args.pairs.now.items c.first_from-place.result c.first_from-place.ensures

pub returns-then-not-starts_with : goal.returns-then-not-starts_with
returns-then-not-starts_with g c =
    let on = c.args.beta.now in
    let f = c.args.front.now in
    let here : c.loop-place.place < length (level on.index.now c.args.degree) = omega arith in
    added-stop g.row.P (level on.index.now c.args.degree) (cochain_in on.index.now on.cochain.now.degree on.cochain.now.row) f c.args.value c.args.pairs.now.items c.loop-place.pairs.items c.loop-place.place c.loop-place.invariant here (c.requires.complex.index.in_order c.args.degree)
    (λ e. other_text f (take (length f) c.simplex-simplex.result.now) (sym c.if-not-starts_with.true ∙ c.starts_with.ensures.value) (sym (ap (take (length f)) c.simplex-simplex.ensures ∙ e)))

pub loop-place-preserved : goal.loop-place-preserved
loop-place-preserved g c =
    let p : ℕ = g.row.P in
    let on = c.args.beta.now in
    let above = level on.index.now c.args.degree in
    let f = c.args.front.now in
    let b : List ℕ → ℕ = cochain_in on.index.now on.cochain.now.degree on.cochain.now.row in
    let v : ℕ = c.args.value in
    let here : c.loop-place.place < length above = omega arith in
    let past : c.args.degree - on.cochain.now.degree ≡ length f - 1 = omega (arith, c.requires.degree) in
    added-more p above b f v c.args.pairs.now.items c.loop-place.pairs.items c.put_value.new.pairs.items c.loop-place.place c.mul.result c.loop-place.invariant here
    (ap (take (length f)) (sym c.simplex-simplex.ensures) ∙ sym (same_text f (take (length f) c.simplex-simplex.result.now) (sym c.if-not-starts_with.false ∙ c.starts_with.ensures.value)))
    (c.mul.ensures ∙ ap (λ (x : ℕ). (v * x) % p) (c.on_back.ensures ∙ ap (λ (k : ℕ). b (drop k (get_or above c.loop-place.place []))) past))
    c.in_ok-put_value.ensures.sum c.in_ok-put_value.ensures.below
