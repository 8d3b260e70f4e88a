use Rattle.std.{proofs.Common.{◌≡◌, ◌∙◌, List, ℕ, Ok, Vec, Global, true, false, ap, length, option_map, refl, sym, le-ltb, lt-ltb}, specs.declared.option.Option.Option}
use Rattle.complex_file.{specs.Names.{ascending, facet_of, has_repeat}, proofs.RepeatLemmas.repeat_tells}
use Rattle.complex_file.proofs.complexes.facet_of.Goals as goal

pub returns-then-vertices-len : goal.returns-then-vertices-len
returns-then-vertices-len c =
    let twice : has_repeat c.in-Some.vertices.items ≡ true =
    sym (repeat_tells c.in-Some.vertices.items c.vertices.result.now c.len.result (c.vertices.ensures ∙ c.in_ok-simplex.ensures ∙ ap ascending c.deref.ensures.value) (c.len.ensures ∙ sym c.deref.ensures.len ∙ ap (length {A = ℕ}) c.deref.ensures.value))
    ∙ lt-ltb (length c.vertices.result.now) c.len.result c.if-vertices-len.true in
    ap (λ (o : Option (Vec ℕ Global)). facet_of (option_map (λ (v : Vec ℕ Global). v.items) o)) c.in-Some.is ∙ rw twice refl

pub returns : goal.returns
returns c =
    let once : has_repeat c.in-Some.vertices.items ≡ false =
    sym (repeat_tells c.in-Some.vertices.items c.vertices.result.now c.len.result (c.vertices.ensures ∙ c.in_ok-simplex.ensures ∙ ap ascending c.deref.ensures.value) (c.len.ensures ∙ sym c.deref.ensures.len ∙ ap (length {A = ℕ}) c.deref.ensures.value))
    ∙ le-ltb (length c.vertices.result.now) c.len.result c.if-vertices-len.false in
    ap (λ (o : Option (Vec ℕ Global)). facet_of (option_map (λ (v : Vec ℕ Global). v.items) o)) c.in-Some.is
    ∙ rw once (ap (λ (f : List ℕ). Ok f) (sym (c.in_ok-simplex.ensures ∙ ap ascending c.deref.ensures.value)))
