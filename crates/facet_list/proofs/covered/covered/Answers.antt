use Rattle.std.proofs.{Common.{ℕ, ◌+◌, ◌-◌, ◌<◌, ◌≡◌, arith, sym, ◌∙◌, subst, Bool, List, [], length, get_or, take}, lemmas.List.with_items_is}
use Rattle.linear_law.proofs.Names.{each_map}
use Rattle.complex_index.specs.Names.{ArePlaces, level}
use Rattle.facet_list.{specs.Covered.{AreMarked, Covers}, proofs.MarkLemmas.more_covered}
use Rattle.facet_list.proofs.covered.covered.Goals as goal

pub mark-requires : goal.mark-requires
mark-requires c =
    let same : c.args.n + 1 - 1 ≡ c.args.n = omega arith in
    let places : ArePlaces (level c.args.index.now c.args.n) (get_or (level c.args.index.now (c.args.n + 1)) c.loop-place.place []) c.faces.result.now =
    subst (λ (m : ℕ). ArePlaces (level c.args.index.now m) (get_or (level c.args.index.now (c.args.n + 1)) c.loop-place.place []) c.faces.result.now) same c.faces.ensures in
    each_map (λ x b. let e = c.as_mut_slice.ensures.len in let l = c.loop-place.invariant.len in omega (arith, b, e, l)) c.faces.result.now places.below

pub loop-place-preserved : goal.loop-place-preserved
loop-place-preserved c =
    let levels = c.args.index.now in
    let n = c.args.n in
    let i = c.loop-place.place in
    let same : n + 1 - 1 ≡ n = omega arith in
    let places : ArePlaces (level levels n) (get_or (level levels (n + 1)) i []) c.faces.result.now =
    subst (λ (m : ℕ). ArePlaces (level levels m) (get_or (level levels (n + 1)) i []) c.faces.result.now) same c.faces.ensures in
    let marked : AreMarked c.loop-place.covered.items c.faces.result.now c.mark.new.covered =
    subst (λ (bs : List Bool). AreMarked bs c.faces.result.now c.mark.new.covered) c.as_mut_slice.ensures.value c.mark.ensures in
    let inside : i < length (level levels (n + 1)) = (let t = c.loop-place-test.true in let e = c.count-place-end.ensures in omega (arith, t, e)) in
    let index = c.requires.complex.index in
    subst (λ (bs : List Bool). Covers (level levels n) (take (i + 1) (level levels (n + 1))) bs)
    (sym (with_items_is c.loop-place.covered c.mark.new.covered (c.mark.ensures.len ∙ c.as_mut_slice.ensures.len)))
    (more_covered (level levels n) (level levels (n + 1)) i c.faces.result.now c.loop-place.covered.items c.mark.new.covered inside (λ j k b e d. (index.lists n).once j k [] b d e) places marked c.loop-place.invariant)
