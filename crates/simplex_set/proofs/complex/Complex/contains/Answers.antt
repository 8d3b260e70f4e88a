use Rattle.std.{proofs.Common.{◌∙◌, ◌-◌, arith, ap, length, refl, sym, subst, List, ℕ}, specs.List.list_any, specs.List.Sorted.IsStrictlySortedBy, specs.Str.bytes_eq}
use Rattle.simplicial_law.{specs.Names.simplex_cmp, specs.ListedSimplices.simplices, proofs.Names.of_degree_sorted}
use Rattle.simplex_set.proofs.{Sizes.{beyond, level_here, looked_up}, complex.Complex.contains.Goals.{then-size-eq0-via-then-size-eq0, then-size-eq0-via-else-size-eq0+then-size-len}}
use Rattle.simplex_set.proofs.complex.Complex.contains.Goals as goal

pub returns-then-size-eq0 : goal.returns-then-size-eq0
returns-then-size-eq0 c =
    beyond c.self.inside.facets.items (length c.self.inside.levels.items) c.args.vertices.now c.self.invariant.largest
    (λ p q. elim c.then-size-eq0.branch [
      | then-size-eq0-via-then-size-eq0 w ↦ absurd (omega (arith, p, w.if-size-eq0.true))
      | then-size-eq0-via-else-size-eq0+then-size-len w ↦ absurd (omega (arith, q, w.if-size-len.true, w.len.ensures))
    ])
    ∙ ap (λ (fs : List (List ℕ)). list_any (bytes_eq c.args.vertices.now) (simplices fs)) c.self.view_is

pub place_of-requires : goal.place_of-requires
place_of-requires c =
    subst (IsStrictlySortedBy simplex_cmp)
    (sym (level_here (simplices c.self.inside.facets.items) c.self.inside.levels.items c.args.vertices.now c.args.vertices.now c.index.result.now c.self.invariant refl c.if-size-eq0.false (omega (arith, c.if-size-len.false, c.len.ensures)) c.index.ensures))
    (of_degree_sorted c.self.inside.facets.items (length c.args.vertices.now - 1))

pub returns : goal.returns
returns c =
    looked_up (simplices c.self.inside.facets.items) c.args.vertices.now c.args.vertices.now c.index.result.now c.place_of.result c.is_some.result
    (omega (arith, c.if-size-eq0.false))
    (level_here (simplices c.self.inside.facets.items) c.self.inside.levels.items c.args.vertices.now c.args.vertices.now c.index.result.now c.self.invariant refl c.if-size-eq0.false (omega (arith, c.if-size-len.false, c.len.ensures)) c.index.ensures)
    refl c.is_some.ensures c.place_of.ensures
    ∙ ap (λ (fs : List (List ℕ)). list_any (bytes_eq c.args.vertices.now) (simplices fs)) c.self.view_is
