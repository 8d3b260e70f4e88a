use Rattle.std.{proofs.Common.{◌-◌, ap, sym, subst, length, arith, List, ℕ}, specs.List.Sorted.IsStrictlySortedBy}
use Rattle.linear_law.specs.Names.{Among}
use Rattle.simplicial_law.specs.Names.{simplex_cmp}
use Rattle.complex_index.{specs.Names.level, proofs.LevelLemmas.{nowhere_else, part_is, sized_at}, proofs.indexed.Indexed.place_of.Goals.{then-size-eq0-via-then-size-eq0, then-size-eq0-via-else-size-eq0+then-size-len}}
use Rattle.complex_index.proofs.indexed.Indexed.place_of.Goals as goal

pub returns-then-size-eq0 : goal.returns-then-size-eq0
returns-then-size-eq0 c = λ n m.
    let k = sized_at c.self.inside.levels.items n c.args.vertices.now c.self.invariant (subst (λ (ls : List (List (List ℕ))). Among c.args.vertices.now (level ls n)) (sym c.self.view_is) m) in
    elim c.then-size-eq0.branch [
      | then-size-eq0-via-then-size-eq0 w ↦ absurd (omega (arith, k.0, w.if-size-eq0.true))
      | then-size-eq0-via-else-size-eq0+then-size-len w ↦ absurd (omega (arith, k.0, k.1, w.if-size-len.true, w.len.ensures))
    ]

pub place_of-requires : goal.place_of-requires
place_of-requires c =
    subst (IsStrictlySortedBy simplex_cmp) (sym (part_is (λ l. l.simplices) c.self.inside.levels.items (length c.args.vertices.now - 1) c.index.result.now (omega arith) c.index.ensures))
    (c.self.invariant.levels.ordered (length c.args.vertices.now - 1))

pub overflow_cast-result : goal.overflow_cast-result
overflow_cast-result c =
    omega (arith, ap length (part_is (λ l. l.simplices) c.self.inside.levels.items (length c.args.vertices.now - 1) c.index.result.now (omega arith) c.index.ensures), c.in-Some.ensures.0, c.self.invariant.levels.small (length c.args.vertices.now - 1))

pub returns-in-None : goal.returns-in-None
returns-in-None c = λ n m.
    nowhere_else c.self.inside.levels.items n c.args.vertices.now c.index.result.now.simplices c.self.invariant
    (part_is (λ l. l.simplices) c.self.inside.levels.items (length c.args.vertices.now - 1) c.index.result.now (omega arith) c.index.ensures) c.in-None.ensures
    (subst (λ (ls : List (List (List ℕ))). Among c.args.vertices.now (level ls n)) (sym c.self.view_is) m)
