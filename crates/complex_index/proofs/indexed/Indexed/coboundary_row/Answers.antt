use Rattle.std.proofs.Common.{◌≡◌, ◌∙◌, ◌+◌, ap, sym, subst, length, arith, List, ℕ}
use Rattle.fp_field.proofs.ServedLemmas.{served_large}
use Rattle.sparse_rows.specs.Rows.{IsBelow}
use Rattle.complex_index.{specs.Names.{IsCoboundaryOf, spread, cofaces_at, level}, proofs.LevelLemmas.{cofaces_count, part_is}, proofs.RowLemmas.{coboundary_at, if_made}}
use Rattle.complex_index.proofs.indexed.Indexed.coboundary_row.Goals as goal

pub coboundary_pairs-requires : goal.coboundary_pairs-requires
coboundary_pairs-requires g c =
    let n : ℕ = c.args.degree in
    let e : c.index.result.now.cofaces ≡ cofaces_at c.self.inside.levels.items (n + 1) = part_is (λ l. l.cofaces) c.self.inside.levels.items (n + 1) c.index.result.now (omega arith) c.index.ensures in (
      omega arith,
      (
        c.requires.prime,
        subst (λ (m : ℕ). IsBelow m c.args.row.now)
            (ap (λ (ls : List (List (List ℕ))). length (level ls n)) (sym c.self.view_is) ∙ sym (cofaces_count c.self.inside.levels.items n c.self.invariant (omega arith)) ∙ ap length (sym e)) c.requires.inside,
      ),
    )

pub returns : goal.returns
returns g c =
    let n : ℕ = c.args.degree in
    let p : ℕ = g.row.P in
    let e : c.index.result.now.cofaces ≡ cofaces_at c.self.inside.levels.items (n + 1) = part_is (λ l. l.cofaces) c.self.inside.levels.items (n + 1) c.index.result.now (omega arith) c.index.ensures in
    if_made p c.deref.result.now (IsCoboundaryOf p c.args.self.now n c.args.row.now) c.from_pairs.result
    (λ r s w. subst (λ (ls : List (List (List ℕ))). IsCoboundaryOf p ls n c.args.row.now r) c.self.view_is
    (coboundary_at p c.self.inside.levels.items n c.args.row.now c.deref.result.now r (served_large p c.requires.prime) c.self.invariant (omega arith)
    (subst (λ (ls : List (List (List ℕ))). IsBelow (length (level ls n)) c.args.row.now) (sym c.self.view_is) c.requires.inside)
    (c.deref.ensures.value ∙ c.in_ok-pairs.ensures ∙ ap (λ above. spread p above c.args.row.now) e) s w))
    c.from_pairs.ensures.sum c.from_pairs.ensures.row
