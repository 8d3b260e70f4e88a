use Rattle.std.proofs.Common.{◌≡◌, ◌∙◌, ap, sym, subst, length, arith, List, ℕ}
use Rattle.fp_field.proofs.ServedLemmas.{served_large}
use Rattle.sparse_rows.specs.Rows.{IsBelow}
use Rattle.complex_index.{specs.Names.{IsBoundaryOf, shrunk, faces_at, level}, proofs.LevelLemmas.{faces_count, nothing_past, part_is}, proofs.RowLemmas.{boundary_at, boundary_of_none, if_made}}
use Rattle.complex_index.proofs.indexed.Indexed.boundary_row.Goals as goal

pub returns-then-degree-len : goal.returns-then-degree-len
returns-then-degree-len g c =
    boundary_of_none g.row.P c.args.self.now c.args.degree c.args.row.now c.new.result
    (ap (λ (ls : List (List (List ℕ))). length (level ls c.args.degree)) (sym c.self.view_is) ∙ nothing_past c.self.inside.levels.items c.args.degree (omega arith))
    c.requires.inside c.new.ensures

pub boundary_pairs-requires : goal.boundary_pairs-requires
boundary_pairs-requires g c =
    let m : ℕ = c.args.degree in
    let e : c.index.result.now.faces ≡ faces_at c.self.inside.levels.items m = part_is (λ l. l.faces) c.self.inside.levels.items m c.index.result.now (omega arith) c.index.ensures in (
      omega arith,
      (
        c.requires.prime,
        subst (λ (k : ℕ). IsBelow k c.args.row.now)
            (ap (λ (ls : List (List (List ℕ))). length (level ls m)) (sym c.self.view_is) ∙ sym (faces_count c.self.inside.levels.items m c.self.invariant c.requires.positive (omega arith)) ∙ ap length (sym e)) c.requires.inside,
      ),
    )

pub returns : goal.returns
returns g c =
    let m : ℕ = c.args.degree in
    let p : ℕ = g.row.P in
    let e : c.index.result.now.faces ≡ faces_at c.self.inside.levels.items m = part_is (λ l. l.faces) c.self.inside.levels.items m c.index.result.now (omega arith) c.index.ensures in
    if_made p c.deref.result.now (IsBoundaryOf p c.args.self.now m c.args.row.now) c.from_pairs.result
    (λ r s w. subst (λ (ls : List (List (List ℕ))). IsBoundaryOf p ls m c.args.row.now r) c.self.view_is
    (boundary_at p c.self.inside.levels.items m c.args.row.now c.deref.result.now r (served_large p c.requires.prime) c.self.invariant c.requires.positive (omega arith)
    (subst (λ (ls : List (List (List ℕ))). IsBelow (length (level ls m)) c.args.row.now) (sym c.self.view_is) c.requires.inside)
    (c.deref.ensures.value ∙ c.in_ok-pairs.ensures ∙ ap (λ (pss : List (List ℕ)). shrunk p pss c.args.row.now) e) s w))
    c.from_pairs.ensures.sum c.from_pairs.ensures.row
