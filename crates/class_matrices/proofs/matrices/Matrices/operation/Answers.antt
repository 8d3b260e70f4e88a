use Rattle.std.proofs.Common.{◌≡◌, inl, rules, subst, sym}
use Rattle.linear_law.specs.Names.{Among}
use Rattle.class_matrices.proofs.ListLemmas.{item-among}
use Rattle.class_matrices.proofs.matrices.Matrices.operation.Goals as goal

pub returns-then-eq : goal.returns-then-eq
returns-then-eq g c =
    let same : c.matrix-item.result.block ≡ c.args.block = search rules in
    let m = subst (λ x. Among x c.args.self.now.operations.items) (sym c.matrix-item.is)
    (item-among c.as_slice-matrix-items.result.now c.args.self.now.operations.items c.loop-matrix.matrix-index c.matrix-item.result c.loop-matrix-test.true c.as_slice-matrix-items.ensures.value) in
    inl (c.matrix-item.result, m, same, c.as_slice.ensures.value)
