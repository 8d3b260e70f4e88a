use Rattle.std.{proofs.Common.{◌≤◌, ℕ, List, arith, length, subst, take_all}, specs.List.AllZip}
use Rattle.complex_index.specs.declared.indexed.Cochain.{Cochain}
use Rattle.cohomology.specs.declared.basis.Column.{Column}
use Rattle.bockstein.{specs.Matrices.IsBocksteinColumn, proofs.MatrixLemmas.{bockstein-matrix, item-more}}
use Rattle.bockstein.proofs.matrices.bockstein_matrix.Goals as goal

pub loop-i-preserved : goal.loop-i-preserved
loop-i-preserved g c =
    item-more (IsBocksteinColumn {p = g.row.P} g.B.Basis.keeps c.args.index.now (g.B.Basis.classes c.args.basis.now) c.args.n) (g.B.Basis.classes c.args.basis.now c.args.n)
    c.loop-i.i c.loop-i.columns.items _ c.in_ok-bockstein_column.field-0 (omega arith) c.loop-i.invariant c.in_ok-bockstein_column.ensures c.in_ok-push.ensures.items

pub returns : goal.returns
returns g c =
    let p : ℕ = g.row.P in
    let levels = c.args.index.now in
    let zs : List (Cochain p) = g.B.Basis.classes c.args.basis.now c.args.n in
    let R : Cochain p → Column p → Type 0 = IsBocksteinColumn {p = p} g.B.Basis.keeps levels (g.B.Basis.classes c.args.basis.now) c.args.n in
    let all : length zs ≤ c.loop-i.i = omega arith in
    bockstein-matrix p g.B.Basis.keeps levels (g.B.Basis.classes c.args.basis.now) (g.met.B.Basis.canonical levels c.args.basis.now c.requires.of) c.requires.prime c.args.n c.loop-i.columns.items
    (subst (λ (xs : List (Cochain p)). AllZip R xs c.loop-i.columns.items) (take_all c.loop-i.i zs all) c.loop-i.invariant)
