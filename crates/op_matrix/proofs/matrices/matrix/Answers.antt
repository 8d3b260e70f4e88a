use Rattle.std.{proofs.Common.{◌≡◌, ◌+◌, ◌-◌, ◌<◌, ◌≤◌, ℕ, List, arith, length, subst, sym, take, take_all, slice_get, Some}, specs.List.AllZip}
use Rattle.complex_index.specs.declared.indexed.Cochain.{Cochain}
use Rattle.cohomology.specs.declared.basis.Column.{Column}
use Rattle.op_matrix.{specs.Tables.IsResultColumn, proofs.ListLemmas.zip-more, proofs.TableLemmas.operation-matrix}
use Rattle.op_matrix.proofs.matrices.matrix.Goals as goal

pub loop-i-preserved : goal.loop-i-preserved
loop-i-preserved g c =
    let p : ℕ = g.row.P in
    let zs : List (Cochain p) = g.B.Basis.classes c.args.basis.now c.args.block.from in
    let R : Cochain p → Column p → Type 0 = IsResultColumn {p = p} g.B.Basis.keeps c.args.index.now (g.B.Basis.classes c.args.basis.now) c.args.block in
    let i : ℕ = c.loop-i.i in
    let here : i < length zs = omega arith in
    let back : i + 1 - 1 ≡ i = omega arith in
    subst (λ (ys : List (Column p)). AllZip R (take (i + 1) zs) ys) (sym c.in_ok-push.ensures.items)
    (zip-more R zs i c.loop-i.columns.items c.in_ok-result_column.field-0 here c.loop-i.invariant
    (λ x s. c.in_ok-result_column.ensures x (subst (λ (k : ℕ). slice_get zs k ≡ Some x) (sym back) s)))

pub returns : goal.returns
returns g c =
    let p : ℕ = g.row.P in
    let levels = c.args.index.now in
    let zs : List (Cochain p) = g.B.Basis.classes c.args.basis.now c.args.block.from in
    let R : Cochain p → Column p → Type 0 = IsResultColumn {p = p} g.B.Basis.keeps levels (g.B.Basis.classes c.args.basis.now) c.args.block in
    let all : length zs ≤ c.loop-i.i = omega arith in
    operation-matrix p g.B.Basis.keeps levels (g.B.Basis.classes c.args.basis.now) (g.met.B.Basis.canonical levels c.args.basis.now c.requires.of) c.requires.prime c.args.block c.loop-i.columns.items
    c.requires.defined c.requires.target (subst (λ (xs : List (Cochain p)). AllZip R xs c.loop-i.columns.items) (take_all c.loop-i.i zs all) c.loop-i.invariant)
