use Rattle.std.{proofs.Common.{◌≡◌, ◌+◌, ◌-◌, ◌<◌, ◌≤◌, ℕ, List, arith, length, map, subst, sym, take, take_all, slice_get, Some}, specs.List.AllZip}
use Rattle.complex_index.specs.declared.indexed.Cochain.{Cochain}
use Rattle.cohomology.specs.declared.basis.Column.{Column}
use Rattle.op_matrix.{specs.Tables.IsPairColumn, proofs.ListLemmas.{flat-more, next}, proofs.TableLemmas.{pairs_of, product-matrix-of}}
use Rattle.op_matrix.proofs.products.ring.Goals as goal

pub loop-i-preserved : goal.loop-i-preserved
loop-i-preserved g c =
    let p : ℕ = g.row.P in
    let zs : List (Cochain p) = g.B.Basis.classes c.args.basis.now c.args.product.a in
    let ws : List (Cochain p) = g.B.Basis.classes c.args.basis.now c.args.product.b in
    let R : Cochain p × Cochain p → Column p → Type 0 = IsPairColumn {p = p} g.B.Basis.keeps c.args.index.now (g.B.Basis.classes c.args.basis.now) c.args.product in
    let i : ℕ = c.loop-i.i in
    let here : i < length zs = omega arith in
    let back : i + 1 - 1 ≡ i = omega arith in
    let z = next zs i here in
    let row : Cochain p → List (Cochain p × Cochain p) = λ x. map (λ (w : Cochain p). (x, w)) ws in
    subst (λ (us : List (Cochain p × Cochain p)). AllZip R us c.add_products.new.columns.items) (sym (flat-more row zs i z.0 here z.1))
    (c.in_ok-add_products.ensures (pairs_of (take i zs) ws) z.0 (subst (λ (k : ℕ). slice_get zs k ≡ Some z.0) (sym back) z.1) c.loop-i.invariant)

pub returns : goal.returns
returns g c =
    let p : ℕ = g.row.P in
    let levels = c.args.index.now in
    let zs : List (Cochain p) = g.B.Basis.classes c.args.basis.now c.args.product.a in
    let ws : List (Cochain p) = g.B.Basis.classes c.args.basis.now c.args.product.b in
    let R : Cochain p × Cochain p → Column p → Type 0 = IsPairColumn {p = p} g.B.Basis.keeps levels (g.B.Basis.classes c.args.basis.now) c.args.product in
    let all : length zs ≤ c.loop-i.i = omega arith in
    product-matrix-of p g.B.Basis.keeps levels (g.B.Basis.classes c.args.basis.now) (g.met.B.Basis.canonical levels c.args.basis.now c.requires.of) c.requires.prime c.args.product c.loop-i.columns.items
    (subst (λ (xs : List (Cochain p)). AllZip R (pairs_of xs ws) c.loop-i.columns.items) (take_all c.loop-i.i zs all) c.loop-i.invariant)
