use Rattle.std.{proofs.Common.{◌≡◌, ◌+◌, ◌-◌, ◌<◌, ◌≤◌, ℕ, List, ◌++◌, arith, length, map, subst, sym, take, take_all, slice_get, Some}, specs.List.AllZip}
use Rattle.complex_index.specs.declared.indexed.Cochain.{Cochain}
use Rattle.cohomology.specs.declared.basis.Column.{Column}
use Rattle.op_matrix.{specs.Tables.IsPairColumn, proofs.ListLemmas.more-behind}
use Rattle.op_matrix.proofs.products.add_products.Goals as goal

pub loop-j-preserved : goal.loop-j-preserved
loop-j-preserved g c = λ pairs z e h.
    let p : ℕ = g.row.P in
    let ws : List (Cochain p) = g.B.Basis.classes c.args.basis.now c.args.product.b in
    let R : Cochain p × Cochain p → Column p → Type 0 = IsPairColumn {p = p} g.B.Basis.keeps c.args.index.now (g.B.Basis.classes c.args.basis.now) c.args.product in
    let j : ℕ = c.loop-j.j in
    let here : j < length ws = omega arith in
    let back : j + 1 - 1 ≡ j = omega arith in
    subst (λ (ys : List (Column p)). AllZip R (pairs ++ map (λ (w : Cochain p). (z, w)) (take (j + 1) ws)) ys) (sym c.in_ok-push.ensures.items)
    (more-behind R (λ (w : Cochain p). (z, w)) pairs ws j c.loop-j.columns.items c.in_ok-product_column.field-0 here (c.loop-j.invariant pairs z e h)
    (λ w s. c.in_ok-product_column.ensures z w e (subst (λ (k : ℕ). slice_get ws k ≡ Some w) (sym back) s)))

pub returns : goal.returns
returns g c = λ pairs z e h.
    let p : ℕ = g.row.P in
    let ws : List (Cochain p) = g.B.Basis.classes c.args.basis.now c.args.product.b in
    let R : Cochain p × Cochain p → Column p → Type 0 = IsPairColumn {p = p} g.B.Basis.keeps c.args.index.now (g.B.Basis.classes c.args.basis.now) c.args.product in
    let all : length ws ≤ c.loop-j.j = omega arith in
    subst (λ (xs : List (Cochain p)). AllZip R (pairs ++ map (λ (w : Cochain p). (z, w)) xs) c.loop-j.columns.items) (take_all c.loop-j.j ws all) (c.loop-j.invariant pairs z e h)
