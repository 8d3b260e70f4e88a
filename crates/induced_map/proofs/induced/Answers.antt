use Rattle.std.{proofs.Common.{◌≡◌, ◌+◌, ◌-◌, ◌<◌, ◌≤◌, ℕ, List, arith, length, subst, sym, ◌∙◌, take, lit<, take_all, get_or, slice_get, Some}, specs.List.AllZip}
use Rattle.complex_index.specs.declared.indexed.Cochain.{Cochain}
use Rattle.cohomology.specs.{declared.basis.Column.Column, Names.IsPlaced}
use Rattle.may_steenrod.specs.Cochains.{IsClosed}
use Rattle.op_matrix.proofs.{ListLemmas.zip-more, TableLemmas.{class-closed, class-placed}}
use Rattle.induced_map.{specs.Induced.IsPulledColumn, proofs.PullLemmas.induced-matrix}
use Rattle.induced_map.proofs.induced.Goals as goal

pub pulled_column-requires : goal.pulled_column-requires
pulled_column-requires g c =
    let p : ℕ = g.row.P in
    let to = c.args.to.now in
    let q : ℕ = c.args.q in
    let zs : List (Cochain p) = g.B.Basis.classes c.args.target.now q in
    let i : ℕ = c.loop-i.i in
    let back : i + 1 - 1 ≡ i = omega arith in
    let class = c.class-class.result.now in
    let at : slice_get zs i ≡ Some class = subst (λ (k : ℕ). slice_get zs k ≡ Some class) back c.class-class.ensures in
    let canonical = g.met.B.Basis.canonical to c.args.target.now c.requires.target_of in
    let placed = class-placed p g.B.Basis.keeps to (g.B.Basis.classes c.args.target.now) canonical c.requires.prime q i class at in
    let closed = class-closed p g.B.Basis.keeps to (g.B.Basis.classes c.args.target.now) canonical c.requires.prime q i class at in
    let degree : q ≡ class.degree = sym placed.degree in (
      lit< tt,
      (lit< tt, (c.requires.prime, (c.requires.source_of, (c.requires.map, (subst (λ (m : ℕ). IsPlaced p to m class) degree placed, subst (λ (m : ℕ). IsClosed p to m class.row) degree closed))))),
    )

pub loop-i-preserved : goal.loop-i-preserved
loop-i-preserved g c =
    let p : ℕ = g.row.P in
    let from = c.args.from.now in
    let to = c.args.to.now in
    let q : ℕ = c.args.q in
    let zs : List (Cochain p) = g.B.Basis.classes c.args.target.now q in
    let f : ℕ → ℕ = λ v. get_or c.args.map.now v 0 in
    let R : Cochain p → Column p → Type 0 = IsPulledColumn {p = p} g.B.Basis.keeps f from to (g.B.Basis.classes c.args.source.now) q in
    let i : ℕ = c.loop-i.i in
    let here : i < length zs = omega arith in
    let back : i + 1 - 1 ≡ i = omega arith in
    let class = c.class-class.result.now in
    let at : slice_get zs i ≡ Some class = subst (λ (k : ℕ). slice_get zs k ≡ Some class) back c.class-class.ensures in
    let degree = (class-placed p g.B.Basis.keeps to (g.B.Basis.classes c.args.target.now) (g.met.B.Basis.canonical to c.args.target.now c.requires.target_of) c.requires.prime q i class at).degree in
    let column = subst (λ (m : ℕ). IsPulledColumn {p = p} g.B.Basis.keeps f from to (g.B.Basis.classes c.args.source.now) m class c.in_ok-pulled_column.field-0) degree c.in_ok-pulled_column.ensures in
    subst (λ (ys : List (Column p)). AllZip R (take (i + 1) zs) ys) (sym c.in_ok-push.ensures.items)
    (zip-more R zs i c.loop-i.columns.items c.in_ok-pulled_column.field-0 here c.loop-i.invariant
    (λ x s. subst (λ (y : Cochain p). R y c.in_ok-pulled_column.field-0) (inside class x (sym at ∙ s)) column))
  where
    inside : {X : Type 0} (x z : X) → Some x ≡ Some z → x ≡ z
    inside x z e = cc

pub returns : goal.returns
returns g c =
    let p : ℕ = g.row.P in
    let from = c.args.from.now in
    let q : ℕ = c.args.q in
    let zs : List (Cochain p) = g.B.Basis.classes c.args.target.now q in
    let f : ℕ → ℕ = λ v. get_or c.args.map.now v 0 in
    let R : Cochain p → Column p → Type 0 = IsPulledColumn {p = p} g.B.Basis.keeps f from c.args.to.now (g.B.Basis.classes c.args.source.now) q in
    let all : length zs ≤ c.loop-i.i = omega arith in
    induced-matrix p g.B.Basis.keeps f from c.args.to.now (g.B.Basis.classes c.args.source.now) (g.met.B.Basis.canonical from c.args.source.now c.requires.source_of) c.requires.prime c.requires.map
    (g.B.Basis.classes c.args.target.now) q c.loop-i.columns.items (subst (λ (xs : List (Cochain p)). AllZip R xs c.loop-i.columns.items) (take_all c.loop-i.i zs all) c.loop-i.invariant)
