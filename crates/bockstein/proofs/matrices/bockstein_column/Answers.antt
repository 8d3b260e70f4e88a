use Rattle.std.proofs.{Common.{◌-◌, ◌≤◌, arith, lit<, subst}, lemmas.Result.IfOk-weaker}
use Rattle.bockstein.{specs.Places.RefusesBockstein, proofs.MatrixLemmas.{class-closed, class-inside, class-placed, column-is}}
use Rattle.bockstein.proofs.matrices.bockstein_column.Goals as goal

pub bockstein-requires : goal.bockstein-requires
bockstein-requires g c =
    let levels = c.args.index.now in
    let canonical = g.met.B.Basis.canonical levels c.args.basis.now c.requires.of in
    let e = (class-placed g.row.P g.B.Basis.keeps levels (g.B.Basis.classes c.args.basis.now) canonical c.requires.prime c.args.n (c.args.i - 1) c.class.result.now c.class.ensures).degree in (
      lit< tt,
      (
        c.requires.prime,
        (
          (let l = c.requires.low in omega (arith, l, e)),
          class-inside g.row.P g.B.Basis.keeps levels (g.B.Basis.classes c.args.basis.now) canonical c.requires.prime c.args.n (c.args.i - 1) c.class.result.now c.class.ensures,
        ),
      ),
    )

pub unreachable-requires : goal.unreachable-requires
unreachable-requires g c =
    let levels = c.args.index.now in
    let no = subst (RefusesBockstein {p = g.row.P} levels c.class.result.now) c.in-Err-NotClosed.field-0-is c.in-Err-NotClosed.ensures in
    no.1 (class-closed g.row.P g.B.Basis.keeps levels (g.B.Basis.classes c.args.basis.now) (g.met.B.Basis.canonical levels c.args.basis.now c.requires.of) c.requires.prime c.args.n (c.args.i - 1) c.class.result.now c.class.ensures)

pub returns-in-Ok : goal.returns-in-Ok
returns-in-Ok g c =
    let levels = c.args.index.now in
    IfOk-weaker c.column.result _ _
    (λ col h w at. column-is g.row.P g.B.Basis.keeps levels (g.B.Basis.classes c.args.basis.now) (g.met.B.Basis.canonical levels c.args.basis.now c.requires.of) c.requires.prime c.args.n (c.args.i - 1)
    c.class.result.now w c.in-Ok.result col c.class.ensures at c.in-Ok.ensures (h levels c.requires.of))
    c.column.ensures
