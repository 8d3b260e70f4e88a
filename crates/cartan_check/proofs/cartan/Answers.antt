use Rattle.std.proofs.{Common.{◌-◌, lit<}, lemmas.Result.IfOk-weaker}
use Rattle.op_matrix.proofs.TableLemmas.{class-closed, class-placed}
use Rattle.cartan_check.proofs.VerdictLemmas.{verdict-of}
use Rattle.cartan_check.proofs.cartan.Goals as goal

pub difference-requires : goal.difference-requires
difference-requires g c =
    let p = g.row.P in
    let levels = c.args.index.now in
    let line = c.args.line in
    let classes = g.B.Basis.classes c.args.basis.now in
    let canonical = g.met.B.Basis.canonical levels c.args.basis.now c.requires.of in
    let keeps = g.B.Basis.keeps in
    let x = class-placed p keeps levels classes canonical c.requires.prime line.a (line.i - 1) c.class-x.result.now c.class-x.ensures in
    let y = class-placed p keeps levels classes canonical c.requires.prime line.b (line.j - 1) c.class-y.result.now c.class-y.ensures in
    (lit< tt, (lit< tt, (c.requires.prime, (c.requires.low, (c.requires.defined, (c.requires.stored, (record { degree = x.degree; inside = x.inside }, record { degree = y.degree; inside = y.inside })))))))

pub returns : goal.returns
returns g c =
    let p = g.row.P in
    let levels = c.args.index.now in
    let line = c.args.line in
    let classes = g.B.Basis.classes c.args.basis.now in
    let canonical = g.met.B.Basis.canonical levels c.args.basis.now c.requires.of in
    let keeps = g.B.Basis.keeps in
    let x = c.class-x.result.now in
    let y = c.class-y.result.now in
    IfOk-weaker c.verdict_of_column.result _ _
    (λ v h. verdict-of p keeps levels classes line x y c.in_ok-difference.difference c.in_ok-column.column v c.class-x.ensures c.class-y.ensures c.in_ok-difference.ensures
    (class-closed p keeps levels classes canonical c.requires.prime line.a (line.i - 1) x c.class-x.ensures) (class-closed p keeps levels classes canonical c.requires.prime line.b (line.j - 1) y c.class-y.ensures)
    (c.in_ok-column.ensures levels c.requires.of) (h levels c.requires.of))
    c.verdict_of_column.ensures
