use Rattle.std.proofs.{Common.get_or, lemmas.Result.IfOk-weaker}
use Rattle.induced_map.proofs.PullLemmas.{pulled-column}
use Rattle.induced_map.proofs.pulled_column.Goals as goal

pub returns : goal.returns
returns g c =
    let from = c.args.from.now in
    let z = c.args.class.now in
    IfOk-weaker c.column.result _ _
    (λ col h. pulled-column g.row.P g.B.Basis.keeps (λ v. get_or c.args.map.now v 0) from c.args.to.now (g.B.Basis.classes c.args.source.now) (g.met.B.Basis.canonical from c.args.source.now c.requires.of) c.requires.prime c.requires.map
    z.degree z c.in_ok-pulled.pulled col c.requires.closed c.in_ok-pulled.ensures.degree c.in_ok-pulled.ensures.values (h from c.requires.of))
    c.column.ensures
