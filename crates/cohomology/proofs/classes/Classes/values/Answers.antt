use Rattle.std.proofs.Common.{List, ℕ, subst}
use Rattle.cohomology.{proofs.Below.{IfOk-weaker, Congruent, served_field, value_in, combined}, specs.Names.IsSpread, proofs.ValueLemmas.values_tell}
use Rattle.cohomology.proofs.classes.Classes.values.Goals as goal

pub returns : goal.returns
returns g c =
    let p = g.row.P in
    let table = c.table_in.result.now in
    let sum = c.in_ok-sum.sum in
    IfOk-weaker c.spread.result _ _
    (λ v h. values_tell p (served_field p c.requires) c.args.self.now c.args.cochain.now table sum v.items c.table_in.ensures.value c.in_ok-sum.ensures.row (subst (λ m. IsSpread sum m v.items) c.rank.ensures h)
    (subst (λ (row : List (ℕ × ℕ)). (y : ℕ) → Congruent p (value_in sum y) (combined table (value_in row) y)) c.as_slice.ensures.same c.in_ok-sum.ensures.sum))
    c.spread.ensures
