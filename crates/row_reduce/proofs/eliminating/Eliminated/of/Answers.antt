use Rattle.std.proofs.Common.{◌≡◌, ◌-◌, arith, [], List, length, sym, subst}
use Rattle.fp_field.proofs.ServedLemmas.{served_field}
use Rattle.row_reduce.{specs.Names.{EchelonRow, IsEliminated}, proofs.EliminationLemmas.eliminated_start}
use Rattle.row_reduce.proofs.eliminating.Eliminated.of.Goals as goal

pub loop-done-init : goal.loop-done-init
loop-done-init g c =
    let p = g.row.P in
    let rows = c.args.rows.now in
    subst (λ (es : List (EchelonRow p)). IsEliminated p rows (length rows - 0) es c.new-2.result.items) (sym c.new.ensures.items)
    (subst (IsEliminated p rows (length rows - 0) []) (sym c.new-2.ensures.items) (subst (λ n. IsEliminated p rows n [] []) (let e : length rows ≡ length rows - 0 = omega arith in e) (eliminated_start p (served_field p c.requires.prime) rows)))
