use Rattle.std.proofs.Common.{Bool, Vec, Global, length, List, ℕ, sym, subst, lit<}
use Rattle.row_reduce.{proofs.Below.{AllZip, Each}, specs.Names.{Class, Stored, IsSolvedStored, AreOlder, HistoryFits, IsVectorOfClass, IsMarkedIn, Reached}, proofs.SolvedLemmas.{histories_fit, older}, proofs.TriangularLemmas.solved_stored}
use Rattle.row_reduce.proofs.expanding.kernel_and_stored.Goals as goal

pub vectors-requires : goal.vectors-requires
vectors-requires g c =
    let p = g.row.P in
    let w = c.in_ok-classes.field-0 in
    let reached : Reached p c.args.width c.args.rows.now (IsMarkedIn c.args.skip.items) 0 w.classes.items w.stored.items w.pivots =
    subst (λ (v : Vec Bool Global). Reached p c.args.width c.args.rows.now (IsMarkedIn v.items) 0 w.classes.items w.stored.items w.pivots) c.in_ok-classes.ensures.skip c.in_ok-classes.ensures.reached.reached in
    let old : AreOlder p c.as_slice.result.now =
    subst (AreOlder p) (sym c.as_slice.ensures.value) (older p c.args.width c.args.rows.now c.args.skip.items w.classes.items w.stored.items w.pivots reached) in
    let fit : Each (HistoryFits p (length c.as_slice.result.now)) c.as_slice-2.result.now =
    subst (λ (ss : List (Stored p)). Each (HistoryFits p (length ss)) c.as_slice-2.result.now) (sym c.as_slice.ensures.value)
    (subst (Each (HistoryFits p (length w.stored.items))) (sym c.as_slice-2.ensures.value) (histories_fit p c.args.width c.args.rows.now c.args.skip.items w.classes.items w.stored.items w.pivots reached)) in
    (lit< tt, (lit< tt, (lit< tt, (c.requires.prime, (old, fit)))))

pub returns : goal.returns
returns g c =
    let p = g.row.P in
    let w = c.in_ok-classes.field-0 in
    let reached : Reached p c.args.width c.args.rows.now (IsMarkedIn c.args.skip.items) 0 w.classes.items w.stored.items w.pivots =
    subst (λ (v : Vec Bool Global). Reached p c.args.width c.args.rows.now (IsMarkedIn v.items) 0 w.classes.items w.stored.items w.pivots) c.in_ok-classes.ensures.skip c.in_ok-classes.ensures.reached.reached in
    let found = c.in_ok-kernel.kernel.items in
    let all : AllZip (IsVectorOfClass p w.stored.items) w.classes.items found =
    subst (λ (cs : List (Class p)). AllZip (IsVectorOfClass p w.stored.items) cs found) c.as_slice-2.ensures.value
    (subst (λ (ss : List (Stored p)). AllZip (IsVectorOfClass p ss) c.as_slice-2.result.now found) c.as_slice.ensures.value c.in_ok-kernel.ensures) in
    subst (λ (rs : List (List (ℕ × ℕ))). IsSolvedStored p c.args.width c.args.rows.now c.args.skip.items rs w.pivots w.stored.items) (sym c.reverse.ensures.items)
    (solved_stored p c.args.width c.args.rows.now c.args.skip.items w.classes.items w.stored.items w.pivots reached found all)
