use Rattle.std.proofs.Common.{List, [], length, sym, subst}
use Rattle.fp_field.proofs.ServedLemmas.{served_field}
use Rattle.row_reduce.{specs.Names.{Class, Stored, IsMarkedIn, Reached}, proofs.StepLemmas.reached_start}
use Rattle.row_reduce.proofs.walking.Walk.start.Goals as goal

pub returns-clause-reached : goal.returns-clause-reached
returns-clause-reached g c = λ rows skips.
    let p = g.row.P in
    let width = c.args.width in
    let skipped = IsMarkedIn c.args.skip.items in
    let pivots = c.in_ok-none.field-0 in
    record {
      skips = skips;
      reached = subst (λ (cs : List (Class p)). Reached p width rows skipped (length rows) cs c.new-2.result.items pivots) (sym c.new.ensures.items)
          (subst (λ (is : List (Stored p)). Reached p width rows skipped (length rows) [] is pivots) (sym c.new-2.ensures.items)
          (reached_start p width (served_field p c.requires) rows skipped pivots c.in_ok-none.ensures));
    }
