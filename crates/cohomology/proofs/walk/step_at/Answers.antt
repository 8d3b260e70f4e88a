use Rattle.std.proofs.Common.{rules, List, ℕ, subst, sym, lit<}
use Rattle.cohomology.proofs.{Below.{served_field, AreRows, SkipsFit, IsSolvedStored}, CoboundaryLemmas.solved_tells, WalkLemmas.{walked_rows, solved_degree, solved_next}}
use Rattle.cohomology.proofs.walk.step_at.Goals as goal

pub kernel_and_stored-requires : goal.kernel_and_stored-requires
kernel_and_stored-requires g c =
    let p = g.row.P in
    let width = c.count-width.result in
    let rows : List (List (ℕ × ℕ)) = c.in_ok-rows.rows.items in
    let skip = c.in_ok-rows.skip.items in
    let given = walked_rows p (served_field p c.requires.prime) c.args.full.now c.args.sub.now c.requires.pair c.args.degree c.args.pivots.now c.requires.pivots rows skip c.in_ok-rows.ensures width c.count-width.ensures (search rules) in
    (lit< tt, (lit< tt, (c.requires.prime, subst (λ (rs : List (List (ℕ × ℕ))). AreRows width rs × SkipsFit p width rs skip) (sym c.as_slice.ensures.value) given)))

pub returns : goal.returns
returns g c =
    let p = g.row.P in
    let field = served_field p c.requires.prime in
    let full = c.args.full.now in
    let sub = c.args.sub.now in
    let given = c.args.pivots.now in
    let table = c.requires.pivots in
    let width = c.count-width.result in
    let rows : List (List (ℕ × ℕ)) = c.in_ok-rows.rows.items in
    let skip = c.in_ok-rows.skip.items in
    let made = c.in_ok-kernel in
    let kernel = made.kernel.items in
    let stored = made.stored.items in
    let solved : IsSolvedStored p width rows skip kernel made.pivots stored = subst (λ (rs : List (List (ℕ × ℕ))). IsSolvedStored p width rs skip kernel made.pivots stored) c.as_slice.ensures.value made.ensures in
    record {
      classes = solved_degree p field full sub c.requires.pair c.args.degree given table rows skip c.in_ok-rows.ensures width c.count-width.ensures kernel made.pivots stored solved
          c.in_ok-classes.classes.items c.in_ok-classes.ensures.rows c.in_ok-classes.ensures.degrees;
      next = solved_next p field full sub c.requires.pair c.args.degree given table rows skip c.in_ok-rows.ensures width c.count-width.ensures kernel made.pivots stored solved (search rules);
      coboundaries = solved_tells p field full sub c.requires.pair c.args.degree given table rows skip c.in_ok-rows.ensures width c.count-width.ensures kernel made.pivots stored solved;
    }
