use Rattle.std.proofs.Common.{◌+◌, ◌<◌, ◌^◌, List, ℕ, lit<, sym, subst}
use Rattle.cohomology.{specs.Names.{AreRelativeIn, IsPairIndex, IsPivotTable}, proofs.LoopLemmas.absolute_in, proofs.WalkLemmas.complex_pair}
use Rattle.cohomology.proofs.walk.classes_at.Goals as goal

pub step_at-requires : goal.step_at-requires
step_at-requires g c = (
  lit< tt,
  (
    lit< tt,
    (
      c.requires.prime,
      subst (λ (s : List (List (List ℕ))). IsPairIndex c.args.index.now s × ((c.args.degree + 1 < 2 ^ 32) × IsPivotTable g.row.P c.args.index.now s c.args.degree c.args.pivots.now)) (sym c.in_ok-nothing.ensures)
          (complex_pair c.args.index.now c.requires.complex, (c.requires.inside, c.requires.pivots)),
    ),
  ),
)

pub returns-clause-classes : goal.returns-clause-classes
returns-clause-classes g c =
    absolute_in g.row.P c.args.index.now c.args.degree c.in_ok-classes.classes.items
    (subst (λ (s : List (List (List ℕ))). AreRelativeIn g.row.P c.args.index.now s c.args.degree c.in_ok-classes.classes.items) c.in_ok-nothing.ensures c.in_ok-classes.ensures.classes)
