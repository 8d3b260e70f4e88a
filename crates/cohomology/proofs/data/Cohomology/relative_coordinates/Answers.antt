use Rattle.std.proofs.Common.{List, sym, subst}
use Rattle.fp_field.proofs.ServedLemmas.{served_field}
use Rattle.cohomology.{specs.Names.{DegreeClasses, AreClassesOfPair, classes_in, AreRelativeValues}, proofs.CoordinateLemmas.relative_made}
use Rattle.cohomology.proofs.data.Cohomology.relative_coordinates.Goals as goal

pub returns : goal.returns
returns g c = λ full sub whole closed.
    relative_made g.row.P (served_field g.row.P c.requires) c.args.self.now c.args.cocycle.now c.in_ok-values.field-0.items (record { degree = c.saturating_sub.result; row = c.in_ok-primitives.field-0 }) c.coboundaries_in.result.now
    c.coboundaries_in.ensures.value c.saturating_sub.ensures c.in_ok-primitives.ensures.row c.in_ok-primitives.ensures.sum full sub whole
    (subst (λ (ds : List (DegreeClasses g.row.P)). AreRelativeValues g.row.P full sub (classes_in ds c.args.cocycle.now.degree) c.args.cocycle.now c.in_ok-values.field-0.items) c.light.ensures
    (c.in_ok-values.ensures full sub (subst (λ (ds : List (DegreeClasses g.row.P)). AreClassesOfPair g.row.P full sub ds) (sym c.light.ensures) whole.classes)))
    closed
