use Rattle.std.proofs.Common.{◌∙◌, ◌%◌, ℕ, List, ap, ap₂, refl}
use Rattle.linear_law.specs.Names.{negated, plus_scaled}
use Rattle.class_matrices.proofs.ClassCoordinates.{difference-has}
use Rattle.class_matrices.proofs.coordinates.difference.Goals as goal

pub returns-clause-difference : goal.returns-clause-difference
returns-clause-difference g c = λ facets levels classes z w hz hw.
    let p : ℕ = g.row.P in
    difference-has p c.requires.prime facets levels classes z w c.args.first.now c.args.second.now (record { degree = c.args.first.now.degree; values = c.in_ok-plus_scaled.field-0 }) c.requires.same refl
    c.neg-by.result (c.neg-by.ensures ∙ ap (λ (v : ℕ). negated p v % p) c.new.ensures) (c.in_ok-plus_scaled.ensures ∙ ap₂ (λ (xs ys : List ℕ). plus_scaled p c.neg-by.result xs ys) c.deref.ensures.value c.deref-2.ensures.value) hz hw
