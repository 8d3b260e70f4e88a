use Rattle.std.proofs.Common.{◌<◌, arith, subst, sym, ℕ, List}
use Rattle.linear_law.specs.Names.{Each}
use Rattle.complex_index.proofs.LevelLemmas.{places_below, places_length}
use Rattle.complex_index.proofs.levels.level_over.Goals as goal

pub cofaces_of-requires-clause-few : goal.cofaces_of-requires-clause-few
cofaces_of-requires-clause-few c = omega (arith, c.requires.few, places_length c.args.lower.now c.args.simplices.now c.in_ok-faces.faces c.in_ok-faces.ensures)

pub cofaces_of-requires-clause-below : goal.cofaces_of-requires-clause-below
cofaces_of-requires-clause-below c =
    subst (λ (n : ℕ). Each (λ (ps : List ℕ). Each (λ (x : ℕ). x < n) ps) c.in_ok-faces.faces) (sym c.len.ensures) (places_below c.args.lower.now c.args.simplices.now c.in_ok-faces.faces c.in_ok-faces.ensures)
