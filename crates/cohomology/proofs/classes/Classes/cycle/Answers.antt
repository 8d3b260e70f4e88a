use Rattle.std.proofs.Common.{◌≡◌, ◌%◌, ◌-◌, List, ℕ, refl, arith, subst}
use Rattle.cohomology.proofs.{Below.{served_field, IsBelow, value_in}, CycleLemmas.cycle_made}
use Rattle.cohomology.proofs.classes.Classes.cycle.Goals as goal

pub returns : goal.returns
returns g c =
    let row = c.in_ok-row.row in
    let e = c.deref.ensures.value in
    cycle_made g.row.P (served_field g.row.P c.requires.prime) c.args.self.now c.args.n (c.args.i - 1) c.table_in.result.now c.in_ok-pairs.pairs.items (record { degree = c.args.n; row = row })
    (omega (arith, c.requires.from_one, c.requires.inside)) c.table_in.ensures.value refl c.in_ok-row.ensures.row c.in_ok-pairs.ensures
    (subst (λ (ps : List (ℕ × ℕ)). (x : ℕ) → value_in row x ≡ value_in ps x % g.row.P) e c.in_ok-row.ensures.sum)
    (subst (λ (ps : List (ℕ × ℕ)). (bound : ℕ) → IsBelow bound ps → IsBelow bound row) e c.in_ok-row.ensures.below)
