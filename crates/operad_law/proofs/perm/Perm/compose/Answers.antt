use Rattle.std.proofs.Common.{◌≡◌, ℕ, ◌≤◌, All, length, subst, sym, ap, ◌∙◌}
use Rattle.operad_law.{specs.Permutations.composed, proofs.PermLemmas.{IsPerm-composed, perm_values}}
use Rattle.operad_law.proofs.perm.Perm.compose.Goals as goal

pub values_at-requires : goal.values_at-requires
values_at-requires c =
    let same : length c.self.inside.values.items ≡ length c.other.inside.values.items = ap length c.self.view_is ∙ c.requires ∙ sym (ap length c.other.view_is) in
    rw (c.as_slice.ensures, c.as_slice-2.ensures, same) (perm_values c.other.inside.values.items c.other.invariant)

pub invariant_of-result : goal.invariant_of-result
invariant_of-result c =
    let same : length c.self.inside.values.items ≡ length c.other.inside.values.items = ap length c.self.view_is ∙ c.requires ∙ sym (ap length c.other.view_is) in
    let e : c.in_ok-values.values.items ≡ composed c.self.inside.values.items c.other.inside.values.items =
    c.in_ok-values.ensures ∙ (λ i. composed (c.as_slice.ensures i) (c.as_slice-2.ensures i)) in
    rw e (IsPerm-composed c.self.inside.values.items c.other.inside.values.items c.self.invariant c.other.invariant same)
