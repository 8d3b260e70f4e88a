use Rattle.std.proofs.Common.{ℕ, rules, arith, sym, ◌∙◌}
use Rattle.sparse_rows.proofs.{Below.{always_returns_same, mod-eq_of_lt, served_large}, SearchLemmas.{at_found, at_none}}
use Rattle.sparse_rows.proofs.row.Row.at.Goals as goal

pub returns-in-Ok : goal.returns-in-Ok
returns-in-Ok g c =
    at_found g.row.P c.args.position c.in-Ok.place c.args.self.now c.self.inside.pairs.items c.as_slice-pairs.result.now c.as_slice-pairs.ensures.value c.self.view_is c.self.invariant
    c.index-pairs-place.result c.in-Ok.ensures.bound (c.in-Ok.ensures.position (λ (e : ℕ × ℕ). e.0) (always_returns_same _ _ _ (λ a r q k. (search rules, search rules))))

pub returns-in-Err : goal.returns-in-Err
returns-in-Err g c =
    c.new.ensures ∙ mod-eq_of_lt (omega (arith, served_large g.row.P c.requires)) ∙ sym (at_none g.row.P c.args.position c.in-Err.field-0 c.args.self.now c.self.inside.pairs.items c.as_slice-pairs.result.now c.as_slice-pairs.ensures.value c.self.view_is c.self.invariant
    (c.in-Err.ensures.position (λ (e : ℕ × ℕ). e.0) (always_returns_same _ _ _ (λ a r q k. (search rules, search rules)))))
