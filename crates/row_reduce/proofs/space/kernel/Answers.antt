use Rattle.std.proofs.Common.{List, ℕ, arith, length, reverse, ◌<◌, ◌^◌, lit<, sym, ap, ◌∙◌, subst}
use Rattle.row_reduce.{proofs.Below.{length-reverse, reverse-reverse, served_field}, specs.Names.{IsEliminated, AreOwnFrom}, proofs.KernelLemmas.{kernel_echelon, kernel_space}}
use Rattle.row_reduce.proofs.space.kernel.Goals as goal

pub own_rows-requires : goal.own_rows-requires
own_rows-requires g c =
    let relations = c.in_ok-given.field-0.relations.items in
    let e = length-reverse relations in
    let few : length (reverse relations) < 2 ^ 32 = let b = c.in_ok-given.ensures.few in omega (arith, b, e, c.requires.few) in
    (lit< tt, (lit< tt, (c.requires.prime, subst (λ (rs : List (List (ℕ × ℕ))). length rs < 2 ^ 32) (sym (c.as_slice.ensures.value ∙ c.reverse.ensures.items)) few)))

pub invariant_of-result : goal.invariant_of-result
invariant_of-result g c =
    let p = g.row.P in
    let found = c.in_ok-given.field-0 in
    let given = c.reverse.new.self.items in
    let eliminated : IsEliminated p c.args.rows.now 0 found.echelon.items (reverse given) =
    subst (IsEliminated p c.args.rows.now 0 found.echelon.items) (sym (ap reverse c.reverse.ensures.items ∙ reverse-reverse found.relations.items)) c.in_ok-given.ensures in
    let own = subst (λ (rs : List (List (ℕ × ℕ))). AreOwnFrom p 0 rs c.in_ok-echelon.echelon.items) c.as_slice.ensures.value c.in_ok-echelon.ensures in
    kernel_echelon p (served_field p c.requires.prime) c.args.rows.now found.echelon.items given eliminated c.in_ok-echelon.echelon.items own

pub returns : goal.returns
returns g c =
    let p = g.row.P in
    let found = c.in_ok-given.field-0 in
    let given = c.reverse.new.self.items in
    let eliminated : IsEliminated p c.args.rows.now 0 found.echelon.items (reverse given) =
    subst (IsEliminated p c.args.rows.now 0 found.echelon.items) (sym (ap reverse c.reverse.ensures.items ∙ reverse-reverse found.relations.items)) c.in_ok-given.ensures in
    let own = subst (λ (rs : List (List (ℕ × ℕ))). AreOwnFrom p 0 rs c.in_ok-echelon.echelon.items) c.as_slice.ensures.value c.in_ok-echelon.ensures in
    kernel_space p (served_field p c.requires.prime) c.args.rows.now found.echelon.items given eliminated c.in_ok-echelon.echelon.items own
