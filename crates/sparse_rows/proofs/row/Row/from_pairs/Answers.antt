use Rattle.std.proofs.Common.{◌≡◌, ◌%◌, ℕ, List, rules, lit<, sym, ◌∙◌, subst, ap, arith}
use Rattle.sparse_rows.{proofs.Below.{mod-eq_of_lt, IsNonDecreasingBy-from_sort_by_key, IsNonDecreasingBy, served_large}, specs.Rows.value_in, proofs.RowLemmas.{value_in-small, below_of_sum}, proofs.SortLemmas.value_in-sorted}
use Rattle.sparse_rows.proofs.row.Row.from_pairs.Goals as goal

pub returns-then-is_row-clause-sum : goal.returns-then-is_row-clause-sum
returns-then-is_row-clause-sum g c k =
    let t : c.in_ok-to_vec.field-0.items ≡ c.args.pairs.now = c.in_ok-to_vec.ensures.items_if_clones_equal (λ x y e i. (e.0 i, e.1 i)) in
    ap (λ r. value_in r k) t ∙ sym (mod-eq_of_lt (value_in-small g.row.P c.args.pairs.now k (omega (arith, served_large g.row.P c.requires)) (c.is_row.ensures c.if-is_row.true)))

pub summed-requires : goal.summed-requires
summed-requires g c =
    let sorted : IsNonDecreasingBy (λ (e : ℕ × ℕ). e.0) c.sort_by_key.new.self.items =
    IsNonDecreasingBy-from_sort_by_key (λ (e : ℕ × ℕ). e.0) _ c.in_ok-sort_by_key.ensures.sorted (λ a r q k. search rules) in
    (lit< tt, (c.requires, subst (IsNonDecreasingBy (λ (e : ℕ × ℕ). e.0)) (sym c.as_slice.ensures.value) sorted))

pub returns-clause-sum : goal.returns-clause-sum
returns-clause-sum g c k =
    let t : c.in_ok-sorted.sorted.items ≡ c.args.pairs.now = c.in_ok-sorted.ensures.items_if_clones_equal (λ x y e i. (e.0 i, e.1 i)) in
    c.in_ok-pairs.ensures.sum k
    ∙ ap (λ n. n % g.row.P) (ap (λ (r : List (ℕ × ℕ)). value_in r k) c.as_slice.ensures.value ∙ value_in-sorted c.in_ok-sorted.sorted.items c.sort_by_key.new.self.items k c.in_ok-sort_by_key.ensures.permutation ∙ ap (λ (r : List (ℕ × ℕ)). value_in r k) t)

pub returns-clause-below : goal.returns-clause-below
returns-clause-below g c = below_of_sum g.row.P c.args.pairs.now c.in_ok-pairs.pairs.items c.in_ok-pairs.ensures.row (returns-clause-sum g c)
