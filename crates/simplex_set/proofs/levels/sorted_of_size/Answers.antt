use Rattle.std.{proofs.Common.{◌≡◌, ◌∙◌, Bor, ap, length, map, sym, subst, List, ℕ, ◌==◌}, specs.List.filter, proofs.lemmas.List.Sorted.IsPermutation-map}
use Rattle.linear_law.specs.Names.{Each}
use Rattle.simplicial_law.specs.Names.{simplex_cmp}
use Rattle.simplex_set.{specs.InOrder.in_order, proofs.Ordered.{made_same, part_sized, sorted_map, sorted_part}}
use Rattle.simplex_set.proofs.levels.sorted_of_size.Goals as goal

abbrev now : Bor (List ℕ) → List ℕ
now s = s.now

pub of-requires : goal.of-requires
of-requires c =
    subst (λ (ss : List (Bor (List ℕ))). Each (λ (s : List ℕ). length s ≡ c.args.size) (map now ss)) (sym c.deref.ensures.value)
    (part_sized c.args.size c.args.set.now.keys (map now c.in_ok-found.found.items) (map now c.sort_unstable.new.self.items)
    (c.in_ok-found.ensures ∙ ap (filter (λ (s : List ℕ). length s == c.args.size)) c.as_slice.ensures.keys)
    (IsPermutation-map now c.in_ok-found.found.items c.sort_unstable.new.self.items c.sort_unstable.ensures.permutation))

pub returns : goal.returns
returns c =
    made_same c.of.result (map now c.deref.result.now) (filter (λ (s : List ℕ). length s == c.args.size) (in_order c.args.set.now.keys))
    (ap (map now) c.deref.ensures.value
    ∙ sorted_part (λ (s : List ℕ). length s == c.args.size) c.args.set.now.keys (map now c.in_ok-found.found.items) (map now c.sort_unstable.new.self.items) c.as_slice.ensures.unique
    (c.in_ok-found.ensures ∙ ap (filter (λ (s : List ℕ). length s == c.args.size)) c.as_slice.ensures.keys)
    (IsPermutation-map now c.in_ok-found.found.items c.sort_unstable.new.self.items c.sort_unstable.ensures.permutation)
    (sorted_map now simplex_cmp c.sort_unstable.new.self.items c.sort_unstable.ensures.sorted))
    c.of.ensures
