use Rattle.std.{proofs.Common.{◌≡◌, ℕ, ◌-◌, ◌^◌, ◌∙◌, ap, arith, length, min, replicate, take}, specs.List.filter}
use Rattle.interval_cut_law.specs.Names.{rising_lists}
use Rattle.interval_cut.{specs.Names.{is_live_list, LiveWalk, capped_count, Inside}, proofs.LiveWalkLemmas.{length-zeros, listed-count, zeros-list}}
use Rattle.interval_cut.proofs.live.LiveCuts.count.Goals as goal

pub count_lists-requires-clause-list : goal.count_lists-requires-clause-list
count_lists-requires-clause-list c =
    let inside = c.self-inside.invariant in
    let same = ap length c.as_slice-values.ensures.value in
    let some = inside.surjection.some in
    let few = inside.surjection.short in
    zeros-list c.as_slice-values.result.now _ (omega (arith, same, some)) (omega (arith, same, few)) inside.low

pub returns : goal.returns
returns c =
    let inside = c.self-inside.invariant in
    let v = c.as_slice-values.result.now in
    let same = ap length c.as_slice-values.ensures.value in
    let some = inside.surjection.some in
    let few = inside.surjection.short in
    let first : c.count_lists.result ≡ min (length (filter (is_live_list c.self-inside.inside.0.1.0.degree v c.self-inside.inside.0.0.top) (rising_lists 0 c.self-inside.inside.0.0.top (length {A = ℕ} (take (length v - 1) (replicate 255 0)))))) (10 ^ 15) =
    c.count_lists.ensures in
    first
    ∙ ap (λ (x : Inside). min (length (filter (is_live_list x.search.degree v c.self-inside.inside.0.0.top) (rising_lists 0 c.self-inside.inside.0.0.top (length {A = ℕ} (take (length v - 1) (replicate 255 0)))))) (10 ^ 15))
    c.self-inside.view_is
    ∙ ap (λ n. min n (10 ^ 15))
    (listed-count c.self.inside.search.degree c.self.inside.cuts.values v _ c.self.inside.cuts.top (take (length v - 1) (replicate 255 0))
    (c.as_slice-values.ensures.value ∙ ap (λ (x : Inside). x.cuts.values) c.self-inside.view_is) (ap (λ (x : Inside). x.cuts.top) c.self-inside.view_is)
    (length-zeros v (omega (arith, same, some)) (omega (arith, same, few))) c.self.invariant.top)
    ∙ ap (λ (w : LiveWalk). capped_count w.degree w.walk.values) c.self.view_is
