use Rattle.std.{proofs.Common.{◌≡◌, List, ℕ, Vec, Global, [], ◌∷◌, ◌++◌, ◌∙◌, ap, refl, sym, length, replicate, subst}, proofs.lemmas.List.with_items_is, specs.Vec.with_items}
use Rattle.interval_cut_law.specs.Names.{IsCutFrom}
use Rattle.interval_cut.{specs.Names.lists_after, proofs.ListLemmas.length-next, proofs.WalkLemmas.{walk-first, walk-next, walk-last, cut-first, cut-next}}
use Rattle.interval_cut.proofs.stage.step.Goals as goal

moved : (top : ℕ) (v : Vec ℕ Global) (p q : List ℕ) → p ≡ v.items → length p ≡ v.len → lists_after top p ≡ q ∷ lists_after top q → lists_after top v.items ≡ (with_items v q).items ∷ lists_after top (with_items v q).items
moved top v p q value len next =
    ap (lists_after top) (sym value) ∙ next ∙ ap (λ (r : List ℕ). r ∷ lists_after top r) (sym (with_items_is v q (length-next top p q next ∙ len)))

pub returns-in-Before-clause-walk : goal.returns-in-Before-clause-walk
returns-in-Before-clause-walk c u l =
    walk-first u c.args.inner.now.items _ c.args.top c.args.stage _ refl c.in-Before.is l
    (with_items_is c.args.inner.now c.fill.new.self (c.fill.ensures.len ∙ c.as_mut_slice.ensures.len) ∙ c.fill.ensures.after (λ y e. e) ∙ ap (λ r. replicate (length r) 0) c.as_mut_slice.ensures.value)

pub returns-in-Before-clause-cut : goal.returns-in-Before-clause-cut
returns-in-Before-clause-cut c u h =
    subst (λ (r : List ℕ). IsCutFrom u 0 (r ++ (c.args.top ∷ [])))
    (sym (with_items_is c.args.inner.now c.fill.new.self (c.fill.ensures.len ∙ c.as_mut_slice.ensures.len) ∙ c.fill.ensures.after (λ y e. e) ∙ ap (λ r. replicate (length r) 0) c.as_mut_slice.ensures.value))
    (cut-first u 0 c.args.top c.args.inner.now.items h)

pub returns-then-next_list-clause-walk : goal.returns-then-next_list-clause-walk
returns-then-next_list-clause-walk c u l =
    walk-next u c.args.inner.now.items (with_items c.args.inner.now c.next_list.new.list).items c.args.top c.args.stage _ refl c.in-At.is
    (moved c.args.top c.args.inner.now c.as_mut_slice-in-At.result.now c.next_list.new.list c.as_mut_slice-in-At.ensures.value c.as_mut_slice-in-At.ensures.len c.if-next_list.ensures)

pub returns-then-next_list-clause-cut : goal.returns-then-next_list-clause-cut
returns-then-next_list-clause-cut c u h =
    cut-next u 0 c.args.top c.args.inner.now.items (with_items c.args.inner.now c.next_list.new.list).items h
    (moved c.args.top c.args.inner.now c.as_mut_slice-in-At.result.now c.next_list.new.list c.as_mut_slice-in-At.ensures.value c.as_mut_slice-in-At.ensures.len c.if-next_list.ensures)

pub returns-else-next_list-clause-walk : goal.returns-else-next_list-clause-walk
returns-else-next_list-clause-walk c u l =
    walk-last u c.args.inner.now.items (with_items c.args.inner.now c.next_list.new.list).items c.args.top c.args.stage _ refl c.in-At.is
    (ap (lists_after c.args.top) (sym c.as_mut_slice-in-At.ensures.value) ∙ c.if-next_list.ensures.0)
