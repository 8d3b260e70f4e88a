use Rattle.std.proofs.Common.{◌∙◌, ◌<◌, ◌≤◌, ◌^◌, List, ℕ, [], length, lit<, sym, subst}
use Rattle.simplicial_law.specs.ListedSimplices.{simplices, with_facet}
use Rattle.cohomology.proofs.{Below.{IfOk-weaker, Each, IsAscending, IsIndexOf}, WalkLemmas.no_levels}
use Rattle.cohomology.proofs.walk.nothing.Goals as goal

none_few : length (simplices []) < 2 ^ 32
unfolding simplices with_facet
none_few = lit< tt

pub of-requires-2-clause-ascending : goal.of-requires-2-clause-ascending
of-requires-2-clause-ascending c = subst (λ (fs : List (List ℕ)). Each IsAscending fs) (sym (c.in_ok-none.ensures ∙ c.new.ensures.items)) tt

pub of-requires-2-clause-short : goal.of-requires-2-clause-short
of-requires-2-clause-short c = subst (λ (fs : List (List ℕ)). Each (λ f. length f ≤ 16) fs) (sym (c.in_ok-none.ensures ∙ c.new.ensures.items)) tt

pub of-requires-2-clause-few : goal.of-requires-2-clause-few
of-requires-2-clause-few c = subst (λ (fs : List (List ℕ)). length (simplices fs) < 2 ^ 32) (sym (c.in_ok-none.ensures ∙ c.new.ensures.items)) none_few

pub returns : goal.returns
returns c = IfOk-weaker c.of-2.result _ _ (λ ls is. no_levels ls (subst (λ (fs : List (List ℕ)). IsIndexOf fs ls) (c.in_ok-none.ensures ∙ c.new.ensures.items) is)) c.of-2.ensures
