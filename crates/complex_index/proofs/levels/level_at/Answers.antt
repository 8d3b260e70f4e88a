use Rattle.std.proofs.Common.{◌≡◌, ◌∙◌, ◌+◌, ◌-◌, [], arith, length, subst, sym, ℕ, List}
use Rattle.linear_law.specs.Names.{Each}
use Rattle.simplicial_law.proofs.Names.{get_or_any}
use Rattle.complex_index.proofs.LevelLemmas.{present_at}
use Rattle.complex_index.proofs.levels.level_at.Goals as goal

pub level_over-requires-clause-sized : goal.level_over-requires-clause-sized
level_over-requires-clause-sized c =
    subst (Each (λ (s : List ℕ). length s ≡ c.args.n + 1)) (sym (c.index-all-n-2.is ∙ get_or_any c.args.all.now c.args.n c.index-all-n-2.result [] c.requires.inside)) (c.requires.levels.sizes c.args.n)

pub level_over-requires-clause-present : goal.level_over-requires-clause-present
level_over-requires-clause-present c =
    present_at c.args.all.now c.args.n c.index-all-n.result c.index-all-n-2.result c.requires.levels (omega (arith, c.if-n-eq0.false))
    (c.index-all-n.is ∙ get_or_any c.args.all.now (c.args.n - 1) c.index-all-n.result [] (omega (arith, c.requires.inside)))
    (c.index-all-n-2.is ∙ get_or_any c.args.all.now c.args.n c.index-all-n-2.result [] c.requires.inside)
