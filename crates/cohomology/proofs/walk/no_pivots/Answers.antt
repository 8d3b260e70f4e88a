use Rattle.std.proofs.{Common.{rules, ◌≡◌, ◌∙◌, ap, List, Option, None, ℕ, length, ◌<◌, ◌^◌}, lemmas.Result.IfOk-weaker}
use Rattle.linear_law.specs.Names.{copies}
use Rattle.cohomology.proofs.{Below.level, WalkLemmas.no_table}
use Rattle.cohomology.proofs.walk.no_pivots.Goals as goal

pub returns : goal.returns
returns c =
    let few : length (level c.args.index.now 0) < 2 ^ 32 = search rules in
    let none : (t : List (Option ℕ)) → t ≡ copies c.count.result None → t ≡ copies (length (level c.args.index.now 0)) None = λ t e. e ∙ ap (λ n. copies {X = Option ℕ} n None) c.count.ensures in
    record {
      none = IfOk-weaker c.none.result _ _ none c.none.ensures;
      table = IfOk-weaker c.none.result _ _ (λ t e p sub. no_table p c.args.index.now sub t few (none t e)) c.none.ensures;
    }
