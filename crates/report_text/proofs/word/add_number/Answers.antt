use Rattle.std.proofs.Common.{◌∙◌, ◌++◌, ◌<◌, ℕ, List, ap, rules, sym}
use Rattle.std.proofs.lemmas.Fmt.{decimal_digit}
use Rattle.std.proofs.lemmas.Result.{on_ok_weaker}
use Rattle.report_text.proofs.word.add_number.Goals as goal

pub returns-then-n-lt10 : goal.returns-then-n-lt10
returns-then-n-lt10 c =
    let small : c.args.n < 10 = search rules in
    on_ok_weaker c.push.result (λ e. e ∙ ap (λ (digits : List ℕ). c.args.text.now ++ digits) (sym (decimal_digit c.args.n small))) c.push.ensures.ok
