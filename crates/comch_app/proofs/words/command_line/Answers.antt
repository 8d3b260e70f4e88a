use Rattle.std.proofs.{Common.{◌≡◌, ◌∙◌, ap, ap₂, true}, lemmas.Result.IfOk-weaker}
use Rattle.clap.specs.{Words.{app_of, with_rule}, Simple.{app_of_fields, on_top}}
use Rattle.comch_app.specs.{Names.bare, CommandLine.line}
use Rattle.comch_app.proofs.words.command_line.Goals as goal

pub returns : goal.returns
unfolding line
returns c =
    let bare_is : app_of c.no_binary_name.result ≡ bare = ap app_of_fields c.no_binary_name.ensures ∙ ap (on_top (λ s. record s { no_binary_name = true })) c.new.ensures.app in
    IfOk-weaker c.arg-3.result _ _ (λ r h. h.shape c.terms_arg.ensures.is_local
    ∙ ap₂ with_rule (c.in_ok-arg-2.ensures.shape c.numbers_arg.ensures.is_local
    ∙ ap₂ with_rule (c.in_ok-arg.ensures.shape c.command_arg.ensures.is_local ∙ ap₂ with_rule bare_is c.command_arg.ensures.rule_is)
    c.numbers_arg.ensures.rule_is) c.terms_arg.ensures.rule_is) c.arg-3.ensures
