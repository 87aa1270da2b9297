use Rattle.std.proofs.Common.{◌≡◌, ◌∙◌, ap, ap₂, true, codes}
use Rattle.std.proofs.lemmas.Result.{IfOk-weaker}
use Rattle.clap.specs.Walk.{Rule, rule_of}
use Rattle.clap.specs.declared.builder.arg.Arg.{Arg}
use Rattle.clap.specs.Simple.{Shape, app_of, app_of_fields, new_app, on_top, with_rule}
use Rattle.command_words.proofs.parser.command_line.Goals as goal

pub returns : goal.returns
returns c =
    let bare : app_of c.no_binary_name.result ≡ on_top (λ s. record s { no_binary_name = true }) (new_app (codes "hamon")) =
    ap app_of_fields c.no_binary_name.ensures ∙ ap (on_top (λ s. record s { no_binary_name = true })) c.new.ensures.app in
    let helpless = ap app_of_fields c.disable_help_flag.ensures ∙ ap (on_top (λ (s : Shape). record s { disable_help_flag = true })) bare in
    let plain = ap app_of_fields c.disable_version_flag.ensures ∙ ap (on_top (λ (s : Shape). record s { disable_version_flag = true })) helpless in
    let command_is = ap rule_of c.required.ensures ∙ ap (λ (r : Rule). record r { required = true }) c.new-2.ensures.rule in
    let one = c.in_ok-arg.ensures.shape (ap (λ (r : Arg). r.global) c.required.ensures ∙ c.new-2.ensures.optional.1) ∙ ap₂ with_rule plain command_is in
    let two = c.in_ok-arg-2.ensures.shape c.new-3.ensures.optional.1 ∙ ap₂ with_rule one c.new-3.ensures.rule in
    let three = c.in_ok-arg-3.ensures.shape c.new-4.ensures.optional.1 ∙ ap₂ with_rule two c.new-4.ensures.rule in
    let four = c.in_ok-arg-4.ensures.shape c.option.ensures.local ∙ ap₂ with_rule three c.option.ensures.rule in
    let five = c.in_ok-arg-5.ensures.shape c.option-2.ensures.local ∙ ap₂ with_rule four c.option-2.ensures.rule in
    let six = c.in_ok-arg-6.ensures.shape c.option-3.ensures.local ∙ ap₂ with_rule five c.option-3.ensures.rule in
    let seven = c.in_ok-arg-7.ensures.shape c.option-4.ensures.local ∙ ap₂ with_rule six c.option-4.ensures.rule in
    IfOk-weaker c.arg-8.result _ _ (λ r h. h.shape c.option-5.ensures.local ∙ ap₂ with_rule seven c.option-5.ensures.rule) c.arg-8.ensures
