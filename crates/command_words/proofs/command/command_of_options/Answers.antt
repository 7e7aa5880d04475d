use Rattle.std.proofs.Common.{ap₂, ◌∙◌, ◌≡◌, codes}
use Rattle.std.proofs.lemmas.Result.{IfOk-weaker}
use Rattle.clap.specs.Words.{app_of, with_rule}
use Rattle.command_words.specs.Application.{bare_app, option}
use Rattle.command_words.proofs.command.command_of_options.Goals as goal

pub returns : goal.returns
returns c =
    let one : app_of c.in_ok-command.command ≡ with_rule bare_app (option (codes "workers")) =
    c.in_ok-command.ensures.value ∙ ap₂ with_rule c.bare_command.ensures.value c.option_arg.ensures.rule in
    let two = c.in_ok-command-2.ensures.value ∙ ap₂ with_rule one c.option_arg-2.ensures.rule in
    record {
      value = IfOk-weaker c.with_arg-3.result _ _
          (λ m h. h ∙ ap₂ with_rule two c.option_arg-3.ensures.rule) c.with_arg-3.ensures.value;
    }
