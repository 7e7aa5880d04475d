use Rattle.std.proofs.Common.{ap₂, ◌∙◌}
use Rattle.std.proofs.lemmas.Result.{IfOk-weaker}
use Rattle.clap.specs.Words.{with_rule}
use Rattle.command_words.proofs.command.command.Goals as goal

pub returns : goal.returns
returns c =
    let one = c.in_ok-command-2.ensures.value
    ∙ ap₂ with_rule c.in_ok-command.ensures.value c.positional_arg.ensures.rule in
    let two = c.in_ok-command-3.ensures.value ∙ ap₂ with_rule one c.positional_arg-2.ensures.rule in
    let three = c.in_ok-command-4.ensures.value ∙ ap₂ with_rule two c.positional_arg-3.ensures.rule in
    record {
      value = IfOk-weaker c.with_arg-4.result _ _
          (λ m h. h ∙ ap₂ with_rule three c.positional_arg-4.ensures.rule) c.with_arg-4.ensures.value;
    }
